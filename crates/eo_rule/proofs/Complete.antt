-- An instance of a rule is what the checks of its use give.
use Rattle.std.specs.Prelude.{◌≡◌, ℕ, suc, ◌+◌, Bool, true, false, not, ◌&&◌, ◌||◌, if◌then◌else◌, List, [], ◌∷◌, ◌++◌, map, drop, Option, Some, None, is_some, option_map, option_to_list, slice_get, Ok, refl}
use Rattle.std.specs.List.{list_all}
use Rattle.std.proofs.Common.{sym, ◌∙◌, ap, subst, arith}
use Rattle.std.proofs.lemmas.List.Folds.{list_any-append}
use mathlib.Core.Path.{fun_ext}
use Rattle.eo_base.specs.declared.FaultName.TheVariants.{IllTyped, PremiseMismatch, NotBool}
use Rattle.eo_base.specs.Checks.{require}
use Rattle.eo_base.proofs.Tests.{clash, join, or_first, or_second}
use Rattle.eo_term.specs.Tree.{Tree, Con, is_value, is_plain, occurs, occurs_in, occurs_openly, bool_tree}
use Rattle.eo_term.proofs.Equality.{tree_decides}
use Rattle.eo_term.proofs.Values.{plain_occurs}
use Rattle.eo_sig.specs.Signature.{Signature, Parameter, Rule, PremiseShape, Each, Joined, terminator, premise_patterns, rule_patterns, known, is_solved}
use Rattle.eo_pattern.specs.Matching.{Assignment, empty, put, matching}
use Rattle.eo_pattern.proofs.Match.{matches_matching}
use Rattle.eo_pattern.proofs.Put.{HoldsValues, put_openly, put_list_agree}
use Rattle.eo_lists.specs.Lists.{spell, list_by}
use Rattle.eo_lists.proofs.Spell.{spell_value}
use Rattle.eo_type.specs.Types.{Typed, settled}
use Rattle.eo_eval.proofs.OperatorValues.{value_type_value}
use Rattle.eo_eval.specs.Faults.{value_or_fault}
use Rattle.eo_rule.specs.Instance.{guarded_conclusion, restricted, PremisesFit, FitsType, IsInstance, Instance}
use Rattle.eo_rule.specs.Uses.{Use, typed_or, match_use, matched, check_kind, check_type, check_types, check_formula, is_stated, rule_conclusion, AgreesWith}
use Rattle.eo_rule.proofs.Chains.{use-last, matched-each, matched-joined, value-last, types-none, types-more, conclude-low, kind-stated, rule-rest}
use Rattle.eo_rule.proofs.HeldValues.{put_list_named, matching_values}
use Rattle.eo_rule.proofs.Openly.{settled_openly}
use Rattle.eo_rule.proofs.Sound.{Fit, Fits, restricted_same, IsUse}
use Rattle.eo_rule.proofs.Steps.{formula-tested, typed-from, typed-ok, joined-low, require-passes, stated-agrees, value-some}
use Rattle.std.proofs.Math.Bool.{or_assoc}

-- Restrictions of one assignment.

if_some : (σ : Assignment) (j : ℕ) (b : Bool) → is_some (if b then σ j else None) ≡ (b && is_some (σ j))
if_some σ j true = refl
if_some σ j false = refl

-- the match of patterns that the whole assignment makes equal to the trees names their parameters too
match_restricted : (σ : Assignment) (k : ℕ → Bool) (ps ts : List Tree) → map (put σ) ps ≡ ts → ((j : ℕ) → occurs_in j ps ≡ true → is_some (σ j) ≡ true) → matching (restricted k σ) ps ts ≡ Some (restricted (λ j. k j || occurs_in j ps) σ)
match_restricted σ k ps ts e named =
    matches_matching (restricted k σ) ps ts (restricted (λ j. k j || occurs_in j ps) σ) (record {
      extends = λ j t h. by_known j t (k j) refl h;
      names = λ j. if_some σ j (k j || occurs_in j ps) ∙ (by_bools (k j) (occurs_in j ps) (is_some (σ j)) (named j) ∙ ap (λ (b : Bool). b || occurs_in j ps) (sym (if_some σ j (k j))));
      equal = put_list_agree (restricted (λ j. k j || occurs_in j ps) σ) σ ps (λ j o. ap (λ (b : Bool). if b then σ j else None) (or_second (k j) (occurs_in j ps) o)) ∙ e;
    })
  where
    by_known : (j : ℕ) (t : Tree) (b : Bool) → k j ≡ b → (if b then σ j else None) ≡ Some t → (if (k j || occurs_in j ps) then σ j else None) ≡ Some t
    by_known j t true p h = ap (λ (b : Bool). if (b || occurs_in j ps) then σ j else None) p ∙ h
    by_known j t false p h = clash (ap is_some h)

    by_bools : (a o s : Bool) → (o ≡ true → s ≡ true) → ((a || o) && s) ≡ ((a && s) || o)
    by_bools true true s h = h refl ∙ sym (or_true s)
      where
        or_true : (x : Bool) → (x || true) ≡ true
        or_true true = refl
        or_true false = refl
    by_bools true false s h = or_none s
      where
        or_none : (x : Bool) → x ≡ (x || false)
        or_none true = refl
        or_none false = refl
    by_bools false true s h = h refl
    by_bools false false s h = refl

new_or_old : (a o : Bool) → (a || ((o && not a) || false)) ≡ (a || (true && o))
new_or_old true o = refl
new_or_old false true = refl
new_or_old false false = refl

or_nothing : (a : Bool) → a ≡ (a || false)
or_nothing true = refl
or_nothing false = refl

-- The types of parameters, by the whole assignment σ.
module _ (S : Signature) (patterns : List Tree) (σ : Assignment) where
  types_complete : (i : ℕ) (ps : List Parameter) → HoldsValues (restricted (λ j. occurs_in j patterns) σ) → ((j : ℕ) → known patterns i ps j ≡ true → is_some (σ j) ≡ true) → Fits S patterns σ i ps → (check_types S (restricted (λ j. occurs_in j patterns) σ) i ps ≡ Ok (restricted (known patterns i ps) σ)) × HoldsValues (restricted (known patterns i ps) σ)
  types_complete i [] vals named f = (types-none S (restricted (λ j. occurs_in j patterns) σ) i, vals)
  types_complete i (p ∷ ps) vals named f =
      let h = types_complete (suc i) ps vals inner f.1 in
      let s = step h.1 (known patterns (suc i) ps i) refl in
      (types-more S (restricted (λ j. occurs_in j patterns) σ) i p ps ρ h.0 ∙ s.0, s.1)
    where
      inner : (j : ℕ) → known patterns (suc i) ps j ≡ true → is_some (σ j) ≡ true
      inner j h = named j (or_first (known patterns (suc i) ps j) (known patterns (suc i) ps i && occurs_openly j p.type) h)

      ρ : Assignment
      ρ = restricted (known patterns (suc i) ps) σ

      named_in : (j : ℕ) → is_some (ρ j) ≡ known patterns (suc i) ps j
      named_in j = if_some σ j (known patterns (suc i) ps j) ∙ by_known (known patterns (suc i) ps j) (inner j)
        where
          by_known : (b : Bool) → (b ≡ true → is_some (σ j) ≡ true) → (b && is_some (σ j)) ≡ b
          by_known true g = g refl
          by_known false g = refl

      step : HoldsValues ρ → (b : Bool) → known patterns (suc i) ps i ≡ b → (check_type S ρ p.type (ρ i) ≡ Ok (restricted (known patterns i (p ∷ ps)) σ)) × HoldsValues (restricted (known patterns i (p ∷ ps)) σ)
      step v false q =
          let same : ρ ≡ restricted (known patterns i (p ∷ ps)) σ = ap (λ (k : ℕ → Bool). restricted k σ) (fun_ext (λ j. or_nothing (known patterns (suc i) ps j) ∙ ap (λ (b : Bool). known patterns (suc i) ps j || (b && occurs_openly j p.type)) (sym q))) in
          subst (λ (χ : Assignment). (check_type S ρ p.type (ρ i) ≡ Ok χ) × HoldsValues χ) same (ap (check_type S ρ p.type) (ap (λ (b : Bool). if b then σ i else None) q), v)
      step v true q = by_value (σ i) refl
        where
          by_value : (o : Option Tree) → σ i ≡ o → (check_type S ρ p.type (ρ i) ≡ Ok (restricted (known patterns i (p ∷ ps)) σ)) × HoldsValues (restricted (known patterns i (p ∷ ps)) σ)
          by_value None e = clash (sym (ap is_some e) ∙ inner i q)
          by_value (Some w) e = with_fit (f.0 w e)
            where
              with_fit : Fit S patterns σ (known patterns (suc i) ps) p.type w → (check_type S ρ p.type (ρ i) ≡ Ok (restricted (known patterns i (p ∷ ps)) σ)) × HoldsValues (restricted (known patterns i (p ∷ ps)) σ)
              with_fit t =
                  let type_is_value = value_type_value S w t.0 t.1 in
                  let m = match_restricted σ (known patterns (suc i) ps) (t.2.0 ∷ []) (t.0 ∷ []) (ap (λ (x : Tree). x ∷ []) t.2.3) (put_list_named σ (t.2.0 ∷ []) (t.0 ∷ []) (join type_is_value refl) (ap (λ (x : Tree). x ∷ []) t.2.3)) in
                  let same = ap (λ (k : ℕ → Bool). restricted k σ) (fun_ext (λ j. known_same t.2.0 t.2.1 t.2.2 j)) in
                  let whole : matching ρ (t.2.0 ∷ []) (t.0 ∷ []) ≡ Some (restricted (known patterns i (p ∷ ps)) σ) = m ∙ ap Some same in
                  (ap (check_type S ρ p.type) (ap (λ (b : Bool). if b then σ i else None) q ∙ e) ∙ (value-last S ρ p.type w t.0 t.2.0 (typed-from S w t.0 t.1) (ap typed_or t.2.1) ∙ value-some IllTyped _ _ whole), matching_values ρ (t.2.0 ∷ []) (t.0 ∷ []) (restricted (known patterns i (p ∷ ps)) σ) v (join type_is_value refl) whole)
                where
                  known_same : (u : Tree) → settled (put ρ p.type) ≡ Typed u → is_plain u ≡ true → (j : ℕ) → (known patterns (suc i) ps j || occurs_in j (u ∷ [])) ≡ known patterns i (p ∷ ps) j
                  known_same u s plain j =
                      ap (λ (b : Bool). known patterns (suc i) ps j || (b || false)) (plain_occurs j u plain ∙ (settled_openly j (put ρ p.type) u s plain ∙ (put_openly ρ v j p.type ∙ ap (λ (b : Bool). occurs_openly j p.type && not b) (named_in j)))) ∙ (new_or_old (known patterns (suc i) ps j) (occurs_openly j p.type) ∙ ap (λ (b : Bool). known patterns (suc i) ps j || (b && occurs_openly j p.type)) (sym q))

  -- the list form of what an instance says of each parameter
  fits_from : (i : ℕ) (ps : List Parameter) → ((k m : ℕ) → m ≡ i + k → (p : Parameter) (v : Tree) → slice_get ps k ≡ Some p → σ m ≡ Some v → Fit S patterns σ (known patterns (suc m) (drop (suc k) ps)) p.type v) → Fits S patterns σ i ps
  fits_from i [] h = tt
  fits_from i (p ∷ ps) h = (λ v e. h 0 i (omega arith) p v refl e, fits_from (suc i) ps (λ k m e. h (suc k) m (omega arith)))

-- Matching.

match_use_complete : (r : Rule) (hypothesis : Option Tree) (ts arguments : List Tree) (σ : Assignment) → list_all is_value (option_to_list hypothesis) ≡ true → list_all is_value ts ≡ true → list_all is_value arguments ≡ true → map (put σ) (option_to_list r.assumed) ≡ option_to_list hypothesis → map (put σ) (premise_patterns r.premises) ≡ ts → map (put σ) r.arguments ≡ arguments → (match_use r hypothesis ts arguments ≡ Ok (restricted (λ j. occurs_in j (rule_patterns r)) σ)) × HoldsValues (restricted (λ j. occurs_in j (rule_patterns r)) σ)
match_use_complete r hypothesis ts arguments σ ha hp hg ea ep eg =
    (use-last r hypothesis ts arguments (restricted k1 σ) (restricted k2 σ) (value-some PremiseMismatch _ _ m1) (value-some PremiseMismatch _ _ m2) ∙ (value-some PremiseMismatch _ _ m3 ∙ ap Ok same), subst HoldsValues same v3)
  where
    as' : List Tree
    as' = option_to_list r.assumed

    ps : List Tree
    ps = premise_patterns r.premises

    k1 : ℕ → Bool
    k1 j = occurs_in j as'

    k2 : ℕ → Bool
    k2 j = k1 j || occurs_in j ps

    m1 : matching empty as' (option_to_list hypothesis) ≡ Some (restricted k1 σ)
    m1 = match_restricted σ (λ j. false) as' (option_to_list hypothesis) ea (put_list_named σ as' (option_to_list hypothesis) ha ea)

    m2 : matching (restricted k1 σ) ps ts ≡ Some (restricted k2 σ)
    m2 = match_restricted σ k1 ps ts ep (put_list_named σ ps ts hp ep)

    m3 : matching (restricted k2 σ) r.arguments arguments ≡ Some (restricted (λ j. k2 j || occurs_in j r.arguments) σ)
    m3 = match_restricted σ k2 r.arguments arguments eg (put_list_named σ r.arguments arguments hg eg)

    v1 : HoldsValues (restricted k1 σ)
    v1 = matching_values empty as' (option_to_list hypothesis) (restricted k1 σ) (λ i t h. clash (ap is_some h)) ha m1

    v3 : HoldsValues (restricted (λ j. k2 j || occurs_in j r.arguments) σ)
    v3 = matching_values (restricted k2 σ) r.arguments arguments (restricted (λ j. k2 j || occurs_in j r.arguments) σ) (matching_values (restricted k1 σ) ps ts (restricted k2 σ) v1 hp m2) hg m3

    same : restricted (λ j. k2 j || occurs_in j r.arguments) σ ≡ restricted (λ j. occurs_in j (rule_patterns r)) σ
    same = ap (λ (k : ℕ → Bool). restricted k σ) (fun_ext (λ j. or_assoc (occurs_in j as') (occurs_in j ps) (occurs_in j r.arguments) ∙ sym (list_any-append (occurs j) as' (ps ++ r.arguments) ∙ ap (λ (b : Bool). occurs_in j as' || b) (list_any-append (occurs j) ps r.arguments))))

kind_complete : (wanted given : Option Tree) (σ : Assignment) → option_map (put σ) wanted ≡ given → check_kind wanted given ≡ Ok tt
unfolding require
kind_complete None None σ e = refl
kind_complete None (Some t) σ e = clash (ap is_some e)
kind_complete (Some p) None σ e = clash (sym (ap is_some e))
kind_complete (Some p) (Some t) σ e = refl

hypothesis_complete : (wanted given : Option Tree) (σ : Assignment) → option_map (put σ) wanted ≡ given → map (put σ) (option_to_list wanted) ≡ option_to_list given
hypothesis_complete None given σ e = ap option_to_list e
hypothesis_complete (Some p) given σ e = ap option_to_list e

-- the premises match where they fit, joined or not
matched_complete : (S : Signature) → ((f : ℕ) (n : Tree) → terminator S f ≡ Some n → is_value n ≡ true) → (r : Rule) (given : Use) (σ : Assignment) → list_all is_value (option_to_list given.assumed) ≡ true → list_all is_value given.premises ≡ true → list_all is_value given.arguments ≡ true → (shape : PremiseShape) → r.premises ≡ shape → PremisesFit S shape given.premises σ → map (put σ) (option_to_list r.assumed) ≡ option_to_list given.assumed → map (put σ) r.arguments ≡ given.arguments → (matched S r given ≡ Ok (restricted (λ j. occurs_in j (rule_patterns r)) σ)) × HoldsValues (restricted (λ j. occurs_in j (rule_patterns r)) σ)
matched_complete S terms r given σ ha hp hg (Each ps) e fit ea eg =
    let m = match_use_complete r given.assumed given.premises given.arguments σ ha hp hg ea ((λ k. map (put σ) (premise_patterns (e k))) ∙ fit) eg in
    (matched-each S r given ps e ∙ m.0, m.1)
matched_complete S terms r given σ ha hp hg (Joined p f) e fit ea eg =
    let t : Tree = spell (Con f) fit.0 given.premises in
    let is_list : list_by S f given.premises ≡ Some t = ap (option_map (λ n. spell (Con f) n given.premises)) fit.1 in
    let value = join (spell_value (Con f) fit.0 given.premises refl (terms f fit.0 fit.1) hp) refl in
    let m = match_use_complete r given.assumed (t ∷ []) given.arguments σ ha value hg ea ((λ k. map (put σ) (premise_patterns (e k))) ∙ ap (λ (x : Tree). x ∷ []) fit.3) eg in
    (matched-joined S r given p f t e (joined-low S f given.premises t is_list fit.2) ∙ m.0, m.1)

stated_complete : (s : Option Tree) (formula : Tree) → AgreesWith s formula → is_stated s formula ≡ true
stated_complete None formula a = refl
stated_complete (Some s) formula a = (tree_decides s formula).1 a

pub conclusion_complete : (S : Signature) (r : Rule) (given : Use) (formula : Tree) → IsUse S r given → Instance S r given.assumed given.premises given.arguments formula → AgreesWith given.stated formula → rule_conclusion S r given ≡ Ok formula
conclusion_complete S r given formula use' instance agrees =
    let σ = instance.0 in
    let x = instance.1 in
    with_instance σ x
  where
    with_instance : (σ : Assignment) → IsInstance S r given.assumed given.premises given.arguments formula σ → rule_conclusion S r given ≡ Ok formula
    with_instance σ x =
        let m = matched_complete S use'.terminators r given σ use'.hypothesis use'.premises use'.arguments r.premises refl x.premises_fit (hypothesis_complete r.assumed given.assumed σ x.assumes) x.arguments_fit in
        let t = types_complete S (rule_patterns r) σ 0 r.parameters m.1 (λ i h. x.solves i ∙ h) (fits_from S (rule_patterns r) σ 0 r.parameters (λ k n e p v g h. fit_at k n e p v g h)) in
        let types = t.0 ∙ ap Ok (restricted_same (is_solved r) σ σ x.solves (λ i u h. h)) in
        let value = conclude-low S (put σ (guarded_conclusion r)) x.not_tall ∙ ap value_or_fault x.concludes in
        let is_bool : check_formula S formula ≡ Ok tt = formula-tested S formula bool_tree true (typed-ok S formula bool_tree x.is_formula refl) refl ∙ require-passes true NotBool refl in
        rule-rest S r given (kind_complete r.assumed given.assumed σ x.assumes) ∙ (kind-stated S r given (restricted (λ j. occurs_in j (rule_patterns r)) σ) σ m.0 types formula value is_bool ∙ stated-agrees given.stated formula (stated_complete given.stated formula agrees))
      where
        fit_at : (k n : ℕ) → n ≡ 0 + k → (p : Parameter) (v : Tree) → slice_get r.parameters k ≡ Some p → σ n ≡ Some v → Fit S (rule_patterns r) σ (known (rule_patterns r) (suc n) (drop (suc k) r.parameters)) p.type v
        fit_at k n e p v g h =
            subst (λ (l : ℕ). σ l ≡ Some v → Fit S (rule_patterns r) σ (known (rule_patterns r) (suc l) (drop (suc k) r.parameters)) p.type v) (sym same) (λ q. as_fit (x.types_fit k p v g q)) h
          where
            same : n ≡ k
            same = omega arith

            as_fit : FitsType S r σ k p.type v → Fit S (rule_patterns r) σ (known (rule_patterns r) (suc k) (drop (suc k) r.parameters)) p.type v
            as_fit f = (f.type, f.has_type, (f.expected, f.settles, f.plain, f.equal))
