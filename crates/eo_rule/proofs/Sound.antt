-- Where the checks of a use of a rule give a formula, it is an instance of the rule.
use Rattle.std.specs.Prelude.{◌≡◌, ℕ, zero, suc, ◌+◌, ◌≤◌, ◌<◌, Bool, true, false, not, ◌&&◌, ◌||◌, nat_lt, if◌then◌else◌, List, [], ◌∷◌, ◌++◌, map, drop, Option, Some, None, is_some, option_map, option_to_list, slice_get, Ok, refl}
use Rattle.std.specs.List.{list_all}
use Rattle.std.proofs.Common.{sym, ◌∙◌, ap, ap₂, subst, arith}
use Rattle.std.proofs.lemmas.Bool.Decides.{Decides-ltb}
use Rattle.std.proofs.lemmas.List.Folds.{list_any-append}
use mathlib.Core.Path.{fun_ext}
use Rattle.eo_base.proofs.ChecksLemmas.{ok_injective}
use Rattle.eo_base.proofs.Tests.{clash, both, join, or_first}
use Rattle.eo_term.specs.Tree.{Tree, Con, is_tall, is_value, is_plain, occurs, occurs_in, occurs_openly, uses_only, bool_tree}
use Rattle.eo_term.proofs.Equality.{tree_same}
use Rattle.eo_term.proofs.Values.{value_plain, plain_occurs, unused_openly}
use Rattle.eo_sig.specs.Signature.{Signature, Parameter, Rule, PremiseShape, Each, Joined, terminator, premise_patterns, rule_patterns, known, are_ordered}
use Rattle.eo_pattern.specs.Matching.{Assignment, empty, put, Matches, matching}
use Rattle.eo_pattern.proofs.Match.{matching_matches}
use Rattle.eo_pattern.proofs.Put.{HoldsValues, Extends, put_plain, put_same, put_openly}
use Rattle.eo_lists.specs.Lists.{spell}
use Rattle.eo_lists.proofs.Spell.{spell_value}
use Rattle.eo_type.specs.Types.{Typed, settled, type_of, value_type}
use Rattle.eo_eval.proofs.OperatorValues.{value_type_value}
use Rattle.eo_stack.specs.Evaluation.{Value, eval0}
use Rattle.eo_rule.specs.Instance.{guarded_conclusion, restricted, PremisesFit, FitsType, Instance}
use Rattle.eo_rule.specs.Uses.{Use, join_premises, match_use, check_type, check_types, is_stated, check_formula, rule_conclusion, AgreesWith}
use Rattle.eo_rule.proofs.Openly.{settled_openly, value_type_is_type}
use Rattle.eo_rule.proofs.Parts.{value_parts, types_none, types_parts, use_parts, list_parts, joined_parts, conclude_parts, formula_parts, stated_parts, rule_parts}
use Rattle.eo_rule.proofs.HeldValues.{matching_values}
use Rattle.std.proofs.Math.Bool.{or_assoc, or-false}
use Rattle.std.proofs.lemmas.Option.{same_Some}

head_or : List Tree → Tree → Tree
head_or [] d = d
head_or (t ∷ ts) d = t

head_same : {a b : Tree} {as' bs : List Tree} → a ∷ as' ≡ b ∷ bs → a ≡ b
unfolding head_or
head_same {a} e = ap (λ (ts : List Tree). head_or ts a) e

-- Assignments that agree.

-- the assignment that a larger one restricts to
pub restricted_same : (known' : ℕ → Bool) (τ σ : Assignment) → ((j : ℕ) → is_some (τ j) ≡ known' j) → Extends τ σ → restricted known' σ ≡ τ
restricted_same known' τ σ names e = fun_ext (λ j. by_value j (τ j) refl)
  where
    by_value : (j : ℕ) (o : Option Tree) → τ j ≡ o → restricted known' σ j ≡ τ j
    by_value j None p = ap (λ (b : Bool). if b then σ j else None) (sym (names j) ∙ ap is_some p) ∙ sym p
    by_value j (Some t) p = ap (λ (b : Bool). if b then σ j else None) (sym (names j) ∙ ap is_some p) ∙ (e j t p ∙ sym p)

-- two assignments that agree where a parameter is known
restricted_alike : (known' : ℕ → Bool) (τ σ : Assignment) → ((j : ℕ) → known' j ≡ true → is_some (τ j) ≡ true) → Extends τ σ → restricted known' σ ≡ restricted known' τ
restricted_alike known' τ σ named e = fun_ext (λ j. by_known j (known' j) refl)
  where
    by_value : (j : ℕ) (o : Option Tree) → τ j ≡ o → is_some o ≡ true → σ j ≡ τ j
    by_value j None p h = clash h
    by_value j (Some t) p h = e j t p ∙ sym p

    by_known : (j : ℕ) (b : Bool) → known' j ≡ b → restricted known' σ j ≡ restricted known' τ j
    by_known j true p = ap (λ (b : Bool). if b then σ j else None) p ∙ (by_value j (τ j) refl (named j p) ∙ sym (ap (λ (b : Bool). if b then τ j else None) p))
    by_known j false p = ap (λ (b : Bool). if b then σ j else None) p ∙ sym (ap (λ (b : Bool). if b then τ j else None) p)

same_value : (τ σ : Assignment) → Extends τ σ → (j : ℕ) (v : Tree) → is_some (σ j) ≡ is_some (τ j) → σ j ≡ Some v → τ j ≡ Some v
same_value τ σ e j v n p = by_value (τ j) refl
  where
    by_value : (o : Option Tree) → τ j ≡ o → τ j ≡ Some v
    by_value None q = clash (sym (ap is_some q) ∙ (sym n ∙ ap is_some p))
    by_value (Some w) q = q ∙ ap Some (same_Some _ _ (sym (e j w q) ∙ p))

new_or_old : (a o : Bool) → (a || ((o && not a) || false)) ≡ (a || o)
new_or_old true o = refl
new_or_old false true = refl
new_or_old false false = refl

-- The types of parameters.
module _ (S : Signature) (patterns : List Tree) where
  -- what FitsType says, for any known parameters
  abbrev pub Fit : Assignment → (ℕ → Bool) → Tree → Tree → Type 0
  Fit σ known' declared value =
      (type : Tree) × (value_type S value ≡ Typed type) × ((expected : Tree) × (settled (put (restricted known' σ) declared) ≡ Typed expected) × (is_plain expected ≡ true) × (put σ expected ≡ type))

  abbrev pub Fits : Assignment → ℕ → List Parameter → Type 0
  Fits σ i [] = Unit {0}
  Fits σ i (p ∷ ps) = ((v : Tree) → σ i ≡ Some v → Fit σ (known patterns (suc i) ps) p.type v) × Fits σ (suc i) ps

  fit_alike : (τ σ : Assignment) (known' : ℕ → Bool) → ((j : ℕ) → known' j ≡ true → is_some (τ j) ≡ true) → Extends τ σ → (declared value : Tree) → Fit τ known' declared value → Fit σ known' declared value
  fit_alike τ σ known' named e declared value f =
      (f.0, f.1, (f.2.0, subst (λ (ρ : Assignment). settled (put ρ declared) ≡ Typed f.2.0) (sym (restricted_alike known' τ σ named e)) f.2.1, f.2.2, put_same τ σ e f.2.0 (subst (λ (t : Tree). is_value t ≡ true) (sym f.2.3) (value_type_value S value f.0 f.1)) ∙ f.2.3))

  fits_alike : (τ σ : Assignment) (i : ℕ) → Extends τ σ → ((j : ℕ) → i < j → is_some (σ j) ≡ is_some (τ j)) → (m : ℕ) → i < m → (ps : List Parameter) → ((j : ℕ) → known patterns m ps j ≡ true → is_some (τ j) ≡ true) → Fits τ m ps → Fits σ m ps
  fits_alike τ σ i e same m above [] named f = tt
  fits_alike τ σ i e same m above (p ∷ ps) named f =
      (λ v q. fit_alike τ σ (known patterns (suc m) ps) inner e p.type v (f.0 v (same_value τ σ e m v (same m above) q)), fits_alike τ σ i e same (suc m) (omega arith) ps inner f.1)
    where
      inner : (j : ℕ) → known patterns (suc m) ps j ≡ true → is_some (τ j) ≡ true
      inner j h = named j (or_first (known patterns (suc m) ps j) (known patterns (suc m) ps m && occurs_openly j p.type) h)

  -- a type that uses earlier parameters makes no later one known
  known_later : (i : ℕ) (p : Parameter) (ps : List Parameter) → uses_only (λ k. nat_lt k i) p.type ≡ true → (j : ℕ) → i ≤ j → known patterns i (p ∷ ps) j ≡ known patterns (suc i) ps j
  known_later i p ps h j le =
      ap (λ (b : Bool). known patterns (suc i) ps j || (known patterns (suc i) ps i && b)) (unused_openly (λ k. nat_lt k i) j (not_below (nat_lt j i) refl) p.type h) ∙ none (known patterns (suc i) ps j) (known patterns (suc i) ps i)
    where
      not_below : (b : Bool) → nat_lt j i ≡ b → b ≡ false
      not_below true q = absurd (apart ((Decides-ltb j i).0 q) le)
        where
          apart : j < i → i ≤ j → ⊥
          apart x y = omega arith
      not_below false q = refl

      none : (a b : Bool) → (a || (b && false)) ≡ a
      none true b = refl
      none false true = refl
      none false false = refl

  -- One parameter.
  record Step (τ σ : Assignment) (i : ℕ) (p : Parameter) (ps : List Parameter) : Type 0 where
    extends : Extends τ σ
    values : HoldsValues σ
    names : (j : ℕ) → is_some (σ j) ≡ known patterns i (p ∷ ps) j
    fit : (v : Tree) → τ i ≡ Some v → (type : Tree) × (value_type S v ≡ Typed type) × ((expected : Tree) × (settled (put τ p.type) ≡ Typed expected) × (is_plain expected ≡ true) × (put σ expected ≡ type))

  step : (τ σ : Assignment) (i : ℕ) (p : Parameter) (ps : List Parameter) → HoldsValues τ → ((j : ℕ) → is_some (τ j) ≡ known patterns (suc i) ps j) → check_type S τ p.type (τ i) ≡ Ok σ → Step τ σ i p ps
  step τ σ i p ps vals named e = by_value (τ i) refl e
    where
      by_value : (o : Option Tree) → τ i ≡ o → check_type S τ p.type o ≡ Ok σ → Step τ σ i p ps
      by_value None q c =
          let same : τ ≡ σ = ok_injective τ σ c in
          subst (λ (ρ : Assignment). Step τ ρ i p ps) same (record {
            extends = λ j t h. h;
            values = vals;
            names = λ j. named j ∙ (sym (or-false (known patterns (suc i) ps j)) ∙ ap (λ (b : Bool). known patterns (suc i) ps j || (b && occurs_openly j p.type)) (sym (ap is_some q) ∙ named i));
            fit = λ v h. clash (sym (ap is_some q) ∙ ap is_some h);
          })
      by_value (Some w) q c =
          let a = value_parts S τ p.type w σ c in
          with_types w q a.type a.expected a.has_type a.settles a.matches
        where
          with_types : (v : Tree) → τ i ≡ Some v → (t u : Tree) → value_type S v ≡ Typed t → settled (put τ p.type) ≡ Typed u → matching τ (u ∷ []) (t ∷ []) ≡ Some σ → Step τ σ i p ps
          with_types v h t u has settles m =
              let ms = matching_matches τ (u ∷ []) (t ∷ []) σ m in
              let equal : put σ u ≡ t = head_same ms.equal in
              let type_is_value = value_type_value S v t has in
              let plain : is_plain u ≡ true = put_plain σ u (subst (λ (x : Tree). is_plain x ≡ true) (sym equal) (value_plain t type_is_value)) in
              record {
                extends = ms.extends;
                values = matching_values τ (u ∷ []) (t ∷ []) σ vals (join type_is_value refl) m;
                names = λ j. named_by t u settles plain ms j;
                fit = λ x g. (t, ap (value_type S) (same_Some _ _ (sym g ∙ h)) ∙ has, (u, settles, plain, equal));
              }
            where
              named_by : (t' u' : Tree) → settled (put τ p.type) ≡ Typed u' → is_plain u' ≡ true → Matches τ (u' ∷ []) (t' ∷ []) σ → (j : ℕ) → is_some (σ j) ≡ known patterns i (p ∷ ps) j
              named_by t' u' s plain' ms j =
                  ms.names j ∙ (ap (λ (b : Bool). is_some (τ j) || (b || false)) (plain_occurs j u' plain' ∙ (settled_openly j (put τ p.type) u' s plain' ∙ put_openly τ vals j p.type)) ∙ (new_or_old (is_some (τ j)) (occurs_openly j p.type) ∙ ap₂ (λ (x y : Bool). x || (y && occurs_openly j p.type)) (named j) (sym (ap is_some q) ∙ named i)))

  -- All parameters from number i on.
  record Typed' (τ σ : Assignment) (i : ℕ) (ps : List Parameter) : Type 0 where
    extends : Extends τ σ
    values : HoldsValues σ
    names : (j : ℕ) → is_some (σ j) ≡ known patterns i ps j
    fits : Fits σ i ps

  typed_sound : (τ σ : Assignment) (i : ℕ) (ps : List Parameter) → are_ordered i ps ≡ true → HoldsValues τ → ((j : ℕ) → is_some (τ j) ≡ occurs_in j patterns) → check_types S τ i ps ≡ Ok σ → Typed' τ σ i ps
  typed_sound τ σ i [] ordered vals named e =
      subst (λ (ρ : Assignment). Typed' τ ρ i []) (types_none S τ σ i e) (record { extends = λ j t h. h; values = vals; names = named; fits = tt })
  typed_sound τ σ i (p ∷ ps) ordered vals named e =
      let a = types_parts S τ σ i p ps e in
      combine a.0 (typed_sound τ a.0 (suc i) ps (both ordered).1 vals named a.1) a.2
    where
      combine : (ρ : Assignment) → Typed' τ ρ (suc i) ps → check_type S ρ p.type (ρ i) ≡ Ok σ → Typed' τ σ i (p ∷ ps)
      combine ρ t c = finish (step ρ σ i p ps t.values t.names c)
        where
          finish : Step ρ σ i p ps → Typed' τ σ i (p ∷ ps)
          finish s = record {
            extends = λ j u h. s.extends j u (t.extends j u h);
            values = s.values;
            names = s.names;
            fits = (λ v h. head_fit v (same_value ρ σ s.extends i v (later i (omega arith)) h), fits_alike ρ σ i s.extends (λ j lt. later j (omega arith)) (suc i) (omega arith) ps (λ j h. t.names j ∙ h) t.fits);
          }
            where
              later : (j : ℕ) → i ≤ j → is_some (σ j) ≡ is_some (ρ j)
              later j le = s.names j ∙ (known_later i p ps (both ordered).0 j le ∙ sym (t.names j))

              head_fit : (v : Tree) → ρ i ≡ Some v → Fit σ (known patterns (suc i) ps) p.type v
              head_fit v h =
                  let f = s.fit v h in
                  (f.0, f.1, (f.2.0, subst (λ (χ : Assignment). settled (put χ p.type) ≡ Typed f.2.0) (sym (restricted_same (known patterns (suc i) ps) ρ σ t.names s.extends)) f.2.1, f.2.2, f.2.3))

  -- by number
  fits_at : (σ : Assignment) (i : ℕ) (ps : List Parameter) → Fits σ i ps → (k m : ℕ) → m ≡ i + k → (p : Parameter) (v : Tree) → slice_get ps k ≡ Some p → σ m ≡ Some v → Fit σ (known patterns (suc m) (drop (suc k) ps)) p.type v
  fits_at σ i [] f k m e p v g h = clash (ap is_some g)
  fits_at σ i (q ∷ ps) f zero m e p v g h =
      subst (λ (x : Parameter). Fit σ (known patterns (suc m) ps) x.type v) (same_Some _ _ g) (subst (λ (n : ℕ). σ n ≡ Some v → Fit σ (known patterns (suc n) ps) q.type v) (sym here) (f.0 v) h)
    where
      here : m ≡ i
      here = omega arith
  fits_at σ i (q ∷ ps) f (suc k) m e p v g h = fits_at σ (suc i) ps f.1 k m (omega arith) p v g h

-- Matching the hypothesis, the premises and the arguments.

no_empty : {A : Type 0} {t : Tree} {ts : List Tree} → [] ≡ t ∷ ts → A
no_empty {A} {t} {ts} e = clash (ap is_cons e)
  where
    is_cons : List Tree → Bool
    is_cons [] = false
    is_cons (x ∷ xs) = true

tail_same : {a b : Tree} {as' bs : List Tree} → a ∷ as' ≡ b ∷ bs → as' ≡ bs
tail_same {a} {b} {as'} e = ap tail e
  where
    tail : List Tree → List Tree
    tail [] = as'
    tail (x ∷ xs) = xs

put_list_same : (τ σ : Assignment) → Extends τ σ → (ps ts : List Tree) → list_all is_value ts ≡ true → map (put τ) ps ≡ ts → map (put σ) ps ≡ ts
put_list_same τ σ e [] ts h m = m
put_list_same τ σ e (p ∷ ps) [] h m = no_empty (sym m)
put_list_same τ σ e (p ∷ ps) (t ∷ ts) h m =
    ap₂ ◌∷◌ (put_same τ σ e p (subst (λ (x : Tree). is_value x ≡ true) (sym (head_same m)) (both h).0) ∙ head_same m) (put_list_same τ σ e ps ts (both h).1 (tail_same m))

record MatchedUse (r : Rule) (hypothesis : Option Tree) (premises arguments : List Tree) (σ : Assignment) : Type 0 where
  values : HoldsValues σ
  names : (j : ℕ) → is_some (σ j) ≡ occurs_in j (rule_patterns r)
  hypothesis_fits : map (put σ) (option_to_list r.assumed) ≡ option_to_list hypothesis
  premises_fit : map (put σ) (premise_patterns r.premises) ≡ premises
  arguments_fit : map (put σ) r.arguments ≡ arguments

match_use_sound : (r : Rule) (hypothesis : Option Tree) (premises arguments : List Tree) (σ : Assignment) → list_all is_value (option_to_list hypothesis) ≡ true → list_all is_value premises ≡ true → list_all is_value arguments ≡ true → match_use r hypothesis premises arguments ≡ Ok σ → MatchedUse r hypothesis premises arguments σ
match_use_sound r hypothesis premises arguments σ ha hp hg e =
    let a = use_parts r hypothesis premises arguments σ e in
    by_matches a.first a.second a.of_assumption a.of_premises a.of_arguments
  where
    by_matches : (τ υ : Assignment) → matching empty (option_to_list r.assumed) (option_to_list hypothesis) ≡ Some τ → matching τ (premise_patterns r.premises) premises ≡ Some υ → matching υ r.arguments arguments ≡ Some σ → MatchedUse r hypothesis premises arguments σ
    by_matches τ υ e1 e2 e3 =
        let m1 = matching_matches empty (option_to_list r.assumed) (option_to_list hypothesis) τ e1 in
        let m2 = matching_matches τ (premise_patterns r.premises) premises υ e2 in
        let m3 = matching_matches υ r.arguments arguments σ e3 in
        let v1 = matching_values empty (option_to_list r.assumed) (option_to_list hypothesis) τ (λ i t h. clash (ap is_some h)) ha e1 in
        let v2 = matching_values τ (premise_patterns r.premises) premises υ v1 hp e2 in
        record {
          values = matching_values υ r.arguments arguments σ v2 hg e3;
          names = λ j. m3.names j ∙ (ap (λ (b : Bool). b || occurs_in j r.arguments) (m2.names j ∙ ap (λ (b : Bool). b || occurs_in j (premise_patterns r.premises)) (m1.names j)) ∙ (or_assoc (occurs_in j (option_to_list r.assumed)) (occurs_in j (premise_patterns r.premises)) (occurs_in j r.arguments) ∙ sym (list_any-append (occurs j) (option_to_list r.assumed) (premise_patterns r.premises ++ r.arguments) ∙ ap (λ (b : Bool). occurs_in j (option_to_list r.assumed) || b) (list_any-append (occurs j) (premise_patterns r.premises) r.arguments))));
          hypothesis_fits = put_list_same τ σ (λ i t h. m3.extends i t (m2.extends i t h)) (option_to_list r.assumed) (option_to_list hypothesis) ha m1.equal;
          premises_fit = put_list_same υ σ m3.extends (premise_patterns r.premises) premises hp m2.equal;
          arguments_fit = m3.equal;
        }

-- Joined premises.

join_sound : (S : Signature) → ((f : ℕ) (n : Tree) → terminator S f ≡ Some n → is_value n ≡ true) → (shape : PremiseShape) (premises ts : List Tree) → list_all is_value premises ≡ true → join_premises S shape premises ≡ Ok ts → (list_all is_value ts ≡ true) × ((σ : Assignment) → map (put σ) (premise_patterns shape) ≡ ts → PremisesFit S shape premises σ)
join_sound S terms (Each ps) premises ts h e =
    (subst (λ (x : List Tree). list_all is_value x ≡ true) (ok_injective premises ts e) h, λ σ m. m ∙ sym (ok_injective premises ts e))
join_sound S terms (Joined p f) premises ts h e =
    let l = list_parts S f premises ts e in
    let j = joined_parts S f premises l.0 l.1 in
    let same : spell (Con f) j.0 premises ∷ [] ≡ ts = ap (λ (x : Tree). x ∷ []) j.3 ∙ l.2 in
    (subst (λ (x : List Tree). list_all is_value x ≡ true) same (join (spell_value (Con f) j.0 premises refl (terms f j.0 j.1) h) refl), λ σ m. (j.0, j.1, j.2, head_same (m ∙ sym same)))

-- The rest of the checks.

formula_sound : (S : Signature) (t : Tree) → check_formula S t ≡ Ok tt → type_of S t ≡ Typed bool_tree
formula_sound S t e =
    let a = formula_parts S t tt e in
    value_type_is_type S t a.0 a.1 ∙ ap Typed (tree_same a.0 bool_tree a.2)

agrees_sound : (s : Option Tree) (t : Tree) → is_stated s t ≡ true → AgreesWith s t
agrees_sound None t e = tt
agrees_sound (Some s) t e = tree_same s t e

hypothesis_sound : (wanted given : Option Tree) (σ : Assignment) → map (put σ) (option_to_list wanted) ≡ option_to_list given → option_map (put σ) wanted ≡ given
hypothesis_sound None None σ e = refl
hypothesis_sound None (Some t) σ e = no_empty e
hypothesis_sound (Some p) None σ e = no_empty (sym e)
hypothesis_sound (Some p) (Some t) σ e = ap Some (head_same e)

-- What a signature and a use are to be: terminators are values, the type of each parameter uses earlier ones, and what is given are values.
pub record IsUse (S : Signature) (r : Rule) (given : Use) : Type 0 where
  pub terminators : (f : ℕ) (n : Tree) → terminator S f ≡ Some n → is_value n ≡ true
  pub ordered : are_ordered 0 r.parameters ≡ true
  pub hypothesis : list_all is_value (option_to_list given.assumed) ≡ true
  pub premises : list_all is_value given.premises ≡ true
  pub arguments : list_all is_value given.arguments ≡ true

pub conclusion_sound : (S : Signature) (r : Rule) (given : Use) (formula : Tree) → IsUse S r given → rule_conclusion S r given ≡ Ok formula → Instance S r given.assumed given.premises given.arguments formula × AgreesWith given.stated formula
conclusion_sound S r given formula use' e =
    let a = rule_parts S r given formula e in
    let s = stated_parts given.stated a.value formula a.stated in
    assemble a.premises a.first a.last a.value a.joins a.matches a.types (conclude_parts S (put a.last (guarded_conclusion r)) a.value a.concludes) (formula_sound S a.value a.is_formula)
    (s.1, subst (λ (x : Tree). AgreesWith given.stated x) s.1 (agrees_sound given.stated a.value s.0))
  where
    assemble : (ts : List Tree) (τ σ : Assignment) (t : Tree) → join_premises S r.premises given.premises ≡ Ok ts → match_use r given.assumed ts given.arguments ≡ Ok τ → check_types S τ 0 r.parameters ≡ Ok σ → (is_tall (put σ (guarded_conclusion r)) ≡ false) × (eval0 S (put σ (guarded_conclusion r)) ≡ Value t) → type_of S t ≡ Typed bool_tree → (t ≡ formula) × AgreesWith given.stated formula → Instance S r given.assumed given.premises given.arguments formula × AgreesWith given.stated formula
    assemble ts τ σ t ej em ey ev ef es =
        let jn = join_sound S use'.terminators r.premises given.premises ts use'.premises ej in
        whole jn.0 jn.1 (match_use_sound r given.assumed ts given.arguments τ use'.hypothesis jn.0 use'.arguments em)
      where
        whole : list_all is_value ts ≡ true → ((ρ : Assignment) → map (put ρ) (premise_patterns r.premises) ≡ ts → PremisesFit S r.premises given.premises ρ) → MatchedUse r given.assumed ts given.arguments τ → Instance S r given.assumed given.premises given.arguments formula × AgreesWith given.stated formula
        whole vs fit mu = with_types (typed_sound S (rule_patterns r) τ σ 0 r.parameters use'.ordered mu.values mu.names ey)
          where
            with_types : Typed' S (rule_patterns r) τ σ 0 r.parameters → Instance S r given.assumed given.premises given.arguments formula × AgreesWith given.stated formula
            with_types ty = (
              (
                σ,
                record {
                  solves = ty.names;
                  assumes = hypothesis_sound r.assumed given.assumed σ (put_list_same τ σ ty.extends (option_to_list r.assumed) (option_to_list given.assumed) use'.hypothesis mu.hypothesis_fits);
                  premises_fit = fit σ (put_list_same τ σ ty.extends (premise_patterns r.premises) ts vs mu.premises_fit);
                  arguments_fit = put_list_same τ σ ty.extends r.arguments given.arguments use'.arguments mu.arguments_fit;
                  types_fit = types;
                  not_tall = ev.0;
                  concludes = ev.1 ∙ ap Value es.0;
                  is_formula = ap (type_of S) (sym es.0) ∙ ef;
                },
              ),
              es.1,
            )
              where
                types : (i : ℕ) (p : Parameter) (value : Tree) → slice_get r.parameters i ≡ Some p → σ i ≡ Some value → FitsType S r σ i p.type value
                types i p value g h =
                    let x = fits_at S (rule_patterns r) σ 0 r.parameters ty.fits i i (omega arith) p value g h in
                    record { type = x.0; has_type = x.1; expected = x.2.0; settles = x.2.1; plain = x.2.2; equal = x.2.3 }
