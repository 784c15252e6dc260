-- The first step by a rule that does not preserve truth, in signatures with the same rules and as an observer sees it.
use Rattle.std.specs.Prelude.{◌≡◌, ℕ, Bool, true, false, not, cond, List, [], ◌∷◌, ◌++◌, Option, Some, None, option_map, slice_get, refl, ⊤}
use Rattle.std.specs.List.{find}
use Rattle.std.specs.Option.{option_map_or, option_or}
use Rattle.std.proofs.Common.{sym, ◌∙◌, ap, subst}
use Rattle.std.proofs.lemmas.List.Folds.{find-append}
use Rattle.eo_base.specs.declared.Place.{Place}
use Rattle.eo_run.specs.Seen.{Seen}
use Rattle.eo_run.specs.Watching.{IsSeen, AreSeen}
use Rattle.eo_sem.specs.ProveAnswers.{other_place, with_place}
use Rattle.eo_sem.specs.Proving.{keeps_truth, uses_other}
use Rattle.eo_sem.specs.SemanticRules.{is_semantic}
use Rattle.eo_sem.specs.Suite.{suite_signature}
use Rattle.eo_session.specs.Notes as notes
use Rattle.eo_session.specs.Notes.{Act, Declares, Defines, Asserts, Assumes, Opens, Derives, Closes, Other}
use Rattle.eo_sig.specs.Signature.{Signature, Rule, rules}

-- ---- the same rules

module _ (S T : Signature) (same : rules S ≡ rules T) where
  keeps_same : (n : ℕ) → keeps_truth S n ≡ keeps_truth T n
  keeps_same n = ap (λ (rs : List Rule). option_map_or (λ (rule : Rule). is_semantic rule.name) (slice_get rs n) false) same

  pub uses_same : (a : Act) → uses_other S a ≡ uses_other T a
  uses_same (Derives step) = ap not (keeps_same step.rule)
  uses_same (Closes step) = ap not (keeps_same step.rule)
  uses_same Declares = refl
  uses_same Defines = refl
  uses_same (Asserts t) = refl
  uses_same (Assumes t) = refl
  uses_same (Opens t) = refl
  uses_same Other = refl

-- ---- lists of commands

abbrev pub first_in : Signature → List Seen → Option Seen
first_in S seen = find (λ (k : Seen). uses_other S k.act) seen

pub first_same : (S T : Signature) → rules S ≡ rules T → (seen : List Seen) → first_in S seen ≡ first_in T seen
first_same S T same [] = refl
first_same S T same (k ∷ ks) =
    ap (λ (b : Bool). cond b (Some k) (first_in S ks)) (uses_same S T same k.act) ∙ ap (λ (o : Option Seen). cond (uses_other T k.act) (Some k) o) (first_same S T same ks)

or_none : (o : Option Seen) (p : Option Seen) → option_or o p ≡ None → (o ≡ None) × (p ≡ None)
or_none None p e = (refl, e)
or_none (Some k) p e = absurd (cc e)

none_here : (b : Bool) (k : Seen) → cond b (Some k) None ≡ None → b ≡ false
none_here true k e = absurd (cc e)
none_here false k e = refl

-- where there is none, there is none among those before, and the last is none
pub none_before : (S : Signature) (seen : List Seen) (k : Seen) → first_in S (seen ++ k ∷ []) ≡ None → (first_in S seen ≡ None) × (uses_other S k.act ≡ false)
none_before S seen k e =
    let p = or_none (first_in S seen) (first_in S (k ∷ [])) (sym (find-append (λ (k : Seen). uses_other S k.act) seen (k ∷ [])) ∙ e) in
    (p.0, none_here (uses_other S k.act) k p.1)

-- ---- what an observer sees

abbrev pub first_noted : Signature → List notes.Seen → Option notes.Seen
first_noted S seen = find (λ (m : notes.Seen). uses_other S m.act) seen

-- the same command, or none
abbrev pub AreBoth : List (List ℕ) → Option notes.Seen → Option Seen → Type 0
AreBoth paths None None = ⊤
AreBoth paths (Some m) (Some k) = IsSeen paths m k
AreBoth paths m k = ⊥

module _ (S : Signature) (paths : List (List ℕ)) where
  same_act : (m : notes.Seen) (k : Seen) → IsSeen paths m k → m.act ≡ k.act
  same_act m k h = ap (λ (x : Seen). x.act) h.same

  turn : (b : Bool) (m : notes.Seen) (k : Seen) (ms : Option notes.Seen) (ks : Option Seen) → IsSeen paths m k → AreBoth paths ms ks → AreBoth paths (cond b (Some m) ms) (cond b (Some k) ks)
  turn true m k ms ks h rest = h
  turn false m k ms ks h rest = rest

  pub first_both : (ms : List notes.Seen) (ks : List Seen) → AreSeen paths ms ks → AreBoth paths (first_noted S ms) (first_in S ks)
  first_both [] [] h = tt
  first_both (m ∷ ms) (k ∷ ks) h =
      subst (λ (b : Bool). AreBoth paths (first_noted S (m ∷ ms)) (cond b (Some k) (first_in S ks))) (ap (uses_other S) (same_act m k h.0))
      (turn (uses_other S m.act) m k (first_noted S ms) (first_in S ks) h.0 (first_both ms ks h.1))
  first_both [] (k ∷ ks) h = absurd h
  first_both (m ∷ ms) [] h = absurd h

-- ---- what an observer keeps

-- after one more command
pub place_after : (l : List notes.Seen) (m : notes.Seen) (before : Option Place) → before ≡ other_place l → with_place before m.place (uses_other suite_signature m.act) ≡ other_place (l ++ m ∷ [])
place_after l m before h =
    ap (λ (o : Option Place). with_place o m.place (uses_other suite_signature m.act)) h
    ∙ (by (first_noted suite_signature l) (uses_other suite_signature m.act)
    ∙ ap (option_map (λ (m : notes.Seen). m.place)) (sym (find-append (λ (m : notes.Seen). uses_other suite_signature m.act) l (m ∷ []))))
  where
    by : (o : Option notes.Seen) (b : Bool) → with_place (option_map (λ (m : notes.Seen). m.place) o) m.place b ≡ option_map (λ (m : notes.Seen). m.place) (option_or o (cond b (Some m) None))
    by (Some k) b = refl
    by None true = refl
    by None false = refl
