-- Settling part by part.
use Rattle.std.proofs.Common.{◌≡◌, ℕ, zero, suc, ◌<◌, ◌≤◌, true, false, List, [], ◌∷◌, length, map, take, get_or, if◌then◌else◌, nat_eq, Some, None, refl, sym, ap, ◌∙◌, subst, arith}
use Rattle.std.specs.Prelude.{Result, Ok, Err, Option}
use Rattle.std.specs.List.{list_all}
use Rattle.eo_term.specs.declared.OpCode.{OpCode}
use Rattle.eo_term.specs.Tree.{Tree, Con, Num, Bits, Str, Par, Var, App, Arr, Qar, Op, Trees, NoTree, More, to_trees, is_tall, is_closed, is_plain}
use Rattle.eo_term.specs.Memo.{told, TellsOnly}
use Rattle.eo_term.specs.Growth.{tree_in}
use Rattle.eo_term.specs.declared.walk.Step.{Step}
use Rattle.std.specs.Result.{IsErrAnd}
use Rattle.eo_type.specs.Steps.{IsSettled, IsNext, Knows, GivesStep}
use Rattle.eo_term.specs.Terms.{Terms, Since, tree_at}
use Rattle.eo_term.specs.Arguments.{count_of, argument_at}
use Rattle.eo_base.proofs.Elements.{holds_more}
use Rattle.eo_base.proofs.Tests.{both, clash}
use Rattle.eo_type.specs.declared.refused.TypeRefused.{TypeRefused}
use Rattle.eo_type.specs.declared.refused.TypeRefused.TheVariants as refused
use Rattle.eo_type.specs.declared.refused.Stop.{Stop}
use Rattle.eo_type.specs.Types.{TypeOutcome, Typed, Untyped, TypeRange, TypeTall, on_typed, op_in_type, settled_op, settle, settle_all, if_not_tall, settled}
use Rattle.eo_type.specs.Outcomes.{Answers, IsTall, IsTyped, Stops}
use Rattle.eo_type.proofs.Walk.{stops_first}
use Rattle.eo_type.proofs.Heights.{settle_low, settle_all_low, never_tall}

-- a tree without operators stays what it is
pub settle_plain : (t : Tree) → is_plain t ≡ true → settle t ≡ Typed t
settle_plain (Con k) h = refl
settle_plain (Num z) h = refl
settle_plain (Bits w v) h = refl
settle_plain (Str s) h = refl
settle_plain (Par i) h = refl
settle_plain (Var s t) h = ap (λ o. on_typed o (λ u. Typed (Var s u))) (settle_plain t h)
settle_plain (App f x) h = let p = settle_plain f (both h).0 in let q = settle_plain x (both h).1 in λ i. on_typed (p i) (λ g. on_typed (q i) (λ y. Typed (App g y)))
settle_plain (Arr a b) h = let p = settle_plain a (both h).0 in let q = settle_plain b (both h).1 in λ i. on_typed (p i) (λ c. on_typed (q i) (λ d. Typed (Arr c d)))
settle_plain (Qar i t b) h = let p = settle_plain t (both h).0 in let q = settle_plain b (both h).1 in λ j. on_typed (p j) (λ c. on_typed (q j) (λ d. Typed (Qar i c d)))
settle_plain (Op c ts) h = clash h

-- what a memo has stays
pub settles_grown : (old new : Terms) (m : List (ℕ × ℕ)) → Since old new → TellsOnly (IsSettled old) m → TellsOnly (IsSettled new) m
settles_grown old new m g t k v e =
    let p = t k v e in
    record {
      term = omega (arith, p.term, g.more_trees);
      made = omega (arith, p.made, g.more_trees);
      typed = ap settle (g.tree k p.term) ∙ p.typed ∙ ap Typed (sym (g.tree v p.made));
    }

-- what a memo has for a term
pub told_settled : (t : Terms) (m : List (ℕ × ℕ)) (k : ℕ) (o : Option ℕ) → o ≡ told m k → TellsOnly (IsSettled t) m → Knows t m k o
told_settled t m k None e h = sym e
told_settled t m k (Some v) e h = let p = h k v (sym e) in record { live = p.made; typed = p.typed }

-- what stops the term k stops the term id
abbrev pub StopsAll : Terms → ℕ → ℕ → Type 0
StopsAll t id k = (e : Stop) → Stops e (settle (tree_in t k)) → Stops e (settle (tree_in t id))

-- a step of the walk for the term id, at the term k, with the table old at its start, mid before the step and new after it
module _ (old mid new : Terms) (id k : ℕ) (g : Since old mid) (r : StopsAll old id k) (l : k < length old.trees) where
  pub step_stops : (e : Stop) → Stops e (settle (tree_in mid k)) → Stops e (settle (tree_in old id))
  step_stops e h = r e (subst (λ (t : Tree). Stops e (settle t)) (g.tree k l) h)

  pub step_part : (m : List (ℕ × ℕ)) (p : ℕ) → IsNext mid m k p → StopsAll old id p
  step_part m p n e h = step_stops e (n.stops e (subst (λ (t : Tree). Stops e (settle t)) (sym (g.tree p (omega (arith, n.older, l)))) h))

  pub step_made : (v : ℕ) → k ≡ id → IsTyped new (settle (tree_in mid k)) v → IsTyped new (settle (tree_in old id)) v
  step_made v e p = record { live = p.live; typed = ap (λ j. settle (tree_in old j)) (sym e) ∙ ap settle (sym (g.tree k l)) ∙ p.typed }

  pub step_kept : (v : ℕ) (m n : List (ℕ × ℕ)) → Since mid new → ((j : ℕ) → told n j ≡ (if nat_eq k j then Some v else told m j)) → TellsOnly (IsSettled mid) m → IsTyped new (settle (tree_in mid k)) v → TellsOnly (IsSettled new) n
  step_kept v m n w f t p =
      let live : k < length mid.trees = omega (arith, l, g.more_trees) in
      holds_more (IsSettled new) (told m) (told n) k v f (settles_grown mid new m w t) (record {
        term = omega (arith, live, w.more_trees);
        made = p.live;
        typed = ap settle (w.tree k live) ∙ p.typed;
      })

-- the exit of a `?` gives what stops it
pub gives_step_stop : (old new : Terms) (m : List (ℕ × ℕ)) (k : ℕ) (r : Result Step Stop) (e : Stop) → IsErrAnd r (λ s. s ≡ e) → Stops e (settle (tree_in old k)) → GivesStep old m k new r
gives_step_stop old new m k (Ok s) e q h = absurd q
gives_step_stop old new m k (Err s) e q h = subst (λ u. Stops u (settle (tree_in old k))) (sym q) h

-- what is made of settled parts is low
pub var_low : (t u v : Tree) (s : List ℕ) → Var s u ≡ t → settle u ≡ Typed v → is_tall t ≡ false → is_tall (Var s v) ≡ false
var_low t u v s e p l = settle_low t (Var s v) (ap settle (sym e) ∙ ap (λ o. on_typed o (λ w. Typed (Var s w))) p) l

pub app_low : (t f x g y : Tree) → App f x ≡ t → settle f ≡ Typed g → settle x ≡ Typed y → is_tall t ≡ false → is_tall (App g y) ≡ false
app_low t f x g y e p q l = settle_low t (App g y) (ap settle (sym e) ∙ (λ i. on_typed (p i) (λ h. on_typed (q i) (λ z. Typed (App h z))))) l

pub arr_low : (t a b c d : Tree) → Arr a b ≡ t → settle a ≡ Typed c → settle b ≡ Typed d → is_tall t ≡ false → is_tall (Arr c d) ≡ false
arr_low t a b c d e p q l = settle_low t (Arr c d) (ap settle (sym e) ∙ (λ i. on_typed (p i) (λ h. on_typed (q i) (λ z. Typed (Arr h z))))) l

pub qar_low : (t a b c d : Tree) (j : ℕ) → Qar j a b ≡ t → settle a ≡ Typed c → settle b ≡ Typed d → is_tall t ≡ false → is_tall (Qar j c d) ≡ false
qar_low t a b c d j e p q l = settle_low t (Qar j c d) (ap settle (sym e) ∙ (λ i. on_typed (p i) (λ h. on_typed (q i) (λ z. Typed (Qar j h z))))) l

-- Operators.

-- one with a parameter stays
pub open_op : (c : OpCode) (us : List Tree) (t : Tree) → list_all is_closed us ≡ false → t ≡ Op c (to_trees us) → settled_op c us ≡ Typed t
open_op c us t e h = (λ i. if e i then op_in_type c us else Typed (Op c (to_trees us))) ∙ ap Typed (sym h)

-- all arguments are settled where each is
pub all_settled : (us : List Tree) (xs : List ℕ) (ts : Trees) (n : ℕ) → count_of ts ≡ n → n ≤ length xs → ((k : ℕ) → k < n → settle (argument_at ts k) ≡ Typed (tree_at us (get_or xs k 0))) → settle_all ts ≡ Typed (map (tree_at us) (take n xs))
all_settled us xs NoTree zero e l h = refl
all_settled us xs NoTree (suc n) e l h = absurd (omega arith)
all_settled us xs (More t ts) zero e l h = absurd (omega arith)
all_settled us [] (More t ts) (suc n) e l h = absurd (omega arith)
all_settled us (x ∷ xs) (More t ts) (suc n) e l h =
    let p : settle t ≡ Typed (tree_at us x) = h 0 (omega arith) in
    let q : settle_all ts ≡ Typed (map (tree_at us) (take n xs)) = all_settled us xs ts n (omega arith) (omega arith) (λ k m. h (suc k) (omega arith)) in
    λ i. on_typed (p i) (λ u. on_typed (q i) (λ vs. Typed (u ∷ vs)))

-- the first argument that stops stops all
stop_all : (e : Stop) (ts : Trees) (i : ℕ) → i < count_of ts → ((k : ℕ) → k < i → (u : Tree) × (settle (argument_at ts k) ≡ Typed u)) → Stops e (settle (argument_at ts i)) → Stops e (settle_all ts)
stop_all e NoTree i l h s = absurd (omega arith)
stop_all e (More t ts) zero l h s = stops_first e (settle t) (λ u. on_typed (settle_all ts) (λ us. Typed (u ∷ us))) s
stop_all e (More t ts) (suc i) l h s =
    let r = h 0 (omega arith) in
    let rest = stop_all e ts i (omega arith) (λ k m. h (suc k) (omega arith)) s in
    subst (λ o. Stops e (on_typed o (λ u. on_typed (settle_all ts) (λ us. Typed (u ∷ us))))) (sym r.1) (stops_first e (settle_all ts) (λ us. Typed (r.0 ∷ us)) rest)

pub stop_op : (e : Stop) (c : OpCode) (t : Tree) (ts : Trees) (i : ℕ) → Op c ts ≡ t → i < count_of ts → ((k : ℕ) → k < i → (u : Tree) × (settle (argument_at ts k) ≡ Typed u)) → Stops e (settle (argument_at ts i)) → Stops e (settle t)
stop_op e c t ts i q l h s = subst (λ u. Stops e (settle u)) q (stops_first e (settle_all ts) (settled_op c) (stop_all e ts i l h s))

-- and then the operator
pub settle_op_is : (c : OpCode) (t : Tree) (ts : Trees) (us : List Tree) → Op c ts ≡ t → settle_all ts ≡ Typed us → settle t ≡ settled_op c us
settle_op_is c t ts us e p = ap settle (sym e) ∙ ap (λ o. on_typed o (settled_op c)) p

pub op_low : (c : OpCode) (t : Tree) (ts : Trees) (us : List Tree) → Op c ts ≡ t → settle_all ts ≡ Typed us → is_tall t ≡ false → is_tall (Op c (to_trees us)) ≡ false
op_low c t ts us e p l = settle_all_low c ts us p (ap is_tall e ∙ l)

-- no settled term is too tall
pub answers_low : (t : Terms) (r : Result (Option ℕ) TypeRefused) (u : Tree) → Answers t r (settle u) → IsTall r → ⊥
answers_low t (Ok o) u h l = l
answers_low t (Err refused.NumberRange) u h l = l
answers_low t (Err refused.Tall) u h l = never_tall u h
answers_low t (Err (refused.Memory e)) u h l = l

-- A type with values put in.

pub settled_typed : (t u : Tree) → is_tall t ≡ false → settle t ≡ Typed u → settled t ≡ Typed u
settled_typed t u l e =
    let m = settle_low t u e l in
    (λ i. on_typed (if l i then TypeTall else Typed t) (λ v. on_typed (settle v) if_not_tall)) ∙ (λ i. on_typed (e i) if_not_tall) ∙ (λ i. if m i then TypeTall else Typed u)

pub settled_settle : (t : Tree) → is_tall t ≡ false → settled t ≡ settle t
settled_settle t l = (λ i. on_typed (if l i then TypeTall else Typed t) (λ v. on_typed (settle v) if_not_tall)) ∙ by (settle t) refl
  where
    by : (o : TypeOutcome Tree) → settle t ≡ o → on_typed o if_not_tall ≡ o
    by (Typed u) e = let m = settle_low t u e l in λ i. if m i then TypeTall else Typed u
    by Untyped e = refl
    by TypeRange e = refl
    by TypeTall e = refl
