-- The different calls of a block are no more than those that the evaluation begins; so each evaluation within the limits has a block within the limits.
use Rattle.std.specs.Prelude.{◌≡◌, ℕ, ◌+◌, ◌≤◌, Bool, true, false, if◌then◌else◌, List, [], ◌∷◌, ◌++◌, length, Some, refl}
use Rattle.std.specs.List.{list_all, list_any}
use Rattle.std.proofs.lemmas.Option.{none-some}
use Rattle.std.proofs.Common.{sym, subst, arith, append_assoc, append-nil}
use Rattle.eo_base.proofs.Tests.{or_first, or_second}
use Rattle.eo_base.specs.Limits.{calls_limit, open_calls_limit}
use Rattle.eo_term.specs.Tree.{Tree, is_tall, is_value, is_closed}
use Rattle.eo_sig.specs.Signature.{Signature}
use Rattle.eo_stack.specs.Evaluation.{Value, Call, call_eq, Begun, eval, eval0, body_of}
use Rattle.eo_cert.specs.Stated.{Evaluated}
use Rattle.eo_cert.specs.Blocks.{with_new}
use Rattle.eo_cert.specs.Traces.{Block, nothing, by_rule, by_none, by_body, Covers, HasBlock}
use Rattle.eo_cert.proofs.Runs.{HasRoom, one_less, all_fresh, call_itself}
use Rattle.eo_cert.proofs.FoundLines.{has_line}

-- each of the second is in neither the first nor before it in the second
abbrev pub AreNew : List Call → List Call → Type 0
AreNew c [] = Unit {0}
AreNew c (x ∷ xs) = (list_any (call_eq x) c ≡ false) × AreNew (c ++ x ∷ []) xs

new_more : (c xs : List Call) (y : Call) → AreNew c xs → list_any (call_eq y) (c ++ xs) ≡ false → AreNew c (xs ++ y ∷ [])
new_more c [] y d h = (subst (λ (l : List Call). list_any (call_eq y) l ≡ false) (append-nil c) h, tt)
new_more c (x ∷ xs) y d h =
    (d.0, new_more (c ++ x ∷ []) xs y d.1 (subst (λ (l : List Call). list_any (call_eq y) l ≡ false) (sym (append_assoc c (x ∷ []) xs)) h))

new_after : (xs : List Call) (y : Call) → AreNew [] xs → AreNew [] (with_new xs y)
new_after xs y d = by (list_any (call_eq y) xs) refl
  where
    by : (b : Bool) → list_any (call_eq y) xs ≡ b → AreNew [] (if b then xs else xs ++ y ∷ [])
    by true p = d
    by false p = new_more [] xs y d p

-- each call of a block is there once
block_new : (S : Signature) (es : List Evaluated) (calls : List Call) → Block S es calls → AreNew [] calls
block_new S es calls nothing = tt
block_new S es calls (by_rule {calls = old} t o listed block are_in is) = block_new S _ old block
block_new S es calls (by_none {calls = old} p ts vs listed block are_in is body) = new_after old (record { program = p; arguments = vs }) (block_new S _ old block)
block_new S es calls (by_body {calls = old} p ts vs listed body last block are_in is found low is_in term) = new_after old (record { program = p; arguments = vs }) (block_new S _ old block)

-- so they find room among those that were begun
all_room : (all c xs : List Call) → HasRoom all c → AreNew c xs → Covers all xs → HasRoom all (c ++ xs)
all_room all c [] room new covers = subst (HasRoom all) (sym (append-nil c)) room
all_room all c (x ∷ xs) room new covers =
    let here = covers x (or_first (call_eq x x) (list_any (call_eq x) xs) (call_itself x x refl)) in
    let less = one_less all c x here new.0 in
    let longer = one_more c in
    subst (HasRoom all) (append_assoc c (x ∷ []) xs)
    (all_room all (c ++ x ∷ []) xs (omega (arith, room, less, longer)) new.1 (λ y i. covers y (or_second (call_eq y x) (list_any (call_eq y) xs) i)))
  where
    one_more : (b : List Call) → length (b ++ x ∷ []) ≡ 1 + length b
    one_more [] = refl
    one_more (y ∷ ys) = let h = one_more ys in omega (arith, h)

-- no more different calls than were begun
pub few_calls : (S : Signature) (es : List Evaluated) (calls all : List Call) → Block S es calls → Covers all calls → length calls ≤ length all
few_calls S es calls all block covers =
    let room : HasRoom all calls = all_room all [] calls (all_fresh all) (block_new S es calls block) covers in omega (arith, room)

-- where evaluation gives values, and bodies of calls on values are closed
pub value_has_block : (S : Signature) → ((k : ℕ) (t : Tree) (c : Begun) (v : Tree) (d : Begun) → eval S calls_limit k t c ≡ (Value v, d) → is_value v ≡ true) → ((x : Call) (body : Tree) → list_all is_value x.arguments ≡ true → body_of S x ≡ Some body → is_closed body ≡ true) → (t v : Tree) → is_tall t ≡ false → is_closed t ≡ true → eval0 S t ≡ Value v → HasBlock S t v
value_has_block S fit bodies t v low close e =
    let d : Begun = (eval S calls_limit open_calls_limit t []).1 in
    let whole : eval S calls_limit open_calls_limit t [] ≡ (Value v, d) = λ i. (e i, d) in
    let l = has_line S calls_limit fit bodies open_calls_limit t low close [] d (Some v) whole [] [] nothing (λ x i. i) in
    let begun = l.few (omega arith) in
    let most = few_calls S l.block l.calls d l.is_block l.covered in
    record {
      block = l.block;
      calls = l.calls;
      is_block = l.is_block;
      few = omega (arith, begun, most);
      last = l.last;
      is_in = l.is_in;
      term = l.term;
      outcome = l.outcome;
      shallow = l.shallow;
      closed = l.closed (λ x i. absurd (none-some x i.1));
    }
