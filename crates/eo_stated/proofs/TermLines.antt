-- Terms that lines state.
use Rattle.std.proofs.Common.{◌≡◌, refl, ℕ, ◌≤◌, Bool, true, false, List, length, map, Option, Some, None, Result, Err, sym, ap, ◌∙◌, arith, subst}
use Rattle.std.specs.Prelude.{option_map, option_and_then, nat_eq, not, if◌then◌else◌}
use Rattle.std.proofs.lemmas.List.{length-map}
use Rattle.std.proofs.lemmas.Bool.Decides.{nat_tests}
use Rattle.eo_term.specs.declared.OpCode.{OpCode}
use Rattle.eo_term.specs.declared.OpName.{OpName}
use Rattle.eo_term.specs.Operators.{operator_named, arity}
use Rattle.eo_term.specs.Tree.{Tree, Op, to_trees, is_tall}
use Rattle.eo_term.specs.Terms.{Terms, tree_at, trees_at}
use Rattle.eo_sig.specs.Signature.{Program, program_at}
use Rattle.eo_lines.specs.Lines.{TermLine, OfCall, OfOperator}
use Rattle.eo_cert.specs.Stated.{Stated, signature, terms_at, with_term, when}
use Rattle.eo_cert.specs.Stated as stated
use Rattle.eo_cert.specs.Terms.{by_parts, term_line}
use Rattle.eo_stated.specs.declared.checker.Checker.{Checker}
use Rattle.eo_stated.specs.declared.refused.LineRefused.{LineRefused}
use Rattle.eo_stated.specs.declared.refused.LineRefused.TheVariants.{Bad, Memory}
use Rattle.eo_stated.specs.Checking.{GivesTerm, Does, low}
use Rattle.eo_stated.proofs.Arguments.{to_trees_at}

pub same_number : (n m : ℕ) → n ≡ m → nat_eq n m ≡ true
same_number n m h = grind (arith, nat_tests)

pub passes : {A : Type 0} (b : Bool) (o : Option A) → b ≡ true → option_and_then (λ _. o) (when b) ≡ o
passes true o h = refl
passes false o h = cc

applied : (c : OpCode) (ts : List Tree) (ids : List ℕ) (n : ℕ) → length ids ≡ n
    → option_and_then (λ us. option_and_then (λ _. Some (Op c (to_trees us))) (when (nat_eq (length us) n))) (Some (map (tree_at ts) ids)) ≡ Some (Op c (trees_at ts ids))
applied c ts ids n h =
    passes (nat_eq (length (map (tree_at ts) ids)) n) (Some (Op c (to_trees (map (tree_at ts) ids)))) (same_number (length (map (tree_at ts) ids)) n (length-map ids (tree_at ts) ∙ h))
    ∙ ap (λ us. Some (Op c us)) (to_trees_at ts ids)

call_by : (o : Option Program) (p : ℕ) (m : Option (List Tree)) (ts : List Tree) (ids : List ℕ) (count : ℕ) → Some count ≡ option_map (λ d. length d.inputs) o
    → Some (map (tree_at ts) ids) ≡ m → length ids ≡ count
    → option_and_then (λ d. option_and_then (λ us. option_and_then (λ _. Some (Op (OpCode.Prog p) (to_trees us))) (when (nat_eq (length us) (length d.inputs)))) m) o
    ≡ Some (Op (OpCode.Prog p) (trees_at ts ids))
call_by None p m ts ids count e f h = cc
call_by (Some d) p m ts ids count e f h = let g : count ≡ length d.inputs = cc in rw (← f) (applied (OpCode.Prog p) ts ids (length d.inputs) (h ∙ g))

pub call_parts : (st : Stated) (p : ℕ) (ns : List ℕ) (ts : List Tree) (ids : List ℕ) (count : ℕ) → Some count ≡ option_map (λ d. length d.inputs) (program_at (signature st) p)
    → Some (map (tree_at ts) ids) ≡ terms_at st ns → length ids ≡ count → by_parts st (OfCall p ns) ≡ Some (Op (OpCode.Prog p) (trees_at ts ids))
call_parts st p ns ts ids count e f h = call_by (program_at (signature st) p) p (terms_at st ns) ts ids count e f h

pub operator_parts : (st : Stated) (name ns : List ℕ) (ts : List Tree) (ids : List ℕ) (o : OpName) → Some o ≡ operator_named name
    → Some (map (tree_at ts) ids) ≡ terms_at st ns → length ids ≡ arity o → by_parts st (OfOperator name ns) ≡ Some (Op (OpCode.Builtin o) (trees_at ts ids))
operator_parts st name ns ts ids o e f h = rw (← e) (rw (← f) (applied (OpCode.Builtin o) ts ids (arity o) h))

pub gives_as : (t : Terms) (r : Result ℕ LineRefused) (o q : Option Tree) → o ≡ q → GivesTerm t r (low q) → GivesTerm t r (low o)
gives_as t r o q e h = subst (λ p. GivesTerm t r (low p)) (sym e) h

-- ---- lines

abbrev states : Stated → Option Tree → Option Stated
states st o = option_and_then (λ t. option_and_then (λ _. Some (with_term st t)) (when (not (is_tall t)))) o

low_none : (b : Bool) (st : Stated) (t : Tree) → (if b then None else Some t) ≡ None → option_and_then (λ _. Some (with_term st t)) (when (not b)) ≡ None
low_none true st t h = refl
low_none false st t h = cc

low_some : (b : Bool) (st : Stated) (t u : Tree) → (if b then None else Some t) ≡ Some u → option_and_then (λ _. Some (with_term st t)) (when (not b)) ≡ Some (with_term st u)
low_some true st t u h = cc
low_some false st t u h = let e : t ≡ u = cc in ap (λ v. Some (with_term st v)) e

states_none : (o : Option Tree) (st : Stated) → low o ≡ None → states st o ≡ None
states_none None st h = refl
states_none (Some t) st h = low_none (is_tall t) st t h

states_some : (o : Option Tree) (st : Stated) (u : Tree) → low o ≡ Some u → states st o ≡ Some (with_term st u)
states_some None st u h = cc
states_some (Some t) st u h = low_some (is_tall t) st t u h

pub line_refused : (t : Terms) (e : LineRefused) (st : Stated) (line : TermLine) (new : Checker) → GivesTerm t (Err e) (low (by_parts st line)) → Does (Err e) (term_line st line) new
unfolding term_line
line_refused t Bad st line new h = states_none (by_parts st line) st h
line_refused t (Memory e) st line new h = tt

pub line_states : (st : Stated) (line : TermLine) (u : Tree) → low (by_parts st line) ≡ Some u → term_line st line ≡ Some (with_term st u)
unfolding term_line
line_states st line u h = states_some (by_parts st line) st u h
