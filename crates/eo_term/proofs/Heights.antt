-- What is too tall, and what is not.
use Rattle.std.proofs.Common.{◌≡◌, ℕ, zero, suc, ◌<◌, ◌≤◌, true, false, arith}
use Rattle.std.proofs.lemmas.Bool.{le-ltb}
use Rattle.eo_base.specs.Limits.{height_limit}
use Rattle.eo_base.proofs.Tests.{still_above}
use Rattle.eo_term.specs.declared.OpCode.{OpCode}
use Rattle.eo_term.specs.Tree.{Tree, Trees, Con, Num, Bits, Str, Par, Var, App, Arr, Qar, Op, NoTree, More, height, height_all, arity, is_tall}
use Rattle.eo_term.specs.Arguments.{count_of, argument_at}

-- what is as tall as one that is too tall
pub higher : (t u : Tree) → height t ≤ height u → is_tall t ≡ true → is_tall u ≡ true
higher t u h e = still_above height_limit (height t) (height u) h e

pub low_height : (t : Tree) → height t ≤ height_limit → is_tall t ≡ false
low_height t h = le-ltb height_limit (height t) h

-- an operator with an argument that is too tall is too tall

argument_height : (ts : Trees) (i : ℕ) → i < count_of ts → height (argument_at ts i) ≤ height_all ts
argument_height NoTree i l = absurd (omega arith)
argument_height (More t ts) zero l = omega arith
argument_height (More t ts) (suc i) l = let h = argument_height ts i (omega arith) in omega (arith, h)

pub tall_argument : (c : OpCode) (ts : Trees) (i : ℕ) → i < count_of ts → is_tall (argument_at ts i) ≡ true → is_tall (Op c ts) ≡ true
tall_argument c ts i l e = let h = argument_height ts i l in higher (argument_at ts i) (Op c ts) (omega (arith, h)) e

-- a function type takes fewer arguments than it is high
pub arity_height : (t : Tree) → arity t ≤ height t
arity_height (Con k) = omega arith
arity_height (Num z) = omega arith
arity_height (Bits w v) = omega arith
arity_height (Str s) = omega arith
arity_height (Par i) = omega arith
arity_height (Var s t) = omega arith
arity_height (App f x) = omega arith
arity_height (Arr a b) = let h = arity_height b in omega (arith, h)
arity_height (Qar i t b) = let h = arity_height b in omega (arith, h)
arity_height (Op c ts) = omega arith
