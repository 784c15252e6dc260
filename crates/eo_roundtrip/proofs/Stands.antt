-- Trees that evaluate to a value and are as tall as it.
use Rattle.std.specs.Prelude.{◌≡◌, refl, ℕ, ◌+◌, ◌≤◌, Bool, true, false, List, [], ◌∷◌, max, if◌then◌else◌}
use Rattle.std.proofs.Common.{◌∙◌, ap, ap₂, arith}
use Rattle.std.proofs.lemmas.Bool.{le-ltb}
use Rattle.eo_base.specs.Limits.{height_limit}
use Rattle.eo_base.proofs.Tests.{both}
use Rattle.eo_term.specs.declared.OpCode.{OpCode}
use Rattle.eo_term.specs.declared.OpName.{OpName}
use Rattle.eo_term.specs.Tree.{Tree, Con, Num, Bits, Str, Par, Var, App, Arr, Qar, Op, NoTree, More, height, is_tall, is_value}
use Rattle.eo_sig.specs.Signature.{Signature}
use Rattle.eo_lists.specs.Lists.{spell}
use Rattle.eo_show.proofs.FormFacts.{some_height}
use Rattle.eo_names.specs.Folding.{applied}
use Rattle.eo_stack.specs.Evaluation.{Value, Tall, Call, Begun, Eval, ends, on_value, on_outcome, operator_value, node, eval_with, eval_all_with}

pub low : (t : Tree) → height t ≤ height_limit → is_tall t ≡ false
low t h = le-ltb height_limit (height t) h

module _ (S : Signature) where
  pub record Stands (m t : Tree) : Type 0 where
    pub tall : height m ≡ height t
    pub gives : (call : Call → Eval Tree) (begun : Begun) → eval_with S call m begun ≡ (Value t, begun)

  abbrev pub AllStand : List Tree → List Tree → Type 0
  AllStand [] [] = Unit {0}
  AllStand (m ∷ ms) (t ∷ ts) = Stands m t × AllStand ms ts
  AllStand _ _ = ⊥

  node-low : (t : Tree) (begun : Begun) → height t ≤ height_limit → node t begun ≡ (Value t, begun)
  node-low t begun h = ap (λ (b : Bool). (if b then ends Tall else ends (Value t)) begun) (low t h)

  pub app-stands : (m t n u : Tree) → Stands m t → Stands n u → height (App t u) ≤ height_limit → Stands (App m n) (App t u)
  app-stands m t n u p q h =
      record {
        tall = ap₂ (λ a b. 1 + max a b) p.tall q.tall;
        gives = λ call begun. ap (λ e. on_value e (λ g after. on_value (eval_with S call n after) (λ y. node (App g y)))) (p.gives call begun)
            ∙ ap (λ e. on_value e (λ y. node (App t y))) (q.gives call begun) ∙ node-low (App t u) begun h;
      }

  pub arr-stands : (m t n u : Tree) → Stands m t → Stands n u → height (Arr t u) ≤ height_limit → Stands (Arr m n) (Arr t u)
  arr-stands m t n u p q h =
      record {
        tall = ap₂ (λ a b. 1 + max a b) p.tall q.tall;
        gives = λ call begun. ap (λ e. on_value e (λ g after. on_value (eval_with S call n after) (λ y. node (Arr g y)))) (p.gives call begun)
            ∙ ap (λ e. on_value e (λ y. node (Arr t y))) (q.gives call begun) ∙ node-low (Arr t u) begun h;
      }

  var-itself : (s : List ℕ) (t : Tree) → Stands t t → height (Var s t) ≤ height_limit → Stands (Var s t) (Var s t)
  var-itself s t p h =
      record { tall = refl; gives = λ call begun. ap (λ e. on_value e (λ u. node (Var s u))) (p.gives call begun) ∙ node-low (Var s t) begun h }

  -- a variable, as the operator that makes it
  pub var-stands : (m : Tree) (s : List ℕ) (n t : Tree) → Stands m (Str s) → Stands n t → height (Var s t) ≤ height_limit → Stands (Op (OpCode.Builtin OpName.Var) (More m (More n NoTree))) (Var s t)
  var-stands m s n t p q h =
      record {
        tall = omega (arith, p.tall, q.tall, some_height t);
        gives = λ call begun.
            ap (λ e. on_value (on_value e (λ v after. on_value (eval_all_with S call (More n NoTree) after) (λ vs. ends (Value (v ∷ vs))))) made) (p.gives call begun)
            ∙ ap (λ e. on_value (on_value (on_value e (λ w after. on_value (ends (Value []) after) (λ ws. ends (Value (w ∷ ws))))) (λ vs. ends (Value (Str s ∷ vs)))) made) (q.gives call begun)
            ∙ node-low (Var s t) begun h;
      }
    where
      made : List Tree → Eval Tree
      made vs = on_outcome (operator_value S OpName.Var vs) node

  pub value-stands : (t : Tree) → is_value t ≡ true → height t ≤ height_limit → Stands t t
  value-stands (Con k) v h = record { tall = refl; gives = λ call begun. refl }
  value-stands (Num z) v h = record { tall = refl; gives = λ call begun. refl }
  value-stands (Bits w x) v h = record { tall = refl; gives = λ call begun. refl }
  value-stands (Str s) v h = record { tall = refl; gives = λ call begun. refl }
  value-stands (Par i) v h = cc
  value-stands (Var s t) v h = var-itself s t (value-stands t v (omega arith)) h
  value-stands (App f x) v h = app-stands f f x x (value-stands f (both v).0 (omega arith)) (value-stands x (both v).1 (omega arith)) h
  value-stands (Arr a b) v h = arr-stands a a b b (value-stands a (both v).0 (omega arith)) (value-stands b (both v).1 (omega arith)) h
  value-stands (Qar i t b) v h = cc
  value-stands (Op c ts) v h = cc

  -- ---- applications and lists

  pub height-applied : (h : Tree) (ts : List Tree) → height h ≤ height (applied h ts)
  height-applied h [] = omega arith
  height-applied h (t ∷ ts) = omega (arith, height-applied (App h t) ts)

  pub applied-stands : (m h : Tree) (ms ts : List Tree) → Stands m h → AllStand ms ts → height (applied h ts) ≤ height_limit → Stands (applied m ms) (applied h ts)
  applied-stands m h [] [] p q few = p
  applied-stands m h [] (t ∷ ts) p q few = elim q [ ]
  applied-stands m h (n ∷ ms) [] p q few = elim q [ ]
  applied-stands m h (n ∷ ms) (t ∷ ts) p q few = applied-stands (App m n) (App h t) ms ts (app-stands m h n t p q.0 (omega (arith, height-applied (App h t) ts))) q.1 few

  pub spell-stands : (f n : Tree) (ms ts : List Tree) → Stands f f → Stands n n → AllStand ms ts → height (spell f n ts) ≤ height_limit → Stands (spell f n ms) (spell f n ts)
  spell-stands f n [] [] p e q few = e
  spell-stands f n [] (t ∷ ts) p e q few = elim q [ ]
  spell-stands f n (m ∷ ms) [] p e q few = elim q [ ]
  spell-stands f n (m ∷ ms) (t ∷ ts) p e q few =
      app-stands (App f m) (App f t) (spell f n ms) (spell f n ts) (app-stands f f m t p q.0 (omega arith)) (spell-stands f n ms ts p e q.1 (omega arith)) few
