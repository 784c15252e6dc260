-- What calls answer, said in another way.
use Rattle.std.proofs.Common.{◌≡◌, ℕ, suc, Bool, true, List, [], refl, sym, subst, ap}
use Rattle.std.specs.Prelude.{Result, Ok, Err, IfOk}
use Rattle.std.specs.Result.{IsErrAnd}
use Rattle.eo_base.specs.declared.FaultName.TheVariants.{TermHeight}
use Rattle.eo_base.specs.Answers.{Tells}
use Rattle.eo_base.specs.Checks.{Checked}
use Rattle.eo_base.proofs.Answering.{tells_through}
use Rattle.eo_term.specs.declared.table.TermRefused.{TermRefused}
use Rattle.eo_term.specs.declared.table.TermRefused.TheVariants as term
use Rattle.eo_term.specs.Refused.{IsTall}
use Rattle.eo_term.specs.Terms.{Terms, tree_at}
use Rattle.eo_term.specs.Tree.{Tree, is_tall}
use Rattle.eo_names.specs.declared.folding.Turn.{Turn}
use Rattle.eo_names.specs.declared.refused.ElabRefused.{ElabRefused}
use Rattle.eo_term.specs.Builds.{TallWhere, Builds}
use Rattle.eo_pattern.specs.Matching.{Assignment, put}
use Rattle.eo_pattern.specs.Steps.{IsMade}
use Rattle.eo_names.specs.Gives.{GivesTree, GivesTerm, GivesTurn}
use Rattle.eo_names.specs.Readers.{with_named_terms}
use Rattle.eo_names.specs.Refused.{told, of_term}
use Rattle.eo_names.specs.Worlds.{World, turned_in}

-- ---- terms that may be too tall

-- a term with the values of its parameters substituted
pub builds_put : (σ : Assignment) (ts : List Tree) (k : ℕ) (new : Terms) (r : Result ℕ TermRefused) → IfOk r (IsMade σ ts k new.trees) → (IsTall r → is_tall (put σ (tree_at ts k)) ≡ true) → Builds new r (put σ (tree_at ts k))
builds_put σ ts k new (Ok i) h t = record { live = h.live; tree = h.tree }
builds_put σ ts k new (Err term.Tall) h t = t tt
builds_put σ ts k new (Err (term.Memory e)) h t = tt

-- the height as a fault
pub tall_told : {A : Type 0} (e : TermRefused) (b : Bool) (o : Checked A) → (b ≡ true → o ≡ Err TermHeight) → TallWhere e b → Tells told (of_term e) o
tall_told term.Tall b o f h = f h
tall_told (term.Memory e) b o f h = tt

-- ---- what is found in a world

pub turn_fault : (w : World) (t : Terms) (r : Result Turn ElabRefused) (k : ℕ) (us : List Tree) (e : ElabRefused) → IsErrAnd r (λ x. x ≡ e) → ((turns : ℕ) → Tells told e (turned_in w (suc turns) k us)) → GivesTurn w t r k us
turn_fault w t (Ok a) k us e q h = absurd q
turn_fault w t (Err x) k us e q h = subst (λ y. (turns : ℕ) → Tells told y (turned_in w (suc turns) k us)) (sym q) h

-- the same with no label
pub labelled : (t : Terms) (r : Result ℕ ElabRefused) (o : Checked Tree) → GivesTree t r o → GivesTerm t r (with_named_terms [] o)
labelled t (Ok i) o h = record { live = h.live; is = ap (with_named_terms []) h.is }
labelled t (Err e) o h = tells_through told (with_named_terms []) (λ x. refl) e o h
