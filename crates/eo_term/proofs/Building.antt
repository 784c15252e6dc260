-- What calls that make terms return, said in another way.
use Rattle.std.proofs.Common.{◌≡◌, ℕ, Bool, List, true, sym, subst}
use Rattle.std.specs.Prelude.{Result, Ok, Err, IfOk, ◌↔◌}
use Rattle.std.specs.List.{list_any}
use Rattle.std.specs.Result.{IsErrAnd}
use Rattle.eo_term.specs.declared.table.TermRefused.{TermRefused}
use Rattle.eo_term.specs.declared.table.TermRefused.TheVariants as term
use Rattle.eo_term.specs.Builds.{TallWhere, OrTall, Builds, BuildsAll, AreTerms}
use Rattle.eo_term.specs.Growth.{IsTerm}
use Rattle.eo_term.specs.Refused.{IsTall}
use Rattle.eo_term.specs.Terms.{Terms, Interned}
use Rattle.eo_term.specs.Tree.{Tree, is_tall}

-- what is too tall makes another thing too tall
pub taller : (e : TermRefused) (a b : Bool) → (a ≡ true → b ≡ true) → TallWhere e a → TallWhere e b
taller term.Tall a b f h = f h
taller (term.Memory e) a b f h = h

-- the exit of a `?`
refused : {A : Type 0} (So : A → Type 0) (a : Bool) (r : Result A TermRefused) (e : TermRefused) (b : Bool) → IsErrAnd r (λ x. x ≡ e) → (b ≡ true → a ≡ true) → TallWhere e b → OrTall So a r
refused So a (Ok x) e b q f h = absurd q
refused So a (Err x) e b q f h = taller x b a f (subst (λ y. TallWhere y b) (sym q) h)

pub builds_refused : (t : Terms) (r : Result ℕ TermRefused) (u : Tree) (e : TermRefused) (b : Bool) → IsErrAnd r (λ x. x ≡ e) → (b ≡ true → is_tall u ≡ true) → TallWhere e b → Builds t r u
builds_refused t r u = refused (IsTerm t u) (is_tall u) r

pub builds_all_refused : (t : Terms) (r : Result (List ℕ) TermRefused) (us : List Tree) (e : TermRefused) (b : Bool) → IsErrAnd r (λ x. x ≡ e) → (b ≡ true → list_any is_tall us ≡ true) → TallWhere e b → BuildsAll t r us
builds_all_refused t r us = refused (AreTerms t us) (list_any is_tall us) r

-- what a refusal for its height says, as a test
pub tall_where : (e : TermRefused) (b : Bool) → (IsTall {X = ℕ} (Err e) → b ≡ true) → TallWhere e b
tall_where term.Tall b f = f tt
tall_where (term.Memory e) b f = tt

-- a term that the table makes
pub builds_interned : (old new : Terms) (r : Result ℕ TermRefused) (u : Tree) → IfOk r (λ i. Interned old u i new) → (IsTall r ↔ (is_tall u ≡ true)) → Builds new r u
builds_interned old new (Ok i) u h k = record { live = h.live; tree = h.tree }
builds_interned old new (Err e) u h k = tall_where e (is_tall u) k.0
