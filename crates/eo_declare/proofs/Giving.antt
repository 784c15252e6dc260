-- What calls that declare give, said in another way.
use Rattle.std.proofs.Common.{◌≡◌, ℕ, ◌<◌, Bool, true, List, [], length, ap, sym, subst, ◌∙◌}
use Rattle.std.specs.Prelude.{Result, Ok, Err, IfOk, None}
use Rattle.std.proofs.lemmas.List.Elements.{All-nil}
use Rattle.eo_base.specs.declared.FaultName.TheVariants.{TermHeight}
use Rattle.eo_base.specs.Answers.{Tells}
use Rattle.eo_base.specs.Checks.{Checked}
use Rattle.eo_sig.specs.declared.records.ConstDecl.{ConstDecl}
use Rattle.eo_sig.specs.Reading.{Kept, IsBelow, read_constant}
use Rattle.eo_sig.specs.Growth.{StaysUnder}
use Rattle.eo_term.specs.Tree.{Tree}
use Rattle.eo_term.specs.Terms.{Terms}
use Rattle.eo_term.specs.declared.table.TermRefused.{TermRefused}
use Rattle.eo_term.specs.declared.table.TermRefused.TheVariants as term
use Rattle.eo_term.specs.Refused.{IsTall}
use Rattle.eo_term.specs.Growth.{Grows}
use Rattle.eo_names.specs.declared.locals.LocalName.{LocalName}
use Rattle.eo_names.specs.declared.refused.ElabRefused.{ElabRefused}
use Rattle.eo_term.specs.Builds.{TallWhere}
use Rattle.eo_names.specs.Contexts.{Context, InProof, Several}
use Rattle.eo_sig.specs.Signature.{constant_fault}
use Rattle.eo_declare.specs.Declarations.{may_be_constant}
use Rattle.eo_declare.specs.Declaring.{MayRepeat}
use Rattle.eo_names.specs.Names.{AreBelow}
use Rattle.eo_names.specs.Refused.{told, of_term}
use Rattle.eo_names.specs.Ready.{IsReady}
use Rattle.eo_names.specs.Scopes.{read_file_kind}
use Rattle.eo_names.specs.declared.scope.FileKind as code
use Rattle.eo_elab.specs.Worlds.{context_in, context_at}

-- no name is local
pub none_ready : (k : Kept) (n : ℕ) (ls : List LocalName) → ls ≡ [] → IsBelow n k → IsReady n k ls
none_ready k n ls e h = record { below = h; names = subst (AreBelow n) (sym e) (All-nil (λ (l : LocalName). l.id < n)) }

-- a table that grows keeps what is read
pub same_context : (k : Kept) (old new : Terms) → StaysUnder k → IsBelow (length old.trees) k → Grows old new → context_in new k ≡ context_in old k
same_context k old new law h g = let s = (law old new h g).stays in λ i. record { signature = s.signature i; macros = s.macros i; file_kind = InProof; naming = Several }

pub same_context_at : (x : code.FileKind) (k : Kept) (old new : Terms) → StaysUnder k → IsBelow (length old.trees) k → Grows old new → context_at new k x ≡ context_at old k x
same_context_at x k old new law h g = let s = (law old new h g).stays in λ i. record { signature = s.signature i; macros = s.macros i; file_kind = read_file_kind x; naming = Several }

-- a term that was not made is refused for its height
pub refused_as : {A : Type 0} (X : Type 0) (r : TermRefused) (whole : Checked A) → (IsTall {X = X} (Err r) → whole ≡ Err TermHeight) → Tells told (of_term r) whole
refused_as X term.Tall whole h = h tt
refused_as X (term.Memory e) whole h = tt

pub tall_told : {A : Type 0} (e : TermRefused) (b : Bool) (whole : Checked A) → (b ≡ true → whole ≡ Err TermHeight) → TallWhere e b → Tells told (of_term e) whole
tall_told term.Tall b whole f h = f h
tall_told (term.Memory e) b whole f h = tt

-- a sound constant of a name that may be declared
pub may_repeat : (c : Context) (ts : List Tree) (name : List ℕ) (r : Result ConstDecl ElabRefused) → may_be_constant c name ≡ true → IfOk r (λ d. constant_fault (read_constant ts d) ≡ None) → IfOk r (λ d. d.name ≡ name)
    → IfOk r (λ d. MayRepeat c (read_constant ts d))
may_repeat c ts name (Ok d) free sound named = record { sound = sound; name = ap (may_be_constant c) named ∙ free }
may_repeat c ts name (Err e) free sound named = tt
