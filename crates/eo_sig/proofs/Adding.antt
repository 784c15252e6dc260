-- A declaration that may be added.
use Rattle.std.proofs.Common.{◌≡◌, ℕ, ◌∷◌, ◌++◌, Bool, true, false, List, [], Option, Some, None, refl, sym, ap, ◌∙◌, subst}
use Rattle.std.specs.Prelude.{Result, Ok, Err, is_none, option_map, if◌then◌else◌}
use Rattle.std.specs.Option.{option_or}
use Rattle.eo_base.specs.declared.FaultName.{FaultName}
use Rattle.eo_base.specs.declared.FaultName.TheVariants as fault
use Rattle.std.proofs.lemmas.Option.{none-some}
use Rattle.eo_base.proofs.Tests.{is_nothing}
use Rattle.eo_term.specs.Tree.{Tree}
use Rattle.eo_term.specs.Terms.{tree_at}
use Rattle.eo_lit.specs.declared.LiteralClass.{LiteralClass}
use Rattle.eo_sig.specs.declared.records.Declared.{Declared}
use Rattle.eo_sig.specs.declared.records.Declared.TheVariants as declared
use Rattle.eo_sig.specs.Signature as sig
use Rattle.eo_sig.specs.Held.{first_literal}
use Rattle.eo_sig.specs.declared.records.ConstDecl.{ConstDecl}
use Rattle.eo_sig.specs.declared.refused.SigRefused.{SigRefused}
use Rattle.eo_sig.specs.declared.refused.SigRefused.TheVariants as refused
use Rattle.eo_sig.specs.Refused.{Tells, IsFaultOnly}
use Rattle.eo_sig.specs.Reading.{Kept, IsBelow, EntryBelow, Adds, read_constant, read_counts, write_counts, counts_in, read_entry, signature, macros, with_entry}
use Rattle.eo_sig.specs.Adding.{EntryIsFree, EntryIsOrdered, EntryIsSound, IsNew}
use Rattle.eo_sig.specs.Usable.{IsUsable, StaysUsable}
use Rattle.std.proofs.lemmas.Bool.{and_parts}
use Rattle.eo_sig.proofs.Readings.{adds_entry, below_entry, free_program, free_rule, literal_read}
use Rattle.eo_sig.proofs.Usable.{usable_constant, usable_program, usable_rule, usable_literal}

none_of : {X Y : Type 0} (f : X → Y) (o : Option X) → is_none (option_map f o) ≡ true → o ≡ None
none_of f None e = refl
none_of f (Some x) e = absurd (none-some x (sym (is_nothing (Some x) e)))

class_is_new : (ts : List Tree) (k : Kept) (l : LiteralClass) (b : Bool) (f : Option FaultName) → (if b then f else Some fault.Redeclared) ≡ None → is_none (sig.literal_type (signature ts k) l) ≡ b → sig.literal_type (signature [] k) l ≡ None
class_is_new ts k l true f e g =
    sym (literal_read [] l k.entries) ∙ ap (option_map (tree_at [])) (none_of (tree_at ts) (first_literal l k.entries) (ap is_none (literal_read ts l k.entries) ∙ g))
class_is_new ts k l false f e g = absurd (none-some _ (sym e))

pub new_entry : (ts : List Tree) (k : Kept) (x : Declared) → EntryIsFree k x → EntryIsSound ts k x → IsNew k x
new_entry ts k (declared.Const d n) h s = (and_parts _ _ h).1
new_entry ts k (declared.Program d) h s = free_program k d.name h
new_entry ts k (declared.Rule d) h s = free_rule k d.name h
new_entry ts k (declared.Literal l t) h s = class_is_new ts k l _ _ s refl

usable_entry : (ts : List Tree) (k : Kept) (x : Declared) → EntryIsSound ts k x → EntryIsOrdered ts x → IsUsable (signature ts k) → IsUsable (signature ts k ++ read_entry ts x ∷ [])
usable_entry ts k (declared.Const d n) s o h = usable_constant _ _ _ h s
usable_entry ts k (declared.Program d) s o h = usable_program _ _ h
usable_entry ts k (declared.Rule d) s o h = usable_rule _ _ h o
usable_entry ts k (declared.Literal l t) s o h = usable_literal _ _ _ h

-- what holds after a declaration that was added
module _ (k new : Kept) (x : Declared) (is : new ≡ with_entry x k) where
  pub is_added : (ts : List Tree) → Adds ts k (read_entry ts x) new
  is_added ts = subst (Adds ts k (read_entry ts x)) (sym is) (adds_entry ts k x)

  pub stays_with : (ts : List Tree) → (IsUsable (signature ts k) → IsUsable (signature ts k ++ read_entry ts x ∷ [])) → StaysUsable ts k new
  stays_with ts f h = subst (λ (n : Kept). IsUsable (signature ts n)) (sym is) (subst IsUsable (sym (adds_entry ts k x).signature) (f h))

  pub stays_usable : (ts : List Tree) → EntryIsSound ts k x → EntryIsOrdered ts x → StaysUsable ts k new
  stays_usable ts s o = stays_with ts (usable_entry ts k x s o)

  pub stays_below : (m : ℕ) → IsBelow m k → EntryBelow m x → IsBelow m new
  stays_below m h e = subst (IsBelow m) (sym is) (below_entry m k x h e)

-- ---- a constant that may be declared

module _ (S : sig.Signature) (ms : List sig.Macro) (d : sig.Constant) where
  abbrev named_fault : Option FaultName → Option FaultName
  named_fault f = option_or f (if sig.is_free_for S ms d then None else Some fault.Redeclared)

  -- what is wrong with it is told whatever its name
  pub declared_err : (r : Result (Unit {0}) SigRefused) (e : SigRefused) → r ≡ Err e → IsFaultOnly r → Tells r (sig.constant_fault d) → Tells r (sig.declare_fault S ms d)
  declared_err (Ok x) e g o h = absurd cc
  declared_err (Err refused.Redeclared) e g o h = ap named_fault h
  declared_err (Err refused.BadPattern) e g o h = ap named_fault h
  declared_err (Err refused.UnboundParam) e g o h = ap named_fault h
  declared_err (Err (refused.Memory m)) e g o h = absurd o

  pub declared_told : (b : Bool) → sig.constant_fault d ≡ None → sig.is_free_for S ms d ≡ b → sig.declare_fault S ms d ≡ (if b then None else Some fault.Redeclared)
  declared_told b e h = (λ i. option_or (e i) (if h i then None else Some fault.Redeclared))

-- the counts that are kept are those of the constant
pub counts_kept : (m : sig.Counts) → read_counts (write_counts m) ≡ m
counts_kept (sig.Exactly k) = refl
counts_kept (sig.From k) = refl

pub free_as : (ts : List Tree) (k : Kept) (d : ConstDecl) → sig.is_free_as (signature [] k) (macros [] k) d.name (sig.counts_of (read_constant ts d)) ≡ true → EntryIsFree k (declared.Const d (counts_in ts d))
free_as ts k d h = ap (sig.is_free_as (signature [] k) (macros [] k) d.name) (counts_kept (sig.counts_of (read_constant ts d))) ∙ h
