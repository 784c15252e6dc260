-- What a declaration of any kind is to be, so that it may be added.
use Rattle.std.specs.Prelude.{◌≡◌, ℕ, true, None, List, [], Option}
use Rattle.eo_base.specs.declared.FaultName.{FaultName}
use Rattle.eo_term.specs.Tree.{Tree}
use Rattle.eo_sig.specs.declared.records.Declared.{Declared}
use Rattle.eo_sig.specs.declared.records.Declared.TheVariants as declared
use Rattle.eo_sig.specs.declared.records.Counts.{Counts}
use Rattle.eo_sig.specs.Reading.{Kept, IsFree, IsFreeRule, read_counts, read_entry, signature, macros}
use Rattle.eo_sig.specs.Signature.{Signature, SignatureEntry, IsConstant, IsProgram, IsRule, IsLiteralType, constant_fault, program_fault, rule_fault, literal_type_fault}
use Rattle.eo_sig.specs.Signature as sig
use Rattle.eo_sig.specs.Usable.{AreOrdered}

-- what is wrong with a declaration after these, whatever its name
abbrev pub entry_fault : Signature → SignatureEntry → Option FaultName
entry_fault S (IsConstant c n) = constant_fault c
entry_fault S (IsProgram p) = program_fault p
entry_fault S (IsRule r) = rule_fault S r
entry_fault S (IsLiteralType l t) = literal_type_fault S l t

-- a constant of the name may take these numbers of arguments; no tree plays a part in it
abbrev pub IsFreeAs : Kept → List ℕ → Counts → Type 0
IsFreeAs k name n = sig.is_free_as (signature [] k) (macros [] k) name (read_counts n) ≡ true

-- the declaration may get its name, if it has one
abbrev pub EntryIsFree : Kept → Declared → Type 0
EntryIsFree k (declared.Const d n) = IsFreeAs k d.name n
EntryIsFree k (declared.Program d) = IsFree k d.name
EntryIsFree k (declared.Rule d) = IsFreeRule k d.name
EntryIsFree k (declared.Literal l t) = Unit {0}

-- the type of each parameter of a rule uses earlier parameters only
abbrev pub EntryIsOrdered : List Tree → Declared → Type 0
EntryIsOrdered ts (declared.Const d n) = Unit {0}
EntryIsOrdered ts (declared.Program d) = Unit {0}
EntryIsOrdered ts (declared.Rule d) = AreOrdered ts d.params
EntryIsOrdered ts (declared.Literal l t) = Unit {0}

-- nothing is wrong with the declaration over these trees
abbrev pub EntryIsSound : List Tree → Kept → Declared → Type 0
EntryIsSound ts k x = entry_fault (signature ts k) (read_entry ts x) ≡ None

-- No declaration of its kind has its name, or its class of literals. A constant is apart from those of its name.
abbrev pub IsNew : Kept → Declared → Type 0
IsNew k (declared.Const d n) = sig.is_apart (signature [] k) d.name (read_counts n) ≡ true
IsNew k (declared.Program d) = sig.program_named (signature [] k) d.name ≡ None
IsNew k (declared.Rule d) = sig.rule_named (signature [] k) d.name ≡ None
IsNew k (declared.Literal l t) = sig.literal_type (signature [] k) l ≡ None
