-- What names mean, over the terms of a table.
use Rattle.std.specs.Prelude.{◌≡◌, ℕ, List, length}
use Rattle.eo_sig.specs.Reading.{Kept, IsBelow, signature, macros}
use Rattle.eo_term.specs.Tree.{Tree}
use Rattle.eo_names.specs.declared.locals.LocalName.{LocalName}
use Rattle.eo_names.specs.Contexts.{Context, InProof, Several}
use Rattle.eo_names.specs.Names.{read_locals, AreBelow}

-- what names mean in a signature or a proof, over the trees of a table
abbrev pub context : List Tree → Kept → Context
context ts k = record { signature = signature ts k; macros = macros ts k; file_kind = InProof; naming = Several }

-- all that names mean are terms below n
pub record IsReady (n : ℕ) (k : Kept) (ls : List LocalName) : Type 0 where
  pub below : IsBelow n k
  pub names : AreBelow n ls

-- over the trees new, names mean the trees that they meant over old, and all of these are there
pub record Keeps (k : Kept) (ls : List LocalName) (old new : List Tree) : Type 0 where
  pub context : context new k ≡ context old k
  pub names : read_locals new ls ≡ read_locals old ls
  pub ready : IsReady (length new) k ls
