-- What is held before the first command.
use Rattle.std.specs.Prelude.{◌≡◌, List, take}
use Rattle.eo_sig.specs.Reading.{Kept, IsBelow, first_kept, signature}
use Rattle.eo_sig.specs.Signature.{first_signature}
use Rattle.eo_sig.specs.Usable.{IsUsable}
use Rattle.eo_term.specs.Terms.{first_trees}
use Rattle.eo_term.specs.Tree.{Tree}

-- a signature that declares only what is there from the start
pub record IsFirstSignature (k : Kept) : Type 0 where
  pub kept : k ≡ first_kept
  pub read : (ts : List Tree) → take 4 ts ≡ first_trees → signature ts k ≡ first_signature
  pub usable : (ts : List Tree) → take 4 ts ≡ first_trees → IsUsable (signature ts k)
  pub below : IsBelow 4 k
