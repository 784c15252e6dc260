-- What holds of all names: where the table grows, and inside a `let` or a binder.
use Rattle.std.specs.Prelude.{◌≡◌, ℕ, List, ◌++◌, length, map}
use Rattle.eo_sig.specs.Reading.{Kept}
use Rattle.eo_term.specs.Growth.{Grows}
use Rattle.eo_term.specs.Terms.{Terms, Since}
use Rattle.eo_term.specs.Tree.{Tree}
use Rattle.eo_names.specs.declared.locals.LocalName.{LocalName}
use Rattle.eo_names.specs.declared.usage.Head.{Head}
use Rattle.eo_names.specs.Binders.{pair_local}
use Rattle.eo_names.specs.Names.{Binding, binding_local, read_locals, read_pairs, AreBelow, BindingsBelow}
use Rattle.eo_names.specs.Ready.{IsReady}
use Rattle.eo_names.specs.Usage.{UseBelow}
use Rattle.eo_names.specs.Worlds.{World, world_of, made_in}

-- over the table new, names mean the trees that they meant over old, and all of these are there
pub record WorldStays (k : Kept) (ls : List LocalName) (old new : Terms) : Type 0 where
  pub world : world_of new k ls ≡ world_of old k ls
  pub ready : IsReady (length new.trees) k ls

-- and so it is wherever the table grows
abbrev pub NamesStay : Kept → List LocalName → Type 0
NamesStay k ls = (old new : Terms) → IsReady (length old.trees) k ls → Grows old new → WorldStays k ls old new

-- what is made of arguments is the same where the table grows
abbrev pub UseStays : Head → Type 0
UseStays u = (old new : Terms) (w : World) (args : List Tree) → UseBelow (length old.trees) u → Since old new → made_in w old u args ≡ made_in w new u args

-- what a `let` or a binder binds, before the names around it
pub record IsInside (bs : List Binding) (ls : List LocalName) : Type 0 where
  pub locals : (ts : List Tree) → read_locals ts (map binding_local bs ++ ls) ≡ map pair_local (read_pairs ts bs) ++ read_locals ts ls
  pub below : (n : ℕ) → BindingsBelow n bs → AreBelow n ls → AreBelow n (map binding_local bs ++ ls)
