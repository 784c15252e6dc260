-- The walk that finds members: those that are begun wait for their parts.
use Rattle.std.specs.Prelude.{◌≡◌, ℕ, zero, suc, ◌+◌, ◌<◌, Bool, true, false, if◌then◌else◌, List, [], ◌∷◌, ◌++◌, drop, map, fold, All, Result, Ok, Err}
use Rattle.eo_show.specs.declared.refused.ShowRefused.{ShowRefused}
use Rattle.eo_show.specs.declared.refused.ShowRefused.TheVariants.{Unprintable, Memory}
use Rattle.std.specs.List.{list_any}
use Rattle.eo_term.specs.Tree.{Tree, height, tree_eq, is_value}
use Rattle.eo_sig.specs.Signature.{Signature}
use Rattle.eo_term.specs.Terms.{Terms}
use Rattle.eo_show.specs.declared.Member.{Member}
use Rattle.eo_show.specs.declared.parts.Form.{Form}
use Rattle.eo_show.specs.declared.members.Frame.{Frame}
use Rattle.eo_show.specs.Forms.{form}
use Rattle.eo_show.specs.Members.{parts_of, with_members, members, has_no_spelling}
use Rattle.eo_show.specs.Plan.{member_tree, member_trees, IsLive, IsForm}

-- a member that is begun, and its parts that are not looked at yet
pub record Begun : Type 0 where
  pub member : Tree
  pub left : List Tree

abbrev pub is_found : List Tree → Tree → Bool
is_found found p = list_any (tree_eq p) found

-- a value below a height
pub record IsLower (h : ℕ) (t : Tree) : Type 0 where
  pub value : is_value t ≡ true
  pub lower : height t < h

-- so many of them are there at most, by how low they and their parts are
abbrev pub AreLower : ℕ → List Begun → Type 0
AreLower h [] = Unit {0}
AreLower zero (b ∷ bs) = ⊥
AreLower (suc h) (b ∷ bs) = IsLower (suc (suc h)) b.member × All (IsLower (suc h)) b.left × AreLower h bs

-- each lower than the one before it, and its parts lower than it
abbrev pub AreNested : ℕ → List Begun → Type 0
AreNested h [] = Unit {0}
AreNested h (b ∷ bs) = IsLower h b.member × All (IsLower (height b.member)) b.left × AreNested (height b.member) bs

-- none of them is found
abbrev pub AreNew : List Tree → List Begun → Type 0
AreNew found bs = All (λ b. is_found found b.member ≡ false) bs

module _ (S : Signature) where
  -- the members once those that are begun are done, the last of them first; the number bounds how deep they lie
  abbrev pub finished : ℕ → List Begun → List Tree → List Tree
  finished depth [] found = found
  finished zero (b ∷ bs) found = found
  finished (suc depth) (b ∷ bs) found = fold (with_members S depth) (finished depth bs found) b.left ++ b.member ∷ []

  -- how many turns a walk takes

  abbrev pub turns_for_all : (List Tree → Tree → ℕ) → (List Tree → Tree → List Tree) → List Tree → List Tree → ℕ
  turns_for_all turns next found [] = 0
  turns_for_all turns next found (p ∷ ps) = turns found p + turns_for_all turns next (next found p) ps

  abbrev pub turns_for : ℕ → List Tree → Tree → ℕ
  turns_for zero found p = 1
  turns_for (suc depth) found p =
      if is_found found p then 1 else suc (suc (turns_for_all (turns_for depth) (with_members S depth) found (parts_of S p)))

  abbrev pub turns_left : ℕ → List Begun → List Tree → ℕ
  turns_left depth [] found = 0
  turns_left zero (b ∷ bs) found = 0
  turns_left (suc depth) (b ∷ bs) found =
      turns_left depth bs found + suc (turns_for_all (turns_for depth) (with_members S depth) (finished depth bs found) b.left)

-- ---- as it is kept

module _ (S : Signature) (t : Terms) where
  -- the form of a member, which has a spelling
  abbrev pub HasForm : Member → Form → Type 0
  HasForm m f = IsForm S t (form S (member_tree t m)) f.shape f.parts.items × (has_no_spelling S (member_tree t m) ≡ false)

  abbrev pub HaveForms : List Member → List Form → Type 0
  HaveForms [] [] = Unit {0}
  HaveForms (m ∷ ms) (f ∷ fs) = HasForm m f × HaveForms ms fs
  HaveForms ms fs = ⊥

  abbrev pub begun_of : Frame → Begun
  begun_of fr = record { member = member_tree t fr.member; left = member_trees t (drop fr.next fr.form.parts.items) }

  abbrev pub all_begun : List Frame → List Begun
  all_begun frs = map begun_of frs

  abbrev pub IsFrame : Frame → Type 0
  IsFrame fr = IsLive t fr.member × HasForm fr.member fr.form

  -- what is found of the members of a tree, while some are begun
  pub record IsWalking (u : Tree) (found : List Member) (forms : List Form) (open_frames : List Frame) : Type 0 where
    pub live : All (IsLive t) found
    pub kept : HaveForms found forms
    pub frames : All IsFrame open_frames
    pub nested : AreNested (suc (height u)) (all_begun open_frames)
    pub new : AreNew (member_trees t found) (all_begun open_frames)
    pub finds : finished S (height u) (all_begun open_frames) (member_trees t found) ≡ members S u

  abbrev pub turns_in : Tree → List Member → List Frame → ℕ
  turns_in u found open_frames = turns_left S (height u) (all_begun open_frames) (member_trees t found)

  -- a frame of the member is put after the others
  pub record Begins (m : Member) (old new : List Frame) : Type 0 where
    pub frame : Frame
    pub pushed : new ≡ old ++ frame ∷ []
    pub member : frame.member ≡ m
    pub form : HasForm m frame.form
    pub first : frame.next ≡ 0

abbrev pub TellsUnprintable : ShowRefused → Type 0
TellsUnprintable Unprintable = Unit {0}
TellsUnprintable (Memory e) = ⊥

-- it is refused, and not because memory is out
abbrev pub IsUnprintable : {A : Type 0} → Result A ShowRefused → Type 0
IsUnprintable (Ok x) = ⊥
IsUnprintable (Err e) = TellsUnprintable e
