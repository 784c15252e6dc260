-- What a turn of the walk leaves.
use Rattle.std.specs.Prelude.{◌≡◌, refl, ℕ, zero, suc, ◌+◌, ◌<◌, Bool, true, false, ◌||◌, List, [], ◌∷◌, ◌++◌, length, drop, slice_get, Some, None, is_some, All}
use Rattle.std.specs.List.{list_any}
use Rattle.std.proofs.Common.{sym, ap, ap₂, ◌∙◌, subst, arith, append_assoc}
use Rattle.std.proofs.lemmas.List.{map-append, at_drop_more}
use Rattle.std.proofs.lemmas.List.Elements.{All-nil, All-cons, All-push, All-head, All-tail}
use Rattle.std.proofs.lemmas.Option.{slice_get_within, get_or_from_slice_get}
use Rattle.eo_base.proofs.Tests.{clash, or_first, or_second}
use Rattle.eo_term.specs.Tree.{Tree, height, is_value, tree_eq}
use Rattle.eo_term.specs.Terms.{Terms}
use Rattle.eo_term.proofs.Equality.{tree_same}
use Rattle.eo_sig.specs.Signature.{Signature}
use Rattle.eo_show.specs.declared.Member.{Member}
use Rattle.eo_show.specs.declared.parts.Form.{Form}
use Rattle.eo_show.specs.declared.members.Frame.{Frame}
use Rattle.eo_show.specs.Members.{parts_of, members, has_no_spelling, is_unprintable}
use Rattle.eo_show.specs.Plan.{member_tree, member_trees, IsLive}
use Rattle.eo_show.specs.Walking.{Begun, is_found, IsLower, AreLower, AreNested, AreNew, finished, turns_left, HasForm, HaveForms, begun_of, all_begun, IsFrame, IsWalking, turns_in, Begins}
use Rattle.eo_show.proofs.FormFacts.{some_height}
use Rattle.eo_show.proofs.Lower.{parts-below}
use Rattle.eo_show.proofs.Turns.{begun, passed, passed-shorter, started, started-shorter, done, done-shorter, nested-lower, passed-nested, started-nested, done-nested, done-new, ends-with, begin-alone}

past : {X : Type 0} (xs : List X) (n : ℕ) → slice_get xs n ≡ None → drop n xs ≡ []
past [] zero e = refl
past [] (suc n) e = refl
past (x ∷ xs) zero e = clash (sym (ap is_some e))
past (x ∷ xs) (suc n) e = past xs n e

front : {X : Type 0} (P : X → Type 0) (xs : List X) (y : X) → All P (xs ++ y ∷ []) → All P xs × P y
front P [] y all = (All-nil P, All-head P y [] all)
front P (x ∷ xs) y all = let r = front P xs y (All-tail P x (xs ++ y ∷ []) all) in (All-cons P x xs (All-head P x (xs ++ y ∷ []) all) r.0, r.1)

module _ (S : Signature) (t : Terms) where
  forms-push : (ms : List Member) (fs : List Form) (m : Member) (f : Form) → HaveForms S t ms fs → HasForm S t m f → HaveForms S t (ms ++ m ∷ []) (fs ++ f ∷ [])
  forms-push [] [] m f h is = (is, tt)
  forms-push [] (g ∷ fs) m f h is = absurd h
  forms-push (n ∷ ms) [] m f h is = absurd h
  forms-push (n ∷ ms) (g ∷ fs) m f h is = (h.0, forms-push ms fs m f h.1 is)

  pub all_printable : (ms : List Member) (fs : List Form) → HaveForms S t ms fs → list_any (has_no_spelling S) (member_trees t ms) ≡ false
  all_printable [] [] h = refl
  all_printable [] (g ∷ fs) h = absurd h
  all_printable (n ∷ ms) [] h = absurd h
  all_printable (m ∷ ms) (f ∷ fs) h = ap₂ (λ (x y : Bool). x || y) h.0.1 (all_printable ms fs h.1)

  unspelled : (us : List Tree) (u : Tree) → is_found us u ≡ true → has_no_spelling S u ≡ true → list_any (has_no_spelling S) us ≡ true
  unspelled [] u e h = clash e
  unspelled (v ∷ us) u e h = go (λ later. unspelled us u later h) (tree_eq u v) refl e
    where
      go : (is_found us u ≡ true → list_any (has_no_spelling S) us ≡ true) → (b : Bool) → tree_eq u v ≡ b → (b || is_found us u) ≡ true → (has_no_spelling S v || list_any (has_no_spelling S) us) ≡ true
      go inner true q e = or_first (has_no_spelling S v) (list_any (has_no_spelling S) us) (ap (has_no_spelling S) (sym (tree_same u v q)) ∙ h)
      go inner false q e = or_second (has_no_spelling S v) (list_any (has_no_spelling S) us) (inner e)

  module _ (u : Tree) (found : List Member) (forms : List Form) (frames : List Frame) (fr : Frame) (w : IsWalking S t u found forms (frames ++ fr ∷ [])) where
    abbrev trees : List Tree
    trees = member_trees t found

    split : all_begun S t (frames ++ fr ∷ []) ≡ all_begun S t frames ++ begun_of S t fr ∷ []
    split = map-append (begun_of S t) frames (fr ∷ [])

    pub own_frame : IsFrame S t fr
    own_frame = (front (IsFrame S t) frames fr w.frames).1

    own_nested : AreNested (suc (height u)) (all_begun S t frames ++ begun_of S t fr ∷ [])
    own_nested = subst (AreNested (suc (height u))) split w.nested

    own_lower : AreLower (height u) (all_begun S t frames ++ begun_of S t fr ∷ [])
    own_lower = nested-lower (all_begun S t frames ++ begun_of S t fr ∷ []) (suc (height u)) (height u) (omega arith) own_nested

    pub own_new : AreNew trees (all_begun S t frames) × (is_found trees (member_tree t fr.member) ≡ false)
    own_new = front (λ (b : Begun). is_found trees b.member ≡ false) (all_begun S t frames) (begun_of S t fr) (subst (AreNew trees) split w.new)

    own_finds : finished S (height u) (all_begun S t frames ++ begun_of S t fr ∷ []) trees ≡ members S u
    own_finds = ap (λ bs. finished S (height u) bs trees) (sym split) ∙ w.finds

    own_turns : turns_in S t u found (frames ++ fr ∷ []) ≡ turns_left S (height u) (all_begun S t frames ++ begun_of S t fr ∷ []) trees
    own_turns = ap (λ bs. turns_left S (height u) bs trees) split

    -- ---- all its parts were looked at

    module _ (e : slice_get fr.form.parts.items fr.next ≡ None) (new : List Member) (later : List Form) (n : new ≡ found ++ fr.member ∷ []) (k : later ≡ forms ++ fr.form ∷ []) where
      ended : begun_of S t fr ≡ begun (member_tree t fr.member) []
      ended = ap (λ ms. begun (member_tree t fr.member) (member_trees t ms)) (past fr.form.parts.items fr.next e)

      grown : member_trees t new ≡ trees ++ member_tree t fr.member ∷ []
      grown = ap (member_trees t) n ∙ map-append (member_tree t) found (fr.member ∷ [])

      low : AreLower (height u) (all_begun S t frames ++ begun (member_tree t fr.member) [] ∷ [])
      low = subst (λ b. AreLower (height u) (all_begun S t frames ++ b ∷ [])) ended own_lower

      pub done-walking : IsWalking S t u new later frames
      done-walking =
          let inside = done-nested (suc (height u)) (all_begun S t frames) (begun_of S t fr) own_nested in
          record {
            live = subst (All (IsLive t)) (sym n) (All-push (IsLive t) found fr.member w.live own_frame.0);
            kept = subst (HaveForms S t new) (sym k) (subst (λ ms. HaveForms S t ms (forms ++ fr.form ∷ [])) (sym n) (forms-push found forms fr.member fr.form w.kept own_frame.1));
            frames = (front (IsFrame S t) frames fr w.frames).0;
            nested = inside.0;
            new = subst (λ us. AreNew us (all_begun S t frames)) (sym grown) (done-new (all_begun S t frames) trees (member_tree t fr.member) own_new.0 inside.1);
            finds =
                ap (finished S (height u) (all_begun S t frames)) grown
                ∙ sym (done S (height u) (all_begun S t frames) (member_tree t fr.member) trees low)
                ∙ ap (λ b. finished S (height u) (all_begun S t frames ++ b ∷ []) trees) (sym ended) ∙ own_finds;
          }

      pub done-less : turns_in S t u new frames < turns_in S t u found (frames ++ fr ∷ [])
      done-less =
          omega (arith, own_turns, ap (λ b. turns_left S (height u) (all_begun S t frames ++ b ∷ []) trees) ended, ap (turns_left S (height u) (all_begun S t frames)) grown, done-shorter S (height u) (all_begun S t frames) (member_tree t fr.member) trees low)

    -- ---- it has a part to look at

    module _ (part : Member) (e : slice_get fr.form.parts.items fr.next ≡ Some part) where
      pub part-within : fr.next < length fr.form.parts.items
      part-within = slice_get_within fr.form.parts.items fr.next part e

      pub part-live : IsLive t part
      part-live = subst (IsLive t) (get_or_from_slice_get fr.form.parts.items fr.next part part e) (own_frame.1.0.parts.live fr.next part part-within)

      abbrev after : Frame
      after = record { member = fr.member; form = fr.form; next = fr.next + 1 }

      abbrev m : Tree
      m = member_tree t fr.member

      abbrev left : List Tree
      left = member_trees t (drop (fr.next + 1) fr.form.parts.items)

      looks : begun_of S t fr ≡ begun m (member_tree t part ∷ left)
      looks =
          ap (begun m) (at_drop_more (member_trees t) fr.form.parts.items fr.next part part-within ∙ ap (λ p. member_tree t p ∷ left) (get_or_from_slice_get fr.form.parts.items fr.next part part e))

      looks-lower : AreLower (height u) (all_begun S t frames ++ begun m (member_tree t part ∷ left) ∷ [])
      looks-lower = subst (λ b. AreLower (height u) (all_begun S t frames ++ b ∷ [])) looks own_lower

      looks-nested : AreNested (suc (height u)) (all_begun S t frames ++ begun m left ∷ []) × IsLower (height m) (member_tree t part)
      looks-nested = passed-nested (suc (height u)) (all_begun S t frames) m (member_tree t part) left (subst (λ b. AreNested (suc (height u)) (all_begun S t frames ++ b ∷ [])) looks own_nested)

      after-split : all_begun S t (frames ++ after ∷ []) ≡ all_begun S t frames ++ begun m left ∷ []
      after-split = map-append (begun_of S t) frames (after ∷ [])

      after-frames : All (IsFrame S t) (frames ++ after ∷ [])
      after-frames = All-push (IsFrame S t) frames after (front (IsFrame S t) frames fr w.frames).0 own_frame

      after-new : AreNew trees (all_begun S t frames ++ begun m left ∷ [])
      after-new = All-push (λ (b : Begun). is_found trees b.member ≡ false) (all_begun S t frames) (begun m left) own_new.0 own_new.1

      pub pass-walking : is_found trees (member_tree t part) ≡ true → (new : List Frame) → new ≡ frames ++ after ∷ [] → IsWalking S t u found forms new
      pass-walking known new n = subst (IsWalking S t u found forms) (sym n) (record {
        live = w.live;
        kept = w.kept;
        frames = after-frames;
        nested = subst (AreNested (suc (height u))) (sym after-split) looks-nested.0;
        new = subst (AreNew trees) (sym after-split) after-new;
        finds =
            ap (λ bs. finished S (height u) bs trees) after-split
            ∙ sym (passed S (height u) (all_begun S t frames) m (member_tree t part) left trees known)
            ∙ ap (λ b. finished S (height u) (all_begun S t frames ++ b ∷ []) trees) (sym looks) ∙ own_finds;
      })

      pub pass-less : is_found trees (member_tree t part) ≡ true → (new : List Frame) → new ≡ frames ++ after ∷ [] → turns_in S t u found new < turns_in S t u found (frames ++ fr ∷ [])
      pass-less known new n =
          omega (arith, own_turns, ap (turns_in S t u found) n, ap (λ bs. turns_left S (height u) bs trees) after-split, ap (λ b. turns_left S (height u) (all_begun S t frames ++ b ∷ []) trees) looks, passed-shorter S (height u) (all_begun S t frames) m (member_tree t part) left trees looks-lower known)

      -- ---- the part is new, and begun

      abbrev p : Tree
      p = member_tree t part

      abbrev fresh : Begun
      fresh = begun p (parts_of S p)

      two : (all_begun S t frames ++ begun m left ∷ []) ++ fresh ∷ [] ≡ all_begun S t frames ++ begun m left ∷ fresh ∷ []
      two = append_assoc (all_begun S t frames) (begun m left ∷ []) (fresh ∷ [])

      parts-lower : All (IsLower (height p)) (parts_of S p)
      parts-lower = parts-below S p looks-nested.1.value

      start-finds : is_found trees p ≡ false → finished S (height u) ((all_begun S t frames ++ begun m left ∷ []) ++ fresh ∷ []) trees ≡ members S u
      start-finds unknown =
          ap (λ bs. finished S (height u) bs trees) two
          ∙ sym (started S (height u) (all_begun S t frames) m p left trees unknown)
          ∙ ap (λ b. finished S (height u) (all_begun S t frames ++ b ∷ []) trees) (sym looks) ∙ own_finds

      start-nested : AreNested (suc (height u)) ((all_begun S t frames ++ begun m left ∷ []) ++ fresh ∷ [])
      start-nested = started-nested (suc (height u)) (all_begun S t frames) m p left (parts_of S p) looks-nested.0 looks-nested.1 parts-lower

      pub start-unprintable : is_found trees p ≡ false → has_no_spelling S p ≡ true → is_unprintable S u ≡ true
      unfolding is_unprintable
      start-unprintable unknown bad =
          let bs = (all_begun S t frames ++ begun m left ∷ []) in
          unspelled (members S u) p (ap (λ us. is_found us p) (sym (start-finds unknown)) ∙ ends-with S (height u) bs fresh trees (nested-lower (bs ++ fresh ∷ []) (suc (height u)) (height u) (omega arith) start-nested)) bad

      module _ (unknown : is_found trees p ≡ false) (new : List Frame) (b : Begins S t part (frames ++ after ∷ []) new) where
        begun-is : begun_of S t b.frame ≡ fresh
        begun-is =
            ap₂ (λ v n. begun (member_tree t v) (member_trees t (drop n b.frame.form.parts.items))) b.member b.first
            ∙ ap (begun p) b.form.0.parts.trees

        new-split : all_begun S t new ≡ (all_begun S t frames ++ begun m left ∷ []) ++ fresh ∷ []
        new-split = ap (all_begun S t) b.pushed ∙ map-append (begun_of S t) (frames ++ after ∷ []) (b.frame ∷ []) ∙ ap₂ (λ bs x. bs ++ x ∷ []) after-split begun-is

        pub start-walking : IsWalking S t u found forms new
        start-walking = record {
          live = w.live;
          kept = w.kept;
          frames = subst (All (IsFrame S t)) (sym b.pushed) (All-push (IsFrame S t) (frames ++ after ∷ []) b.frame after-frames (subst (λ v. IsLive t v × HasForm S t v b.frame.form) (sym b.member) (part-live, b.form)));
          nested = subst (AreNested (suc (height u))) (sym new-split) start-nested;
          new = subst (AreNew trees) (sym new-split) (All-push (λ (b : Begun). is_found trees b.member ≡ false) (all_begun S t frames ++ begun m left ∷ []) fresh after-new unknown);
          finds = ap (λ bs. finished S (height u) bs trees) new-split ∙ start-finds unknown;
        }

        pub start-less : turns_in S t u found new < turns_in S t u found (frames ++ fr ∷ [])
        start-less =
            omega (arith, own_turns, ap (λ bs. turns_left S (height u) bs trees) new-split, ap (λ bs. turns_left S (height u) bs trees) two, ap (λ b. turns_left S (height u) (all_begun S t frames ++ b ∷ []) trees) looks, started-shorter S (height u) (all_begun S t frames) m p left trees looks-lower (some_height p) unknown)

  -- ---- the first and the last turn

  module _ (u : Tree) (value : is_value u ≡ true) (v : Member) (live : IsLive t v) (same : member_tree t v ≡ u) where
    abbrev top : Begun
    top = begun u (parts_of S u)

    top-nested : AreNested (suc (height u)) (top ∷ [])
    top-nested = (record { value = value; lower = omega arith }, parts-below S u value, tt)

    top-finds : finished S (height u) (top ∷ []) [] ≡ members S u
    unfolding members
    top-finds = sym (begin-alone S (height u) u)

    pub first-unprintable : has_no_spelling S (member_tree t v) ≡ true → is_unprintable S u ≡ true
    unfolding is_unprintable
    first-unprintable bad =
        unspelled (members S u) u (ap (λ us. is_found us u) (sym top-finds) ∙ ends-with S (height u) [] top [] (nested-lower (top ∷ []) (suc (height u)) (height u) (omega arith) top-nested)) (ap (has_no_spelling S) (sym same) ∙ bad)

    pub first-walking : (new : List Frame) → Begins S t v [] new → IsWalking S t u [] [] new
    first-walking new b =
        let is : begun_of S t b.frame ≡ top =
        ap₂ (λ x n. begun (member_tree t x) (member_trees t (drop n b.frame.form.parts.items))) b.member b.first
        ∙ ap₂ begun same (b.form.0.parts.trees ∙ ap (parts_of S) same) in
        let all : all_begun S t new ≡ top ∷ [] = ap (all_begun S t) b.pushed ∙ ap (λ x. x ∷ []) is in
        record {
          live = All-nil (IsLive t);
          kept = tt;
          frames = subst (All (IsFrame S t)) (sym b.pushed) (All-cons (IsFrame S t) b.frame [] (subst (λ v. IsLive t v × HasForm S t v b.frame.form) (sym b.member) (live, b.form)) (All-nil (IsFrame S t)));
          nested = subst (AreNested (suc (height u))) (sym all) top-nested;
          new = subst (AreNew []) (sym all) (All-cons (λ (b : Begun). is_found [] b.member ≡ false) top [] refl (All-nil (λ (b : Begun). is_found [] b.member ≡ false)));
          finds = ap (λ bs. finished S (height u) bs []) all ∙ top-finds;
        }

  pub last-members : (u : Tree) (found : List Member) (forms : List Form) (frames : List Frame) → IsWalking S t u found forms frames → frames ≡ [] → (member_trees t found ≡ members S u) × (is_unprintable S u ≡ false)
  unfolding is_unprintable
  last-members u found forms frames w e =
      let finds = ap (λ fs. finished S (height u) (all_begun S t fs) (member_trees t found)) (sym e) ∙ w.finds in
      (finds, ap (list_any (has_no_spelling S)) (sym finds) ∙ all_printable found forms w.kept)
