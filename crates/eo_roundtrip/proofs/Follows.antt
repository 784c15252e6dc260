-- The lines are those of the members that get one, in their order.
use Rattle.std.specs.Prelude.{◌≡◌, refl, ℕ, suc, Bool, true, false, List, [], ◌∷◌, ◌++◌, filter, cond, Some}
use Rattle.std.proofs.Common.{sym, ◌∙◌, ap, subst, inl, inr, append_assoc}
use Rattle.std.proofs.lemmas.List.Elements.{Contains-push}
use Rattle.eo_term.specs.Tree.{Tree}
use Rattle.eo_sig.specs.Signature.{Signature, Macro}
use Rattle.eo_session.specs.State.{State}
use Rattle.eo_show.specs.Lines.{Line, line_name, next_free, named_from, name_in}
use Rattle.eo_roundtrip.proofs.Layers.{HaveNames}
use Rattle.eo_show.specs.Written.{Ordered}
use Rattle.eo_roundtrip.proofs.Process.{Follows}
use Rattle.eo_show.proofs.Named.{AreIn, AllPassTest, found-after, not-found, are-in-more, are-in-push, named-pass}

module _ (macros : List Macro) (test : Tree → Bool) where
  module _ (start : State) (names : HaveNames start.signature) (lines : List Line) where
    abbrev S : Signature
    S = start.signature

    pub follows-from : (back front : List Tree) (before : List Line) (k : ℕ) → Ordered S front back → AreIn front before → AllPassTest test lines → lines ≡ before ++ named_from S macros k (filter test back) →
        Follows start names (name_in lines) back (named_from S macros k (filter test back))
    follows-from [] front before k o h pass e = refl
    follows-from (m ∷ back) front before k o h pass e = go (test m) refl e (follows-from back (front ++ m ∷ []))
      where
        go : (b : Bool) → test m ≡ b → lines ≡ before ++ named_from S macros k (cond b (m ∷ filter test back) (filter test back)) →
            ((before' : List Line) (k' : ℕ) → Ordered S (front ++ m ∷ []) back → AreIn (front ++ m ∷ []) before' → AllPassTest test lines → lines ≡ before' ++ named_from S macros k' (filter test back) →
            Follows start names (name_in lines) back (named_from S macros k' (filter test back))) →
            Follows start names (name_in lines) (m ∷ back) (named_from S macros k (cond b (m ∷ filter test back) (filter test back)))
        go true f g later =
            let name = line_name (next_free S macros k) in
            let l : Line = record { name = name; tree = m } in
            let rest = named_from S macros (suc (next_free S macros k)) (filter test back) in
            let found : name_in lines m ≡ Some name = ap (λ ls. name_in ls m) g ∙ found-after front before rest name m o.0.new h in
            inr (name, rest, refl, found, later (before ++ l ∷ []) (suc (next_free S macros k)) o.1 (are-in-push (front ++ m ∷ []) before l (are-in-more front m before h) (Contains-push front m)) pass (g ∙ sym (append_assoc before (l ∷ []) rest)))
        go false f g later = inl (not-found test lines m f pass, later before k o.1 (are-in-more front m before h) pass g)

    -- the lines of a list of members that are in order
    pub follows : (ms : List Tree) (k : ℕ) → Ordered S [] ms → lines ≡ named_from S macros k (filter test ms) → Follows start names (name_in lines) ms lines
    follows ms k o e =
        subst (Follows start names (name_in lines) ms) (sym e)
        (follows-from ms [] [] k o tt (subst (AllPassTest test) (sym e) (named-pass macros test S k ms)) e)
