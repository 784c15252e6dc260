-- The bytes that a value is shown by are read as its lines, and these are accepted.
use Rattle.std.specs.Prelude.{◌≡◌, true, List}
use Rattle.std.proofs.Common.{sym, subst}
use Rattle.eo_names.specs.Contexts.{Several}
use Rattle.eo_base.specs.Limits.{limits}
use Rattle.eo_sexp.specs.ReadBack.{AreLines, LinesReadBack}
use Rattle.eo_sig.specs.Signature.{Signature, Macro}
use Rattle.eo_term.specs.Tree.{Tree, is_value}
use Rattle.eo_session.specs.State.{State}
use Rattle.eo_show.specs.Lines.{lines_of, shown_lines, shown}
use Rattle.eo_show.specs.Printable.{ArePrintedNames, CanShow}
use Rattle.eo_show.specs.Written.{AreMembers, HaveNewNames}
use Rattle.eo_roundtrip.specs.Shown.{IsNamed, ShowsBack}
use Rattle.eo_roundtrip.proofs.ReadsBack.{steps-back, StepsBack}

module _ (read : LinesReadBack limits) (members : (S : Signature) (t : Tree) → is_value t ≡ true → AreMembers S t)
    (new : (S : Signature) (macros : List Macro) (t : Tree) → CanShow S macros t → HaveNewNames S macros (shown_lines S macros t))
    (lines : (S : Signature) (macros : List Macro) (t : Tree) → ArePrintedNames S → CanShow S macros t → AreLines limits (lines_of S (shown_lines S macros t))) where
  pub shows-back : (st : State) → st.naming ≡ Several → IsNamed st.signature → ShowsBack st
  unfolding shown
  shows-back st several named t can =
      let S = st.signature in
      let back = subst (λ (x : State). StepsBack x t) (λ i. record st { naming = sym several i }) (steps-back st t named.read can (members S t can.value) (new S st.macros t can)) in
      record {
        read = read (lines_of S (shown_lines S st.macros t)) (lines S st.macros t named.printed can);
        end = back.end;
        accepted = back.accepted;
        before = back.before;
        name = back.name;
        last = back.last;
        tree = back.tree;
        means = back.means;
        evaluates = back.evaluates;
      }
