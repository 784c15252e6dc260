-- A tree that is in a block already need not be evaluated again: its evaluation there has the outcome, and is no deeper than may be.
use Rattle.std.specs.Prelude.{◌≡◌, ℕ, ◌≤◌, true, List, Option, Some}
use Rattle.std.specs.List.{list_all}
use Rattle.std.proofs.Common.{sym, ◌∙◌, ap, subst}
use Rattle.eo_base.specs.Limits.{calls_limit}
use Rattle.eo_term.specs.Tree.{Tree, is_value, is_closed}
use Rattle.eo_sig.specs.Signature.{Signature}
use Rattle.eo_stack.specs.Evaluation.{Value, Call, Begun, body_of, eval}
use Rattle.eo_cert.specs.Stated.{Evaluated}
use Rattle.eo_cert.specs.Traces.{IsIn, IsEvaluated, Serves}
use Rattle.eo_cert.proofs.FoundLines.{has_line}
use Rattle.eo_cert.proofs.OneEach.{block_one}

pub known_line : (S : Signature) → ((k : ℕ) (t : Tree) (c : Begun) (v : Tree) (d : Begun) → eval S calls_limit k t c ≡ (Value v, d) → is_value v ≡ true) → ((x : Call) (body : Tree) → list_all is_value x.arguments ≡ true → body_of S x ≡ Some body → is_closed body ≡ true) → (es : List Evaluated) (calls : List Call) (t : Tree) (o : Option Tree) (k : ℕ) (c d : Begun) (e : Evaluated) → IsEvaluated S es calls t o k c d → IsIn es e → e.term ≡ t → Serves e calls o k d
known_line S fit bodies es calls t o k c d e h is_in term =
    let l = has_line S calls_limit fit bodies k t h.low h.closed c d o h.ends es calls h.is_block h.covers in
    let same = block_one S l.block l.calls l.is_block e l.last (l.longer e is_in) l.is_in (term ∙ sym l.term) in
    record {
      outcome = ap (λ (x : Evaluated). x.outcome) same ∙ l.outcome;
      shallow = subst (λ (x : Evaluated). x.depth ≤ k) (sym same) l.shallow;
      covers = λ x i. l.grows x (h.covers x i);
    }
