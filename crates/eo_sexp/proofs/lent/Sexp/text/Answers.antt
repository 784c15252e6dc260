use Rattle.std.proofs.Common.{◌≡◌, ℕ, ◌+◌, ◌-◌, Bool, true, false, List, ◌∷◌, take, drop, ap, sym, ◌∙◌, subst}
use Rattle.eo_sexp.specs.Sexp.{sexp_text}
use Rattle.eo_sexp.specs.Nodes.{trees, first_of, token_text, HasText, AreLinked}
use Rattle.eo_sexp.specs.declared.token.AtomKind.{AtomKind}
use Rattle.eo_sexp.specs.declared.lent.Node.{Node}
use Rattle.eo_sexp.specs.declared.lent.Node.TheVariants as node
use Rattle.eo_sexp.proofs.lent.Sexp.text.Goals as goal

-- the nodes begin with this atom
module _ (bytes : List ℕ) (ns more : List Node) (k : AtomKind) (d e : Bool) (from to : ℕ) (is : ns ≡ node.Atom k d from to ∷ more) (same : d ≡ e) where
  first-text : sexp_text (first_of (trees bytes ns)) ≡ token_text bytes e from to
  first-text = ap (λ l. sexp_text (first_of (trees bytes l))) is ∙ ap (λ b. token_text bytes b from to) same

  first-within : AreLinked bytes ns → HasText bytes e from to
  first-within linked = subst (λ b. HasText bytes b from to) same (subst (AreLinked bytes) is linked).0.0

pub returns-in-Atom-default-true-default-default : goal.returns-in-Atom-default-true-default-default
returns-in-Atom-default-true-default-default c =
    let a = c.in-Atom-default-true-default-default in
    ap (λ bytes. take (a.to - 1 - (a.from + 1)) (drop (a.from + 1) bytes)) c.deref.ensures.value
    ∙ sym (first-text c.self.inside.parts.now.bytes.items _ _ a.kind a.delimited true a.from a.to a.ensures a.delimited-test) ∙ ap sexp_text c.self.view_is

pub slice_bounds-result-count-in-Atom : goal.slice_bounds-result-count-in-Atom
slice_bounds-result-count-in-Atom c =
    let a = c.in-Atom in
    let h = first-within c.self.inside.parts.now.bytes.items _ _ a.kind a.delimited false a.from a.to a.ensures a.delimited-test c.self.invariant.linked in
    h.0

pub returns-in-Atom : goal.returns-in-Atom
returns-in-Atom c =
    let a = c.in-Atom in
    ap (λ bytes. take (a.to - a.from) (drop a.from bytes)) c.deref-in-Atom.ensures.value
    ∙ sym (first-text c.self.inside.parts.now.bytes.items _ _ a.kind a.delimited false a.from a.to a.ensures a.delimited-test) ∙ ap sexp_text c.self.view_is
