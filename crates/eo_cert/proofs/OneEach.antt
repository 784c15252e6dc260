-- In a block a tree has one evaluation: one outcome, and one depth.
use Rattle.std.specs.Prelude.{◌≡◌, ℕ, ◌+◌, max, List, [], ◌∷◌, ◌++◌, Option, Some, None, option_and_then, refl}
use Rattle.std.proofs.Common.{sym, ◌∙◌, ap, subst, inl, inr}
use Rattle.std.proofs.lemmas.Option.{none-some, same_Some}
use Rattle.eo_term.specs.declared.OpCode.{OpCode}
use Rattle.eo_term.specs.Tree.{Tree, Trees, Op}
use Rattle.eo_sig.specs.Signature.{Signature}
use Rattle.eo_stack.specs.Evaluation.{Call, body_of}
use Rattle.eo_cert.specs.Stated.{Evaluated}
use Rattle.eo_cert.specs.Rules.{no_rule, on_value, parts, rule, deepest}
use Rattle.eo_cert.specs.Blocks.{called}
use Rattle.eo_cert.specs.Traces.{IsIn, AreIn, evaluated, Block, nothing, by_rule, by_none, by_body, IsOne}
use Rattle.eo_cert.proofs.Growth.{are_in_more, one_longer, split_in}
use Rattle.eo_cert.proofs.Alike.{alike_parts, alike_rule}

-- why an evaluation may be in a block: by its rule and by those of the block
data Why (S : Signature) (es : List Evaluated) : Evaluated → Type 0 where
  rule_why : (t : Tree) (o : Option Tree) (listed : List Evaluated) → AreIn es listed → rule S t listed ≡ Some (o, []) → Why S es (evaluated t o (deepest listed))
  none_why : (p : ℕ) (ts : Trees) (vs : List Tree) (listed : List Evaluated) → AreIn es listed → parts ts listed ≡ Some (Some vs, []) → body_of S (record { program = p; arguments = vs }) ≡ None → Why S es (evaluated (Op (OpCode.Prog p) ts) None (max (deepest listed) 1))
  body_why : (p : ℕ) (ts : Trees) (vs : List Tree) (listed : List Evaluated) (body : Tree) (last : Evaluated) → AreIn es listed → parts ts listed ≡ Some (Some vs, []) → body_of S (record { program = p; arguments = vs }) ≡ Some body → IsIn es last → last.term ≡ body → Why S es (evaluated (Op (OpCode.Prog p) ts) last.outcome (max (deepest listed) (1 + last.depth)))

why_more : (S : Signature) (es : List Evaluated) (x e : Evaluated) → Why S es e → Why S (es ++ x ∷ []) e
why_more S es x e (rule_why t o l i r) = rule_why t o l (are_in_more (es ++ x ∷ []) es l (one_longer es x) i) r
why_more S es x e (none_why p ts vs l i r b) = none_why p ts vs l (are_in_more (es ++ x ∷ []) es l (one_longer es x) i) r b
why_more S es x e (body_why p ts vs l body last i r b k t) = body_why p ts vs l body last (are_in_more (es ++ x ∷ []) es l (one_longer es x) i) r b (one_longer es x last k) t

module _ (S : Signature) (es : List Evaluated) (one : IsOne es) where
  same_call : (p q : ℕ) (ts us : Trees) → Op (OpCode.Prog p) ts ≡ Op (OpCode.Prog q) us → (p ≡ q) × (ts ≡ us)
  same_call p q ts us e =
      let h = same_Some (p, ts) (q, us) (ap called e) in (ap (λ (x : ℕ × Trees). x.0) h, ap (λ (x : ℕ × Trees). x.1) h)

  -- the same arguments are evaluated by the same list
  same_parts : (ts us : Trees) (vs ws : List Tree) (l m : List Evaluated) → AreIn es l → AreIn es m → parts ts l ≡ Some (Some vs, []) → parts us m ≡ Some (Some ws, []) → ts ≡ us → (vs ≡ ws) × (l ≡ m)
  same_parts ts us vs ws l m i j p q e =
      let h = alike_parts es one ts l m [] [] (Some vs) (Some ws) i j p (ap (λ (x : Trees). parts x m) e ∙ q) in
      (same_Some vs ws h.outcome, h.first ∙ sym h.second)

  -- a call that is begun has no other rule
  no_other : (t : Tree) (o : Option Tree) (p : ℕ) (ts : Trees) (vs : List Tree) (l m : List Evaluated) → AreIn es l → AreIn es m → rule S t l ≡ Some (o, []) → parts ts m ≡ Some (Some vs, []) → t ≡ Op (OpCode.Prog p) ts → ⊥
  no_other t o p ts vs l m i j r q e = by (parts ts l) refl (sym (ap (λ (x : Tree). rule S x l) e) ∙ r)
    where
      by : (x : Option (Option (List Tree) × List Evaluated)) → parts ts l ≡ x → option_and_then (on_value {A = List Tree} {B = Tree} (λ vs. no_rule)) x ≡ Some (o, []) → ⊥
      by None k h = none-some (o, []) h
      by (Some (Some ws, rest)) k h = none-some (o, []) h
      by (Some (None, rest)) k h = none-some vs (alike_parts es one ts l m rest [] None (Some vs) i j k q).outcome

  why_alike : (a b : Evaluated) → Why S es a → Why S es b → a.term ≡ b.term → a ≡ b
  why_alike a b (rule_why t o l i r) (rule_why u v m j s) e =
      let h = alike_rule es one S t l m [] [] o v i j r (ap (λ (x : Tree). rule S x m) e ∙ s) in
      let same = h.first ∙ sym h.second in
      λ k. evaluated (e k) (h.outcome k) (deepest (same k))
  why_alike a b (rule_why t o l i r) (none_why p ts vs m j s n) e = absurd (no_other t o p ts vs l m i j r s e)
  why_alike a b (rule_why t o l i r) (body_why p ts vs m body last j s n k f) e = absurd (no_other t o p ts vs l m i j r s e)
  why_alike a b (none_why p ts vs m j s n) (rule_why t o l i r) e = absurd (no_other t o p ts vs l m i j r s (sym e))
  why_alike a b (body_why p ts vs m body last j s n k f) (rule_why t o l i r) e = absurd (no_other t o p ts vs l m i j r s (sym e))
  why_alike a b (none_why p ts vs l i r n) (none_why q us ws m j s k) e =
      let c = same_call p q ts us e in
      let h = same_parts ts us vs ws l m i j r s c.1 in
      λ x. evaluated (e x) None (max (deepest (h.1 x)) 1)
  why_alike a b (none_why p ts vs l i r n) (body_why q us ws m body last j s k f g) e =
      let c = same_call p q ts us e in
      let h = same_parts ts us vs ws l m i j r s c.1 in
      absurd (none-some body (sym n ∙ ((λ x. body_of S (record { program = c.0 x; arguments = h.0 x })) ∙ k)))
  why_alike a b (body_why q us ws m body last j s k f g) (none_why p ts vs l i r n) e =
      let c = same_call p q ts us (sym e) in
      let h = same_parts ts us vs ws l m i j r s c.1 in
      absurd (none-some body (sym n ∙ ((λ x. body_of S (record { program = c.0 x; arguments = h.0 x })) ∙ k)))
  why_alike a b (body_why p ts vs l body last i r n f g) (body_why q us ws m other end j s k d t) e =
      let c = same_call p q ts us e in
      let h = same_parts ts us vs ws l m i j r s c.1 in
      let bodies : body ≡ other = same_Some body other (sym n ∙ ((λ x. body_of S (record { program = c.0 x; arguments = h.0 x })) ∙ k)) in
      let lasts = one last end f d (g ∙ (bodies ∙ sym t)) in
      λ x. evaluated (e x) (lasts x).outcome (max (deepest (h.1 x)) (1 + (lasts x).depth))

-- one more, that may be there
one_more : (S : Signature) (es : List Evaluated) (x : Evaluated) → IsOne es → ((e : Evaluated) → IsIn es e → Why S es e) → Why S es x → IsOne (es ++ x ∷ [])
one_more S es x one why own a b i j e =
    elim (split_in es x a i.0 i.1) [
      | inl p ↦ elim (split_in es x b j.0 j.1) [ inl q ↦ one a b p q e | inr q ↦ why_alike S es one a x (why a p) own (e ∙ ap (λ (y : Evaluated). y.term) (sym q)) ∙ q ]
      | inr p ↦ elim (split_in es x b j.0 j.1) [ inl q ↦ sym p ∙ why_alike S es one x b own (why b q) (ap (λ (y : Evaluated). y.term) p ∙ e) | inr q ↦ sym p ∙ q ]
    ]

all_why : (S : Signature) (es : List Evaluated) (x : Evaluated) → ((e : Evaluated) → IsIn es e → Why S es e) → Why S es x → (e : Evaluated) → IsIn (es ++ x ∷ []) e → Why S (es ++ x ∷ []) e
all_why S es x why own e i =
    elim (split_in es x e i.0 i.1) [ inl p ↦ why_more S es x e (why e p) | inr p ↦ subst (Why S (es ++ x ∷ [])) p (why_more S es x x own) ]

block_why : (S : Signature) (es : List Evaluated) (calls : List Call) → Block S es calls → (e : Evaluated) → IsIn es e → Why S es e
block_why S es calls nothing = λ e i. absurd (none-some e i.1)
block_why S es calls (by_rule {es = old} {calls = c} t o l block i r) = all_why S old (evaluated t o (deepest l)) (block_why S old c block) (rule_why t o l i r)
block_why S es calls (by_none {es = old} {calls = c} p ts vs l block i r n) = all_why S old (evaluated (Op (OpCode.Prog p) ts) None (max (deepest l) 1)) (block_why S old c block) (none_why p ts vs l i r n)
block_why S es calls (by_body {es = old} {calls = c} p ts vs l body last block i r n low k f) = all_why S old (evaluated (Op (OpCode.Prog p) ts) last.outcome (max (deepest l) (1 + last.depth))) (block_why S old c block) (body_why p ts vs l body last i r n k f)

-- so each tree has one evaluation in a block
pub block_one : (S : Signature) (es : List Evaluated) (calls : List Call) → Block S es calls → IsOne es
block_one S es calls nothing = λ a b i j e. absurd (none-some a i.1)
block_one S es calls (by_rule {es = old} {calls = c} t o l block i r) = one_more S old (evaluated t o (deepest l)) (block_one S old c block) (block_why S old c block) (rule_why t o l i r)
block_one S es calls (by_none {es = old} {calls = c} p ts vs l block i r n) = one_more S old (evaluated (Op (OpCode.Prog p) ts) None (max (deepest l) 1)) (block_one S old c block) (block_why S old c block) (none_why p ts vs l i r n)
block_one S es calls (by_body {es = old} {calls = c} p ts vs l body last block i r n low k f) = one_more S old (evaluated (Op (OpCode.Prog p) ts) last.outcome (max (deepest l) (1 + last.depth))) (block_one S old c block) (block_why S old c block) (body_why p ts vs l body last i r n k f)
