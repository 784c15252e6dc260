use Rattle.std.proofs.Common.{◌≡◌, ◌∷◌, sym, ap, ◌∙◌, subst}
use Rattle.eo_sig.specs.Reading.{signature}
use Rattle.eo_term.specs.Terms.{tree_at}
use Rattle.eo_show.specs.Forms.{head_of, arguments_of}
use Rattle.eo_show.specs.Plan.{without_arguments, folding, IsMemberOf, AreMembersOf}
use Rattle.eo_show.proofs.FormOf.{whole_head}
use Rattle.eo_show.proofs.Kept.{chain_parts, head_parts, folded_form, plain_form}
use Rattle.eo_show.proofs.parts.chain_form.Goals as goal

pub returns-in-Some : goal.returns-in-Some
returns-in-Some c =
    let t = c.args.table.now in
    let S = signature t.trees c.args.sig.now in
    let u = tree_at t.trees c.args.id in
    let head : tree_at t.trees c.head_of-head.result ≡ head_of u = c.head_of-head.ensures.tree ∙ ap (λ n. without_arguments n u) c.requires.count ∙ whole_head u in
    folded_form S t (head_of u) (arguments_of u) c.in-Some.constant c.args.count c.reverse.new.self.items c.requires.count (c.in-Some.ensures ∙ ap (λ h. folding S h c.args.count) head) (subst (AreMembersOf t (arguments_of u)) (sym c.reverse.ensures.items) (chain_parts t u c.args.count c.in_ok-parts.parts.items c.requires.count c.in_ok-parts.ensures))

pub returns-in_ok-push-in-None : goal.returns-in_ok-push-in-None
returns-in_ok-push-in-None c =
    let t = c.args.table.now in
    let S = signature t.trees c.args.sig.now in
    let u = tree_at t.trees c.args.id in
    let head : tree_at t.trees c.head_of-head.result ≡ head_of u = c.head_of-head.ensures.tree ∙ ap (λ n. without_arguments n u) c.requires.count ∙ whole_head u in
    plain_form S t (head_of u) (arguments_of u) c.args.count c.reverse-in-None.new.self.items c.requires.count (c.in-None.ensures ∙ ap (λ h. folding S h c.args.count) head) (subst (AreMembersOf t (head_of u ∷ arguments_of u)) (sym c.reverse-in-None.ensures.items) (head_parts t (head_of u) (arguments_of u) c.in_ok-parts.parts.items c.push.new.self.items c.member_of.result (chain_parts t u c.args.count c.in_ok-parts.parts.items c.requires.count c.in_ok-parts.ensures) (subst (λ v. IsMemberOf t v c.member_of.result) head c.member_of.ensures) c.in_ok-push-in-None.ensures.items))
