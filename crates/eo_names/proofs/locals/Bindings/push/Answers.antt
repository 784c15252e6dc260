use Rattle.std.proofs.Common.{◌≡◌, ◌++◌, ◌∷◌, [], None, ap, ◌∙◌}
use Rattle.std.specs.Str.{bytes_eq}
use Rattle.std.specs.Map.{lookup}
use Rattle.indexmap.proofs.CallerLemmas.{insert_entry-new}
use Rattle.eo_names.specs.Names.{names_in, read_pairs}
use Rattle.eo_names.proofs.BindingLemmas.{pushed_pairs}
use Rattle.eo_names.proofs.Bound.{lookup_absent}
use Rattle.eo_names.proofs.locals.Bindings.push.Goals as goal

pub returns : goal.returns
returns c =
    let name = c.args.name.now in
    let es = c.self.inside.names.entries in
    let key = c.in_ok-key.key in
    let own : key ≡ name = c.in_ok-key.ensures in
    let absent : lookup (bytes_eq key) es ≡ None =
    (λ i. lookup (bytes_eq (own i)) es) ∙ lookup_absent name es (ap (λ bs. names_in bs name) c.self.view_is ∙ c.requires) in
    let pushed =
    c.in_ok-insert.ensures.entries ∙ insert_entry-new bytes_eq c.self.inside.names key c.args.id absent
    ∙ (λ i. c.self.view_is i ++ (own i, c.args.id) ∷ []) in
    record {
      pushed = pushed;
      reads = λ n ts us h same. ap (read_pairs us) pushed ∙ pushed_pairs ts us n c.args.self.now name c.args.id h same.at;
      err = tt;
    }
