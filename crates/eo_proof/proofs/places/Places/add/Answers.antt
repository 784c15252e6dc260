use Rattle.std.proofs.Common.{◌≡◌, ◌<◌, ◌∙◌, ℕ, List, [], ◌∷◌, ◌++◌, sym, ap, subst, length}
use Rattle.std.specs.Str.{bytes_eq}
use Rattle.indexmap.specs.IndexMap.{insert_entry}
use Rattle.eo_proof.specs.Places.{number_in, AreFound, IsFree, LeadsTo}
use Rattle.eo_proof.proofs.Found.{found-hashed, found-numbered}
use Rattle.eo_proof.proofs.places.Places.add.Goals as goal

pub returns-then-is_free-clause-added : goal.returns-then-is_free-clause-added
returns-then-is_free-clause-added c =
    let name = c.args.name.now in
    let names = c.args.names.now in
    let numbered = c.args.self.now.numbered.items in
    let others = c.args.self.now.others.entries in
    let number : c.args.number ≡ number_in name = c.requires.number in
    let long : c.len-place.result ≡ length names = c.len-place.ensures in
    let free : IsFree names numbered (number_in name) = subst (IsFree names numbered) number (c.is_free.ensures.0 c.if-is_free.true) in
    let short : length names < 4294967295 = subst (λ n. n < 4294967295) long (c.may_lead.ensures.0 c.if-may_lead.true).0 in
    let leads : LeadsTo numbered (number_in name) (length names) c.lead.new.self.numbered.items =
    subst (λ k. LeadsTo numbered k (length names) c.lead.new.self.numbered.items) number
    (subst (λ n. LeadsTo numbered c.args.number n c.lead.new.self.numbered.items) long c.in_ok-lead.ensures.leads) in
    subst (AreFound (names ++ name ∷ []) c.lead.new.self.numbered.items) (sym c.lead.ensures.others)
    (found-numbered names numbered others name c.requires.found c.requires.new c.lead.new.self.numbered.items free short leads)

pub returns-clause-added : goal.returns-clause-added
returns-clause-added c =
    let names = c.args.names.now in
    let others = c.args.self.now.others.entries in
    found-hashed names c.args.self.now.numbered.items others c.args.name.now c.requires.found c.requires.new c.insert.new.self.entries
    (c.in_ok-insert.ensures.entries
    ∙ ap (λ (q : List ℕ). insert_entry bytes_eq others q c.len-place.result) c.in_ok-name.ensures
    ∙ ap (insert_entry bytes_eq others c.args.name.now) c.len-place.ensures)
