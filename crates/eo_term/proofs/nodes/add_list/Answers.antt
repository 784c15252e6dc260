use Rattle.std.proofs.Common.{◌≡◌, ℕ, List, [], ◌∷◌, ◌++◌, None, sym, ◌∙◌, subst, Vec, Global}
use Rattle.std.specs.Map.{lookup}
use Rattle.indexmap.proofs.CallerLemmas.{insert_entry-new}
use Rattle.std.specs.Str.{bytes_eq}
use Rattle.std.proofs.lemmas.Slice.Eq.{bytes_eq-Decides}
use Rattle.eo_term.specs.Keys.{list_items, ages_of, HasNumber}
use Rattle.eo_term.proofs.Numbers.{not_there, more_numbers, new_number}
use Rattle.eo_term.proofs.nodes.add_list.Goals as goal

pub returns-clause-number : goal.returns-clause-number
returns-clause-number c =
    let es : List (Vec ℕ Global × ℕ) = c.args.lists.now.entries in
    let none : lookup ((λ (v : Vec ℕ Global) (w : Vec ℕ Global). bytes_eq v.items w.items) c.args.args) es ≡ None = not_there (λ (v : Vec ℕ Global). v.items) c.args.args.items (λ v. bytes_eq c.args.args.items v.items) (λ v e. sym ((bytes_eq-Decides c.args.args.items v.items).0 e)) (λ v e. (bytes_eq-Decides c.args.args.items v.items).1 (sym e)) es c.requires.absent in
    let is : c.insert.new.self.entries ≡ es ++ (c.args.args, c.args.terms) ∷ [] = c.in_ok-insert.ensures.entries ∙ insert_entry-new (λ (v : Vec ℕ Global) (w : Vec ℕ Global). bytes_eq v.items w.items) c.args.lists.now c.args.args c.args.terms none in
    subst (HasNumber c.args.terms (list_items c.insert.new.self.entries) (ages_of c.insert.new.self.entries) c.args.args.items) (sym c.len-number.ensures.len)
    (new_number (λ (v : Vec ℕ Global). v.items) c.args.terms es c.insert.new.self.entries c.args.args is c.requires.numbered)

pub returns-clause-more : goal.returns-clause-more
returns-clause-more c =
    let es : List (Vec ℕ Global × ℕ) = c.args.lists.now.entries in
    let none : lookup ((λ (v : Vec ℕ Global) (w : Vec ℕ Global). bytes_eq v.items w.items) c.args.args) es ≡ None = not_there (λ (v : Vec ℕ Global). v.items) c.args.args.items (λ v. bytes_eq c.args.args.items v.items) (λ v e. sym ((bytes_eq-Decides c.args.args.items v.items).0 e)) (λ v e. (bytes_eq-Decides c.args.args.items v.items).1 (sym e)) es c.requires.absent in
    let is : c.insert.new.self.entries ≡ es ++ (c.args.args, c.args.terms) ∷ [] = c.in_ok-insert.ensures.entries ∙ insert_entry-new (λ (v : Vec ℕ Global) (w : Vec ℕ Global). bytes_eq v.items w.items) c.args.lists.now c.args.args c.args.terms none in
    more_numbers (λ (v : Vec ℕ Global). v.items) c.args.terms es c.insert.new.self.entries c.args.args is c.requires.numbered c.requires.absent
