use Rattle.std.proofs.Common.{◌≡◌, ℕ, List, [], ◌∷◌, ◌++◌, None, All, sym, ◌∙◌, ap, subst}
use Rattle.std.specs.Map.{keys_of, lookup}
use Rattle.std.proofs.lemmas.List.{map-append}
use Rattle.std.proofs.lemmas.List.Elements.{All-push}
use Rattle.indexmap.proofs.CallerLemmas.{insert_entry-new}
use Rattle.eo_term.specs.declared.node.Literal.{Literal}
use Rattle.eo_term.specs.contracts.node.LiteralPartialEq.TheImpl as literal_eq
use Rattle.eo_term.proofs.Exact.{literal_exact, literal_same}
use Rattle.eo_term.specs.Keys.{ages_of, IsNumbered, IsWide, HasNumber}
use Rattle.eo_term.proofs.Numbers.{not_there, more_numbers, new_number}
use Rattle.eo_term.proofs.nodes.number_literal.Goals as goal

pub returns-in_ok-insert-in-None-clause-number : goal.returns-in_ok-insert-in-None-clause-number
returns-in_ok-insert-in-None-clause-number c =
    let es : List (Literal × ℕ) = c.args.literals.now.entries in
    let none : lookup (literal_eq.ghosts.eq c.args.literal) es ≡ None = not_there (λ a. a) c.args.literal (literal_eq.ghosts.eq c.args.literal) (λ a e. sym (literal_exact c.args.literal a e)) (λ a e. literal_same c.args.literal a (sym e)) es c.in-None.ensures.no in
    let is : c.insert.new.self.entries ≡ es ++ (c.args.literal, c.args.terms) ∷ [] = c.in_ok-insert-in-None.ensures.entries ∙ insert_entry-new literal_eq.ghosts.eq c.args.literals.now c.args.literal c.args.terms none in
    let h : IsNumbered c.args.terms (keys_of es) (ages_of es) = c.requires.numbered in
    subst (HasNumber c.args.terms (keys_of c.insert.new.self.entries) (ages_of c.insert.new.self.entries) c.args.literal) (sym c.len-number.ensures.len)
    (new_number (λ (a : Literal). a) c.args.terms es c.insert.new.self.entries c.args.literal is h)

pub returns-in_ok-insert-in-None-clause-more : goal.returns-in_ok-insert-in-None-clause-more
returns-in_ok-insert-in-None-clause-more c =
    let es : List (Literal × ℕ) = c.args.literals.now.entries in
    let none : lookup (literal_eq.ghosts.eq c.args.literal) es ≡ None = not_there (λ a. a) c.args.literal (literal_eq.ghosts.eq c.args.literal) (λ a e. sym (literal_exact c.args.literal a e)) (λ a e. literal_same c.args.literal a (sym e)) es c.in-None.ensures.no in
    let is : c.insert.new.self.entries ≡ es ++ (c.args.literal, c.args.terms) ∷ [] = c.in_ok-insert-in-None.ensures.entries ∙ insert_entry-new literal_eq.ghosts.eq c.args.literals.now c.args.literal c.args.terms none in
    let h : IsNumbered c.args.terms (keys_of es) (ages_of es) = c.requires.numbered in
    more_numbers (λ (a : Literal). a) c.args.terms es c.insert.new.self.entries c.args.literal is h c.in-None.ensures.no

pub returns-in_ok-insert-in-None-clause-wide : goal.returns-in_ok-insert-in-None-clause-wide
returns-in_ok-insert-in-None-clause-wide c =
    let es : List (Literal × ℕ) = c.args.literals.now.entries in
    let none : lookup (literal_eq.ghosts.eq c.args.literal) es ≡ None = not_there (λ a. a) c.args.literal (literal_eq.ghosts.eq c.args.literal) (λ a e. sym (literal_exact c.args.literal a e)) (λ a e. literal_same c.args.literal a (sym e)) es c.in-None.ensures.no in
    let is : c.insert.new.self.entries ≡ es ++ (c.args.literal, c.args.terms) ∷ [] = c.in_ok-insert-in-None.ensures.entries ∙ insert_entry-new literal_eq.ghosts.eq c.args.literals.now c.args.literal c.args.terms none in
    subst (All IsWide) (sym (ap keys_of is ∙ map-append (λ (e : Literal × ℕ). e.0) es ((c.args.literal, c.args.terms) ∷ []))) (All-push IsWide (keys_of es) c.args.literal c.requires.all_wide c.requires.wide)
