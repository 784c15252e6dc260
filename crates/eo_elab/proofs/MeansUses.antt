-- The meaning of a term uses no parameter that its locals do not use, where terminators are values and macros use their own alone.
use Rattle.std.specs.Prelude.{nat_lt, ◌≡◌, ℕ, suc, Bool, true, not, List, [], ◌∷◌, ◌++◌, map, bytes_eq, Ok, Err, refl}
use Rattle.std.specs.List.{list_all, list_any}
use Rattle.std.proofs.Common.{subst, ap}
use Rattle.eo_base.specs.declared.FaultName.TheVariants.{BadCommand, Redeclared, BadArity}
use Rattle.eo_base.specs.Checks.{Checked}
use Rattle.eo_base.proofs.ChecksLemmas.{ok_injective, err_is_not_ok}
use Rattle.eo_base.proofs.Tests.{both, join}
use Rattle.eo_sexp.specs.Sexp.{Sexp, Atom, Listed, Sexps, NoSexp, Next}
use Rattle.eo_term.specs.Tree.{Tree, uses_only}
use Rattle.eo_names.specs.Binders.{pair_local, variable, variable_list}
use Rattle.eo_names.specs.Contexts.{Context, Local, is_list}
use Rattle.eo_names.specs.Folding.{folded}
use Rattle.eo_names.specs.Readers.{NamedTerm, ◌>>=◌, give, read, built}
use Rattle.eo_elab.specs.Fitting.{FitsTerms, named_term_is_closed, are_free}
use Rattle.eo_elab.specs.Meaning.{atom, ListForm, ALet, AnAnnotation, ABitString, AnApplication, ATermFirst, tree_use, list_form, used, label, named_terms_of, means, means_list, means_all, in_let, in_binder, pair_list, pairs_after, annotated, without_named_terms, meaning}
use Rattle.eo_elab.proofs.Uses.{all_in_both}
use Rattle.eo_elab.proofs.FoldUses.{Within, AllWithin, folded_uses}
use Rattle.eo_elab.proofs.SymbolUses.{LocalsWithin, atom_within}
use Rattle.eo_elab.proofs.ReadingUses.{EndsIn, no_named_terms, Reads, ends_ok, ends_err, bind_reads, first_reads, labelled_ends, read_reads, unless_reads, built_reads, named_term_reads}
use Rattle.eo_elab.proofs.FormUses.{Given, FormFits, tree_fits, form_fits, used_reads}

module _ (known : ℕ → Bool) where
  abbrev PairsWithin : List (List ℕ × Tree) → Type 0
  PairsWithin ps = list_all (λ p. uses_only known p.1) ps ≡ true

  pair_locals_within : (ps : List (List ℕ × Tree)) (locals : List Local) → PairsWithin ps → LocalsWithin known locals →
      LocalsWithin known (map pair_local ps ++ locals)
  pair_locals_within [] locals h k = k
  pair_locals_within (p ∷ ps) locals h k = join (both h).0 (pair_locals_within ps locals (both h).1 k)

  variables_within : (ps : List (List ℕ × Tree)) → PairsWithin ps → PairsWithin (map variable ps)
  variables_within [] h = refl
  variables_within (p ∷ ps) h = join (both h).0 (variables_within ps (both h).1)

  -- the names inside a binder
  abbrev inside : List Local → List (List ℕ × Tree) → List Local
  inside locals ps = map pair_local (map variable ps) ++ locals

  inside_within : (locals : List Local) (ps : List (List ℕ × Tree)) → PairsWithin ps → LocalsWithin known locals →
      LocalsWithin known (inside locals ps)
  inside_within locals ps h k = pair_locals_within (map variable ps) locals (variables_within ps h) k

  trees_within : (ps : List (List ℕ × Tree)) → PairsWithin ps → AllWithin known (map (λ v. v.1) ps)
  trees_within [] h = refl
  trees_within (p ∷ ps) h = join (both h).0 (trees_within ps (both h).1)

  module _ (c : Context) (fits : FitsTerms c) where
    -- the list of the variables that a binder binds
    list_of_reads : (locals : List Local) (collector : ℕ) (ps : List (List ℕ × Tree)) → PairsWithin ps →
        Reads known c (variable_list c.signature (is_list locals) collector (map variable ps)) (Within known)
    list_of_reads locals collector ps g =
        let ts = map (λ v. v.1) (map variable ps) in
        let made = folded c.signature (is_list locals) collector ts in
        let within = trees_within (map variable ps) (variables_within ps g) in
        let uses = folded_uses known c.signature fits.folds (is_list locals) collector ts within in
        bind_reads known c (Within known) (Within known) (read made) built (read_reads known c (Within known) made uses) (built_reads known c)

    mutual
      unfolding means

      pub means_reads : (locals : List Local) → LocalsWithin known locals → (s : Sexp) → Reads known c (means c locals s) (Within known)
      means_reads locals h (Atom k text span) named_terms l =
          labelled_ends known c (Within known) named_terms l (atom c locals k text) (atom_within known c fits locals h k text)
      means_reads locals h (Listed ss span) named_terms l =
          list_reads locals h (list_form c locals ss) ss (form_fits known c fits locals h ss) named_terms l

      list_reads : (locals : List Local) → LocalsWithin known locals → (form : ListForm) (ss : Sexps) → FormFits known ss form →
          Reads known c (means_list c locals form ss) (Within known)
      list_reads locals h form NoSexp f named_terms l = ends_err known c (Within known) BadArity
      list_reads locals h ALet (Next s args) f named_terms l = let_reads locals h args named_terms l
      list_reads locals h AnAnnotation (Next s args) f named_terms l = annotated_reads locals h args named_terms l
      list_reads locals h (ABitString t) (Next s args) f named_terms l = ends_ok known c (Within known) t named_terms f l
      list_reads locals h (AnApplication u) (Next s args) f named_terms l =
          used_reads known c args u f (means_all c locals args) (all_read locals h args)
          (in_binder c locals args) (λ k. binder_reads locals h args k) named_terms l
      list_reads locals h ATermFirst (Next s args) f named_terms l =
          bind_reads known c (Within known) (Within known) (means c locals s)
          (λ t. used (tree_use c locals args t) (means_all c locals args) (in_binder c locals args)) (means_reads locals h s)
          (λ t u. used_reads known c args (tree_use c locals args t) (tree_fits known c fits locals h args t u)
          (means_all c locals args) (all_read locals h args)
          (in_binder c locals args) (λ k. binder_reads locals h args k)) named_terms l

      all_read : (locals : List Local) → LocalsWithin known locals → (args : Sexps) →
          Reads known c (means_all c locals args) (Given known args)
      all_read locals h NoSexp named_terms l = ends_ok known c (Given known NoSexp) [] named_terms (refl, refl) l
      all_read locals h (Next s rest) named_terms l =
          first_reads known c (Given known rest) (Given known (Next s rest)) (means c locals s) (means_all c locals rest)
          (means_reads locals h s) (all_read locals h rest) (λ t ts u g. (join u g.0, ap suc g.1)) named_terms l

      let_reads : (locals : List Local) → LocalsWithin known locals → (args : Sexps) → Reads known c (in_let c locals args) (Within known)
      let_reads locals h (Next pairs (Next body NoSexp)) named_terms l =
          bind_reads known c PairsWithin (Within known) (pair_list c locals pairs) (λ ps. means c (map pair_local ps ++ locals) body)
          (pair_list_reads locals h pairs)
          (λ ps g. means_reads (map pair_local ps ++ locals) (pair_locals_within ps locals g h) body) named_terms l
      let_reads locals h args named_terms l = ends_err known c (Within known) BadCommand

      binder_reads : (locals : List Local) → LocalsWithin known locals → (args : Sexps) (k : ℕ) →
          Reads known c (in_binder c locals args k) (AllWithin known)
      binder_reads locals h (Next pairs rest) k named_terms l =
          bind_reads known c PairsWithin (AllWithin known) (pair_list c locals pairs)
          (λ ps. variable_list c.signature (is_list locals) k (map variable ps) >>= λ first.
          means_all c (inside locals ps) rest >>= λ others. give (first ∷ others))
          (pair_list_reads locals h pairs)
          (λ ps g. first_reads known c (Given known rest) (AllWithin known)
          (variable_list c.signature (is_list locals) k (map variable ps)) (means_all c (inside locals ps) rest)
          (list_of_reads locals k ps g) (all_read (inside locals ps) (inside_within locals ps g h) rest)
          (λ first others u o. join u o.0)) named_terms l
      binder_reads locals h NoSexp k named_terms l = ends_err known c (AllWithin known) BadCommand

      pair_list_reads : (locals : List Local) → LocalsWithin known locals → (s : Sexp) → Reads known c (pair_list c locals s) PairsWithin
      pair_list_reads locals h (Listed pairs span) named_terms l = pairs_read locals h pairs [] refl named_terms l
      pair_list_reads locals h (Atom k text span) named_terms l = ends_err known c PairsWithin BadCommand

      pairs_read : (locals : List Local) → LocalsWithin known locals → (pairs : Sexps) (before : List (List ℕ × Tree)) →
          PairsWithin before → Reads known c (pairs_after c locals pairs before) PairsWithin
      pairs_read locals h NoSexp before g named_terms l = ends_ok known c PairsWithin before named_terms g l
      pairs_read locals h (Next (Listed (Next (Atom k name at) (Next t NoSexp)) span) rest) before g named_terms l =
          unless_reads known c PairsWithin (not (list_any (λ p. bytes_eq p.0 name) before)) Redeclared
          (means c locals t >>= λ tree. pairs_after c locals rest (before ++ (name, tree) ∷ []))
          (λ e. bind_reads known c (Within known) PairsWithin (means c locals t)
          (λ tree. pairs_after c locals rest (before ++ (name, tree) ∷ [])) (means_reads locals h t)
          (λ tree u. pairs_read locals h rest (before ++ (name, tree) ∷ [])
          (all_in_both (λ p. uses_only known p.1) before ((name, tree) ∷ []) g (join u refl)))) named_terms l
      pairs_read locals h pairs before g named_terms l = ends_err known c PairsWithin BadCommand

      annotated_reads : (locals : List Local) → LocalsWithin known locals → (args : Sexps) →
          Reads known c (annotated c locals args) (Within known)
      annotated_reads locals h (Next t attributes) named_terms l =
          bind_reads known c (Within known) (Within known) (means c locals t) (λ tree. label c tree (named_terms_of c.file_kind attributes))
          (means_reads locals h t) (λ tree u. named_term_reads known c tree u (named_terms_of c.file_kind attributes)) named_terms l
      annotated_reads locals h NoSexp named_terms l = ends_err known c (Within known) BadCommand

    -- the meaning of a term uses known parameters alone
    pub meaning_uses : (locals : List Local) → LocalsWithin known locals → (s : Sexp) (t : Tree) → meaning c locals s ≡ Ok t →
        Within known t
    unfolding meaning
    meaning_uses locals h s t e = by_reading (means c locals s []) (means_reads locals h s [] (no_named_terms known c)) e
      where
        by_reading : (m : Checked (Tree × List NamedTerm)) → EndsIn known c m (Within known) → without_named_terms m ≡ Ok t → Within known t
        by_reading (Ok r) g q = subst (Within known) (ok_injective r.0 t q) (g r refl).0
        by_reading (Err fault) g q = absurd (err_is_not_ok fault t q)

-- names that a term is given are free, and mean trees without parameters
pub named_terms_fit : (c : Context) → FitsTerms c → (s : Sexp) (t : Tree) (named_terms : List NamedTerm) → means c [] s [] ≡ Ok (t, named_terms) →
    (list_all named_term_is_closed named_terms ≡ true) × (are_free c [] named_terms ≡ true)
named_terms_fit c fits s t named_terms e =
    let none : ℕ → Bool = λ j. nat_lt j 0 in
    let within = (means_reads none c fits [] refl s [] (no_named_terms none c) (t, named_terms) e).1 in
    (within.trees, within.free)
