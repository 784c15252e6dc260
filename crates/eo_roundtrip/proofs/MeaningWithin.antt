-- The meaning of a term that was read is within its ranges.
use Rattle.std.specs.Prelude.{◌≡◌, ℕ, true, not, ◌&&◌, List, [], ◌∷◌, ◌++◌, map, length, bytes_eq, Ok, Err, refl}
use Rattle.std.specs.List.{list_all, list_any}
use Rattle.std.proofs.Common.{subst, arith}
use Rattle.std.proofs.lemmas.Bool.{le-leb}
use Rattle.eo_base.specs.declared.FaultName.TheVariants.{BadCommand, Redeclared, BadArity}
use Rattle.eo_base.specs.Checks.{Checked}
use Rattle.eo_base.specs.Limits.{limits, characters_limit}
use Rattle.eo_base.proofs.ChecksLemmas.{ok_injective, err_is_not_ok}
use Rattle.eo_base.proofs.Tests.{both, join}
use Rattle.eo_sexp.specs.Sexp.{Sexp, Atom, Listed, Sexps, NoSexp, Next}
use Rattle.eo_term.specs.Tree.{Tree}
use Rattle.eo_names.specs.Binders.{pair_local, variable, variable_list}
use Rattle.eo_names.specs.Contexts.{Context, Local, is_list}
use Rattle.eo_names.specs.Folding.{folded}
use Rattle.eo_names.specs.Readers.{NamedTerm, ◌>>=◌, give, read, built}
use Rattle.eo_elab.specs.Meaning.{atom, ListForm, ALet, AnAnnotation, ABitString, AnApplication, ATermFirst, tree_use, list_form, used, label, named_terms_of, means, means_list, means_all, in_let, in_binder, pair_list, pairs_after, annotated, without_named_terms, meaning}
use Rattle.eo_elab.proofs.Uses.{all_in_both}
use Rattle.eo_roundtrip.proofs.Texts.{IsTextOf, TextsFit, AllTextsFit}
use Rattle.eo_roundtrip.proofs.Within.{is_text, is_within}
use Rattle.eo_roundtrip.proofs.Ranges.{IsWithin, AreWithin}
use Rattle.eo_roundtrip.proofs.FoldsWithin.{folded_uses}
use Rattle.eo_roundtrip.proofs.SymbolsWithin.{HoldsWithin, folds, LocalsWithin, atom_within}
use Rattle.eo_roundtrip.proofs.ReadingsWithin.{NamedTermsWithin, EndsIn, Reads, ends_ok, ends_err, bind_reads, first_reads, labelled_ends, read_reads, unless_reads, built_reads, named_term_reads}
use Rattle.eo_roundtrip.proofs.FormsWithin.{FormFits, tree_fits, form_fits, used_reads}

-- a text that fits in a token
text-fits : (text : List ℕ) → IsTextOf limits.token text → is_text text ≡ true
unfolding limits
text-fits text h = join h.0 (le-leb (length text) characters_limit (omega (arith, h.1)))

abbrev PairsWithin : List (List ℕ × Tree) → Type 0
PairsWithin ps = list_all (λ p. is_text p.0 && is_within p.1) ps ≡ true

pair_locals_within : (ps : List (List ℕ × Tree)) (locals : List Local) → PairsWithin ps → LocalsWithin locals →
    LocalsWithin (map pair_local ps ++ locals)
pair_locals_within [] locals h k = k
pair_locals_within (p ∷ ps) locals h k = join (both (both h).0).1 (pair_locals_within ps locals (both h).1 k)

variable_within : (p : List ℕ × Tree) → (is_text p.0 && is_within p.1) ≡ true → (is_text p.0 && is_within (variable p).1) ≡ true
variable_within p h = join {a = is_text p.0} {b = is_text p.0 && is_within p.1} (first_text p h) h
  where
    first_text : (p : List ℕ × Tree) → (is_text p.0 && is_within p.1) ≡ true → is_text p.0 ≡ true
    first_text p h = (both h).0

variables_within : (ps : List (List ℕ × Tree)) → PairsWithin ps → PairsWithin (map variable ps)
variables_within [] h = refl
variables_within (p ∷ ps) h = join (variable_within p (both h).0) (variables_within ps (both h).1)

-- the names inside a binder
abbrev inside : List Local → List (List ℕ × Tree) → List Local
inside locals ps = map pair_local (map variable ps) ++ locals

inside_within : (locals : List Local) (ps : List (List ℕ × Tree)) → PairsWithin ps → LocalsWithin locals →
    LocalsWithin (inside locals ps)
inside_within locals ps h k = pair_locals_within (map variable ps) locals (variables_within ps h) k

trees_within : (ps : List (List ℕ × Tree)) → PairsWithin ps → AreWithin (map (λ v. v.1) ps)
trees_within [] h = refl
trees_within (p ∷ ps) h = join (both (both h).0).1 (trees_within ps (both h).1)

module _ (c : Context) (fits : HoldsWithin c) where
  -- the list of the variables that a binder binds
  list_of_reads : (locals : List Local) (collector : ℕ) (ps : List (List ℕ × Tree)) → PairsWithin ps →
      Reads (variable_list c.signature (is_list locals) collector (map variable ps)) IsWithin
  list_of_reads locals collector ps g =
      let ts = map (λ v. v.1) (map variable ps) in
      let made = folded c.signature (is_list locals) collector ts in
      let within = trees_within (map variable ps) (variables_within ps g) in
      let uses = folded_uses c.signature (folds c fits) (is_list locals) collector ts within in
      bind_reads IsWithin IsWithin (read made) built (read_reads IsWithin made uses) built_reads

  mutual
    unfolding means

    pub means_reads : (locals : List Local) → LocalsWithin locals → (s : Sexp) → TextsFit limits s → Reads (means c locals s) IsWithin
    means_reads locals h (Atom k text span) f named_terms l =
        labelled_ends IsWithin named_terms l (atom c locals k text) (atom_within c fits locals h k text (text-fits text f))
    means_reads locals h (Listed ss span) f named_terms l =
        list_reads locals h (list_form c locals ss) ss f (form_fits c fits locals h ss) named_terms l

    list_reads : (locals : List Local) → LocalsWithin locals → (form : ListForm) (ss : Sexps) → AllTextsFit limits ss → FormFits ss form →
        Reads (means_list c locals form ss) IsWithin
    list_reads locals h form NoSexp x f named_terms l = ends_err IsWithin BadArity
    list_reads locals h ALet (Next s args) x f named_terms l = let_reads locals h args x.1 named_terms l
    list_reads locals h AnAnnotation (Next s args) x f named_terms l = annotated_reads locals h args x.1 named_terms l
    list_reads locals h (ABitString t) (Next s args) x f named_terms l = ends_ok IsWithin t named_terms f l
    list_reads locals h (AnApplication u) (Next s args) x f named_terms l =
        used_reads args u f (means_all c locals args) (all_read locals h args x.1)
        (in_binder c locals args) (λ k. binder_reads locals h args x.1 k) named_terms l
    list_reads locals h ATermFirst (Next s args) x f named_terms l =
        bind_reads IsWithin IsWithin (means c locals s)
        (λ t. used (tree_use c locals args t) (means_all c locals args) (in_binder c locals args)) (means_reads locals h s x.0)
        (λ t u. used_reads args (tree_use c locals args t) (tree_fits c fits locals h args t u)
        (means_all c locals args) (all_read locals h args x.1)
        (in_binder c locals args) (λ k. binder_reads locals h args x.1 k)) named_terms l

    all_read : (locals : List Local) → LocalsWithin locals → (args : Sexps) → AllTextsFit limits args →
        Reads (means_all c locals args) AreWithin
    all_read locals h NoSexp x named_terms l = ends_ok AreWithin [] named_terms refl l
    all_read locals h (Next s rest) x named_terms l =
        first_reads AreWithin AreWithin (means c locals s) (means_all c locals rest)
        (means_reads locals h s x.0) (all_read locals h rest x.1) (λ t ts u g. join u g) named_terms l

    let_reads : (locals : List Local) → LocalsWithin locals → (args : Sexps) → AllTextsFit limits args → Reads (in_let c locals args) IsWithin
    let_reads locals h (Next pairs (Next body NoSexp)) x named_terms l =
        bind_reads PairsWithin IsWithin (pair_list c locals pairs) (λ ps. means c (map pair_local ps ++ locals) body)
        (pair_list_reads locals h pairs x.0)
        (λ ps g. means_reads (map pair_local ps ++ locals) (pair_locals_within ps locals g h) body x.1.0) named_terms l
    let_reads locals h args x named_terms l = ends_err IsWithin BadCommand

    binder_reads : (locals : List Local) → LocalsWithin locals → (args : Sexps) → AllTextsFit limits args → (k : ℕ) →
        Reads (in_binder c locals args k) AreWithin
    binder_reads locals h (Next pairs rest) x k named_terms l =
        bind_reads PairsWithin AreWithin (pair_list c locals pairs)
        (λ ps. variable_list c.signature (is_list locals) k (map variable ps) >>= λ first.
        means_all c (inside locals ps) rest >>= λ others. give (first ∷ others))
        (pair_list_reads locals h pairs x.0)
        (λ ps g. first_reads AreWithin AreWithin
        (variable_list c.signature (is_list locals) k (map variable ps)) (means_all c (inside locals ps) rest)
        (list_of_reads locals k ps g) (all_read (inside locals ps) (inside_within locals ps g h) rest x.1)
        (λ first others u o. join u o)) named_terms l
    binder_reads locals h NoSexp x k named_terms l = ends_err AreWithin BadCommand

    pair_list_reads : (locals : List Local) → LocalsWithin locals → (s : Sexp) → TextsFit limits s → Reads (pair_list c locals s) PairsWithin
    pair_list_reads locals h (Listed pairs span) x named_terms l = pairs_read locals h pairs x [] refl named_terms l
    pair_list_reads locals h (Atom k text span) x named_terms l = ends_err PairsWithin BadCommand

    pairs_read : (locals : List Local) → LocalsWithin locals → (pairs : Sexps) → AllTextsFit limits pairs → (before : List (List ℕ × Tree)) →
        PairsWithin before → Reads (pairs_after c locals pairs before) PairsWithin
    pairs_read locals h NoSexp x before g named_terms l = ends_ok PairsWithin before named_terms g l
    pairs_read locals h (Next (Listed (Next (Atom k name at) (Next t NoSexp)) span) rest) x before g named_terms l =
        unless_reads PairsWithin (not (list_any (λ p. bytes_eq p.0 name) before)) Redeclared
        (means c locals t >>= λ tree. pairs_after c locals rest (before ++ (name, tree) ∷ []))
        (λ e. bind_reads IsWithin PairsWithin (means c locals t)
        (λ tree. pairs_after c locals rest (before ++ (name, tree) ∷ [])) (means_reads locals h t x.0.1.0)
        (λ tree u. pairs_read locals h rest x.1 (before ++ (name, tree) ∷ [])
        (all_in_both (λ p. is_text p.0 && is_within p.1) before ((name, tree) ∷ []) g (join (join (text-fits name x.0.0) u) refl)))) named_terms l
    pairs_read locals h pairs x before g named_terms l = ends_err PairsWithin BadCommand

    annotated_reads : (locals : List Local) → LocalsWithin locals → (args : Sexps) → AllTextsFit limits args →
        Reads (annotated c locals args) IsWithin
    annotated_reads locals h (Next t attributes) x named_terms l =
        bind_reads IsWithin IsWithin (means c locals t) (λ tree. label c tree (named_terms_of c.file_kind attributes))
        (means_reads locals h t x.0) (λ tree u. named_term_reads c tree u (named_terms_of c.file_kind attributes)) named_terms l
    annotated_reads locals h NoSexp x named_terms l = ends_err IsWithin BadCommand

  -- the meaning of a term
  pub meaning-within : (locals : List Local) → LocalsWithin locals → (s : Sexp) → TextsFit limits s → (t : Tree) → meaning c locals s ≡ Ok t → IsWithin t
  unfolding meaning
  meaning-within locals h s f t e = by_reading (means c locals s []) (means_reads locals h s f [] refl) e
    where
      by_reading : (m : Checked (Tree × List NamedTerm)) → EndsIn m IsWithin → without_named_terms m ≡ Ok t → IsWithin t
      by_reading (Ok r) g q = subst IsWithin (ok_injective r.0 t q) (g r refl).0
      by_reading (Err fault) g q = absurd (err_is_not_ok fault t q)

  -- and of one with the names that it gives itself
  pub labels-within : (s : Sexp) → TextsFit limits s → (r : Tree × List NamedTerm) → means c [] s [] ≡ Ok r → IsWithin r.0 × NamedTermsWithin r.1
  labels-within s f r e = means_reads [] refl s f [] refl r e
