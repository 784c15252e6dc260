-- What readings end with, where the names that a term is given are free, and mean trees that use known parameters alone.
use Rattle.std.specs.Prelude.{◌≡◌, ℕ, Bool, true, false, not, if◌then◌else◌, List, [], ◌∷◌, ◌++◌, Ok, Err, refl}
use Rattle.std.specs.List.{list_all}
use Rattle.std.proofs.Common.{subst, sym}
use Rattle.std.proofs.lemmas.List.{append-nil, append_assoc}
use Rattle.eo_base.proofs.Tests.{both, join}
use Rattle.eo_base.specs.declared.FaultName.{FaultName}
use Rattle.eo_base.specs.declared.FaultName.TheVariants.{Redeclared, TermHeight}
use Rattle.eo_base.specs.Checks.{Checked}
use Rattle.eo_base.proofs.ChecksLemmas.{ok_injective, err_is_not_ok}
use Rattle.eo_term.specs.Tree.{Tree, is_tall, uses_only}
use Rattle.eo_names.specs.Contexts.{Context}
use Rattle.eo_names.specs.Readers.{NamedTerm, Reader, go_on, ◌>>=◌, give, fail, with_named_terms, read, unless, built}
use Rattle.eo_elab.specs.Fitting.{are_free}
use Rattle.eo_elab.specs.Meaning.{is_free_named_term, label}
use Rattle.eo_elab.proofs.Uses.{all_in_both}
use Rattle.eo_elab.proofs.FoldUses.{Within}

-- one name more, which is free after those before it
free_last : (c : Context) (before named_terms : List NamedTerm) (l : NamedTerm) → are_free c before named_terms ≡ true → is_free_named_term c (before ++ named_terms) l.name ≡ true →
    are_free c before (named_terms ++ l ∷ []) ≡ true
free_last c before [] l h k = join (subst (λ (ls : List NamedTerm). is_free_named_term c ls l.name ≡ true) (append-nil before) k) refl
free_last c before (x ∷ xs) l h k =
    join (both h).0 (free_last c (before ++ x ∷ []) xs l (both h).1 (subst (λ (ls : List NamedTerm). is_free_named_term c ls l.name ≡ true) (sym (append_assoc before (x ∷ []) xs)) k))

module _ (known : ℕ → Bool) (names : Context) where
  pub record NamedTermsWithin (named_terms : List NamedTerm) : Type 0 where
    pub trees : list_all (λ l. uses_only known l.tree) named_terms ≡ true
    pub free : are_free names [] named_terms ≡ true

  pub no_named_terms : NamedTermsWithin []
  no_named_terms = record { trees = refl; free = refl }

  -- what a reading ends with, where it passes
  abbrev pub EndsIn : {A : Type 0} → Checked (A × List NamedTerm) → (A → Type 0) → Type 0
  EndsIn {A} c P = (r : A × List NamedTerm) → c ≡ Ok r → P r.0 × NamedTermsWithin r.1

  abbrev pub Reads : {A : Type 0} → Reader A → (A → Type 0) → Type 0
  Reads m P = (named_terms : List NamedTerm) → NamedTermsWithin named_terms → EndsIn (m named_terms) P

  pub ends_ok : {A : Type 0} (P : A → Type 0) (x : A) (named_terms : List NamedTerm) → P x → NamedTermsWithin named_terms → EndsIn (Ok (x, named_terms)) P
  ends_ok {A} P x named_terms p l r e = subst (λ (q : A × List NamedTerm). P q.0 × NamedTermsWithin q.1) (ok_injective (x, named_terms) r e) (p, l)

  pub ends_err : {A : Type 0} (P : A → Type 0) (fault : FaultName) → EndsIn {A = A} (Err fault) P
  ends_err P fault r e = absurd (err_is_not_ok fault r e)

  go_ends : {A B : Type 0} (P : A → Type 0) (Q : B → Type 0) (c : Checked (A × List NamedTerm)) (f : A → Reader B) → EndsIn c P →
      ((a : A) → P a → Reads (f a) Q) → EndsIn (go_on f c) Q
  go_ends P Q (Ok r) f h k = let x = h r refl in k r.0 x.0 r.1 x.1
  go_ends P Q (Err fault) f h k = ends_err Q fault

  pub bind_reads : {A B : Type 0} (P : A → Type 0) (Q : B → Type 0) (m : Reader A) (f : A → Reader B) → Reads m P →
      ((a : A) → P a → Reads (f a) Q) → Reads (m >>= f) Q
  bind_reads P Q m f h k named_terms l = go_ends P Q (m named_terms) f (h named_terms l) k

  pub give_reads : {A : Type 0} (P : A → Type 0) (x : A) → P x → Reads (give x) P
  give_reads P x p named_terms l = ends_ok P x named_terms p l

  pub fail_reads : {A : Type 0} (P : A → Type 0) (fault : FaultName) → Reads {A = A} (fail fault) P
  fail_reads P fault named_terms l = ends_err P fault

  -- a tree, and a list after it
  pub first_reads : (P Q : List Tree → Type 0) (m : Reader Tree) (n : Reader (List Tree)) → Reads m (Within known) → Reads n P →
      ((t : Tree) (ts : List Tree) → Within known t → P ts → Q (t ∷ ts)) → Reads (m >>= λ t. n >>= λ ts. give (t ∷ ts)) Q
  first_reads P Q m n h k q =
      bind_reads (Within known) Q m (λ t. n >>= λ ts. give (t ∷ ts)) h
      (λ t u. bind_reads P Q n (λ ts. give (t ∷ ts)) k (λ ts p. give_reads Q (t ∷ ts) (q t ts u p)))

  pub labelled_ends : {A : Type 0} (P : A → Type 0) (named_terms : List NamedTerm) → NamedTermsWithin named_terms → (c : Checked A) →
      ((x : A) → c ≡ Ok x → P x) → EndsIn (with_named_terms named_terms c) P
  labelled_ends P named_terms l (Ok x) h = ends_ok P x named_terms (h x refl) l
  labelled_ends P named_terms l (Err fault) h = ends_err P fault

  pub read_reads : {A : Type 0} (P : A → Type 0) (c : Checked A) → ((x : A) → c ≡ Ok x → P x) → Reads (read c) P
  read_reads P c h named_terms l = labelled_ends P named_terms l c h

  pub unless_reads : {A : Type 0} (P : A → Type 0) (b : Bool) (fault : FaultName) (m : Reader A) → (b ≡ true → Reads m P) →
      Reads (unless b fault m) P
  unless_reads P true fault m h = h refl
  unless_reads P false fault m h = fail_reads P fault

  pub built_reads : (t : Tree) → Within known t → Reads (built t) (Within known)
  built_reads t h = unless_reads (Within known) (not (is_tall t)) TermHeight (give t) (λ e. give_reads (Within known) t h)

  if_ends : {A : Type 0} (P : A → Type 0) (b : Bool) (c : Checked (A × List NamedTerm)) (fault : FaultName) → (b ≡ true → EndsIn c P) →
      EndsIn (if b then c else Err fault) P
  if_ends P true c fault h = h refl
  if_ends P false c fault h = ends_err P fault

  -- one name after the other for a tree
  pub named_term_reads : (t : Tree) → Within known t → (given : List (List ℕ)) → Reads (label names t given) (Within known)
  named_term_reads t h [] named_terms l = ends_ok (Within known) t named_terms h l
  named_term_reads t h (name ∷ given) named_terms l =
      let last : NamedTerm = record { name = name; tree = t } in
      if_ends (Within known) (is_free_named_term names named_terms name) (label names t given (named_terms ++ last ∷ [])) Redeclared
      (λ free. named_term_reads t h given (named_terms ++ last ∷ []) (record {
        trees = all_in_both (λ l. uses_only known l.tree) named_terms (last ∷ []) l.trees (join h refl);
        free = free_last names [] named_terms last l.free free;
      }))
