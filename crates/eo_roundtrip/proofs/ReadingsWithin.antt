-- What readings end with, where the names that a term is given mean trees within their ranges.
use Rattle.std.specs.Prelude.{◌≡◌, ℕ, Bool, true, false, not, if◌then◌else◌, List, [], ◌∷◌, ◌++◌, Ok, Err, refl}
use Rattle.std.specs.List.{list_all}
use Rattle.std.proofs.Common.{subst}
use Rattle.eo_base.proofs.Tests.{join}
use Rattle.eo_base.specs.declared.FaultName.{FaultName}
use Rattle.eo_base.specs.declared.FaultName.TheVariants.{Redeclared, TermHeight}
use Rattle.eo_base.specs.Checks.{Checked}
use Rattle.eo_base.proofs.ChecksLemmas.{ok_injective, err_is_not_ok}
use Rattle.eo_term.specs.Tree.{Tree, is_tall}
use Rattle.eo_names.specs.Contexts.{Context}
use Rattle.eo_names.specs.Readers.{NamedTerm, Reader, go_on, ◌>>=◌, give, fail, with_named_terms, read, unless, built}
use Rattle.eo_elab.specs.Meaning.{is_free_named_term, label}
use Rattle.eo_elab.proofs.Uses.{all_in_both}
use Rattle.eo_roundtrip.proofs.Within.{is_within}
use Rattle.eo_roundtrip.proofs.Ranges.{IsWithin}

abbrev pub NamedTermsWithin : List NamedTerm → Type 0
NamedTermsWithin named_terms = list_all (λ l. is_within l.tree) named_terms ≡ true

-- what a reading ends with, where it passes
abbrev pub EndsIn : {A : Type 0} → Checked (A × List NamedTerm) → (A → Type 0) → Type 0
EndsIn {A} c P = (r : A × List NamedTerm) → c ≡ Ok r → P r.0 × NamedTermsWithin r.1

abbrev pub Reads : {A : Type 0} → Reader A → (A → Type 0) → Type 0
Reads m P = (named_terms : List NamedTerm) → NamedTermsWithin named_terms → EndsIn (m named_terms) P

pub ends_ok : {A : Type 0} (P : A → Type 0) (x : A) (named_terms : List NamedTerm) → P x → NamedTermsWithin named_terms → EndsIn (Ok (x, named_terms)) P
ends_ok {A} P x named_terms p l r e = subst (λ (q : A × List NamedTerm). P q.0 × NamedTermsWithin q.1) (ok_injective (x, named_terms) r e) (p, l)

pub ends_err : {A : Type 0} (P : A → Type 0) (fault : FaultName) → EndsIn {A = A} (Err fault) P
ends_err P fault r e = absurd (err_is_not_ok fault r e)

go_ends : {A B : Type 0} (P : A → Type 0) (Q : B → Type 0) (c : Checked (A × List NamedTerm)) (f : A → Reader B) → EndsIn c P →
    ((a : A) → P a → Reads (f a) Q) → EndsIn (go_on f c) Q
go_ends P Q (Ok r) f h k = let x = h r refl in k r.0 x.0 r.1 x.1
go_ends P Q (Err fault) f h k = ends_err Q fault

pub bind_reads : {A B : Type 0} (P : A → Type 0) (Q : B → Type 0) (m : Reader A) (f : A → Reader B) → Reads m P →
    ((a : A) → P a → Reads (f a) Q) → Reads (m >>= f) Q
bind_reads P Q m f h k named_terms l = go_ends P Q (m named_terms) f (h named_terms l) k

pub give_reads : {A : Type 0} (P : A → Type 0) (x : A) → P x → Reads (give x) P
give_reads P x p named_terms l = ends_ok P x named_terms p l

pub fail_reads : {A : Type 0} (P : A → Type 0) (fault : FaultName) → Reads {A = A} (fail fault) P
fail_reads P fault named_terms l = ends_err P fault

-- a tree, and a list after it
pub first_reads : (P Q : List Tree → Type 0) (m : Reader Tree) (n : Reader (List Tree)) → Reads m IsWithin → Reads n P →
    ((t : Tree) (ts : List Tree) → IsWithin t → P ts → Q (t ∷ ts)) → Reads (m >>= λ t. n >>= λ ts. give (t ∷ ts)) Q
first_reads P Q m n h k q =
    bind_reads IsWithin Q m (λ t. n >>= λ ts. give (t ∷ ts)) h
    (λ t u. bind_reads P Q n (λ ts. give (t ∷ ts)) k (λ ts p. give_reads Q (t ∷ ts) (q t ts u p)))

pub labelled_ends : {A : Type 0} (P : A → Type 0) (named_terms : List NamedTerm) → NamedTermsWithin named_terms → (c : Checked A) →
    ((x : A) → c ≡ Ok x → P x) → EndsIn (with_named_terms named_terms c) P
labelled_ends P named_terms l (Ok x) h = ends_ok P x named_terms (h x refl) l
labelled_ends P named_terms l (Err fault) h = ends_err P fault

pub read_reads : {A : Type 0} (P : A → Type 0) (c : Checked A) → ((x : A) → c ≡ Ok x → P x) → Reads (read c) P
read_reads P c h named_terms l = labelled_ends P named_terms l c h

pub unless_reads : {A : Type 0} (P : A → Type 0) (b : Bool) (fault : FaultName) (m : Reader A) → (b ≡ true → Reads m P) →
    Reads (unless b fault m) P
unless_reads P true fault m h = h refl
unless_reads P false fault m h = fail_reads P fault

pub built_reads : (t : Tree) → IsWithin t → Reads (built t) IsWithin
built_reads t h = unless_reads IsWithin (not (is_tall t)) TermHeight (give t) (λ e. give_reads IsWithin t h)

if_ends : {A : Type 0} (P : A → Type 0) (b : Bool) (c : Checked (A × List NamedTerm)) (fault : FaultName) → (b ≡ true → EndsIn c P) →
    EndsIn (if b then c else Err fault) P
if_ends P true c fault h = h refl
if_ends P false c fault h = ends_err P fault

-- one name after the other for a tree
pub named_term_reads : (c : Context) (t : Tree) → IsWithin t → (given : List (List ℕ)) → Reads (label c t given) IsWithin
named_term_reads c t h [] named_terms l = ends_ok IsWithin t named_terms h l
named_term_reads c t h (name ∷ given) named_terms l =
    let last : NamedTerm = record { name = name; tree = t } in
    if_ends IsWithin (is_free_named_term c named_terms name) (label c t given (named_terms ++ last ∷ [])) Redeclared
    (λ free. named_term_reads c t h given (named_terms ++ last ∷ []) (all_in_both (λ (l : NamedTerm). is_within l.tree) named_terms (last ∷ []) l (join h refl)))
