-- How deep and how long what is written is.
use Rattle.std.specs.Prelude.{◌≡◌, refl, ℕ, zero, suc, ◌≤◌, true, List, [], ◌∷◌, ◌++◌, map, length, if◌then◌else◌, codes, All}
use Rattle.std.proofs.Common.{ap, ap₂, arith, length-append}
use Rattle.std.proofs.lemmas.List.Elements.{All-head, All-tail, All-weaker}
use Rattle.eo_base.specs.Limits.{Limits}
use Rattle.eo_term.specs.Tree.{Tree, Str, height, is_value}
use Rattle.eo_sexp.specs.Sexp.{Sexp, Atom, Listed, Sexps, NoSexp, Next, sexps_of, children_of}
use Rattle.eo_sexp.specs.Printing.{printed, printed_others, printed_atom, is_text_of, IsPrintable, AllPrintable}
use Rattle.eo_sig.specs.Signature.{Signature}
use Rattle.eo_show.specs.Forms.{Form, Leaf, Folded, Plainly, Function, Variable, form, parts, with_parts, list, symbol, name_of}
use Rattle.eo_show.specs.Members.{nesting, nesting_all, stand_in, wants_line, measured}
use Rattle.eo_show.proofs.FormFacts.{some_height}
use Rattle.eo_show.specs.Walking.{IsLower}
use Rattle.eo_show.proofs.Lower.{parts-below}

-- ---- the same parts give the same

map-same : (f g : Tree → Sexp) (ts : List Tree) → All (λ p. f p ≡ g p) ts → map f ts ≡ map g ts
map-same f g [] all = refl
map-same f g (t ∷ ts) all = ap₂ (λ s ss. s ∷ ss) (All-head (λ p. f p ≡ g p) t ts all) (map-same f g ts (All-tail (λ p. f p ≡ g p) t ts all))

pub with_parts-same : (S : Signature) (f g : Tree → Sexp) (F : Form) → All (λ p. f p ≡ g p) (parts S F) → with_parts S f F ≡ with_parts S g F
with_parts-same S f g (Leaf k text) all = refl
with_parts-same S f g (Folded c args) all = ap (λ ss. list (symbol (name_of S c) ∷ ss)) (map-same f g args all)
with_parts-same S f g (Plainly h args) all = ap (λ ss. list (symbol (codes "_") ∷ ss)) (map-same f g (h ∷ args) all)
with_parts-same S f g (Function a b) all = ap (λ ss. list (symbol (codes "->") ∷ ss)) (map-same f g (a ∷ b ∷ []) all)
with_parts-same S f g (Variable s t) all = ap (λ ss. list (symbol (codes "eo::var") ∷ ss)) (map-same f g (Str s ∷ t ∷ []) all)

-- a value is measured the same however deep its parts may lie
pub measured-same : (S : Signature) (all : List Tree) (d e : ℕ) (t : Tree) → is_value t ≡ true → height t ≤ d → height t ≤ e → measured S all d t ≡ measured S all e t
measured-same S all zero e t v h k = absurd (omega (arith, some_height t))
measured-same S all (suc d) zero t v h k = absurd (omega (arith, some_height t))
measured-same S all (suc d) (suc e) t v h k =
    with_parts-same S _ _ (form S t) (All-weaker (IsLower (height t)) _ (λ p b. part p (measured-same S all d e p b.value (omega (arith, b.lower)) (omega (arith, b.lower)))) (parts S (form S t)) (parts-below S t v))
  where
    part : (p : Tree) → measured S all d p ≡ measured S all e p → (if wants_line S all p (measured S all d p) then stand_in else measured S all d p) ≡ (if wants_line S all p (measured S all e p) then stand_in else measured S all e p)
    part p same = ap (λ s. if wants_line S all p s then stand_in else s) same

-- ---- what is no deeper and no longer

abbrev pub IsNoLarger : Sexp → Sexp → Type 0
IsNoLarger a b = (nesting a ≤ nesting b) × (length (printed a) ≤ length (printed b))

abbrev AllNoLarger : Sexps → Sexps → Type 0
AllNoLarger a b = (nesting_all a ≤ nesting_all b) × (length (printed_others a) ≤ length (printed_others b))

map-smaller : (f g : Tree → Sexp) (ts : List Tree) → All (λ p. IsNoLarger (f p) (g p)) ts → AllNoLarger (sexps_of (map f ts)) (sexps_of (map g ts))
map-smaller f g [] all = (omega arith, omega arith)
map-smaller f g (t ∷ ts) all = join (All-head (λ p. IsNoLarger (f p) (g p)) t ts all) (map-smaller f g ts (All-tail (λ p. IsNoLarger (f p) (g p)) t ts all))
  where
    join : IsNoLarger (f t) (g t) → AllNoLarger (sexps_of (map f ts)) (sexps_of (map g ts)) → AllNoLarger (sexps_of (map f (t ∷ ts))) (sexps_of (map g (t ∷ ts)))
    join a b = (omega (arith, a.0, b.0), omega (arith, a.1, b.1, length-append (printed (f t)) (printed_others (sexps_of (map f ts))), length-append (printed (g t)) (printed_others (sexps_of (map g ts)))))

list-smaller : (word : List ℕ) (a b : List Sexp) → AllNoLarger (sexps_of a) (sexps_of b) → IsNoLarger (list (symbol word ∷ a)) (list (symbol word ∷ b))
list-smaller word a b h = (
  omega (arith, h.0),
  omega (arith, h.1, length-append (printed (symbol word) ++ printed_others (sexps_of a)) (codes ")"), length-append (printed (symbol word) ++ printed_others (sexps_of b)) (codes ")"), length-append (printed (symbol word)) (printed_others (sexps_of a)), length-append (printed (symbol word)) (printed_others (sexps_of b))),
)

pub with_parts-smaller : (S : Signature) (f g : Tree → Sexp) (F : Form) → All (λ p. IsNoLarger (f p) (g p)) (parts S F) → IsNoLarger (with_parts S f F) (with_parts S g F)
with_parts-smaller S f g (Leaf k text) all = (omega arith, omega arith)
with_parts-smaller S f g (Folded c args) all = list-smaller (name_of S c) (map f args) (map g args) (map-smaller f g args all)
with_parts-smaller S f g (Plainly h args) all = list-smaller (codes "_") (map f (h ∷ args)) (map g (h ∷ args)) (map-smaller f g (h ∷ args) all)
with_parts-smaller S f g (Function a b) all = list-smaller (codes "->") (map f (a ∷ b ∷ [])) (map g (a ∷ b ∷ [])) (map-smaller f g (a ∷ b ∷ []) all)
with_parts-smaller S f g (Variable s t) all = list-smaller (codes "eo::var") (map f (Str s ∷ t ∷ [])) (map g (Str s ∷ t ∷ [])) (map-smaller f g (Str s ∷ t ∷ []) all)

-- ---- what can be printed

module _ (limits : Limits) where
  -- atoms that are spelled and not too long, and lists that are not too wide
  abbrev mutual
    pub IsSound : Sexp → Type 0
    IsSound (Atom k text span) = (is_text_of k text ≡ true) × (length (printed_atom k text) ≤ limits.token)
    IsSound (Listed ss span) = (length (children_of ss) ≤ limits.width) × AllSound ss

    pub AllSound : Sexps → Type 0
    AllSound NoSexp = Unit {0}
    AllSound (Next s rest) = IsSound s × AllSound rest

  mutual
    pub sound-printable : (d : ℕ) (s : Sexp) → IsSound s → nesting s ≤ d → IsPrintable limits d s
    sound-printable d (Atom k text span) h le = h
    sound-printable zero (Listed ss span) h le = absurd (omega arith)
    sound-printable (suc d) (Listed ss span) h le = sound-all d limits.width ss h.1 (omega arith) h.0

    sound-all : (d n : ℕ) (ss : Sexps) → AllSound ss → nesting_all ss ≤ d → length (children_of ss) ≤ n → AllPrintable limits d n ss
    sound-all d n NoSexp h le few = tt
    sound-all d zero (Next s rest) h le few = absurd (omega arith)
    sound-all d (suc n) (Next s rest) h le few = (sound-printable d s h.0 (omega arith), sound-all d n rest h.1 (omega arith) (omega arith))
