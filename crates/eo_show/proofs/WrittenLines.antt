-- Lines as bytes.
use Rattle.std.specs.Prelude.{◌≡◌, refl, ℕ, zero, suc, ◌+◌, ◌<◌, ◌≤◌, List, [], ◌∷◌, ◌++◌, map, drop, length, slice_index_or, Option, codes}
use Rattle.std.proofs.Common.{sym, ap, ap₂, ◌∙◌, append-nil, append_assoc, arith}
use Rattle.std.proofs.lemmas.List.{at_drop_more, at_drop_all}
use Rattle.eo_sexp.specs.Lexicon.{is_word, begins_digit, kind_of}
use Rattle.eo_sexp.specs.Sexp.{Sexp}
use Rattle.eo_sexp.specs.Printing.{printed, printed_atom, printed_lines}
use Rattle.eo_sig.specs.Signature.{Signature}
use Rattle.eo_term.specs.Tree.{Tree, Con, height}
use Rattle.eo_show.specs.Forms.{symbol}
use Rattle.eo_show.specs.Lines.{Line, line, line_name, definition, written}
use Rattle.eo_show.specs.Numbers.{numbered}
use Rattle.eo_show.proofs.WrittenParts.{printed-name}

printed-define : printed (symbol (codes "define")) ≡ codes "define"
unfolding printed_atom is_word begins_digit kind_of
printed-define = refl

definition-printed : (k : ℕ) (body : Sexp) → printed (definition (line_name k) body) ≡ codes "(define " ++ (line_name k ++ (codes " () " ++ (printed body ++ codes ")")))
definition-printed k body =
    ap₂ (λ (x y : List ℕ). codes "(" ++ ((x ++ (codes " " ++ (y ++ (codes " ()" ++ (codes " " ++ (printed body ++ [])))))) ++ codes ")")) printed-define (printed-name k)
    ∙ ap (λ xs. codes "(define " ++ xs) (append_assoc (line_name k) (codes " () " ++ (printed body ++ [])) (codes ")") ∙ ap (λ xs. line_name k ++ (codes " () " ++ (xs ++ codes ")"))) (append-nil (printed body)))

from-left : (o a n b p c : List ℕ) → ((((o ++ a) ++ n) ++ b) ++ p) ++ c ≡ o ++ (a ++ (n ++ (b ++ (p ++ c))))
from-left o a n b p c = append_assoc (((o ++ a) ++ n) ++ b) p c ∙ append_assoc ((o ++ a) ++ n) b (p ++ c) ∙ append_assoc (o ++ a) n (b ++ (p ++ c)) ∙ append_assoc o a (n ++ (b ++ (p ++ c)))

at-end : (a n b p d e : List ℕ) → (a ++ (n ++ (b ++ (p ++ d)))) ++ e ≡ a ++ (n ++ (b ++ (p ++ (d ++ e))))
at-end a n b p d e =
    append_assoc a (n ++ (b ++ (p ++ d))) e
    ∙ ap (λ xs. a ++ xs) (append_assoc n (b ++ (p ++ d)) e ∙ ap (λ xs. n ++ xs) (append_assoc b (p ++ d) e ∙ ap (λ xs. b ++ xs) (append_assoc p d e)))

module _ (S : Signature) (named : Tree → Option (List ℕ)) where
  abbrev one_line : ℕ → Tree → Line
  one_line k u = record { name = line_name k; tree = u }

  pub line-printed : (k : ℕ) (u : Tree) (out : List ℕ) →
      ((((out ++ codes "(define ") ++ line_name k) ++ codes " () ") ++ printed (written S (height u) named u)) ++ codes ")\n" ≡ out ++ printed_lines (line S named (one_line k u) ∷ [])
  line-printed k u out =
      let body = printed (written S (height u) named u) in
      from-left out (codes "(define ") (line_name k) (codes " () ") body (codes ")\n")
      ∙ ap (λ xs. out ++ xs) (sym (append-nil (printed (line S named (one_line k u)) ++ codes "\n") ∙ ap (λ xs. xs ++ codes "\n") (definition-printed k (written S (height u) named u)) ∙ at-end (codes "(define ") (line_name k) (codes " () ") body (codes ")") (codes "\n")))

  -- ---- all lines

  abbrev lines : List Tree → List ℕ → List ℕ
  lines us ns = printed_lines (map (line S named) (numbered us ns))

  first-line : (u : Tree) (us : List Tree) (n : ℕ) (ns : List ℕ) (out new : List ℕ) → 0 < n → new ≡ out ++ printed_lines (line S named (one_line n u) ∷ []) → new ++ lines us ns ≡ out ++ lines (u ∷ us) (n ∷ ns)
  first-line u us zero ns out new some w = absurd (omega (arith, some))
  first-line u us (suc k) ns out new some w =
      ap (λ xs. xs ++ lines us ns) w ∙ append_assoc out (printed_lines (line S named (one_line (suc k) u) ∷ [])) (lines us ns)
      ∙ ap (λ xs. out ++ (xs ++ lines us ns)) (append-nil (printed (line S named (one_line (suc k) u)) ++ codes "\n"))

  split-lines : (all : List Tree) (numbers : List ℕ) (i : ℕ) → i < length all → i < length numbers → lines (drop i all) (drop i numbers) ≡ lines (slice_index_or all i (Con 0) ∷ drop (i + 1) all) (slice_index_or numbers i 0 ∷ drop (i + 1) numbers)
  split-lines all numbers i lt within =
      at_drop_more (λ us. lines us (drop i numbers)) all i (Con 0) lt ∙ at_drop_more (λ ns. lines (slice_index_or all i (Con 0) ∷ drop (i + 1) all) ns) numbers i 0 within

  -- the line of the member at a place
  pub next-line : (all : List Tree) (numbers : List ℕ) (i : ℕ) (out new : List ℕ) → i < length all → i < length numbers → 0 < slice_index_or numbers i 0 →
      new ≡ out ++ printed_lines (line S named (one_line (slice_index_or numbers i 0) (slice_index_or all i (Con 0))) ∷ []) →
      new ++ lines (drop (i + 1) all) (drop (i + 1) numbers) ≡ out ++ lines (drop i all) (drop i numbers)
  next-line all numbers i out new lt within some w =
      first-line (slice_index_or all i (Con 0)) (drop (i + 1) all) (slice_index_or numbers i 0) (drop (i + 1) numbers) out new some w ∙ sym (ap (λ xs. out ++ xs) (split-lines all numbers i lt within))

  -- a member without a number
  pub skipped-line : (all : List Tree) (numbers : List ℕ) (i : ℕ) (out new : List ℕ) → i < length all → i < length numbers → slice_index_or numbers i 0 ≡ 0 → new ≡ out → new ++ lines (drop (i + 1) all) (drop (i + 1) numbers) ≡ out ++ lines (drop i all) (drop i numbers)
  skipped-line all numbers i out new lt within none w =
      ap (λ xs. xs ++ lines (drop (i + 1) all) (drop (i + 1) numbers)) w
      ∙ sym (ap (λ xs. out ++ xs) (split-lines all numbers i lt within ∙ ap (λ n. lines (slice_index_or all i (Con 0) ∷ drop (i + 1) all) (n ∷ drop (i + 1) numbers)) none))

  pub no-line : (all : List Tree) (numbers : List ℕ) (i : ℕ) (out : List ℕ) → length all ≤ i → out ++ lines (drop i all) (drop i numbers) ≡ out
  no-line all numbers i out past = ap (λ xs. out ++ xs) (at_drop_all (λ us. lines us (drop i numbers)) all i past) ∙ append-nil out
