-- Writing piece by piece.
use Rattle.std.proofs.Common.{◌≡◌, ℕ, suc, ◌+◌, ◌<◌, ◌≤◌, List, [], ◌∷◌, ◌++◌, length, get_or, take, drop, Option, Some, sym, ◌∙◌, ap, subst, arith, append_assoc, length-append}
use Rattle.std.specs.Prelude.{unwrap_or, slice_get, codes, decimal}
use Rattle.std.proofs.lemmas.List.{take-append-drop, take-append-le}
use Rattle.std.proofs.lemmas.Grind.{flat_map-append}
use Rattle.std.proofs.Math.Seq.{drop-cons, take-append-add}
use Rattle.std.specs.Borrow.{Bor}
use Rattle.eo_io.specs.Sink.{Adds, AddsFront}
use Rattle.eo_io.proofs.SinkLemmas.{Adds-append}
use Rattle.eo_base.specs.Faults.{number}
use Rattle.eo_base.specs.FaultTexts.{text}
use Rattle.eo_base.specs.declared.Fault.{Fault}
use Rattle.eo_run.specs.Verdict.{Refusal, Refused}
use Rattle.eo_run.specs.Printed.{line, two_digits, refusal_text, verdict_due, bench_text}
use Rattle.eo_run.specs.Pieces.{text_of, refusal_of_pieces, refused_due, counts_of_pieces}

-- a front of a list, after another list and before a third
front_behind : (n : ℕ) (a b c : List ℕ) → n ≤ length b → take (length a + n) (a ++ (b ++ c)) ≡ a ++ take n b
front_behind n a b c h = take-append-add a (b ++ c) n ∙ ap (λ z. a ++ z) (take-append-le n b c h)

pub front_more : (a b c : List ℕ) (w x y : Option (List ℕ)) → Adds a w x → AddsFront b x y → AddsFront (a ++ (b ++ c)) w y
front_more a b c w x y e (n, within, e') = (
  length a + n,
  (let l : length (a ++ (b ++ c)) ≡ length a + (length b + length c) = length-append a (b ++ c) ∙ ap (λ m. length a + m) (length-append b c) in omega arith),
  subst (λ bytes. Adds bytes w y) (sym (front_behind n a b c within)) (Adds-append a (take n b) w x y e e'),
)

text_whole : (pieces : List (Bor (List ℕ))) (i : ℕ) (p : Bor (List ℕ)) → i < length pieces → text_of pieces ≡ text_of (take i pieces) ++ ((get_or pieces i p).now ++ text_of (drop (suc i) pieces))
text_whole pieces i p h =
    ap text_of (sym (take-append-drop i pieces) ∙ ap (λ z. take i pieces ++ z) (drop-cons pieces i p h))
    ∙ flat_map-append (λ (p : Bor (List ℕ)). p.now) (take i pieces) (get_or pieces i p ∷ drop (suc i) pieces)

pub front_of_pieces : (pieces : List (Bor (List ℕ))) (i : ℕ) (piece : List ℕ) (p : Bor (List ℕ)) → i < length pieces → piece ≡ (get_or pieces i p).now
    → (w x y : Option (List ℕ)) → Adds (text_of (take i pieces)) w x → AddsFront piece x y → AddsFront (text_of pieces) w y
front_of_pieces pieces i piece p h e w x y adds front =
    subst (λ bytes. AddsFront bytes w y) (ap (λ z. text_of (take i pieces) ++ (z ++ text_of (drop (suc i) pieces))) e ∙ sym (text_whole pieces i p h))
    (front_more (text_of (take i pieces)) piece (text_of (drop (suc i) pieces)) w x y adds front)

-- ---- lines

pub loaded_text : (n : ℕ) (digits : List ℕ) → digits ≡ decimal n → codes "loaded " ++ (digits ++ codes " commands\n") ≡ line (codes "loaded " ++ (decimal n ++ codes " commands"))
loaded_text n digits e =
    ap (λ d. codes "loaded " ++ (d ++ codes " commands\n")) e ∙ ap (λ t. codes "loaded " ++ t) (sym (append_assoc (decimal n) (codes " commands") (10 ∷ [])))

flat_counts : (a b c d e f g h : List ℕ) → a ++ (b ++ (c ++ (d ++ (e ++ (f ++ (g ++ h)))))) ≡ (a ++ (b ++ (c ++ (d ++ (e ++ (f ++ g)))))) ++ h
flat_counts a b c d e f g h = sym (simp append_assoc)

pub counts_line : (n commands terms : ℕ) (number accepted alive : List ℕ) → number ≡ decimal n → accepted ≡ decimal commands → alive ≡ decimal terms → counts_of_pieces number accepted alive ≡ bench_text n commands terms
counts_line n commands terms number accepted alive e-n e-c e-t =
    (λ i. counts_of_pieces (e-n i) (e-c i) (e-t i))
    ∙ flat_counts (codes "bench ") (decimal n) (codes ": correct, ") (decimal commands) (codes " commands, ") (decimal terms) (codes " terms") (codes "\n")

flat : (a b c d e f g h i j k : List ℕ) → a ++ (b ++ (c ++ (d ++ (e ++ (f ++ (g ++ (h ++ (i ++ (j ++ k))))))))) ≡ (a ++ (b ++ (c ++ (d ++ (e ++ (f ++ (g ++ (h ++ (i ++ j))))))))) ++ k
flat a b c d e f g h i j k = sym (simp append_assoc)

pub refusal_line : (zero digits name path row offset : List ℕ) (r : Refusal) → zero ++ digits ≡ two_digits (number r.name) → name ≡ text r.name → path ≡ r.file → row ≡ decimal r.line → offset ≡ decimal r.offset
    → refusal_of_pieces zero digits name path row offset ≡ line (refusal_text r)
refusal_line zero digits name path row offset r e-number e-name e-path e-row e-offset =
    let rest = codes " " ++ (name ++ (codes " " ++ (path ++ (codes ":" ++ (row ++ (codes ":" ++ (offset ++ codes "\n"))))))) in
    ap (λ t. codes "refused F" ++ t) (sym (append_assoc zero digits rest) ∙ ap (λ t. t ++ rest) e-number)
    ∙ ap (λ n. codes "refused F" ++ (two_digits (number r.name) ++ (codes " " ++ (n ++ (codes " " ++ (path ++ (codes ":" ++ (row ++ (codes ":" ++ (offset ++ codes "\n")))))))))) e-name
    ∙ ap (λ p. codes "refused F" ++ (two_digits (number r.name) ++ (codes " " ++ (text r.name ++ (codes " " ++ (p ++ (codes ":" ++ (row ++ (codes ":" ++ (offset ++ codes "\n")))))))))) e-path
    ∙ ap (λ l. codes "refused F" ++ (two_digits (number r.name) ++ (codes " " ++ (text r.name ++ (codes " " ++ (r.file ++ (codes ":" ++ (l ++ (codes ":" ++ (offset ++ codes "\n")))))))))) e-row
    ∙ ap (λ o. codes "refused F" ++ (two_digits (number r.name) ++ (codes " " ++ (text r.name ++ (codes " " ++ (r.file ++ (codes ":" ++ (decimal r.line ++ (codes ":" ++ (o ++ codes "\n")))))))))) e-offset
    ∙ flat (codes "refused F") (two_digits (number r.name)) (codes " ") (text r.name) (codes " ") r.file (codes ":") (decimal r.line) (codes ":") (decimal r.offset) (codes "\n")

-- the path of a fault's file
pub refusal_at : (paths : List (List ℕ)) (fault : Fault) (path : List ℕ) → slice_get paths fault.place.file ≡ Some path
    → refused_due fault path ≡ verdict_due (Refused (record { name = fault.name; file = unwrap_or (slice_get paths fault.place.file) []; line = fault.place.line; offset = fault.place.offset }))
unfolding refused_due
refusal_at paths fault path e = ap (λ o. verdict_due (Refused (record { name = fault.name; file = unwrap_or o []; line = fault.place.line; offset = fault.place.offset }))) (sym e)
