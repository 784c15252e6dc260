-- Sizes up to their bounds.
use Rattle.std.specs.Prelude.{◌≡◌, ℕ, suc, ◌+◌, max, List, [], ◌∷◌, ◌++◌, map, fold, length, codes}
use Rattle.std.proofs.Common.{ap, ap₂, ◌∙◌, arith, length-append}
use Rattle.eo_sexp.specs.Sexp.{Sexp, sexps_of}
use Rattle.eo_sexp.specs.Printing.{printed, printed_others}
use Rattle.eo_show.specs.declared.sizes.Size.{Size}
use Rattle.eo_show.specs.Forms.{list, symbol}
use Rattle.eo_show.specs.Members.{nesting, nesting_all}
use Rattle.eo_show.specs.Plan.{up_to}
use Rattle.eo_show.specs.Sizes.{size_of, list_size, with_part}

abbrev sized : ℕ → ℕ → Size
sized h b = record { height = up_to 64 h; bytes = up_to 4096 b }

higher : (h k : ℕ) → up_to 64 (max (up_to 64 h) (suc (up_to 64 k))) ≡ up_to 64 (max h (suc k))
higher h k = grind arith

longer : (b c : ℕ) → up_to 4096 (up_to 4096 b + suc (up_to 4096 c)) ≡ up_to 4096 (b + suc c)
longer b c = grind arith

pub one_more : (h b : ℕ) (s : Sexp) → with_part (sized h b) (size_of s) ≡ sized (max h (suc (suc (nesting s)))) (b + suc (length (printed s)))
one_more h b s = ap₂ (λ x y. record { height = x; bytes = y }) (higher h (suc (nesting s))) (longer b (length (printed s)))

more_parts : (h b : ℕ) (ss : List Sexp) → fold with_part (sized (suc (suc h)) b) (map size_of ss) ≡ sized (suc (suc (max h (nesting_all (sexps_of ss))))) (b + length (printed_others (sexps_of ss)))
more_parts h b [] =
    let high : suc (suc h) ≡ suc (suc (max h 0)) = omega arith in
    let long : b ≡ b + 0 = omega arith in
    ap₂ sized high long
more_parts h b (s ∷ ss) =
    let first : max (suc (suc h)) (suc (suc (nesting s))) ≡ suc (suc (max h (nesting s))) = omega arith in
    let high : suc (suc (max (max h (nesting s)) (nesting_all (sexps_of ss)))) ≡ suc (suc (max h (max (nesting s) (nesting_all (sexps_of ss))))) = omega arith in
    let long : b + suc (length (printed s)) + length (printed_others (sexps_of ss)) ≡ b + suc (length (printed s ++ printed_others (sexps_of ss))) = omega (arith, length-append (printed s) (printed_others (sexps_of ss))) in
    ap (λ z. fold with_part z (map size_of ss)) (one_more (suc (suc h)) b s ∙ ap (λ n. sized n (b + suc (length (printed s)))) first) ∙ more_parts (max h (nesting s)) (b + suc (length (printed s))) ss ∙ ap₂ sized high long

-- a list of a symbol and other parts
pub list-sized : (name : List ℕ) (ss : List Sexp) → fold with_part (list_size (length (printed (symbol name)))) (map size_of ss) ≡ size_of (list (symbol name ∷ ss))
list-sized name ss =
    let high : suc (suc (max 0 (nesting_all (sexps_of ss)))) ≡ suc (nesting (list (symbol name ∷ ss))) = omega arith in
    let long : 2 + length (printed (symbol name)) + length (printed_others (sexps_of ss)) ≡ length (printed (list (symbol name ∷ ss))) =
    omega (arith, length-append (printed (symbol name) ++ printed_others (sexps_of ss)) (codes ")"), length-append (printed (symbol name)) (printed_others (sexps_of ss))) in
    more_parts 0 (2 + length (printed (symbol name))) ss ∙ ap₂ sized high long
