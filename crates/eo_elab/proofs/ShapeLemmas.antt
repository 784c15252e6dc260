-- Shapes of lists of pairs.
use Rattle.std.proofs.Common.{◌≡◌, ◌&&◌, List, length, ap, ◌∙◌}
use Rattle.eo_sexp.specs.Sexp.{Sexp, Atom, Listed, NoSexp, Next, sexp_children, sexps_of}
use Rattle.eo_sexp.proofs.Sizes.{sexps_of-children}
use Rattle.eo_elab.specs.Meaning.{is_pair, are_pairs, is_pair_list}

pub list_of_pairs : (s : Sexp) (xs : List Sexp) → xs ≡ sexp_children s → (length xs ≡ 0 → ⊥) → are_pairs (sexps_of xs) ≡ is_pair_list s
list_of_pairs (Atom k text span) xs e l = absurd (l (ap length e))
list_of_pairs (Listed NoSexp span) xs e l = absurd (l (ap length e))
list_of_pairs (Listed (Next s ss) span) xs e l = ap (λ ys. are_pairs (sexps_of ys)) e ∙ ap (λ us. is_pair s && are_pairs us) (sexps_of-children ss)
