-- What several writes add.
use Rattle.std.proofs.Common.{◌≡◌, ℕ, ◌+◌, ◌-◌, ◌≤◌, List, ◌++◌, length, take, drop, Option, None, Some, sym, ap, ◌∙◌, append_assoc, subst, arith, length-drop}
use Rattle.std.proofs.lemmas.List.{take_all}
use Rattle.std.proofs.Math.Seq.{take-add}
use Rattle.std.specs.Option.{option_map}
use Rattle.eo_io.specs.declared.Put.TheVariants.{Took}
use Rattle.eo_io.specs.Sink.{Adds, Writes}

-- one piece and then another
pub Adds-append : (xs ys : List ℕ) (a b c : Option (List ℕ)) → Adds xs a b → Adds ys b c → Adds (xs ++ ys) a c
Adds-append xs ys None b c p q = q ∙ ap (option_map (λ old. old ++ ys)) p
Adds-append xs ys (Some old) b c p q = q ∙ ap (option_map (λ old. old ++ ys)) p ∙ ap Some (append_assoc old xs ys)

-- the first `done` bytes, and then a write of the rest that took n
pub Adds-more : (bytes : List ℕ) (done n : ℕ) (a b c : Option (List ℕ)) → done ≤ length bytes → Adds (take done bytes) a b
    → Writes (Took n) (take (length bytes - done) (drop done bytes)) b c
    → (done + n ≤ length bytes) × Adds (take (done + n) bytes) a c
Adds-more bytes done n a b c within p q =
    let rest : take (length bytes - done) (drop done bytes) ≡ drop done bytes = take_all _ _ (omega (arith, length-drop done bytes)) in
    let w = subst (λ piece. Writes (Took n) piece b c) rest q in
    let short : done + n ≤ length bytes = omega (arith, w.0, length-drop done bytes) in
    (short, subst (λ front. Adds front a c) (sym (take-add done n bytes)) (Adds-append _ _ _ _ _ p w.1))
