-- What is declared at the place of a term.
use Rattle.std.proofs.Common.{◌≡◌, ℕ, ◌+◌, ◌<◌, Bool, true, false, ◌&&◌, List, [], ◌∷◌, ◌++◌, length, refl, ap, sym, subst, ◌∙◌, arith}
use Rattle.std.specs.Prelude.{Option, Some, None, option_map, IfSome, bytes_eq, position, slice_get, if◌then◌else◌}
use Rattle.std.specs.Option.{option_or}
use Rattle.std.proofs.lemmas.List.{append-nil, length-append, length-map, map-append}
use Rattle.std.proofs.lemmas.List.Elements.{filter_map-append}
use Rattle.eo_base.proofs.Elements.{slice_get_left, slice_get_seam}
use Rattle.eo_term.specs.Tree.{Tree}
use Rattle.eo_sig.specs.declared.records.ProgramDecl.{ProgramDecl}
use Rattle.eo_sig.specs.declared.records.Declared.TheVariants as declared
use Rattle.eo_sig.specs.declared.records.Entry as code_entry
use Rattle.eo_sig.specs.declared.records.Entry.TheVariants as names
use Rattle.eo_sig.specs.Signature as sig
use Rattle.eo_sig.specs.Parts.{lookup_in}
use Rattle.eo_sig.specs.Reading.{Kept, signature, macros, read_entry, read_program, read_named, const_of, program_decl_of, constants_of, programs_of, IsWithin}
use Rattle.eo_sig.specs.Views.{with_own, own_entry}
use Rattle.eo_sig.proofs.Positions.{position-push}
use Rattle.eo_sig.proofs.Readings.{programs_read}

-- ---- by number

pub own_constants : (k : Kept) (o : Option ProgramDecl) → constants_of (with_own k o) ≡ constants_of k
own_constants k None = refl
own_constants k (Some d) = filter_map-append const_of k.entries (declared.Program d ∷ []) ∙ append-nil (constants_of k)

pub own_programs : (k : Kept) (d : ProgramDecl) → programs_of (with_own k (Some d)) ≡ programs_of k ++ d ∷ []
own_programs k d = filter_map-append program_decl_of k.entries (declared.Program d ∷ [])

pub programs_count : (ts : List Tree) (k : Kept) → length (sig.programs (signature ts k)) ≡ length (programs_of k)
programs_count ts k = ap length (programs_read ts k.entries) ∙ length-map (programs_of k) (read_program ts)

own_count : (k : Kept) (d : ProgramDecl) → length (programs_of (with_own k (Some d))) ≡ length (programs_of k) + 1
own_count k d = ap length (own_programs k d) ∙ length-append (programs_of k) (d ∷ [])

-- the program after the signature has the next number, and those before it have theirs
pub own_here : (k : Kept) (d : ProgramDecl) (n : ℕ) → n ≡ length (programs_of k) → slice_get (programs_of (with_own k (Some d))) n ≡ Some d
own_here k d n e = (λ i. slice_get (own_programs k d i) (e i)) ∙ slice_get_seam (programs_of k) d []

pub own_before : (k : Kept) (o : Option ProgramDecl) (n : ℕ) (x : ProgramDecl) → slice_get (programs_of k) n ≡ Some x → slice_get (programs_of (with_own k o)) n ≡ Some x
own_before k None n x e = e
own_before k (Some d) n x e = ap (λ ps. slice_get ps n) (own_programs k d) ∙ slice_get_left (programs_of k) (d ∷ []) n x e

pub own_less : (k : Kept) (d : ProgramDecl) (n : ℕ) → n < length (programs_of (with_own k (Some d))) → (n ≡ length (programs_of k) → ⊥) → n < length (programs_of k)
own_less k d n h differs = let count = own_count k d in omega (arith, h, count, differs)

-- ---- by name

module _ (ts : List Tree) (k : Kept) (name : List ℕ) where
  -- what a signature and then another program give
  either : (a b c e : Option ℕ) → option_or (option_map sig.NamesConstant a) (option_or (option_map sig.NamesMacro b) (option_map sig.NamesProgram (option_or c e))) ≡ option_or (option_or (option_map sig.NamesConstant a) (option_or (option_map sig.NamesMacro b) (option_map sig.NamesProgram c))) (option_map sig.NamesProgram e)
  either (Some n) b c e = refl
  either None (Some n) c e = refl
  either None None (Some n) e = refl
  either None None None e = refl

  by_number : (b : Bool) (n m : ℕ) → n ≡ m → option_map sig.NamesProgram (if b then Some n else None) ≡ option_map read_named (if b then Some (names.Program m) else None)
  by_number true n m e = ap (λ i. Some (sig.NamesProgram i)) e
  by_number false n m e = refl

  none-behind : (o : Option sig.Named) → o ≡ option_or o None
  none-behind None = refl
  none-behind (Some x) = refl

  pub own_lookup : (o : Option ProgramDecl) (n : ℕ) → length (programs_of k) ≡ n → lookup_in ts (with_own k o) name ≡ option_or (lookup_in ts k name) (option_map read_named (own_entry o n name))
  own_lookup None n e = none-behind (lookup_in ts k name)
  own_lookup (Some d) n e =
      let S = signature ts k in
      let p = read_program ts d in
      let whole : signature ts (with_own k (Some d)) ≡ S ++ sig.IsProgram p ∷ [] = map-append (read_entry ts) k.entries (declared.Program d ∷ []) in
      let constants : sig.constants (S ++ sig.IsProgram p ∷ []) ≡ sig.constants S = filter_map-append sig.constant_of S (sig.IsProgram p ∷ []) ∙ append-nil (sig.constants S) in
      let programs : sig.programs (S ++ sig.IsProgram p ∷ []) ≡ sig.programs S ++ p ∷ [] = filter_map-append sig.program_of S (sig.IsProgram p ∷ []) in
      let number : length (sig.programs S) ≡ n = programs_count ts k ∙ e in
      ap (λ T. sig.lookup T (macros ts k) name) whole
      ∙ (λ i. option_or (option_map sig.NamesConstant (position (λ (c : sig.Constant). bytes_eq name c.name) (constants i))) (option_or (option_map sig.NamesMacro (sig.macro_named (macros ts k) name)) (option_map sig.NamesProgram (position (λ (q : sig.Program). bytes_eq name q.name) (programs i)))))
      ∙ ap (λ o. option_or (option_map sig.NamesConstant (sig.constant_named S name)) (option_or (option_map sig.NamesMacro (sig.macro_named (macros ts k) name)) (option_map sig.NamesProgram o))) (position-push (λ (q : sig.Program). bytes_eq name q.name) (sig.programs S) p)
      ∙ either (sig.constant_named S name) (sig.macro_named (macros ts k) name) (sig.program_named S name) (if bytes_eq name d.name then Some (length (sig.programs S)) else None)
      ∙ ap (option_or (sig.lookup S (macros ts k) name)) (by_number (bytes_eq name d.name) (length (sig.programs S)) n number)

  -- the same before m arguments
  pub own_lookup_count : (m : ℕ) (o : Option ProgramDecl) (n : ℕ) → length (programs_of k) ≡ n
      → sig.lookup_count (signature ts (with_own k o)) (macros ts (with_own k o)) name m ≡ option_or (sig.lookup_count (signature ts k) (macros ts k) name m) (option_map read_named (own_entry o n name))
  own_lookup_count m None n e = none-behind (sig.lookup_count (signature ts k) (macros ts k) name m)
  own_lookup_count m (Some d) n e =
      let S = signature ts k in
      let p = read_program ts d in
      let whole : signature ts (with_own k (Some d)) ≡ S ++ sig.IsProgram p ∷ [] = map-append (read_entry ts) k.entries (declared.Program d ∷ []) in
      let constants : sig.constants (S ++ sig.IsProgram p ∷ []) ≡ sig.constants S = filter_map-append sig.constant_of S (sig.IsProgram p ∷ []) ∙ append-nil (sig.constants S) in
      let counted : sig.counted (S ++ sig.IsProgram p ∷ []) ≡ sig.counted S = filter_map-append sig.counted_of S (sig.IsProgram p ∷ []) ∙ append-nil (sig.counted S) in
      let programs : sig.programs (S ++ sig.IsProgram p ∷ []) ≡ sig.programs S ++ p ∷ [] = filter_map-append sig.program_of S (sig.IsProgram p ∷ []) in
      let number : length (sig.programs S) ≡ n = programs_count ts k ∙ e in
      ap (λ T. sig.lookup_count T (macros ts k) name m) whole
      ∙ (λ i. option_or (option_map sig.NamesConstant (option_or (position (λ (q : sig.Constant × sig.Counts). bytes_eq name q.0.name && sig.takes q.1 m) (counted i)) (position (λ (c : sig.Constant). bytes_eq name c.name) (constants i)))) (option_or (option_map sig.NamesMacro (sig.macro_named (macros ts k) name)) (option_map sig.NamesProgram (position (λ (q : sig.Program). bytes_eq name q.name) (programs i)))))
      ∙ ap (λ o. option_or (option_map sig.NamesConstant (sig.constant_for S name m)) (option_or (option_map sig.NamesMacro (sig.macro_named (macros ts k) name)) (option_map sig.NamesProgram o))) (position-push (λ (q : sig.Program). bytes_eq name q.name) (sig.programs S) p)
      ∙ either (sig.constant_for S name m) (sig.macro_named (macros ts k) name) (sig.program_named S name) (if bytes_eq name d.name then Some (length (sig.programs S)) else None)
      ∙ ap (option_or (sig.lookup_count S (macros ts k) name m)) (by_number (bytes_eq name d.name) (length (sig.programs S)) n number)

pub within_before : (k : Kept) (o : Option ProgramDecl) (e : code_entry.Entry) → IsWithin k e → IsWithin (with_own k o) e
within_before k None e h = h
within_before k (Some d) (names.Constant n) h = subst (λ m. n < m) (sym (ap length (own_constants k (Some d)))) h
within_before k (Some d) (names.Macro n) h = h
within_before k (Some d) (names.Program n) h = let count = own_count k d in omega (arith, h, count)

pub within_own : (k : Kept) (o : Option ProgramDecl) (n : ℕ) (name : List ℕ) → length (programs_of k) ≡ n → IfSome (own_entry o n name) (λ e. IsWithin (with_own k o) e)
within_own k None n name e = tt
within_own k (Some d) n name e = by (bytes_eq name d.name)
  where
    by : (b : Bool) → IfSome (if b then Some (names.Program n) else None) (λ e. IsWithin (with_own k (Some d)) e)
    by true = let count = own_count k d in omega (arith, e, count)
    by false = tt
