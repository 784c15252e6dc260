-- What the commands of a file say of their own bytes.
use Rattle.std.proofs.Common.{◌≡◌, refl, ℕ, zero, suc, ◌+◌, ◌≤◌, Bool, true, false, List, [], ◌∷◌, ◌++◌, length, take, drop, sym, ap, subst, ◌∙◌, arith}
use Rattle.std.specs.Prelude.{Some, None, codes, bytes_eq}
use Rattle.std.proofs.lemmas.List.{take-append-drop, length-take-le}
use Rattle.eo_base.specs.declared.FaultName.{FaultName}
use Rattle.eo_base.specs.declared.FaultName.TheVariants.{CommandLong}
use Rattle.eo_base.specs.Limits.{Limits}
use Rattle.eo_sexp.specs.Spot.{Spot}
use Rattle.eo_sexp.specs.Sexp.{Sexp, Sexps, Atom, Listed}
use Rattle.eo_sexp.specs.Lexicon.{Class, Space, Open, class, Input, advance}
use Rattle.eo_sexp.specs.Commands.{Reading, Whole, Refused, Cut, ◌>>=◌, front, listed, opened, at_most, atom, children, lists, sexp, command}
use Rattle.eo_sexp.specs.Texts.{Phase, Start, InPair, Plain, Next, Command, End, Fault, More, strip, end_of, is_extra, last_atom, known, decided, from_token, from_front, answer, so_far, next_from, Placed, Reads, Then, Ends, Fails, placed, read_next, reads_from, reads_all}
use Rattle.eo_sexp.proofs.Steady.{Extends, if-cases}
use Rattle.eo_sexp.proofs.Whole.{command-extends}
use Rattle.eo_sexp.proofs.Feeding.{strip-later}
use Rattle.eo_sexp.proofs.Bounds.{command-from, EndsFrom}
use Rattle.eo_trim.proofs.Ending.{OnlyAtoms, sexp-atoms, command-atoms, read-again, whole_rest}
use Rattle.eo_trim.proofs.Again.{IsWorded, Rereads, limit-whole}

-- what a text that ends within it may be at its end is an atom
abbrev CutAtoms : Reading Sexp → Type 0
CutAtoms (Cut (Some (Listed children span))) = ⊥
CutAtoms r = Unit {0}

only_cut : (r : Reading Sexp) → OnlyAtoms r → CutAtoms r
only_cut (Cut (Some (Listed children span))) h = h
only_cut r h = tt

list_cut : (r : Reading Sexps) (t : Input) → CutAtoms (r >>= listed t)
unfolding ◌>>=◌ listed
list_cut (Whole ss rest) t = tt
list_cut (Refused name at) t = tt
list_cut (Cut i) t = tt

limit_cut : (name : FaultName) (most : ℕ) (t : Input) (r : Reading Sexp) → CutAtoms r → CutAtoms (at_most name most t r)
unfolding at_most
limit_cut name most t (Whole x rest) h = if-cases CutAtoms _ (Whole x rest) (Refused name (t.at + most)) (λ e. tt) (λ e. tt)
limit_cut name most t (Refused n at) h = if-cases CutAtoms _ (Refused n at) (Refused name (t.at + most)) (λ e. tt) (λ e. tt)
limit_cut name most t (Cut i) h = if-cases CutAtoms _ (Cut i) (Refused name (t.at + most)) (λ e. h) (λ e. tt)

is-open : (c : Class) (P : Type 0) → (c ≡ Open → P) → ((c ≡ Open → ⊥) → P) → P
is-open Open P f g = f refl
is-open c P f g = g (λ e. cc e)

module _ (limits : Limits) where
  lists-cut : (n : ℕ) (t : Input) → CutAtoms (opened (lists limits n) t)
  unfolding opened lists
  lists-cut zero t = tt
  lists-cut (suc n) t = list_cut (children limits (lists limits n) limits.width (advance 1 t)) t

  sexp-cut : (c : Class) (t : Input) → CutAtoms (sexp limits c t)
  unfolding sexp
  sexp-cut Open t = lists-cut limits.nesting t
  sexp-cut c t = only_cut _ (sexp-atoms limits c t (λ e. cc e))

  command-cut : (bytes : List ℕ) → CutAtoms (command limits bytes)
  unfolding command
  command-cut bytes = limit_cut CommandLong limits.command (record { at = 0; bytes = bytes }) _ (sexp-cut (front bytes) (record { at = 0; bytes = bytes }))

  -- A command that begins with a word is read from some bytes, of which its own are the first.
  abbrev pub IsRead : Placed → Type 0
  IsRead c = IsWorded c.sexp → (bytes : List ℕ) × (rest : Input) × (command limits bytes ≡ Whole c.sexp rest) × (c.bytes ≡ take rest.at bytes)

  no_worded : (s : Sexp) → CutAtoms (Cut (Some s)) → IsWorded s → ⊥
  no_worded (Atom kind text span) h w = w
  no_worded (Listed children span) h w = h

  -- what comes next, where it is a command
  abbrev IsNext : Spot → List ℕ → Next → Type 0
  IsNext s bytes (Command c start size phase) = IsRead (placed s bytes c start size)
  IsNext s bytes End = Unit {0}
  IsNext s bytes (Fault name n) = Unit {0}

  module _ (s : Spot) (bytes pre : List ℕ) (t : Input) (is : bytes ≡ pre ++ t.bytes) (at : t.at ≡ length pre) where
    dropped : drop t.at bytes ≡ t.bytes
    dropped = ap (λ (n : ℕ). drop n bytes) at ∙ ap (drop (length pre)) is ∙ drop-seam pre
      where
        drop-seam : (zs : List ℕ) → drop (length zs) (zs ++ t.bytes) ≡ t.bytes
        drop-seam [] = refl
        drop-seam (z ∷ zs) = drop-seam zs

    last_next : (phase : Phase) (c : Sexp) → CutAtoms (Cut (Some c)) → IsNext s bytes (last_atom phase c t)
    unfolding last_atom placed
    last_next Start c h = if-cases (IsNext s bytes) (bytes_eq t.bytes (codes "unsat")) End (Command c t.at (length t.bytes) Plain) (λ e. tt) (λ e w. absurd (no_worded c h w))
    last_next phase c h = λ w. absurd (no_worded c h w)

    known_next : (closes : Bool) (n : ℕ) (phase : Phase) (r : Reading Sexp) → command limits t.bytes ≡ r → IsNext s bytes (decided closes n (known phase t r))
    unfolding known decided placed
    known_next closes n phase (Whole c rest) e = λ w. (t.bytes, rest, e, ap (take rest.at) dropped)
    known_next closes n phase (Refused name k) e = tt
    known_next true n phase (Cut (Some c)) e = last_next phase c (subst CutAtoms e (command-cut t.bytes))
    known_next false n phase (Cut (Some c)) e = tt
    known_next true n phase (Cut None) e = tt
    known_next false n phase (Cut None) e = tt

    token_next : (closes : Bool) (n : ℕ) (extra : Bool) (phase : Phase) → IsNext s bytes (decided closes n (from_token limits extra phase t))
    unfolding from_token decided
    token_next closes n true phase = tt
    token_next closes n false phase = known_next closes n phase (command limits t.bytes) refl

    end_next : (closes : Bool) (n : ℕ) (phase : Phase) (k : ℕ) → IsNext s bytes (decided closes n (More (end_of phase k)))
    unfolding decided end_of
    end_next true n InPair k = tt
    end_next true n phase k = tt
    end_next false n phase k = tt

    pub front_next : (closes : Bool) (n : ℕ) (phase : Phase) (front : List ℕ) → IsNext s bytes (decided closes n (from_front limits phase t front))
    unfolding from_front
    front_next closes n phase [] = end_next closes n phase t.at
    front_next closes n phase (x ∷ xs) = token_next closes n (is_extra phase (class x)) phase

  next_read : (closes : Bool) (phase : Phase) (s : Spot) (bytes : List ℕ) → IsNext s bytes (next_from limits closes phase false bytes)
  unfolding next_from so_far answer
  next_read closes phase s bytes =
      let h = strip-later limits phase false (record { at = 0; bytes = bytes }) in
      let t = strip limits phase false (record { at = 0; bytes = bytes }) in
      front_next s bytes h.0 t.rest h.1 (h.2 ∙ omega arith) closes (length bytes) t.phase t.rest.bytes

  -- the commands of a file
  abbrev pub AllOf : (Placed → Type 0) → Reads → Type 0
  AllOf Q (Then c others) = Q c × AllOf Q others
  AllOf Q (Ends at) = Unit {0}
  AllOf Q (Fails name at) = Unit {0}

  after_next : (closes : Bool) (others : Phase → Spot → List ℕ → Reads) → ((phase : Phase) (s : Spot) (bytes : List ℕ) → AllOf IsRead (others phase s bytes)) → (s : Spot) (bytes : List ℕ) (n : Next) → IsNext s bytes n → AllOf IsRead (read_next others s bytes n)
  unfolding read_next
  after_next closes others h s bytes (Command c start size phase) i = (i, h phase _ _)
  after_next closes others h s bytes End i = tt
  after_next closes others h s bytes (Fault name n) i = tt

  from_read : (closes : Bool) (turns : ℕ) (phase : Phase) (s : Spot) (bytes : List ℕ) → AllOf IsRead (reads_from limits closes turns phase s bytes)
  unfolding reads_from
  from_read closes zero phase s bytes = tt
  from_read closes (suc turns) phase s bytes = after_next closes (reads_from limits closes turns) (from_read closes turns) s bytes _ (next_read closes phase s bytes)

  pub all_read : (closes proof : Bool) (bytes : List ℕ) → AllOf IsRead (reads_all limits closes proof bytes)
  unfolding reads_all
  all_read closes proof bytes = from_read closes (suc (length bytes)) _ _ bytes

  -- ---- such a command is read again

  no_list : (r : Reading Sexp) (s : Sexp) (rest : Input) → OnlyAtoms r → r ≡ Whole s rest → IsWorded s → ⊥
  no_list r (Atom kind text span) rest h e w = w
  no_list r (Listed children span) rest h e w = subst OnlyAtoms e h

  is_opened : (x : ℕ) (xs : List ℕ) (s : Sexp) (rest : Input) → command limits (x ∷ xs) ≡ Whole s rest → IsWorded s → class x ≡ Open
  is_opened x xs s rest e w = is-open (class x) (class x ≡ Open) (λ o. o) (λ no. absurd (no_list (command limits (x ∷ xs)) s rest (command-atoms limits x xs no) e w))

  ends_within : (r new : Reading Sexp) (end : ℕ) (more : List ℕ) (s : Sexp) (rest : Input) → Extends end more r new → r ≡ Whole s rest → rest.at ≤ end
  ends_within (Whole x u) new end more s rest h e = omega (arith, h.1, ap (λ (v : Input). v.at) (whole_rest x s u rest e))
  ends_within (Refused n a) new end more s rest h e = absurd (cc e)
  ends_within (Cut i) new end more s rest h e = absurd (cc e)

  begins_late : (r : Reading Sexp) (s : Sexp) (rest : Input) → EndsFrom 1 r → r ≡ Whole s rest → 1 ≤ rest.at
  begins_late r s rest h e = subst (EndsFrom 1) e h

  no_empty : (s : Sexp) (rest : Input) → command limits [] ≡ Whole s rest → ⊥
  unfolding command front sexp atom
  no_empty s rest e = absurd (cc (limit-whole CommandLong limits.command (record { at = 0; bytes = [] }) (atom limits Space (record { at = 0; bytes = [] })) s rest e))

  rereads_from : (c : Placed) (x : ℕ) (xs : List ℕ) (n : ℕ) (rest : Input) → rest.at ≡ suc n → n ≤ length xs → IsWorded c.sexp → command limits (x ∷ xs) ≡ Whole c.sexp rest → c.bytes ≡ take (suc n) (x ∷ xs) → Rereads limits c
  rereads_from c x xs n rest at le w e b =
      let long : length (take n xs) ≡ n = length-take-le n xs le in
      let opens = is_opened x xs c.sexp rest e w in
      record {
        first = x;
        others = take n xs;
        is = b;
        opens = opens;
        worded = w;
        again = λ more. read-again limits x (take n xs) (drop n xs) more c.sexp rest opens (ap (λ bs. command limits (x ∷ bs)) (take-append-drop n xs) ∙ e) (at ∙ ap suc (sym long));
      }

  pub rereads : (c : Placed) → IsRead c → IsWorded c.sexp → Rereads limits c
  rereads c h w = let q = h w in go q.0 q.1 q.2 q.3
    where
      go : (bytes : List ℕ) (rest : Input) → command limits bytes ≡ Whole c.sexp rest → c.bytes ≡ take rest.at bytes → Rereads limits c
      go [] rest e b = absurd (no_empty c.sexp rest e)
      go (x ∷ xs) rest e b =
          let one = begins_late (command limits (x ∷ xs)) c.sexp rest (command-from limits x xs) e in
          let most = ends_within (command limits (x ∷ xs)) (command limits (x ∷ xs ++ [])) (suc (length xs)) [] c.sexp rest (command-extends limits x xs []) e in
          by_suc rest.at refl one most
        where
          by_suc : (k : ℕ) → rest.at ≡ k → 1 ≤ k → k ≤ suc (length xs) → Rereads limits c
          by_suc zero at one most = absurd (omega (arith, one))
          by_suc (suc n) at one most = rereads_from c x xs n rest at (omega (arith, most)) w e (b ∙ ap (λ k. take k (x ∷ xs)) at)
