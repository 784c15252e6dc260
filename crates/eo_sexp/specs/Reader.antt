-- What a reader of a command that is begun keeps, and what its turns do.
use Rattle.std.specs.Prelude.{◌≡◌, ℕ, suc, ◌+◌, ◌-◌, ◌^◌, ◌<◌, ◌≤◌, Bool, true, false, nat_le, List, [], ◌∷◌, ◌++◌, length, map, take, drop, get_or, All, Some, None}
use Rattle.eo_base.specs.Limits.{Limits}
use Rattle.eo_sexp.specs.declared.reader.Position.{Position}
use Rattle.eo_sexp.specs.declared.reader.Position.TheVariants as position
use Rattle.eo_sexp.specs.declared.reader.Reader.{Reader}
use Rattle.eo_sexp.specs.declared.reader.ReaderTurn.{ReaderTurn}
use Rattle.eo_sexp.specs.declared.reader.Run.{Run}
use Rattle.eo_sexp.specs.declared.reader.ReaderTurn.TheVariants as turn
use Rattle.eo_sexp.specs.Sexp.{Sexp, Atom}
use Rattle.eo_sexp.specs.Sizes.{size}
use Rattle.eo_sexp.specs.Lexicon.{Class, Close, Quote, Bar, Word, class, Input, pass}
use Rattle.eo_sexp.specs.Commands.{Reading, Whole, Refused, Cut, ◌>>=◌, atom, sexp}
use Rattle.eo_sexp.specs.Spot.{Spot}
use Rattle.eo_sexp.specs.Texts.{spot_after}
use Rattle.eo_sexp.specs.OpenLists as nest
use Rattle.eo_sexp.specs.Built.{OpenList, Built, with_byte, parts_in}
use Rattle.eo_sexp.specs.declared.token.Token.{Token}
use Rattle.eo_sexp.specs.declared.token.Token.TheVariants as token
use Rattle.eo_sexp.specs.Token.{token_class, opening, IsToken, token_size, is_plain, atom_kind, atom_text}

-- A reader with its buffer: the open lists, the innermost first; what is whole; and the token begun, without its delimiter.
pub record Progress : Type 0 where
  pub frames : List OpenList
  pub done : List Sexp
  pub position : Position
  pub from : ℕ
  pub text : List ℕ

abbrev pub text_at : Position → (from : ℕ) → List ℕ → List ℕ
text_at (position.Token t) from bytes = drop (from + length (opening t)) bytes
text_at p from bytes = []

abbrev pub held : Built → Reader → Progress
held b r = record { frames = b.open_lists; done = b.done; position = r.position; from = r.from; text = text_at r.position r.from b.bytes }

-- it has a delimiter at each end
abbrev pub is_delimited : Token → Bool
is_delimited token.Word = false
is_delimited (token.Text closed) = true
is_delimited token.Quoted = true

-- the first byte of an atom has such a class
abbrev pub IsAtom : Class → Type 0
IsAtom Quote = Unit {0}
IsAtom Bar = Unit {0}
IsAtom Word = Unit {0}
IsAtom c = ⊥

-- the atom that the token of r is, where it ends before byte `to`
abbrev pub atom_of : (r : Progress) → Token → (to : ℕ) → Sexp
atom_of r t to = Atom (atom_kind t r.text) (atom_text t r.text) (record { from = r.from; to = to })

-- the token of r may end before byte `to`, where `at` bytes are taken
abbrev pub EndsAt : (r : Progress) → Token → (at to : ℕ) → Type 0
EndsAt r token.Word at to = (r.from + length r.text ≡ at) × (to ≡ at)
EndsAt r (token.Text closed) at to = (r.from + (1 + length r.text) ≡ at) × (0 < length r.text) × (to ≡ at)
EndsAt r token.Quoted at to = (r.from + (1 + length r.text) ≡ at) × (to ≡ at + 1)

-- s is the whole command
pub record IsWhole (new : Built) (s : Sexp) : Type 0 where
  pub done : new.done ≡ s ∷ []
  pub outside : new.open_lists ≡ []

-- the token t begins with the byte x
pub record FirstOf (x : ℕ) (t : Token) : Type 0 where
  pub class : class x ≡ token_class t
  pub begun : t ≡ token.Text true → ⊥

-- the same where the next byte may begin one
pub record IsFirstOf (r : Reader) (x : ℕ) (t : Token) : Type 0 where
  pub gap : r.position ≡ position.Gap
  pub first : FirstOf x t

module _ (limits : Limits) where
  -- the innermost list, where its next child may begin
  unfoldable pub inner : OpenList → nest.Frame
  inner f = record { at = f.at; done = f.children; more = limits.width - length f.children }

  -- a list of which a child is begun
  unfoldable pub outer : OpenList → nest.Frame
  outer f = record { at = f.at; done = f.children; more = limits.width - length f.children - 1 }

  -- the reading of a command from t on, where t is between two tokens inside these lists, the innermost first
  unfoldable pub gap_reading : List OpenList → Input → Reading Sexp
  gap_reading [] t = Cut None
  gap_reading (f ∷ fs) t = nest.resume limits (limits.nesting - suc (length fs)) (inner f) (map outer fs) t

  -- the same after the child s of the innermost list, or after s where no list is open
  unfoldable pub child_reading : List OpenList → Sexp → Input → Reading Sexp
  child_reading [] s rest = Whole s rest
  child_reading (f ∷ fs) s rest = nest.resume limits (limits.nesting - suc (length fs)) (nest.with_child (outer f) s) (map outer fs) rest

  -- the same from what a token of the innermost list is read as
  unfoldable pub token_reading : List OpenList → Reading Sexp → Reading Sexp
  token_reading [] r = r
  token_reading (f ∷ fs) r = r >>= child_reading (f ∷ fs)

  unfoldable pub position_reading : List OpenList → Position → (from : ℕ) → List ℕ → (at : ℕ) → List ℕ → Reading Sexp
  position_reading fs position.Gap from text at more = gap_reading fs (pass false at more).rest
  position_reading fs position.Comment from text at more = gap_reading fs (pass true at more).rest
  position_reading fs (position.Token t) from text at more = token_reading fs (atom limits (token_class t) (record { at = from; bytes = opening t ++ (text ++ more) }))

  -- The reading of the command that is begun, where so many of its bytes are taken and these follow.
  abbrev pub reading : Progress → (at : ℕ) → List ℕ → Reading Sexp
  reading r at more = position_reading r.frames r.position r.from r.text at more

  abbrev pub IsPosition : (open_lists : ℕ) → Position → (from : ℕ) → List ℕ → (at : ℕ) → Type 0
  IsPosition n position.Gap from text at = 0 < n
  IsPosition n position.Comment from text at = 0 < n
  IsPosition n (position.Token t) from text at = IsToken t text × (from + token_size t text ≡ at) × (token_size t text ≤ limits.token)

  -- each list and atom so far has a byte of its own, before the token that is begun
  abbrev pub HasBytes : (parts : ℕ) → Position → (from at : ℕ) → Type 0
  HasBytes n position.Gap from at = n ≤ at
  HasBytes n position.Comment from at = n ≤ at
  HasBytes n (position.Token t) from at = (n ≤ from) × (from < at)

  -- so many bytes of the command are taken
  pub record IsReader (r : Progress) (at : ℕ) : Type 0 where
    pub nested : length r.frames ≤ limits.nesting
    pub stands : IsPosition (length r.frames) r.position r.from r.text at
    pub none : r.done ≡ []
    pub own : HasBytes (parts_in r.frames) r.position r.from at

  -- so many bytes of the command are taken, those of the buffer
  pub record IsBegunAt (b : Built) (r : Reader) (at : ℕ) : Type 0 where
    pub reader : IsReader (held b r) at
    pub bytes : length b.bytes ≡ at

  -- `rest` comes next, which is not empty, and the buffer has room for it
  pub record IsReading (b : Built) (r : Reader) (rest : List ℕ) : Type 0 where
    pub reader : IsReader (held b r) (length b.bytes)
    pub room : length b.bytes + length rest ≤ 2 ^ 24
    pub some : 0 < length rest

  -- The child s is added to the innermost list, or is the whole command.
  abbrev pub AddsChild : (old : Built) → Sexp → (new : Built) → (whole : Bool) → Type 0
  AddsChild old s new true = (old.open_lists ≡ []) × (new.open_lists ≡ []) × (new.done ≡ old.done ++ s ∷ [])
  AddsChild old s new false =
      (length new.open_lists ≡ length old.open_lists) × (0 < length old.open_lists) × (new.done ≡ old.done)
      × ((rest : Input) → child_reading old.open_lists s rest ≡ gap_reading new.open_lists rest)
      × (parts_in new.open_lists ≡ parts_in old.open_lists + size s)

  -- the innermost list is closed by a `)` before byte `to`
  abbrev pub ClosesList : (old : Built) → (to : ℕ) → (new : Built) → (whole : Bool) → Type 0
  ClosesList old to new true =
      (s : Sexp) × (new.open_lists ≡ []) × (new.done ≡ old.done ++ s ∷ [])
      × ((at x : ℕ) (more : List ℕ) → suc at ≡ to → class x ≡ Close → gap_reading old.open_lists (record { at = at; bytes = x ∷ more }) ≡ Whole s (record { at = to; bytes = more }))
  ClosesList old to new false =
      (length new.open_lists ≤ length old.open_lists) × (0 < length new.open_lists) × (new.done ≡ old.done)
      × ((at x : ℕ) (more : List ℕ) → suc at ≡ to → class x ≡ Close → gap_reading old.open_lists (record { at = at; bytes = x ∷ more }) ≡ gap_reading new.open_lists (record { at = to; bytes = more }))
      × (parts_in new.open_lists ≡ parts_in old.open_lists)

  -- the innermost list, which comes first, may have no further child
  unfoldable pub is_full : List OpenList → Bool
  is_full [] = false
  is_full (f ∷ fs) = nat_le limits.width (length f.children)

  -- the byte x, which has the number `at`, is taken or decides
  abbrev pub Turns : (old : Progress) → (at x : ℕ) → ReaderTurn → (new : Progress) → Type 0
  Turns old at x turn.Goes new = IsReader new (suc at) × ((more : List ℕ) → reading old at (x ∷ more) ≡ reading new (suc at) more)
  Turns old at x turn.Before new = (s : Sexp) × (new.done ≡ s ∷ []) × (new.frames ≡ []) × ((more : List ℕ) → reading old at (x ∷ more) ≡ Whole s (record { at = at; bytes = x ∷ more }))
  Turns old at x turn.Whole new = (s : Sexp) × (new.done ≡ s ∷ []) × (new.frames ≡ []) × ((more : List ℕ) → reading old at (x ∷ more) ≡ Whole s (record { at = suc at; bytes = more }))
  Turns old at x (turn.Fault name) new = (more : List ℕ) → reading old at (x ∷ more) ≡ Refused name at

  -- the input ends after the bytes so far
  abbrev pub Ends : (old : Progress) → (to : ℕ) → (new : Built) → (whole : Bool) → Type 0
  Ends old to new true = (s : Sexp) × IsWhole new s × (reading old to [] ≡ Cut (Some s))
  Ends old to new false = reading old to [] ≡ Cut None

  -- a token begins with the byte x
  pub record BeginsToken (old : Progress) (at x : ℕ) (new : Progress) : Type 0 where
    pub frames : new.frames ≡ old.frames
    pub done : new.done ≡ old.done
    pub stands : (n : ℕ) → IsPosition n new.position new.from new.text (suc at)
    pub own : (n : ℕ) → n ≤ at → HasBytes n new.position new.from (suc at)
    pub reads : (fs : List OpenList) (more : List ℕ) → token_reading fs (atom limits (class x) (record { at = at; bytes = x ∷ more })) ≡ position_reading fs new.position new.from new.text (suc at) more

  -- a command begins with the byte x
  abbrev pub Begins : (x : ℕ) → (new : Progress) → Type 0
  Begins x new = IsReader new 1 × ((more : List ℕ) → sexp limits (class x) (record { at = 0; bytes = x ∷ more }) ≡ reading new 1 more)

  -- a token t that begins at the front of `rest` may be the next child of the innermost list, and so many of its bytes are plain but for the first
  pub record IsAhead (b : Built) (t : Token) (rest : List ℕ) (n : ℕ) : Type 0 where
    pub room : is_full b.open_lists ≡ false
    pub some : 0 < n
    pub more : n < length rest
    pub plain : All (λ x. is_plain t x ≡ true) (take (n - 1) (drop 1 rest))
    pub short : n ≤ limits.token
    pub fits : length b.bytes + n < limits.command

  -- So many bytes of `rest` are taken after those of the buffer b, with so many line feeds. None of them decides.
  pub record RunsTo (b : Built) (r : Reader) (rest : List ℕ) (n lines : ℕ) (c : Built) (s : Reader) : Type 0 where
    pub within : n ≤ length rest
    pub bytes : c.bytes ≡ b.bytes ++ take n rest
    pub short : length c.bytes ≤ limits.command
    pub counted : lines ≤ n
    pub place : (at : Spot) → spot_after at (take n rest) ≡ record { line = at.line + lines; offset = at.offset + n }
    pub reader : IsReader (held c s) (length c.bytes)
    pub reads : (more : List ℕ) → reading (held b r) (length b.bytes) (take n rest ++ more) ≡ reading (held c s) (length c.bytes) more

  -- After such a run the byte with the number n decides.
  pub record StopsAt (b : Built) (r : Reader) (rest : List ℕ) (n lines : ℕ) (t : ReaderTurn) (c : Built) (s : Reader) : Type 0 where
    pub buffer : Built
    pub reader : Reader
    pub run : RunsTo b r rest n lines buffer reader
    pub more : n < length rest
    pub bytes : c.bytes ≡ buffer.bytes
    pub turns : Turns (held buffer reader) (length buffer.bytes) (get_or rest n 0) t (held (with_byte c (get_or rest n 0)) s)

  -- the same, where `Goes` says that no byte decides
  abbrev pub Runs : (b : Built) (r : Reader) (rest : List ℕ) (n lines : ℕ) → ReaderTurn → (c : Built) (s : Reader) → Type 0
  Runs b r rest n lines turn.Goes c s = RunsTo b r rest n lines c s
  Runs b r rest n lines t c s = StopsAt b r rest n lines t c s

  -- the same of one step, which takes a byte where none decides
  pub record Steps (b : Built) (r : Reader) (rest : List ℕ) (k : Run) (c : Built) (s : Reader) : Type 0 where
    pub moves : k.turn ≡ turn.Goes → 0 < k.taken
    pub runs : Runs b r rest k.taken k.lines k.turn c s
