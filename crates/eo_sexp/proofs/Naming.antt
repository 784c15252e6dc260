-- Each fault of a text is one of the lexicon.
use Rattle.std.proofs.Common.{refl, ℕ, zero, suc, ◌+◌, Bool, true, false, List, [], ◌∷◌, ◌++◌, length, drop, take_while}
use Rattle.std.specs.Prelude.{⊤, Option, Some, None, if◌then◌else◌, nat_le, codes, bytes_eq}
use Rattle.eo_base.specs.declared.FaultName.{FaultName}
use Rattle.eo_base.specs.declared.FaultName.TheVariants.{TokenLong, CommandLong}
use Rattle.eo_base.specs.Limits.{Limits}
use Rattle.eo_sexp.specs.Spot.{Spot}
use Rattle.eo_sexp.specs.AtomKind as kind
use Rattle.eo_sexp.specs.Sexp.{Sexp, Sexps}
use Rattle.eo_sexp.specs.Lexicon.{Class, Space, Comment, Open, Close, Quote, Bar, Word, Other, class, Input, advance, skip, Body, Closes, Stops, RunsOut, string, quoted, is_word}
use Rattle.eo_sexp.specs.Commands.{Reading, Whole, Refused, Cut, ◌>>=◌, comes_first, at_most, delimited, word_before, word, front, prepend, and_others, listed, opened, atom, turn, children, lists, sexp, command}
use Rattle.eo_sexp.specs.Texts.{Phase, Start, InPair, Plain, Next, Command, End, Fault, SoFar, Known, More, Held, end_of, is_extra, last_atom, known, decided, from_token, from_front, answer, so_far, next_from, strip, spot_after}
use Rattle.eo_sexp.specs.Collecting.{Collecting, Within, AtCommand, Failed, NoMemory, IsLive, ready, becomes, waiting, on_more, fed_from, fed_with, finished_from, finished_with}
use Rattle.eo_sexp.specs.Answering.{IsLexical, IsAnswer, AnswersPieces, AnswersEnd}

abbrev Names : {A : Type 0} → Reading A → Type 0
Names (Whole x rest) = ⊤
Names (Refused name at) = IsLexical name
Names (Cut if_ends) = ⊤

names-if : {A : Type 0} (b : Bool) (x y : Reading A) → Names x → Names y → Names (if b then x else y)
names-if true x y p q = p
names-if false x y p q = q

names-at_most : {A : Type 0} (name : FaultName) (most : ℕ) (t : Input) (r : Reading A) → IsLexical name → Names r → Names (at_most name most t r)
unfolding at_most
names-at_most name most t (Whole x rest) n h = names-if (nat_le rest.at (t.at + most)) (Whole x rest) (Refused name (t.at + most)) tt n
names-at_most name most t (Refused m at) n h = names-if (comes_first m at name (t.at + most)) (Refused m at) (Refused name (t.at + most)) h n
names-at_most name most t (Cut if_ends) n h = names-if (nat_le (length t.bytes) most) (Cut if_ends) (Refused name (t.at + most)) tt n

names-bind : {A B : Type 0} (m : Reading A) (f : A → Input → Reading B) → Names m → ((x : A) (rest : Input) → Names (f x rest)) → Names (m >>= f)
unfolding ◌>>=◌
names-bind (Whole x rest) f h g = g x rest
names-bind (Refused name at) f h g = h
names-bind (Cut if_ends) f h g = tt

names-delimited : (k : kind.AtomKind) (t : Input) (b : Body) → Names (delimited k t b)
unfolding delimited
names-delimited k t (Closes size) = tt
names-delimited k t (Stops size) = refl
names-delimited k t (RunsOut true) = tt
names-delimited k t (RunsOut false) = tt

names-word_before : (t : Input) (text bytes : List ℕ) → Names (word_before t text bytes)
unfolding word_before
names-word_before t text [] = tt
names-word_before t text (x ∷ xs) = tt

names-word : (t : Input) → Names (word t)
unfolding word
names-word t = names-word_before t (take_while is_word t.bytes) (drop (length (take_while is_word t.bytes)) t.bytes)

abbrev NamesAlways : {A : Type 0} → Option (Input → Reading A) → Type 0
NamesAlways None = ⊤
NamesAlways {A} (Some read) = (t : Input) → Names (read t)

module _ (limits : Limits) where
  names-atom : (c : Class) (t : Input) → Names (atom limits c t)
  unfolding atom
  names-atom Quote t = names-at_most TokenLong limits.token t (delimited kind.String t (string false 1 (drop 1 t.bytes))) refl (names-delimited kind.String t (string false 1 (drop 1 t.bytes)))
  names-atom Bar t = names-at_most TokenLong limits.token t (delimited kind.Symbol t (quoted (drop 1 t.bytes))) refl (names-delimited kind.Symbol t (quoted (drop 1 t.bytes)))
  names-atom Word t = names-at_most TokenLong limits.token t (word t) refl (names-word t)
  names-atom Space t = refl
  names-atom Comment t = refl
  names-atom Open t = refl
  names-atom Close t = refl
  names-atom Other t = refl

  names-and_others : (others : Input → Reading Sexps) → ((t : Input) → Names (others t)) → (s : Sexp) (rest : Input) → Names (and_others others s rest)
  unfolding and_others prepend
  names-and_others others h s rest = names-bind (others rest) (prepend s) (h rest) (λ x u. tt)

  names-turn : (inner : Option (Input → Reading Sexp)) (others : Option (Input → Reading Sexps)) → NamesAlways inner → NamesAlways others → (t : Input) (bytes : List ℕ) (c : Class) → Names (turn limits inner others t bytes c)
  unfolding turn
  names-turn inner others h k t [] c = tt
  names-turn inner others h k t (x ∷ xs) Close = tt
  names-turn inner others h k t (x ∷ xs) Other = refl
  names-turn None others h k t (x ∷ xs) Open = refl
  names-turn (Some list) None h k t (x ∷ xs) Open = refl
  names-turn (Some list) (Some others) h k t (x ∷ xs) Open = names-bind (list t) (and_others others) (h t) (names-and_others others k)
  names-turn inner None h k t (x ∷ xs) c = refl
  names-turn inner (Some others) h k t (x ∷ xs) c = names-bind (atom limits c t) (and_others others) (names-atom c t) (names-and_others others k)

  names-children : (inner : Option (Input → Reading Sexp)) → NamesAlways inner → (more : ℕ) (t : Input) → Names (children limits inner more t)
  unfolding children
  names-children inner h zero t = let u = skip t in names-turn inner None h tt u u.bytes (front u.bytes)
  names-children inner h (suc more) t = let u = skip t in names-turn inner (Some (children limits inner more)) h (names-children inner h more) u u.bytes (front u.bytes)

  names-lists : (deeper : ℕ) → NamesAlways (lists limits deeper)
  unfolding lists listed
  names-lists zero = tt
  names-lists (suc deeper) = λ t. names-bind (children limits (lists limits deeper) limits.width (advance 1 t)) (listed t) (names-children (lists limits deeper) (names-lists deeper) limits.width (advance 1 t)) (λ x u. tt)

  names-opened : (inner : Option (Input → Reading Sexp)) → NamesAlways inner → (t : Input) → Names (opened inner t)
  unfolding opened
  names-opened None h t = refl
  names-opened (Some list) h t = h t

  names-sexp : (c : Class) (t : Input) → Names (sexp limits c t)
  unfolding sexp
  names-sexp Open t = names-opened (lists limits limits.nesting) (names-lists limits.nesting) t
  names-sexp Space t = names-atom Space t
  names-sexp Comment t = names-atom Comment t
  names-sexp Close t = names-atom Close t
  names-sexp Quote t = names-atom Quote t
  names-sexp Bar t = names-atom Bar t
  names-sexp Word t = names-atom Word t
  names-sexp Other t = names-atom Other t

  names-command : (bytes : List ℕ) → Names (command limits bytes)
  unfolding command
  names-command bytes = let t : Input = record { at = 0; bytes = bytes } in
      names-at_most CommandLong limits.command t (sexp limits (front bytes) t) refl (names-sexp (front bytes) t)

-- ---- what comes next

abbrev NextNames : Next → Type 0
NextNames (Command c start size phase) = ⊤
NextNames End = ⊤
NextNames (Fault name at) = IsLexical name

abbrev SoFarNames : SoFar → Type 0
SoFarNames (Known n) = NextNames n
SoFarNames (More n) = NextNames n

names-last_atom : (phase : Phase) (s : Sexp) (t : Input) → NextNames (last_atom phase s t)
unfolding last_atom
names-last_atom Start s t = go (bytes_eq t.bytes (codes "unsat"))
  where
    go : (b : Bool) → NextNames (if b then End else Command s t.at (length t.bytes) Plain)
    go true = tt
    go false = tt
names-last_atom phase s t = tt

names-known : (phase : Phase) (t : Input) (r : Reading Sexp) → Names r → SoFarNames (known phase t r)
unfolding known
names-known phase t (Whole s rest) h = tt
names-known phase t (Refused name at) h = h
names-known phase t (Cut (Some s)) h = names-last_atom phase s t
names-known phase t (Cut None) h = refl

names-end_of : (phase : Phase) (at : ℕ) → NextNames (end_of phase at)
unfolding end_of
names-end_of InPair at = refl
names-end_of phase at = tt

module _ (limits : Limits) where
  names-from_token : (extra : Bool) (phase : Phase) (t : Input) → SoFarNames (from_token limits extra phase t)
  unfolding from_token
  names-from_token true phase t = refl
  names-from_token false phase t = names-known phase t (command limits t.bytes) (names-command limits t.bytes)

  names-from_front : (phase : Phase) (t : Input) (bytes : List ℕ) → SoFarNames (from_front limits phase t bytes)
  unfolding from_front
  names-from_front phase t [] = names-end_of phase t.at
  names-from_front phase t (x ∷ xs) = names-from_token (is_extra phase (class x)) phase t

  names-answer : (h : Held) → SoFarNames (answer limits h)
  unfolding answer
  names-answer h = names-from_front h.phase h.rest h.rest.bytes

  names-decided : (count : ℕ) (a : SoFar) → SoFarNames a → NextNames (decided true count a)
  unfolding decided
  names-decided count (Known n) h = h
  names-decided count (More n) h = h

-- ---- the answers of a collector

names-becomes : (start : Spot) (bytes : List ℕ) (otherwise : Collecting) (n : Next) → IsAnswer otherwise → NextNames n → IsAnswer (becomes start bytes otherwise n)
unfolding becomes
names-becomes start bytes otherwise (Command c from size phase) o h = tt
names-becomes start bytes otherwise (Fault name at) o h = h
names-becomes start bytes otherwise End o h = o

module _ (limits : Limits) where
  names-on_more : (start : Spot) (bytes : List ℕ) (h : Held) (a : SoFar) → SoFarNames a → IsAnswer (on_more start bytes h a)
  unfolding on_more waiting
  names-on_more start bytes h (Known n) k = names-becomes start bytes (waiting start bytes h) n tt k
  names-on_more start bytes h (More n) k = tt

  names-fed_from : (c : Collecting) (p : List ℕ) → IsLive c → IsAnswer (fed_from limits (ready c) p)
  unfolding fed_from
  names-fed_from (Within phase comment start begun) p l = let h = strip limits phase comment (record { at = 0; bytes = begun ++ p }) in names-on_more start (begun ++ p) h (answer limits h) (names-answer limits h)
  names-fed_from (AtCommand k phase) p l = let h = strip limits phase false (record { at = 0; bytes = [] ++ p }) in names-on_more (spot_after k.start k.bytes) ([] ++ p) h (answer limits h) (names-answer limits h)
  names-fed_from (Failed name at) p l = absurd l
  names-fed_from NoMemory p l = absurd l

  pub answers_pieces : AnswersPieces limits
  unfolding fed_with
  answers_pieces c p l = names-fed_from c p l

  names-next_from : (phase : Phase) (comment : Bool) (bytes : List ℕ) → NextNames (next_from limits true phase comment bytes)
  unfolding next_from so_far
  names-next_from phase comment bytes = names-decided limits (length bytes) (so_far limits phase comment bytes) (names-answer limits (strip limits phase comment (record { at = 0; bytes = bytes })))

  names-finished_from : (c : Collecting) → IsLive c → IsAnswer (finished_from limits (ready c))
  unfolding finished_from
  names-finished_from (Within phase comment start begun) l = names-becomes start begun (Within phase comment start begun) (next_from limits true phase comment begun) tt (names-next_from phase comment begun)
  names-finished_from (AtCommand k phase) l = names-becomes (spot_after k.start k.bytes) [] (Within phase false (spot_after k.start k.bytes) []) (next_from limits true phase false []) tt (names-next_from phase false [])
  names-finished_from (Failed name at) l = absurd l
  names-finished_from NoMemory l = absurd l

  pub answers_end : AnswersEnd limits
  unfolding finished_with
  answers_end c l = names-finished_from c l
