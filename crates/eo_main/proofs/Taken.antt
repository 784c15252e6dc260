-- Words at which no step of a parse of `clap` fails are words that it takes.
use Rattle.std.proofs.Common.{◌≡◌, ◌&&◌, ◌||◌, ℕ, zero, suc, Bool, true, false, not, List, [], ◌∷◌, length, Option, None, Some, refl, arith, is_some, nat_le}
use Rattle.std.specs.Prelude.{if◌then◌else◌, find, slice_get, codes}
use Rattle.std.specs.List.{list_all, list_any}
use Rattle.std.specs.Option.{option_map_or}
use Rattle.std.specs.Str.{bytes_eq, chars}
use Rattle.clap.specs.Facts.{explicit_source, parser_of_value, unwrap_or_range}
use Rattle.clap.specs.Faults.{action_fault, bundle_step_fault, check_fault, count_fault, entered_fault, fault_of, flag_word_fault, flags_fault, level_fault, long_fault, option_fault, other_fault, positional_fault, react_fault, settle_fault, short_fault, step_fault, stray_fault, turn_fault, use_fault, walk_fault, word_fault}
use Rattle.clap.specs.Kinds.{Kinds, check_kinds, or_else, range_kinds, values_kinds}
use Rattle.clap.specs.Lexer.{long_of, short_of}
use Rattle.clap.specs.Simple.{App, Shape, argument_words, built, entered, is_simple, label_of, names_of}
use Rattle.clap.specs.Takes.{action_passes, bundle_step_passes, count_passes, default_passes, entered_passes, flag_word_passes, flags_pass, is_given, is_valid, level_passes, long_passes, option_passes, other_passes, positional_passes, react_passes, settle_passes, short_passes, step_passes, takes, turn_passes, use_passes, walk_passes, word_passes}
use Rattle.clap.specs.ValueTests.{accepts}
use Rattle.clap.specs.Walk.{Held, Names, Row, Rule, Step, Text, Waiting, Walk, action_of, answers_to, arg_by_id, arg_by_index, arg_by_long, arg_by_short, attached_value, finished, has_row, is_pending, most_values, nothing_held, settled, subcommand_met, takes_several, takes_values, value, values_or_missing, walk, walk_from, walked, word_met}
use Rattle.clap.specs.declared.builder.ArgAction.{ArgAction}
use Rattle.clap.specs.declared.builder.ArgAction.TheVariants.{Set, Append, SetTrue, SetFalse, Count, Help, HelpShort, HelpLong, Version}
use Rattle.clap.specs.declared.builder.ValueParser.{ValueParser}
use Rattle.clap.specs.declared.error.ErrorKind.{ErrorKind}
use Rattle.std.proofs.lemmas.Bool.{and_parts, and_from}

-- ---- lists of kinds, and tests

nothing : (a b : Kinds) → or_else a b ≡ [] → (a ≡ []) × (b ≡ [])
nothing [] b e = (refl, e)
nothing (k ∷ ks) b e = cc

passed : (b : Bool) (k : ErrorKind) (ks : Kinds) → (if b then [] else k ∷ ks) ≡ [] → b ≡ true
passed true k ks e = refl
passed false k ks e = cc

barred : (a b : Bool) (k : ErrorKind) (ks : Kinds) → (if a && not b then k ∷ ks else []) ≡ [] → (not a || b) ≡ true
barred true true k ks e = refl
barred true false k ks e = cc
barred false b k ks e = refl

skipped : (b : Bool) (x : Kinds) (p : Bool) → (x ≡ [] → p ≡ true) → (if b then [] else x) ≡ [] → (b || p) ≡ true
skipped true x p h e = refl
skipped false x p h e = h e

either : (b : Bool) (x y : Kinds) (p q : Bool) → (x ≡ [] → p ≡ true) → (y ≡ [] → q ≡ true) → (if b then x else y) ≡ [] → (if b then p else q) ≡ true
either true x y p q hx hy e = hx e
either false x y p q hx hy e = hy e

module _ {A : Type 0} (f : A → Kinds) (g : A → Bool) (h : (a : A) → f a ≡ [] → g a ≡ true) where
  if_some : (o : Option A) → option_map_or f o [] ≡ [] → option_map_or g o true ≡ true
  if_some None e = refl
  if_some (Some a) e = h a e

-- ---- one use of an argument

values : (ignore_case : Bool) (parser : ValueParser) (vs : List Text) → values_kinds ignore_case parser vs ≡ [] → list_all (accepts ignore_case parser) vs ≡ true
values ignore_case parser [] e = refl
values ignore_case parser (v ∷ vs) e =
    let parts = nothing _ _ e in and_from _ _ (passed (accepts ignore_case parser v) _ _ parts.0) (values ignore_case parser vs parts.1)

count : (a : Rule) (vs : List Text) (rows : List Row) → count_fault a vs rows ≡ [] → count_passes a vs rows ≡ true
count a [] rows e = passed _ _ _ e
count a (v ∷ vs) rows e = values a.ignore_case (parser_of_value a.parser) (v ∷ vs) e

set : (again : Bool) (a : Rule) (vs : List Text) (rows : List Row)
    → action_fault Set again a vs rows ≡ [] → action_passes Set again a vs rows ≡ true
set again a vs rows e =
    let parts = nothing _ _ e in and_from _ _ (barred (has_row a.id rows) again _ _ parts.0) (values a.ignore_case (parser_of_value a.parser) vs parts.1)

action : (x : ArgAction) (again : Bool) (a : Rule) (vs : List Text) (rows : List Row) → action_fault x again a vs rows ≡ [] → action_passes x again a vs rows ≡ true
action Set again a vs rows e = set again a vs rows e
action SetTrue again a vs rows e = set again a vs rows e
action SetFalse again a vs rows e = set again a vs rows e
action Append again a vs rows e = values a.ignore_case (parser_of_value a.parser) vs e
action Count again a vs rows e = count a vs rows e
action Help again a vs rows e = cc
action HelpShort again a vs rows e = cc
action HelpLong again a vs rows e = cc
action Version again a vs rows e = cc

range : (least most n : ℕ) → range_kinds least most n ≡ [] → (nat_le least n ≡ true) × (nat_le n most ≡ true)
range least most n e = (grind arith, grind arith)

use_of : (again : Bool) (a : Rule) (vs : List Text) (rows : List Row) → use_fault again a vs rows ≡ [] → use_passes again a vs rows ≡ true
use_of again a vs rows e =
    let parts = nothing _ _ e in
    let within = range (unwrap_or_range a.range).start_inclusive (most_values a) (length vs) parts.0 in
    and_from _ _ within.0 (and_from _ _ within.1 (action (action_of a) again a (values_or_missing a vs) rows parts.1))

-- ---- the walk

module _ (c : List Rule) (again : Bool) where
  settle : (h : Held) → settle_fault c again h ≡ [] → settle_passes c again h ≡ true
  settle h e = if_some _ _ (λ p. if_some _ _ (λ a. use_of again a p.1 h.rows) (arg_by_id c p.0)) h.pending e

  react : (a : Rule) (vs : List Text) (h : Held) → react_fault c again a vs h ≡ [] → react_passes c again a vs h ≡ true
  react a vs h e = let parts = nothing _ _ e in and_from _ _ (settle h parts.0) (use_of again a vs (settled c h).rows parts.1)

  option : (a : Rule) (v : Option Text) (h : Held) → option_fault c again a v h ≡ [] → option_passes c again a v h ≡ true
  option a (Some v) h e = react a (v ∷ []) h e
  option a None h e = settle h e

  long : (a : Option Rule) (v : Option Text) (h : Held) → long_fault c again a v h ≡ [] → long_passes c again a v h ≡ true
  long None v h e = cc
  long (Some a) None h e = either (takes_values a) _ _ _ _ (option a None h) (react a [] h) e
  long (Some a) (Some v) h e = either (takes_values a) _ _ _ _ (option a (Some v) h) (λ none. cc) e

  short : (a : Option Rule) (rest : Text) (h : Held) (f : Held → Kinds) (g : Held → Bool) → ((h : Held) → f h ≡ [] → g h ≡ true)
      → short_fault c again a rest h f ≡ [] → short_passes c again a rest h g ≡ true
  short None rest h f g next e = cc
  short (Some a) rest h f g next e =
      either (takes_values a) _ _ _ _ (option a (attached_value rest) h) (λ none. let parts = nothing _ _ none in and_from _ _ (react a [] h parts.0) (next _ parts.1)) e

  bundle_step : (x : Option ℕ) (flags : Text) (skip : ℕ) (h : Held) (f : Text → ℕ → Held → Kinds) (g : Text → ℕ → Held → Bool)
      → ((t : Text) (s : ℕ) (h : Held) → f t s h ≡ [] → g t s h ≡ true)
      → bundle_step_fault c again x flags skip h f ≡ [] → bundle_step_passes c again x flags skip h g ≡ true
  bundle_step None flags skip h f g next e = refl
  bundle_step (Some x) flags zero h f g next e = short (arg_by_short c x) _ h _ _ (next _ 0) e
  bundle_step (Some x) flags (suc skip) h f g next e = next _ skip h e

  flags_of : (k : ℕ) (flags : Text) (skip : ℕ) (h : Held) → flags_fault c again k flags skip h ≡ [] → flags_pass c again k flags skip h ≡ true
  unfolding flags_fault flags_pass
  flags_of zero flags skip h e = refl
  flags_of (suc k) flags skip h e = bundle_step (slice_get (chars flags) 0) flags skip h _ _ (flags_of k) e

  flag_word : (p : Option (Text × Option Text)) (word : Text) (h : Held) → flag_word_fault c again p word h ≡ [] → flag_word_passes c again p word h ≡ true
  flag_word (Some p) word h e = long (arg_by_long c p.0) p.1 h e
  flag_word None word h e = if_some _ _ (λ flags. flags_of (length flags) flags h.skip (record h { skip = 0 })) (short_of word) e

  positional : (a : Rule) (h : Held) → positional_fault c again a h ≡ [] → positional_passes c again a h ≡ true
  positional a h e = skipped (is_pending a h.pending && takes_several a) _ _ (settle h) e

no_stray : (s : Shape) → stray_fault s ≡ [] → ⊥
no_stray s e = go s.is_leaf e
  where
    go : (leaf : Bool) → stray_fault (record s { is_leaf = leaf }) ≡ [] → ⊥
    go true e = cc
    go false e = cc

module _ (s : Shape) where
  other : (name : Option Text) (word : Text) (h : Held) → other_fault s name word h ≡ [] → other_passes s name word h ≡ true
  other (Some name) word h e = barred (bytes_eq name (codes "help")) s.disable_help_subcommand _ _ e
  other None word h e = skipped (bytes_eq word (45 ∷ 45 ∷ [])) _ _ (flag_word s.rules s.args_override_self (long_of word) word h) e

  word_of : (names : Names) (trailing : Bool) (waiting : Waiting) (word : Text) (h : Held)
      → word_fault s names trailing waiting word h ≡ [] → word_passes s names trailing waiting word h ≡ true
  word_of names trailing waiting word h e = skipped trailing _ _ (other (subcommand_met names waiting word) word h) e

  step_at : (h : Held) (a : Option Rule) → option_map_or (λ a. positional_fault s.rules s.args_override_self a h) a (stray_fault s) ≡ []
      → option_map_or (λ a. positional_passes s.rules s.args_override_self a h) a false ≡ true
  step_at h None e = absurd (no_stray s e)
  step_at h (Some a) e = positional s.rules s.args_override_self a h e

  step_of : (position : ℕ) (h : Held) (step : Step) → step_fault s position h step ≡ [] → step_passes s position h step ≡ true
  step_of position h value e = step_at h (arg_by_index s.rules position) e
  step_of position h step e = refl

  turn : (names : Names) (w : Walk) (word : Text) → turn_fault s names w word ≡ [] → turn_passes s names w word ≡ true
  turn names w word e = skipped (is_some w.stopped) _ _ (λ none.
      let parts = nothing _ _ none in
      let met = word_met s.rules names w.is_trailing w.waiting w.position word w.held in
      and_from _ _ (word_of names w.is_trailing w.waiting word w.held parts.0) (step_of w.position met.0 met.1 parts.1)) e

  walk_of : (names : Names) (w : Walk) (words : List Text) → walk_fault s names w words ≡ [] → walk_passes s names w words ≡ true
  unfolding walk_fault walk_passes
  walk_of names w [] e = refl
  walk_of names w (word ∷ rest) e =
      let parts = nothing _ _ e in and_from _ _ (turn names w word parts.0) (walk_of names (walked s.rules names w word) rest parts.1)

-- ---- after the walk

given_or : (required given missing all : Bool) → (missing ≡ false → all ≡ true) → ((required && not given) || missing) ≡ false → ((not required || given) && all) ≡ true
given_or true true missing all h e = h e
given_or true false missing all h e = cc
given_or false given missing all h e = h e

all_given : (rows : List Row) (rules : List Rule) → list_any (λ a. a.required && not (is_given a.id rows)) rules ≡ false
    → list_all (λ a. not a.required || is_given a.id rows) rules ≡ true
all_given rows [] e = refl
all_given rows (a ∷ rest) e = given_or a.required (is_given a.id rows) _ _ (all_given rows rest) e

clear : (a b c : Bool) → check_kinds a b c ≡ [] → (a ≡ false) × (b ≡ false) × (c ≡ false)
clear true b c e = cc
clear false true c e = cc
clear false false true e = cc
clear false false false e = (refl, refl, refl)

some_given : (has help any : Bool) → (not has && (help && not any)) ≡ false → (not help || (has || any)) ≡ true
some_given true true any e = refl
some_given true false any e = refl
some_given false true true e = refl
some_given false true false e = cc
some_given false false any e = refl

has_wanted : (has wanted : Bool) → (not has && wanted) ≡ false → (not wanted || has) ≡ true
has_wanted true true e = refl
has_wanted true false e = refl
has_wanted false true e = cc
has_wanted false false e = refl

none_missing : (b missing given : Bool) → (missing ≡ false → given ≡ true) → (not b && missing) ≡ false → (b || given) ≡ true
none_missing true missing given h e = refl
none_missing false missing given h e = h e

-- the defaults of the rules pass, and no argument has a rule on another
abbrev pub is_fine : Shape → Bool
is_fine s = list_all default_passes s.rules && list_all (λ a. a.is_free) s.rules

valid : (s : Shape) (rows : List Row) (has : Bool) → list_all (λ a. a.is_free) s.rules ≡ true → check_fault s rows has ≡ [] → is_valid s rows has ≡ true
valid s rows has free e =
    let parts = clear _ _ _ e in
    and_from _ _ (some_given has s.arg_required_else_help (list_any (λ r. explicit_source r.source) rows) parts.0)
    (and_from _ _ (has_wanted has s.subcommand_required parts.1)
    (and_from _ _ free (none_missing (s.subcommand_negates_reqs && has) _ _ (all_given rows s.rules) parts.2)))

level : (s : Shape) (names : Names) (h : Held) (words : List Text) (has : Bool) (below : Kinds) → is_fine s ≡ true
    → level_fault s names h words has below ≡ [] → (level_passes s names h words has ≡ true) × (below ≡ [])
level s names h words has below fine e =
    let f = and_parts _ _ fine in
    let p1 = nothing _ _ e in
    let p2 = nothing _ _ p1.1 in
    let p3 = nothing _ _ p2.1 in
    let p4 = nothing _ _ p3.1 in
    let end = (walk s.rules names h words).held in (
      and_from _ _ (walk_of s names (walk_from h) words p1.0) (and_from _ _ (settle s.rules s.args_override_self end p3.0)
          (and_from _ _ f.0 (valid s (finished s.rules end) has f.1 p4.1))),
      p2.0,
    )

module _ (f : Shape → Kinds) (g : Shape → Bool) (h : (s : Shape) → is_fine s ≡ true → f s ≡ [] → g s ≡ true) where
  this_or : (b : Bool) (s : Shape) (rest : Option Shape) → is_fine s ≡ true → (option_map_or f rest [] ≡ [] → option_map_or g rest true ≡ true)
      → option_map_or f (if b then Some s else rest) [] ≡ [] → option_map_or g (if b then Some s else rest) true ≡ true
  this_or true s rest fine other e = h s fine e
  this_or false s rest fine other e = other e

  found : (p : Shape → Bool) (xs : List Shape) → list_all is_fine xs ≡ true → option_map_or f (find p xs) [] ≡ [] → option_map_or g (find p xs) true ≡ true
  found p [] fine e = refl
  found p (s ∷ xs) fine e = let parts = and_parts _ _ fine in this_or (p s) s (find p xs) parts.0 (found p xs parts.1) e

entered_of : (a : App) (stop : Option (Text × List Text)) → list_all is_fine a.subs ≡ true → entered_fault a stop ≡ [] → entered_passes a stop ≡ true
entered_of a stop fine e = if_some _ _ (λ p. found _ _ (λ s f none. (level s [] nothing_held p.1 false [] f none).0) (λ s. answers_to p.0 (label_of s)) a.subs fine) stop e

-- where no step fails, the words are taken
pub taken : (a : App) (words : List Text) → is_simple a ≡ true → is_fine (built a).top ≡ true → list_all is_fine (built a).subs ≡ true
    → fault_of a words ≡ [] → takes a words ≡ true
taken a words simple top subs e =
    let b = built a in
    let rest = argument_words a words in
    let stop = (walk b.top.rules (names_of b) nothing_held rest).stopped in
    let parts = level b.top (names_of b) nothing_held rest (is_some (entered b stop)) (entered_fault b stop) top e in
    and_from _ _ simple (and_from _ _ (entered_of b stop subs parts.1) parts.0)
