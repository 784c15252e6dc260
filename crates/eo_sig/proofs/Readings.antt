-- What is kept, read over a list of trees.
use Rattle.std.proofs.Common.{◌≡◌, ℕ, ◌<◌, Bool, true, false, not, ◌&&◌, ◌||◌, List, [], ◌∷◌, length, map, position, slice_get, get_or, Option, Some, None, refl, sym, ap, ◌∙◌, subst, true≢false}
use Rattle.std.specs.List.{filter_map, cons_option, list_any}
use Rattle.std.specs.Prelude.{option_map, if◌then◌else◌, bytes_eq, is_none, IfSome}
use Rattle.std.specs.Option.{option_or}
use Rattle.std.proofs.lemmas.Bool.{and_parts}
use Rattle.std.proofs.lemmas.List.{length-map, map-append}
use Rattle.std.proofs.lemmas.List.Elements.{All-push}
use Rattle.std.proofs.lemmas.Option.{none-some, same_Some, slice_get-map, slice_get_within}
use Rattle.eo_base.proofs.Tests.{is_nothing}
use Rattle.eo_term.specs.Tree.{Tree}
use Rattle.eo_term.specs.Terms.{tree_at}
use Rattle.eo_lit.specs.declared.LiteralClass.{LiteralClass}
use Rattle.eo_sig.specs.declared.records.Declared.{Declared}
use Rattle.eo_sig.specs.declared.records.Declared.TheVariants as declared
use Rattle.eo_sig.specs.declared.records.ConstDecl.{ConstDecl}
use Rattle.eo_sig.specs.declared.records.Counts.{Counts}
use Rattle.eo_sig.specs.declared.records.MacroDecl.{MacroDecl}
use Rattle.eo_sig.specs.declared.records.ProgramDecl.{ProgramDecl}
use Rattle.eo_sig.specs.declared.records.RuleDecl.{RuleDecl}
use Rattle.eo_sig.specs.Signature as sig
use Rattle.eo_sig.specs.Reading.{Kept, signature, macros, read_entry, read_constant, read_counts, read_macro, read_program, read_rule, const_of, program_decl_of, rule_decl_of, constants_of, programs_of, rules_of, EntryBelow, ConstBelow, MacroBelow, ProgramBelow, RuleBelow, IsBelow, Adds, with_entry, with_macro, IsFree, IsFreeRule}
use Rattle.eo_sig.specs.Held.{counted_decl_of, program_name, rule_name, literal_id, first_literal, IsTable, IsPlaces}
use Rattle.eo_sig.specs.Indexed.{is_met, counts_at}
use Rattle.eo_sig.proofs.Tables.{position_same, map_twice, table_names, numbered, numbered_here, numbers, own_holds}

-- the name of a constant, with what it takes
abbrev pub key_of : sig.Constant × sig.Counts → List ℕ × sig.Counts
key_of d = (d.0.name, d.1)

-- the constants are those with what they take
pub decls_of : (es : List Declared) → filter_map const_of es ≡ map (λ (q : ConstDecl × Counts). q.0) (filter_map counted_decl_of es)
decls_of [] = refl
decls_of (declared.Const d n ∷ es) = ap (λ ds. d ∷ ds) (decls_of es)
decls_of (declared.Program d ∷ es) = decls_of es
decls_of (declared.Rule d ∷ es) = decls_of es
decls_of (declared.Literal l t ∷ es) = decls_of es

module _ (ts : List Tree) where
  -- by kind
  pub constants_read : (es : List Declared) → sig.constants (map (read_entry ts) es) ≡ map (read_constant ts) (filter_map const_of es)
  constants_read [] = refl
  constants_read (declared.Const d n ∷ es) = ap (λ cs. read_constant ts d ∷ cs) (constants_read es)
  constants_read (declared.Program d ∷ es) = constants_read es
  constants_read (declared.Rule d ∷ es) = constants_read es
  constants_read (declared.Literal l t ∷ es) = constants_read es

  pub programs_read : (es : List Declared) → sig.programs (map (read_entry ts) es) ≡ map (read_program ts) (filter_map program_decl_of es)
  programs_read [] = refl
  programs_read (declared.Const d n ∷ es) = programs_read es
  programs_read (declared.Program d ∷ es) = ap (λ cs. read_program ts d ∷ cs) (programs_read es)
  programs_read (declared.Rule d ∷ es) = programs_read es
  programs_read (declared.Literal l t ∷ es) = programs_read es

  pub rules_read : (es : List Declared) → sig.rules (map (read_entry ts) es) ≡ map (read_rule ts) (filter_map rule_decl_of es)
  rules_read [] = refl
  rules_read (declared.Const d n ∷ es) = rules_read es
  rules_read (declared.Program d ∷ es) = rules_read es
  rules_read (declared.Rule d ∷ es) = ap (λ cs. read_rule ts d ∷ cs) (rules_read es)
  rules_read (declared.Literal l t ∷ es) = rules_read es

  -- the names of constants, with what they take
  pub counted_keys : (es : List Declared) → map key_of (sig.counted (map (read_entry ts) es)) ≡ map (λ (q : ConstDecl × Counts). (q.0.name, read_counts q.1)) (filter_map counted_decl_of es)
  counted_keys [] = refl
  counted_keys (declared.Const d n ∷ es) = ap (λ ks. (d.name, read_counts n) ∷ ks) (counted_keys es)
  counted_keys (declared.Program d ∷ es) = counted_keys es
  counted_keys (declared.Rule d ∷ es) = counted_keys es
  counted_keys (declared.Literal l t ∷ es) = counted_keys es

  pub constant_names : (es : List Declared) → map (λ (c : sig.Constant). c.name) (sig.constants (map (read_entry ts) es)) ≡ map (λ (q : ConstDecl × Counts). q.0.name) (filter_map counted_decl_of es)
  constant_names [] = refl
  constant_names (declared.Const d n ∷ es) = ap (λ ws. d.name ∷ ws) (constant_names es)
  constant_names (declared.Program d ∷ es) = constant_names es
  constant_names (declared.Rule d ∷ es) = constant_names es
  constant_names (declared.Literal l t ∷ es) = constant_names es

  pub program_names : (es : List Declared) → filter_map program_name es ≡ map (λ (c : sig.Program). c.name) (sig.programs (map (read_entry ts) es))
  program_names [] = refl
  program_names (declared.Const d n ∷ es) = program_names es
  program_names (declared.Program d ∷ es) = ap (λ ws. d.name ∷ ws) (program_names es)
  program_names (declared.Rule d ∷ es) = program_names es
  program_names (declared.Literal l t ∷ es) = program_names es

  pub rule_names : (es : List Declared) → filter_map rule_name es ≡ map (λ (c : sig.Rule). c.name) (sig.rules (map (read_entry ts) es))
  rule_names [] = refl
  rule_names (declared.Const d n ∷ es) = rule_names es
  rule_names (declared.Program d ∷ es) = rule_names es
  rule_names (declared.Rule d ∷ es) = ap (λ ws. d.name ∷ ws) (rule_names es)
  rule_names (declared.Literal l t ∷ es) = rule_names es

  literals_read : (l : LiteralClass) (es : List Declared) → filter_map (sig.literal_type_of l) (map (read_entry ts) es) ≡ map (tree_at ts) (filter_map (literal_id l) es)
  literals_read l [] = refl
  literals_read l (declared.Const d n ∷ es) = literals_read l es
  literals_read l (declared.Program d ∷ es) = literals_read l es
  literals_read l (declared.Rule d ∷ es) = literals_read l es
  literals_read l (declared.Literal k t ∷ es) = by (sig.is_same_class l k) (literals_read l es)
    where
      by : (b : Bool) → filter_map (sig.literal_type_of l) (map (read_entry ts) es) ≡ map (tree_at ts) (filter_map (literal_id l) es)
          → cons_option (if b then Some (tree_at ts t) else None) (filter_map (sig.literal_type_of l) (map (read_entry ts) es)) ≡ map (tree_at ts) (cons_option (if b then Some t else None) (filter_map (literal_id l) es))
      by true h = ap (λ us. tree_at ts t ∷ us) h
      by false h = h

  pub literal_read : (l : LiteralClass) (es : List Declared) → option_map (tree_at ts) (first_literal l es) ≡ sig.literal_type (map (read_entry ts) es) l
  literal_read l es = sym (ap (λ us. slice_get us 0) (literals_read l es) ∙ slice_get-map (tree_at ts) (filter_map (literal_id l) es) 0)

  -- by name, over any table of names
  module _ (w : List ℕ) where
    same_names : {Y : Type 0} (names : List (List ℕ × ℕ)) (name : Y → List ℕ) (ys : List Y) → map (λ (e : List ℕ × ℕ). e.0) names ≡ map name ys
        → position (λ v. bytes_eq w v) (map (λ (e : List ℕ × ℕ). e.0) names) ≡ position (λ y. bytes_eq w (name y)) ys
    same_names names name ys e =
        position_same (bytes_eq w) (λ v. v) name (map (λ (e : List ℕ × ℕ). e.0) names) ys (map_twice (λ v. v) (λ (e : List ℕ × ℕ). e.0) (λ e. e.0) (λ e. refl) names ∙ e)

    pub program_found : (es : List Declared) (names : List (List ℕ × ℕ)) → IsTable program_name es names → position (λ v. bytes_eq w v) (map (λ (e : List ℕ × ℕ). e.0) names) ≡ sig.program_named (map (read_entry ts) es) w
    program_found es names h = same_names names (λ (c : sig.Program). c.name) (sig.programs (map (read_entry ts) es)) (table_names program_name es names h ∙ program_names es)

    pub rule_found : (es : List Declared) (names : List (List ℕ × ℕ)) → IsTable rule_name es names → position (λ v. bytes_eq w v) (map (λ (e : List ℕ × ℕ). e.0) names) ≡ sig.rule_named (map (read_entry ts) es) w
    rule_found es names h = same_names names (λ (c : sig.Rule). c.name) (sig.rules (map (read_entry ts) es)) (table_names rule_name es names h ∙ rule_names es)

    pub macro_found : (ms : List (List ℕ × MacroDecl)) → map (λ (e : List ℕ × MacroDecl). e.0) ms ≡ map (λ (e : List ℕ × MacroDecl). e.1.name) ms
        → position (λ v. bytes_eq w v) (map (λ (e : List ℕ × MacroDecl). e.0) ms) ≡ sig.macro_named (map (read_macro ts) (map (λ (e : List ℕ × MacroDecl). e.1) ms)) w
    macro_found ms h =
        position_same (bytes_eq w) (λ v. v) (λ (m : sig.Macro). m.name) (map (λ (e : List ℕ × MacroDecl). e.0) ms) (map (read_macro ts) (map (λ (e : List ℕ × MacroDecl). e.1) ms))
        (map_twice (λ v. v) (λ (e : List ℕ × MacroDecl). e.0) (λ e. e.0) (λ e. refl) ms ∙ h
        ∙ sym (ap (map (λ (m : sig.Macro). m.name)) (map_twice (read_macro ts) (λ (e : List ℕ × MacroDecl). e.1) (λ e. read_macro ts e.1) (λ e. refl) ms) ∙ map_twice (λ (m : sig.Macro). m.name) (λ e. read_macro ts e.1) (λ e. e.1.name) (λ e. refl) ms))

  -- what a call adds
  pub adds_entry : (k : Kept) (x : Declared) → Adds ts k (read_entry ts x) (with_entry x k)
  adds_entry k x = record { signature = map-append (read_entry ts) k.entries (x ∷ []); macros = refl }

-- what is below n

pub below_entry : (n : ℕ) (k : Kept) (x : Declared) → IsBelow n k → EntryBelow n x → IsBelow n (with_entry x k)
below_entry n k x h e = record { entries = All-push (EntryBelow n) k.entries x h.entries e; macros = h.macros }

pub below_macro : (n : ℕ) (k : Kept) (d : MacroDecl) → IsBelow n k → MacroBelow n d → IsBelow n (with_macro d k)
below_macro n k d h e = record { entries = h.entries; macros = All-push (MacroBelow n) k.macros d h.macros e }

const_part : (n : ℕ) (x : Declared) (d : ConstDecl) → const_of x ≡ Some d → EntryBelow n x → ConstBelow n d
const_part n (declared.Const c m) d e h = subst (ConstBelow n) (same_Some c d e) h
const_part n (declared.Program c) d e h = absurd (none-some d e)
const_part n (declared.Rule c) d e h = absurd (none-some d e)
const_part n (declared.Literal l t) d e h = absurd (none-some d e)

program_part : (n : ℕ) (x : Declared) (d : ProgramDecl) → program_decl_of x ≡ Some d → EntryBelow n x → ProgramBelow n d
program_part n (declared.Const c m) d e h = absurd (none-some d e)
program_part n (declared.Program c) d e h = subst (ProgramBelow n) (same_Some c d e) h
program_part n (declared.Rule c) d e h = absurd (none-some d e)
program_part n (declared.Literal l t) d e h = absurd (none-some d e)

rule_part : (n : ℕ) (x : Declared) (d : RuleDecl) → rule_decl_of x ≡ Some d → EntryBelow n x → RuleBelow n d
rule_part n (declared.Const c m) d e h = absurd (none-some d e)
rule_part n (declared.Program c) d e h = absurd (none-some d e)
rule_part n (declared.Rule c) d e h = subst (RuleBelow n) (same_Some c d e) h
rule_part n (declared.Literal l t) d e h = absurd (none-some d e)

literal_part : (l : LiteralClass) (n : ℕ) (x : Declared) (t : ℕ) → literal_id l x ≡ Some t → EntryBelow n x → t < n
literal_part l n (declared.Const c m) t e h = absurd (none-some t e)
literal_part l n (declared.Program c) t e h = absurd (none-some t e)
literal_part l n (declared.Rule c) t e h = absurd (none-some t e)
literal_part l n (declared.Literal k u) t e h = by (sig.is_same_class l k) e
  where
    by : (b : Bool) → (if b then Some u else None) ≡ Some t → t < n
    by true e = subst (λ v. v < n) (same_Some u t e) h
    by false e = absurd (none-some t e)

pub constant_below : (n : ℕ) (k : Kept) (i : ℕ) (d : ConstDecl) → IsBelow n k → slice_get (constants_of k) i ≡ Some d → ConstBelow n d
constant_below n k i d h p = own_holds const_of (λ d. d.name) (EntryBelow n) (ConstBelow n) (const_part n) k.entries h.entries i d p

pub program_below : (n : ℕ) (k : Kept) (i : ℕ) (d : ProgramDecl) → IsBelow n k → slice_get (programs_of k) i ≡ Some d → ProgramBelow n d
program_below n k i d h p = own_holds program_decl_of (λ d. d.name) (EntryBelow n) (ProgramBelow n) (program_part n) k.entries h.entries i d p

pub rule_below : (n : ℕ) (k : Kept) (i : ℕ) (d : RuleDecl) → IsBelow n k → slice_get (rules_of k) i ≡ Some d → RuleBelow n d
rule_below n k i d h p = own_holds rule_decl_of (λ d. d.name) (EntryBelow n) (RuleBelow n) (rule_part n) k.entries h.entries i d p

pub literal_below : (n : ℕ) (k : Kept) (l : LiteralClass) (o : Option ℕ) → o ≡ first_literal l k.entries → IsBelow n k → IfSome o (λ t. t < n)
literal_below n k l None e h = tt
literal_below n k l (Some t) e h = own_holds (literal_id l) (λ t. []) (EntryBelow n) (λ t. t < n) (literal_part l n) k.entries h.entries 0 t (sym e)

-- what has a number, read

pub constant_read : (ts : List Tree) (k : Kept) (i : ℕ) (d : ConstDecl) → slice_get (constants_of k) i ≡ Some d → sig.constant_at (signature ts k) i ≡ Some (read_constant ts d)
constant_read ts k i d p = ap (λ cs. slice_get cs i) (constants_read ts k.entries) ∙ slice_get-map (read_constant ts) (constants_of k) i ∙ ap (option_map (read_constant ts)) p

pub program_read : (ts : List Tree) (k : Kept) (i : ℕ) (d : ProgramDecl) → slice_get (programs_of k) i ≡ Some d → sig.program_at (signature ts k) i ≡ Some (read_program ts d)
program_read ts k i d p = ap (λ cs. slice_get cs i) (programs_read ts k.entries) ∙ slice_get-map (read_program ts) (programs_of k) i ∙ ap (option_map (read_program ts)) p

pub rule_read : (ts : List Tree) (k : Kept) (i : ℕ) (d : RuleDecl) → slice_get (rules_of k) i ≡ Some d → sig.rule_at (signature ts k) i ≡ Some (read_rule ts d)
rule_read ts k i d p = ap (λ cs. slice_get cs i) (rules_read ts k.entries) ∙ slice_get-map (read_rule ts) (rules_of k) i ∙ ap (option_map (read_rule ts)) p

pub macro_read : (ts : List Tree) (k : Kept) (i : ℕ) (d : MacroDecl) → slice_get k.macros i ≡ Some d → slice_get (macros ts k) i ≡ Some (read_macro ts d)
macro_read ts k i d p = slice_get-map (read_macro ts) k.macros i ∙ ap (option_map (read_macro ts)) p

-- No tree plays a part in the look-ups of constants by name.

any-map : {X Y : Type 0} (p : Y → Bool) (f : X → Y) (xs : List X) → list_any (λ x. p (f x)) xs ≡ list_any p (map f xs)
any-map p f [] = refl
any-map p f (x ∷ xs) = ap (λ b. p (f x) || b) (any-map p f xs)

module _ (ts : List Tree) (es : List Declared) where
  abbrev here : sig.Signature
  here = map (read_entry ts) es

  abbrev bare : sig.Signature
  bare = map (read_entry []) es

  pub named_anywhere : (w : List ℕ) → sig.constant_named here w ≡ sig.constant_named bare w
  named_anywhere w = position_same (bytes_eq w) (λ (c : sig.Constant). c.name) (λ (c : sig.Constant). c.name) (sig.constants here) (sig.constants bare) (constant_names ts es ∙ sym (constant_names [] es))

  same_keys : map key_of (sig.counted here) ≡ map key_of (sig.counted bare)
  same_keys = counted_keys ts es ∙ sym (counted_keys [] es)

  pub taking_anywhere : (w : List ℕ) (n : ℕ) → sig.constant_taking here w n ≡ sig.constant_taking bare w n
  taking_anywhere w n = position_same (λ (k : List ℕ × sig.Counts). bytes_eq w k.0 && sig.takes k.1 n) key_of key_of (sig.counted here) (sig.counted bare) same_keys

  pub met_anywhere : (w : List ℕ) (m : sig.Counts) → is_met here w m ≡ is_met bare w m
  met_anywhere w m =
      let p = λ (k : List ℕ × sig.Counts). bytes_eq w k.0 && sig.meet k.1 m in
      any-map p key_of (sig.counted here) ∙ ap (list_any p) same_keys ∙ sym (any-map p key_of (sig.counted bare))

  pub apart_anywhere : (w : List ℕ) (m : sig.Counts) → sig.is_apart here w m ≡ sig.is_apart bare w m
  apart_anywhere w m = ap not (met_anywhere w m)

-- ---- constants by number

-- as many as there are with what they take
pub bare_count : (ts : List Tree) (k : Kept) → length (sig.constants (signature ts k)) ≡ length (constants_of k)
bare_count ts k = ap length (constants_read ts k.entries) ∙ length-map (constants_of k) (read_constant ts)

pub places_count : (es : List Declared) (places : List ℕ) → IsPlaces es places → length places ≡ length (filter_map const_of es)
places_count es places h =
    sym (length-map places (λ p. ([], p))) ∙ numbers counted_decl_of (λ (q : ConstDecl × Counts). []) es (map (λ p. ([], p)) places) h
    ∙ sym (length-map (filter_map counted_decl_of es) (λ (q : ConstDecl × Counts). q.0)) ∙ sym (ap length (decls_of es))

-- the constant at a place, with what it takes
abbrev pub AtPlace : List Declared → ℕ → Declared → Type 0
AtPlace es n x = (q : ConstDecl × Counts) × (counted_decl_of x ≡ Some q) × (slice_get (filter_map counted_decl_of es) n ≡ Some q)

pub place_in : (es : List Declared) (places : List ℕ) (n p : ℕ) → IsPlaces es places → slice_get places n ≡ Some p → p < length es
place_in es places n p h e =
    let r = numbered counted_decl_of (λ (q : ConstDecl × Counts). []) es (map (λ p. ([], p)) places) n ([], p) h (slice_get-map (λ p. ([], p)) places n ∙ ap (option_map (λ p. ([], p))) e) in
    slice_get_within es p r.0 r.2

pub at_place : (es : List Declared) (places : List ℕ) (n p : ℕ) (x : Declared) → IsPlaces es places → slice_get places n ≡ Some p → x ≡ get_or es p x → AtPlace es n x
at_place es places n p x h e g =
    numbered_here counted_decl_of (λ (q : ConstDecl × Counts). []) es (map (λ p. ([], p)) places) n ([], p) x h (slice_get-map (λ p. ([], p)) places n ∙ ap (option_map (λ p. ([], p))) e) g

pub const_at : (es : List Declared) (n : ℕ) (x : Declared) (a : AtPlace es n x) → (const_of x ≡ Some a.0.0) × (slice_get (filter_map const_of es) n ≡ Some a.0.0)
const_at es n x a = (as_const x a.0 a.1, ap (λ ds. slice_get ds n) (decls_of es) ∙ slice_get-map (λ (q : ConstDecl × Counts). q.0) (filter_map counted_decl_of es) n ∙ ap (option_map (λ (q : ConstDecl × Counts). q.0)) a.2)
  where
    as_const : (x : Declared) (q : ConstDecl × Counts) → counted_decl_of x ≡ Some q → const_of x ≡ Some q.0
    as_const (declared.Const d n) q e = ap (option_map (λ (q : ConstDecl × Counts). q.0)) e
    as_const (declared.Program d) q e = absurd (none-some q e)
    as_const (declared.Rule d) q e = absurd (none-some q e)
    as_const (declared.Literal l t) q e = absurd (none-some q e)

keyed : (o : Option (sig.Constant × sig.Counts)) → option_map (λ (d : sig.Constant × sig.Counts). d.1) o ≡ option_map (λ (k : List ℕ × sig.Counts). k.1) (option_map key_of o)
keyed None = refl
keyed (Some d) = refl

pub counts_read : (es : List Declared) (n : ℕ) (x : Declared) (a : AtPlace es n x) → counts_at (map (read_entry []) es) n ≡ Some (read_counts a.0.1)
counts_read es n x a =
    keyed (slice_get (sig.counted (map (read_entry []) es)) n)
    ∙ sym (ap (option_map (λ (k : List ℕ × sig.Counts). k.1)) (slice_get-map key_of (sig.counted (map (read_entry []) es)) n))
    ∙ ap (λ (ks : List (List ℕ × sig.Counts)). option_map (λ (k : List ℕ × sig.Counts). k.1) (slice_get ks n)) (counted_keys [] es)
    ∙ ap (option_map (λ (k : List ℕ × sig.Counts). k.1)) (slice_get-map (λ (q : ConstDecl × Counts). (q.0.name, read_counts q.1)) (filter_map counted_decl_of es) n ∙ ap (option_map (λ (q : ConstDecl × Counts). (q.0.name, read_counts q.1))) a.2)

-- a free name is nobody's

none_of_map : {X Y : Type 0} (f : X → Y) (o : Option X) → is_none (option_map f o) ≡ true → o ≡ None
none_of_map f None e = refl
none_of_map f (Some x) e = absurd (true≢false (sym e))

none_first : {X : Type 0} (o p : Option X) → is_none (option_or o p) ≡ true → is_none o ≡ true
none_first None p e = refl
none_first (Some x) p e = e

none_second : {X : Type 0} (o p : Option X) → is_none (option_or o p) ≡ true → is_none p ≡ true
none_second None p e = e
none_second (Some x) p e = absurd (true≢false (sym e))

pub free_constant : (k : Kept) (w : List ℕ) → IsFree k w → sig.constant_named (signature [] k) w ≡ None
free_constant k w h = none_of_map sig.NamesConstant (sig.constant_named (signature [] k) w) (none_first _ _ (and_parts _ _ h).1)

pub free_macro : (k : Kept) (w : List ℕ) → IsFree k w → sig.macro_named (macros [] k) w ≡ None
free_macro k w h =
    none_of_map sig.NamesMacro (sig.macro_named (macros [] k) w) (none_first _ _ (none_second (option_map sig.NamesConstant (sig.constant_named (signature [] k) w)) _ (and_parts _ _ h).1))

pub free_program : (k : Kept) (w : List ℕ) → IsFree k w → sig.program_named (signature [] k) w ≡ None
free_program k w h =
    none_of_map sig.NamesProgram (sig.program_named (signature [] k) w) (none_second (option_map sig.NamesMacro (sig.macro_named (macros [] k) w)) _ (none_second (option_map sig.NamesConstant (sig.constant_named (signature [] k) w)) _ (and_parts _ _ h).1))

pub free_rule : (k : Kept) (w : List ℕ) → IsFreeRule k w → sig.rule_named (signature [] k) w ≡ None
free_rule k w h = is_nothing (sig.rule_named (signature [] k) w) (and_parts _ _ h).1
