-- A signature stays one as it keeps one more.
use Rattle.std.proofs.Common.{◌≡◌, ℕ, Bool, true, List, [], ◌∷◌, ◌++◌, length, map, position, Option, Some, None, is_some, refl, sym, ap, ◌∙◌, subst}
use Rattle.std.proofs.Math.Path.{transport}
use Rattle.std.specs.Prelude.{Result, Ok, IfOk, OnOk, option_map, bytes_eq}
use Rattle.std.specs.Map.{lookup, keys_of}
use Rattle.std.specs.List.{filter_map, cons_option}
use Rattle.std.proofs.lemmas.List.{append-nil, length-map, map-append}
use Rattle.std.proofs.lemmas.List.Elements.{filter_map-append}
use Rattle.std.proofs.lemmas.Option.{none-some}
use Rattle.eo_base.proofs.Tests.{none_is}
use Rattle.indexmap.proofs.MapLemmas.{some_index}
use Rattle.eo_term.specs.Terms.{tree_at}
use Rattle.eo_lit.specs.declared.LiteralClass.{LiteralClass}
use Rattle.eo_lit.specs.declared.LiteralClass.TheVariants as class
use Rattle.eo_sig.specs.declared.records.Declared.{Declared}
use Rattle.eo_sig.specs.declared.records.Declared.TheVariants as declared
use Rattle.eo_sig.specs.declared.records.ConstDecl.{ConstDecl}
use Rattle.eo_sig.specs.declared.records.Counts.{Counts}
use Rattle.eo_sig.specs.declared.records.MacroDecl.{MacroDecl}
use Rattle.eo_sig.specs.declared.records.ProgramDecl.{ProgramDecl}
use Rattle.eo_sig.specs.declared.records.RuleDecl.{RuleDecl}
use Rattle.eo_sig.specs.Signature as sig
use Rattle.eo_sig.specs.Indexed.{Tables, IsIndexed, no_tables, with_new, with_other}
use Rattle.eo_sig.specs.Overloads.{tables_of}
use Rattle.eo_sig.specs.declared.overloads.Overloads.{Overloads}
use Rattle.eo_sig.specs.Reading.{macros, const_of, read_constant, read_counts, read_entry}
use Rattle.eo_sig.specs.Held.{no_name, program_name, rule_name, first_literal, counted_decl_of, IsTable, IsPlaces, IsKept}
use Rattle.eo_sig.proofs.Tables.{push_own, push_other, literal_other, literal_own}
use Rattle.eo_sig.proofs.Indexed.{indexed_none, indexed_same, indexed_new, indexed_other}
use Rattle.eo_sig.proofs.Readings.{places_count, constants_read, program_found, rule_found, macro_found, literal_read}

none_of_map : {X Y : Type 0} (f : X → Y) (o : Option X) → option_map f o ≡ None → o ≡ None
none_of_map f None e = refl
none_of_map f (Some x) e = absurd (none-some (f x) (sym e))

-- what holds of the value of a call
pub at_ok : {A E : Type 0} (P : A → Type 0) (r : Result A E) (x : A) → r ≡ Ok x → IfOk r P → P x
at_ok P r x e h = subst (λ s. IfOk s P) e h

-- what holds where a call was not refused
pub done : {A E : Type 0} (P : Type 0) (r : Result A E) (x : A) → r ≡ Ok x → OnOk r P → P
done P r x e h = subst (λ s. OnOk s P) e h

-- a key at no place is not looked up
pub no_key : {X : Type 0} (test : List ℕ → Bool) (es : List (List ℕ × X)) → position test (keys_of es) ≡ None → lookup test es ≡ None
no_key test es p = none_is (lookup test es) (sym (some_index test es) ∙ ap is_some p)

-- one more constant is at its place
places_more : (es : List Declared) (places : List ℕ) (d : ConstDecl) (n : Counts) → IsPlaces es places → IsPlaces (es ++ declared.Const d n ∷ []) (places ++ length es ∷ [])
places_more es places d n h =
    subst (IsTable no_name (es ++ declared.Const d n ∷ [])) (sym (map-append (λ p. ([], p)) places (length es ∷ [])))
    (push_own no_name es (map (λ p. ([], p)) places) (declared.Const d n) [] h refl)

-- ---- a declaration of another kind leaves the constants

abbrev NoConstant : Declared → Type 0
NoConstant x = (counted_decl_of x ≡ None) × (sig.constant_of (read_entry [] x) ≡ None) × (sig.counted_of (read_entry [] x) ≡ None)

indexed_still : (es : List Declared) (t : Tables) (x : Declared) → NoConstant x → IsIndexed (map (read_entry []) es) t → IsIndexed (map (read_entry []) (es ++ x ∷ [])) t
indexed_still es t x none is =
    let S = map (read_entry []) es in
    let e = read_entry [] x in
    subst (λ T. IsIndexed T t) (sym (map-append (read_entry []) es (x ∷ [])))
    (indexed_same S (S ++ e ∷ []) t
    (filter_map-append sig.constant_of S (e ∷ []) ∙ ap (λ o. sig.constants S ++ cons_option o []) none.1 ∙ append-nil (sig.constants S))
    (filter_map-append sig.counted_of S (e ∷ []) ∙ ap (λ o. sig.counted S ++ cons_option o []) none.2 ∙ append-nil (sig.counted S)) is)

module _ (es : List Declared) (cs : List ℕ) (tables : Tables) (ps rs : List (List ℕ × ℕ)) (ms : List (List ℕ × MacroDecl)) (n b s : Option ℕ) (h : IsKept es cs tables ps rs ms n b s) where
  -- one more constant, with the tables that it gives
  kept_constant : (d : ConstDecl) (c : Counts) (fs : List Declared) (places : List ℕ) (u : Tables) → fs ≡ es ++ declared.Const d c ∷ [] → places ≡ cs ++ length es ∷ []
      → IsIndexed (map (read_entry []) es ++ sig.IsConstant (read_constant [] d) (read_counts c) ∷ []) u → IsKept fs places u ps rs ms n b s
  kept_constant d c fs places u e g is =
      let x : Declared = declared.Const d c in
      subst (λ fs. IsKept fs places u ps rs ms n b s) (sym e) (subst (λ places. IsKept (es ++ x ∷ []) places u ps rs ms n b s) (sym g) (record {
        constants = places_more es cs d c h.constants;
        indexed = subst (λ T. IsIndexed T u) (sym (map-append (read_entry []) es (x ∷ []))) is;
        programs = push_other program_name es ps x h.programs refl;
        rules = push_other rule_name es rs x h.rules refl;
        macros = h.macros;
        numeral = h.numeral ∙ sym (literal_other class.Numeral es x refl);
        binary = h.binary ∙ sym (literal_other class.Binary es x refl);
        string = h.string ∙ sym (literal_other class.String es x refl);
      }))

  -- as many constants as places
  as_many_places : length cs ≡ length (sig.constants (map (read_entry []) es))
  as_many_places = places_count es cs h.constants ∙ sym (ap length (constants_read [] es) ∙ length-map (filter_map const_of es) (read_constant []))

  pub kept_new : (d : ConstDecl) (c : Counts) (fs : List Declared) (places : List ℕ) (u : Tables) → fs ≡ es ++ declared.Const d c ∷ [] → places ≡ cs ++ length es ∷ []
      → sig.constant_named (map (read_entry []) es) d.name ≡ None → u ≡ with_new tables d.name (length cs) → IsKept fs places u ps rs ms n b s
  kept_new d c fs places u e g none is =
      kept_constant d c fs places u e g
      (subst (IsIndexed (map (read_entry []) es ++ sig.IsConstant (read_constant [] d) (read_counts c) ∷ [])) (sym (is ∙ ap (with_new tables d.name) as_many_places))
      (indexed_new (map (read_entry []) es) tables (read_constant [] d) (read_counts c) h.indexed none))

  pub kept_other : (d : ConstDecl) (c : Counts) (fs : List Declared) (places : List ℕ) (u : Tables) (f : ℕ) → fs ≡ es ++ declared.Const d c ∷ [] → places ≡ cs ++ length es ∷ []
      → sig.constant_named (map (read_entry []) es) d.name ≡ Some f → sig.is_apart (map (read_entry []) es) d.name (read_counts c) ≡ true
      → u ≡ with_other tables f (length cs) (read_counts c) → IsKept fs places u ps rs ms n b s
  kept_other d c fs places u f e g named apart is =
      kept_constant d c fs places u e g
      (subst (IsIndexed (map (read_entry []) es ++ sig.IsConstant (read_constant [] d) (read_counts c) ∷ [])) (sym (is ∙ ap (λ k. with_other tables f k (read_counts c)) as_many_places))
      (indexed_other (map (read_entry []) es) tables (read_constant [] d) (read_counts c) h.indexed f named apart))

  -- what is the same stays kept
  pub kept_as : (fs : List Declared) (places : List ℕ) (u : Tables) → fs ≡ es → places ≡ cs → u ≡ tables → IsKept fs places u ps rs ms n b s
  kept_as fs places u e g is = transport (λ i. IsKept (sym e i) (sym g i) (sym is i) ps rs ms n b s) h

  pub new_program : (w : List ℕ) → sig.program_named (map (read_entry []) es) w ≡ None → position (λ v. bytes_eq w v) (keys_of ps) ≡ None
  new_program w e = program_found [] w es ps h.programs ∙ e

  pub kept_program : (d : ProgramDecl) (key : List ℕ) (fs : List Declared) (names : List (List ℕ × ℕ)) → key ≡ d.name → fs ≡ es ++ declared.Program d ∷ [] → names ≡ ps ++ (key, length es) ∷ [] → IsKept fs cs tables names rs ms n b s
  kept_program d key fs names k e g =
      let x : Declared = declared.Program d in
      subst (λ fs. IsKept fs cs tables names rs ms n b s) (sym e) (subst (λ names. IsKept (es ++ x ∷ []) cs tables names rs ms n b s) (sym g) (record {
        constants = push_other no_name es (map (λ p. ([], p)) cs) x h.constants refl;
        indexed = indexed_still es tables x (refl, refl, refl) h.indexed;
        programs = push_own program_name es ps x key h.programs (ap Some (sym k));
        rules = push_other rule_name es rs x h.rules refl;
        macros = h.macros;
        numeral = h.numeral ∙ sym (literal_other class.Numeral es x refl);
        binary = h.binary ∙ sym (literal_other class.Binary es x refl);
        string = h.string ∙ sym (literal_other class.String es x refl);
      }))

  pub new_rule : (w : List ℕ) → sig.rule_named (map (read_entry []) es) w ≡ None → position (λ v. bytes_eq w v) (keys_of rs) ≡ None
  new_rule w e = rule_found [] w es rs h.rules ∙ e

  pub kept_rule : (d : RuleDecl) (key : List ℕ) (fs : List Declared) (names : List (List ℕ × ℕ)) → key ≡ d.name → fs ≡ es ++ declared.Rule d ∷ [] → names ≡ rs ++ (key, length es) ∷ [] → IsKept fs cs tables ps names ms n b s
  kept_rule d key fs names k e g =
      let x : Declared = declared.Rule d in
      subst (λ fs. IsKept fs cs tables ps names ms n b s) (sym e) (subst (λ names. IsKept (es ++ x ∷ []) cs tables ps names ms n b s) (sym g) (record {
        constants = push_other no_name es (map (λ p. ([], p)) cs) x h.constants refl;
        indexed = indexed_still es tables x (refl, refl, refl) h.indexed;
        programs = push_other program_name es ps x h.programs refl;
        rules = push_own rule_name es rs x key h.rules (ap Some (sym k));
        macros = h.macros;
        numeral = h.numeral ∙ sym (literal_other class.Numeral es x refl);
        binary = h.binary ∙ sym (literal_other class.Binary es x refl);
        string = h.string ∙ sym (literal_other class.String es x refl);
      }))

  pub new_macro : (w : List ℕ) → sig.macro_named (macros [] (record { entries = es; macros = map (λ (e : List ℕ × MacroDecl). e.1) ms })) w ≡ None → position (λ v. bytes_eq w v) (keys_of ms) ≡ None
  new_macro w e = macro_found [] w ms h.macros ∙ e

  pub kept_macro : (d : MacroDecl) (key : List ℕ) (ns : List (List ℕ × MacroDecl)) → key ≡ d.name → ns ≡ ms ++ (key, d) ∷ [] → IsKept es cs tables ps rs ns n b s
  kept_macro d key ns k g =
      subst (λ ns. IsKept es cs tables ps rs ns n b s) (sym g) (record {
        constants = h.constants;
        indexed = h.indexed;
        programs = h.programs;
        rules = h.rules;
        macros =
            map-append (λ (e : List ℕ × MacroDecl). e.0) ms ((key, d) ∷ [])
            ∙ (λ i. h.macros i ++ k i ∷ [])
            ∙ sym (map-append (λ (e : List ℕ × MacroDecl). e.1.name) ms ((key, d) ∷ []));
        numeral = h.numeral;
        binary = h.binary;
        string = h.string;
      })

  pub kept_macros : (ns : List (List ℕ × MacroDecl)) → map (λ (e : List ℕ × MacroDecl). e.0) ns ≡ map (λ (e : List ℕ × MacroDecl). e.1.name) ns → IsKept es cs tables ps rs ns n b s
  kept_macros ns g = record { constants = h.constants; indexed = h.indexed; programs = h.programs; rules = h.rules; macros = g; numeral = h.numeral; binary = h.binary; string = h.string }

  no_literal : (l : LiteralClass) → sig.literal_type (map (read_entry []) es) l ≡ None → first_literal l es ≡ None
  no_literal l e = none_of_map (tree_at []) (first_literal l es) (literal_read [] l es ∙ e)

  pub kept_numeral : (t : ℕ) (fs : List Declared) → sig.literal_type (map (read_entry []) es) class.Numeral ≡ None → fs ≡ es ++ declared.Literal class.Numeral t ∷ [] → IsKept fs cs tables ps rs ms (Some t) b s
  kept_numeral t fs e g =
      let x : Declared = declared.Literal class.Numeral t in
      subst (λ fs. IsKept fs cs tables ps rs ms (Some t) b s) (sym g) (record {
        constants = push_other no_name es (map (λ p. ([], p)) cs) x h.constants refl;
        indexed = indexed_still es tables x (refl, refl, refl) h.indexed;
        programs = push_other program_name es ps x h.programs refl;
        rules = push_other rule_name es rs x h.rules refl;
        macros = h.macros;
        numeral = sym (literal_own class.Numeral es x t (no_literal class.Numeral e) refl);
        binary = h.binary ∙ sym (literal_other class.Binary es x refl);
        string = h.string ∙ sym (literal_other class.String es x refl);
      })

  pub kept_binary : (t : ℕ) (fs : List Declared) → sig.literal_type (map (read_entry []) es) class.Binary ≡ None → fs ≡ es ++ declared.Literal class.Binary t ∷ [] → IsKept fs cs tables ps rs ms n (Some t) s
  kept_binary t fs e g =
      let x : Declared = declared.Literal class.Binary t in
      subst (λ fs. IsKept fs cs tables ps rs ms n (Some t) s) (sym g) (record {
        constants = push_other no_name es (map (λ p. ([], p)) cs) x h.constants refl;
        indexed = indexed_still es tables x (refl, refl, refl) h.indexed;
        programs = push_other program_name es ps x h.programs refl;
        rules = push_other rule_name es rs x h.rules refl;
        macros = h.macros;
        numeral = h.numeral ∙ sym (literal_other class.Numeral es x refl);
        binary = sym (literal_own class.Binary es x t (no_literal class.Binary e) refl);
        string = h.string ∙ sym (literal_other class.String es x refl);
      })

  pub kept_string : (t : ℕ) (fs : List Declared) → sig.literal_type (map (read_entry []) es) class.String ≡ None → fs ≡ es ++ declared.Literal class.String t ∷ [] → IsKept fs cs tables ps rs ms n b (Some t)
  kept_string t fs e g =
      let x : Declared = declared.Literal class.String t in
      subst (λ fs. IsKept fs cs tables ps rs ms n b (Some t)) (sym g) (record {
        constants = push_other no_name es (map (λ p. ([], p)) cs) x h.constants refl;
        indexed = indexed_still es tables x (refl, refl, refl) h.indexed;
        programs = push_other program_name es ps x h.programs refl;
        rules = push_other rule_name es rs x h.rules refl;
        macros = h.macros;
        numeral = h.numeral ∙ sym (literal_other class.Numeral es x refl);
        binary = h.binary ∙ sym (literal_other class.Binary es x refl);
        string = sym (literal_own class.String es x t (no_literal class.String e) refl);
      })

-- where nothing is kept
pub kept_none : (es : List Declared) (cs : List ℕ) (fs : List (List ℕ × ℕ)) (o : Overloads) (ps rs : List (List ℕ × ℕ)) (ms : List (List ℕ × MacroDecl)) (n b s : Option ℕ)
    → es ≡ [] → cs ≡ [] → fs ≡ [] → tables_of [] o ≡ no_tables → ps ≡ [] → rs ≡ [] → ms ≡ [] → n ≡ None → b ≡ None → s ≡ None → IsKept es cs (tables_of fs o) ps rs ms n b s
kept_none es cs fs o ps rs ms n b s e c f t p r m i j k =
    let none : IsKept [] [] no_tables [] [] [] None None None = record { constants = refl; indexed = indexed_none; programs = refl; rules = refl; macros = refl; numeral = refl; binary = refl; string = refl } in
    let tables : tables_of fs o ≡ no_tables = ap (λ (fs : List (List ℕ × ℕ)). tables_of fs o) f ∙ t in
    transport (λ x. IsKept (sym e x) (sym c x) (sym tables x) (sym p x) (sym r x) (sym m x) (sym i x) (sym j x) (sym k x)) none
