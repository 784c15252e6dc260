-- How a signature holds its declarations: tables of names beside the list.
use Rattle.std.specs.Prelude.{◌≡◌, ℕ, List, [], map, Option, Some, None, option_map, slice_get, filter_map, if◌then◌else◌}
use Rattle.eo_lit.specs.declared.LiteralClass.{LiteralClass}
use Rattle.eo_lit.specs.declared.LiteralClass.TheVariants as class
use Rattle.eo_sig.specs.declared.records.ConstDecl.{ConstDecl}
use Rattle.eo_sig.specs.declared.records.Counts.{Counts}
use Rattle.eo_sig.specs.declared.records.MacroDecl.{MacroDecl}
use Rattle.eo_sig.specs.declared.records.ProgramDecl.{ProgramDecl}
use Rattle.eo_sig.specs.declared.records.RuleDecl.{RuleDecl}
use Rattle.eo_sig.specs.declared.records.Declared.{Declared}
use Rattle.eo_sig.specs.declared.records.Declared.TheVariants as declared
use Rattle.eo_sig.specs.Signature.{is_same_class}
use Rattle.eo_sig.specs.Indexed.{Tables, IsIndexed}
use Rattle.eo_sig.specs.Reading.{program_decl_of, rule_decl_of, read_entry}

-- a constant with the numbers of arguments that it takes
abbrev pub counted_decl_of : Declared → Option (ConstDecl × Counts)
counted_decl_of (declared.Const d n) = Some (d, n)
counted_decl_of (declared.Program d) = None
counted_decl_of (declared.Rule d) = None
counted_decl_of (declared.Literal l t) = None

-- the name of a declaration of one kind; constants are kept by number alone
abbrev pub no_name : Declared → Option (List ℕ)
no_name x = option_map (λ (q : ConstDecl × Counts). []) (counted_decl_of x)

abbrev pub program_name : Declared → Option (List ℕ)
program_name x = option_map (λ (d : ProgramDecl). d.name) (program_decl_of x)

abbrev pub rule_name : Declared → Option (List ℕ)
rule_name x = option_map (λ (d : RuleDecl). d.name) (rule_decl_of x)

-- a declaration of the kind with its name
abbrev pub tagged : (Declared → Option (List ℕ)) → Declared → Option (List ℕ × Option Declared)
tagged pick d = option_map (λ w. (w, Some d)) (pick d)

-- The table has the names of the declarations of one kind, in order, each with the place of its declaration.
abbrev pub IsTable : (Declared → Option (List ℕ)) → List Declared → List (List ℕ × ℕ) → Type 0
IsTable pick es names = map (λ (e : List ℕ × ℕ). (e.0, slice_get es e.1)) names ≡ filter_map (tagged pick) es

-- The list has the places of the constants, in order.
abbrev pub IsPlaces : List Declared → List ℕ → Type 0
IsPlaces es places = IsTable no_name es (map (λ p. ([], p)) places)

-- the first type of a class of literals
abbrev pub literal_id : LiteralClass → Declared → Option ℕ
literal_id l (declared.Const d n) = None
literal_id l (declared.Program d) = None
literal_id l (declared.Rule d) = None
literal_id l (declared.Literal k t) = if is_same_class l k then Some t else None

abbrev pub first_literal : LiteralClass → List Declared → Option ℕ
first_literal l es = slice_get (filter_map (literal_id l) es) 0

pub record IsKept (es : List Declared) (cs : List ℕ) (x : Tables) (ps rs : List (List ℕ × ℕ)) (ms : List (List ℕ × MacroDecl)) (n b s : Option ℕ) : Type 0 where
  pub constants : IsPlaces es cs
  pub indexed : IsIndexed (map (read_entry []) es) x
  pub programs : IsTable program_name es ps
  pub rules : IsTable rule_name es rs
  pub macros : map (λ (e : List ℕ × MacroDecl). e.0) ms ≡ map (λ (e : List ℕ × MacroDecl). e.1.name) ms
  pub numeral : n ≡ first_literal class.Numeral es
  pub binary : b ≡ first_literal class.Binary es
  pub string : s ≡ first_literal class.String es
