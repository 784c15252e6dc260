-- A code for how many constants a name may have. No definition rests on it.
use Rattle.std.specs.Prelude.{◌≡◌, ℕ, List, [], ◌∷◌, Option, Some, None, slice_get, unwrap_or, refl}
use Rattle.std.specs.Coded.{Coded, code_by, coded_ℕ, coded_option}
use Rattle.eo_base.specs.declared.FaultName.{FaultName}
use Rattle.eo_base.specs.declared.FaultName.TheVariants.{BadByte, Unclosed, ExtraClose, BadLiteral, TokenLong, CommandLong, Nesting, Width, BadPath, UnknownCommand, BadCommand, Redeclared, UnknownSymbol, BadArity, IllTyped, Stuck, NumberRange, TermHeight, EvalDepth, EvalCalls, UnboundParam, BadPattern, UnknownRule, UnknownPremise, PremiseMismatch, ConclusionDiffers, NotBool, NotAsserted, NoReference, SecondReference, InScope, NoScope, ScopeDepth, IncludeDepth, FileAbsent, WrongKind, FileLong, ProofDeclares, Parameters, ScopeOpen, NoRefutation, Unprintable, ProofShared, BadCertificate, NoFalse, NotSemantic}
use Rattle.eo_names.specs.Contexts.{Naming, Several, One}

abbrev faults : List FaultName
faults = BadByte ∷ Unclosed ∷ ExtraClose ∷ BadLiteral ∷ TokenLong ∷ CommandLong ∷ Nesting ∷ Width ∷ BadPath ∷ UnknownCommand ∷ BadCommand ∷ Redeclared ∷ UnknownSymbol ∷ BadArity ∷ IllTyped ∷ Stuck ∷ NumberRange ∷ TermHeight ∷ EvalDepth ∷ EvalCalls ∷ UnboundParam ∷ BadPattern ∷ UnknownRule ∷ UnknownPremise ∷ PremiseMismatch ∷ ConclusionDiffers ∷ NotBool ∷ NotAsserted ∷ NoReference ∷ SecondReference ∷ InScope ∷ NoScope ∷ ScopeDepth ∷ IncludeDepth ∷ FileAbsent ∷ WrongKind ∷ FileLong ∷ ProofDeclares ∷ Parameters ∷ ScopeOpen ∷ NoRefutation ∷ Unprintable ∷ ProofShared ∷ BadCertificate ∷ NoFalse ∷ NotSemantic ∷ []

abbrev place : FaultName → ℕ
place BadByte = 0
place Unclosed = 1
place ExtraClose = 2
place BadLiteral = 3
place TokenLong = 4
place CommandLong = 5
place Nesting = 6
place Width = 7
place BadPath = 8
place UnknownCommand = 9
place BadCommand = 10
place Redeclared = 11
place UnknownSymbol = 12
place BadArity = 13
place IllTyped = 14
place Stuck = 15
place NumberRange = 16
place TermHeight = 17
place EvalDepth = 18
place EvalCalls = 19
place UnboundParam = 20
place BadPattern = 21
place UnknownRule = 22
place UnknownPremise = 23
place PremiseMismatch = 24
place ConclusionDiffers = 25
place NotBool = 26
place NotAsserted = 27
place NoReference = 28
place SecondReference = 29
place InScope = 30
place NoScope = 31
place ScopeDepth = 32
place IncludeDepth = 33
place FileAbsent = 34
place WrongKind = 35
place FileLong = 36
place ProofDeclares = 37
place Parameters = 38
place ScopeOpen = 39
place NoRefutation = 40
place Unprintable = 41
place ProofShared = 42
place BadCertificate = 43
place NoFalse = 44
place NotSemantic = 45

abbrev fault_at : ℕ → FaultName
fault_at n = unwrap_or (slice_get faults n) BadByte

pub fault_back : (f : FaultName) → fault_at (place f) ≡ f
fault_back BadByte = refl
fault_back Unclosed = refl
fault_back ExtraClose = refl
fault_back BadLiteral = refl
fault_back TokenLong = refl
fault_back CommandLong = refl
fault_back Nesting = refl
fault_back Width = refl
fault_back BadPath = refl
fault_back UnknownCommand = refl
fault_back BadCommand = refl
fault_back Redeclared = refl
fault_back UnknownSymbol = refl
fault_back BadArity = refl
fault_back IllTyped = refl
fault_back Stuck = refl
fault_back NumberRange = refl
fault_back TermHeight = refl
fault_back EvalDepth = refl
fault_back EvalCalls = refl
fault_back UnboundParam = refl
fault_back BadPattern = refl
fault_back UnknownRule = refl
fault_back UnknownPremise = refl
fault_back PremiseMismatch = refl
fault_back ConclusionDiffers = refl
fault_back NotBool = refl
fault_back NotAsserted = refl
fault_back NoReference = refl
fault_back SecondReference = refl
fault_back InScope = refl
fault_back NoScope = refl
fault_back ScopeDepth = refl
fault_back IncludeDepth = refl
fault_back FileAbsent = refl
fault_back WrongKind = refl
fault_back FileLong = refl
fault_back ProofDeclares = refl
fault_back Parameters = refl
fault_back ScopeOpen = refl
fault_back NoRefutation = refl
fault_back Unprintable = refl
fault_back ProofShared = refl
fault_back BadCertificate = refl
fault_back NoFalse = refl
fault_back NotSemantic = refl

abbrev fault_code : Coded FaultName
fault_code = code_by ℕ coded_ℕ place fault_at fault_back

abbrev refusal_of : Naming → Option FaultName
refusal_of Several = None
refusal_of (One f) = Some f

abbrev naming_of : Option FaultName → Naming
naming_of None = Several
naming_of (Some f) = One f

pub naming_back : (n : Naming) → naming_of (refusal_of n) ≡ n
naming_back Several = refl
naming_back (One f) = refl

abbrev pub naming_code : Coded Naming
naming_code = code_by (Option FaultName) (coded_option fault_code) refusal_of naming_of naming_back
