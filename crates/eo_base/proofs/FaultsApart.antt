-- Each fault has its own number and its own text: it is found by either.
use Rattle.std.proofs.Common.{◌≡◌, refl, ap, sym, ◌∙◌, ℕ, List, [], ◌∷◌, bytes_eq, get_or, if◌then◌else◌}
use Rattle.eo_base.specs.declared.FaultName.{FaultName}
use Rattle.eo_base.specs.declared.FaultName.TheVariants.{BadByte, Unclosed, ExtraClose, BadLiteral, TokenLong, CommandLong, Nesting, Width, BadPath, UnknownCommand, BadCommand, Redeclared, UnknownSymbol, BadArity, IllTyped, Stuck, NumberRange, TermHeight, EvalDepth, EvalCalls, UnboundParam, BadPattern, UnknownRule, UnknownPremise, PremiseMismatch, ConclusionDiffers, NotBool, NotAsserted, NoReference, SecondReference, InScope, NoScope, ScopeDepth, IncludeDepth, FileAbsent, WrongKind, FileLong, ProofDeclares, Parameters, ScopeOpen, NoRefutation, Unprintable, ProofShared, BadCertificate, NoFalse, NotSemantic}
use Rattle.eo_base.specs.Faults.{number}
use Rattle.eo_base.specs.FaultTexts.{text}
use Rattle.eo_base.specs.FaultLaws.{HaveOwnNumbers, HaveOwnTexts}

abbrev all : List FaultName
all = BadByte ∷ Unclosed ∷ ExtraClose ∷ BadLiteral ∷ TokenLong ∷ CommandLong ∷ Nesting ∷ Width ∷ BadPath ∷ UnknownCommand ∷ BadCommand ∷ Redeclared ∷ UnknownSymbol ∷ BadArity ∷ IllTyped ∷ Stuck ∷ NumberRange ∷ TermHeight ∷ EvalDepth ∷ EvalCalls ∷ UnboundParam ∷ BadPattern ∷ UnknownRule ∷ UnknownPremise ∷ PremiseMismatch ∷ ConclusionDiffers ∷ NotBool ∷ NotAsserted ∷ NoReference ∷ SecondReference ∷ InScope ∷ NoScope ∷ ScopeDepth ∷ IncludeDepth ∷ FileAbsent ∷ WrongKind ∷ FileLong ∷ ProofDeclares ∷ Parameters ∷ ScopeOpen ∷ NoRefutation ∷ Unprintable ∷ ProofShared ∷ BadCertificate ∷ NoFalse ∷ NotSemantic ∷ []

abbrev numbered : ℕ → FaultName
numbered n = get_or (BadByte ∷ all) n BadByte

unfoldable named : List FaultName → List ℕ → FaultName
unfolding text
named [] t = BadByte
named (m ∷ ms) t = if bytes_eq (text m) t then m else named ms t

numbered-number : (m : FaultName) → numbered (number m) ≡ m
unfolding number
numbered-number BadByte = refl
numbered-number m = refl

named-text : (m : FaultName) → named all (text m) ≡ m
unfolding text named
named-text BadByte = refl
named-text m = refl

pub own_numbers : HaveOwnNumbers
own_numbers m n e = sym (numbered-number m) ∙ ap numbered e ∙ numbered-number n

pub own_texts : HaveOwnTexts
own_texts m n e = sym (named-text m) ∙ ap (named all) e ∙ named-text n
