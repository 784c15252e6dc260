-- The lines of a certificate. A number in a line names what an earlier line states: a term, a context, a derivation, or a line of the block of evaluation that is begun.
use Rattle.std.specs.Prelude.{ℕ, ℤ, List, Option}

-- a term by its parts
pub data TermLine : Type 0 where
  OfConstant : (constant : ℕ) → TermLine
  OfNumber : (value : ℤ) → TermLine
  OfBits : (width value : ℕ) → TermLine
  OfString : (characters : List ℕ) → TermLine
  OfParameter : (parameter : ℕ) → TermLine
  OfVariable : (name type : ℕ) → TermLine
  OfApplication : (function argument : ℕ) → TermLine
  OfArrow : (from to : ℕ) → TermLine
  OfBoundArrow : (parameter type to : ℕ) → TermLine
  OfOperator : (name : List ℕ) (arguments : List ℕ) → TermLine
  OfCall : (program : ℕ) (arguments : List ℕ) → TermLine

-- an evaluation: of a term, to a term or, where there is none, stuck; its depth, and the lines of the parts that it evaluates
pub record EvaluationLine : Type 0 where
  pub term : ℕ
  pub outcome : Option ℕ
  pub depth : ℕ
  pub listed : List ℕ

-- a parameter's number, and the term in its place
abbrev pub Pairs : Type 0
Pairs = List (ℕ × ℕ)

-- how a call goes on: the case that is taken, if any, the terms of its parameters, and the line of its body, unless the body is a value
pub record CallLine : Type 0 where
  pub taken : Option ℕ
  pub pairs : Pairs
  pub body : Option ℕ

-- a use of a rule in a context, and what it concludes
pub record StepLine : Type 0 where
  pub context : ℕ
  pub rule : ℕ
  -- the context of what the rule discharges, if it discharges anything
  pub inner : Option ℕ
  pub premises : List ℕ
  pub arguments : List ℕ
  pub pairs : Pairs
  -- the conclusion under the rule's requirements, and its line, unless it is a value
  pub guarded : ℕ
  pub line : Option ℕ
  pub formula : ℕ

pub data Line : Type 0 where
  -- a command of a signature file, and one of the reference file
  Declares : (bytes : List ℕ) → Line
  Refers : (bytes : List ℕ) → Line
  States : (term : TermLine) → Line
  Evaluates : (evaluation : EvaluationLine) → Line
  Calls : (evaluation : EvaluationLine) (call : CallLine) → Line
  -- a context inside a context, with its assumption
  Assumes : (context term : ℕ) → Line
  -- what is asserted or assumed
  Cites : (context term : ℕ) → Line
  Steps : (step : StepLine) → Line
