-- What a command that declares a program declares, by its parts.
use Rattle.std.proofs.Common.{◌≡◌, ℕ, ◌<◌, ◌≤◌, ◌==◌, true, false, List, [], ◌∷◌, ◌++◌, map, All, length, refl, ap, sym, ◌∙◌, arith, rules, tests}
use Rattle.std.specs.Prelude.{Ok, Err}
use Rattle.std.proofs.lemmas.List.{append-nil}
use Rattle.std.proofs.lemmas.List.Elements.{All-head, All-tail, All-weaker}
use Rattle.eo_base.proofs.ChecksLemmas.{behind, behind-first}
use Rattle.eo_base.specs.declared.FaultName.{FaultName}
use Rattle.eo_base.specs.declared.FaultName.TheVariants.{Redeclared, BadArity, Parameters}
use Rattle.eo_base.specs.Checks.{Checked, ◌>>=◌}
use Rattle.eo_base.specs.Limits.{parameters_limit}
use Rattle.eo_shape.specs.Shapes.{CaseShape, ProgramShape}
use Rattle.eo_sig.specs.declared.records.Case as code_case
use Rattle.eo_sig.specs.Reading.{read_case, CaseBelow}
use Rattle.eo_sig.specs.Signature.{Case, Program}
use Rattle.eo_term.specs.Terms.{tree_at}
use Rattle.eo_term.specs.Tree.{Tree}
use Rattle.eo_declare.specs.Declarations.{Bound, bind, unbound, is_free_name, meanings, declared_case, declared_cases, program, with_cases, program_over, declared_program}
use Rattle.eo_elab.specs.Meaning.{meaning}
use Rattle.eo_names.specs.Contexts.{Context, Local}
use Rattle.eo_declare.proofs.CheckedLemmas.{then-ok, then-err, require-yes, require-no}
use Rattle.eo_declare.proofs.ConstantLemmas.{trees-grown, ids-more}
use Rattle.eo_declare.proofs.DeclaringLemmas.{few-yes, few-no}

-- ---- a case

pub same-count : (m n : ℕ) → m ≡ n → (m == n) ≡ true
same-count m n e = search (rules, tests)

pub other-count : (m n : ℕ) → (m ≡ n → ⊥) → (m == n) ≡ false
other-count m n e = search (rules, tests)

module _ (c : Context) (ls : List Local) (n : ℕ) (s : CaseShape) where
  abbrev with_patterns : List Tree → Checked Case
  with_patterns ps = meaning c ls s.body >>= λ t. Ok (record { patterns = ps; body = t })

  pub case-arity : (length s.patterns == n) ≡ false → declared_case c ls n s ≡ Err BadArity
  unfolding declared_case
  case-arity e = require-no _ BadArity _ e

  module _ (e : (length s.patterns == n) ≡ true) where
    case-parts : declared_case c ls n s ≡ (meanings c ls s.patterns >>= with_patterns)
    unfolding declared_case
    case-parts = require-yes _ BadArity _ e

    pub case-no-patterns : (f : FaultName) → meanings c ls s.patterns ≡ Err f → declared_case c ls n s ≡ Err f
    case-no-patterns f h = case-parts ∙ then-err with_patterns (meanings c ls s.patterns) f h

    module _ (ps : List Tree) (h : meanings c ls s.patterns ≡ Ok ps) where
      pub case-no-body : (f : FaultName) → meaning c ls s.body ≡ Err f → declared_case c ls n s ≡ Err f
      case-no-body f k = case-parts ∙ then-ok with_patterns (meanings c ls s.patterns) ps h ∙ then-err (λ t. Ok (record { patterns = ps; body = t })) (meaning c ls s.body) f k

      pub case-whole : (t : Tree) → meaning c ls s.body ≡ Ok t → declared_case c ls n s ≡ Ok (record { patterns = ps; body = t })
      case-whole t k = case-parts ∙ then-ok with_patterns (meanings c ls s.patterns) ps h ∙ then-ok (λ t. Ok (record { patterns = ps; body = t })) (meaning c ls s.body) t k

-- ---- cases in order

module _ (c : Context) (locals : List Local) (n : ℕ) (before : List Case) (s : CaseShape) (rest : List CaseShape) where
  abbrev first_case : Checked Case → Checked (List Case)
  first_case m = behind before (m >>= λ k. declared_cases c locals n rest >>= λ ks. Ok (k ∷ ks))

  pub cases-next : (k : Case) → declared_case c locals n s ≡ Ok k → behind (before ++ k ∷ []) (declared_cases c locals n rest) ≡ behind before (declared_cases c locals n (s ∷ rest))
  unfolding ◌>>=◌ declared_cases
  cases-next k e = behind-first before k (declared_cases c locals n rest) ∙ ap first_case (sym e)

  pub cases-refused : (fault : FaultName) → declared_case c locals n s ≡ Err fault → behind before (declared_cases c locals n (s ∷ rest)) ≡ Err fault
  unfolding ◌>>=◌ declared_cases
  cases-refused fault e = ap first_case e

pub cases-end : (c : Context) (locals : List Local) (n : ℕ) (before : List Case) → behind before (declared_cases c locals n []) ≡ Ok before
unfolding ◌>>=◌ declared_cases
cases-end c locals n before = ap Ok (append-nil before)

-- cases over a table that grows
module _ (n m : ℕ) (ts us : List Tree) (more : n ≤ m) (same : (i : ℕ) → i < n → tree_at us i ≡ tree_at ts i) where
  case-grown : (k : code_case.Case) → CaseBelow n k → read_case us k ≡ read_case ts k
  case-grown k h = let ps = trees-grown n ts us k.patterns same h.patterns in λ i. record { patterns = ps i; body = same k.body h.body i }

  pub cases-grown : (ks : List code_case.Case) → All (CaseBelow n) ks → map (read_case us) ks ≡ map (read_case ts) ks
  cases-grown [] h = refl
  cases-grown (k ∷ ks) h = λ i. case-grown k (All-head (CaseBelow n) k ks h) i ∷ cases-grown ks (All-tail (CaseBelow n) k ks h) i

  case-more : (k : code_case.Case) → CaseBelow n k → CaseBelow m k
  case-more k h = record { patterns = ids-more n m k.patterns more h.patterns; body = omega (arith, more, h.body) }

  pub cases-more : (ks : List code_case.Case) → All (CaseBelow n) ks → All (CaseBelow m) ks
  cases-more ks h = All-weaker (CaseBelow n) (CaseBelow m) case-more ks h

-- ---- the whole

module _ (c : Context) (s : ProgramShape) where
  abbrev over : Bound → Checked Program
  over b = program_over c b s

  module _ (free : is_free_name c s.name ≡ true) where
    pub program-many : parameters_limit < length s.parameters → declared_program c s ≡ Err Parameters
    unfolding declared_program
    program-many h = require-yes _ Redeclared _ free ∙ require-no _ Parameters _ (few-no (length s.parameters) h)

    module _ (h : length s.parameters ≤ parameters_limit) where
      pub program-inputs : parameters_limit < length s.inputs → declared_program c s ≡ Err Parameters
      unfolding declared_program
      program-inputs k = require-yes _ Redeclared _ free ∙ require-yes _ Parameters _ (few-yes (length s.parameters) h) ∙ require-no _ Parameters _ (few-no (length s.inputs) k)

      module _ (k : length s.inputs ≤ parameters_limit) where
        program-parts : declared_program c s ≡ (bind c unbound s.parameters >>= over)
        unfolding declared_program
        program-parts = require-yes _ Redeclared _ free ∙ require-yes _ Parameters _ (few-yes (length s.parameters) h) ∙ require-yes _ Parameters _ (few-yes (length s.inputs) k)

        pub program-unbound : (f : FaultName) → bind c unbound s.parameters ≡ Err f → declared_program c s ≡ Err f
        program-unbound f e = program-parts ∙ then-err over (bind c unbound s.parameters) f e

        pub program-bound : (b : Bound) → bind c unbound s.parameters ≡ Ok b → declared_program c s ≡ program_over c b s
        program-bound b e = program-parts ∙ then-ok over (bind c unbound s.parameters) b e

-- over parameters
module _ (c : Context) (b : Bound) (s : ProgramShape) where
  abbrev after_inputs : List Tree → Checked Program
  after_inputs ts = meaning c b.locals s.output >>= λ t. with_cases c b.locals (program s.name b.parameters ts t []) s.cases

  pub over-no-inputs : (f : FaultName) → meanings c b.locals s.inputs ≡ Err f → program_over c b s ≡ Err f
  over-no-inputs f e = then-err after_inputs (meanings c b.locals s.inputs) f e

  module _ (ts : List Tree) (e : meanings c b.locals s.inputs ≡ Ok ts) where
    pub over-no-output : (f : FaultName) → meaning c b.locals s.output ≡ Err f → program_over c b s ≡ Err f
    over-no-output f h = then-ok after_inputs (meanings c b.locals s.inputs) ts e ∙ then-err (λ t. with_cases c b.locals (program s.name b.parameters ts t []) s.cases) (meaning c b.locals s.output) f h

    pub over-cases : (t : Tree) → meaning c b.locals s.output ≡ Ok t → program_over c b s ≡ with_cases c b.locals (program s.name b.parameters ts t []) s.cases
    over-cases t h = then-ok after_inputs (meanings c b.locals s.inputs) ts e ∙ then-ok (λ t. with_cases c b.locals (program s.name b.parameters ts t []) s.cases) (meaning c b.locals s.output) t h
