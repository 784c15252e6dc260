-- The operators of the language (Ethos manual, computational operators): one table, from which their names, numbers of arguments and the test of declared types come.
use Rattle.std.specs.Prelude.{ℕ, Bool, true, false, List, [], ◌∷◌, Option, find, bytes_eq, codes}
use Rattle.eo_term.specs.declared.OpCode.{OpCode}
use Rattle.eo_term.specs.declared.OpName.{OpName}

-- what an operator is on
pub data Group : Type 0 where
  -- terms of any kind
  OnTerms : Group
  -- literals and truth values
  OnLiterals : Group
  -- lists of arguments
  OnLists : Group

pub record Operator : Type 0 where
  pub word : List ℕ
  -- how many arguments it takes
  pub arity : ℕ
  pub group : Group
  -- whether a declared type may hold it
  pub in_types : Bool

abbrev pub row : List ℕ → ℕ → Group → Bool → Operator
row word arity group in_types = record { word = word; arity = arity; group = group; in_types = in_types }

abbrev pub operator : OpName → Operator
operator OpName.Ite = row (codes "eo::ite") 3 OnTerms true
operator OpName.Requires = row (codes "eo::requires") 3 OnTerms true
operator OpName.IsEq = row (codes "eo::is_eq") 2 OnTerms true
operator OpName.IsOk = row (codes "eo::is_ok") 1 OnTerms false
operator OpName.Typeof = row (codes "eo::typeof") 1 OnTerms false
operator OpName.Var = row (codes "eo::var") 2 OnTerms false
operator OpName.Nameof = row (codes "eo::nameof") 1 OnTerms false
operator OpName.IsZ = row (codes "eo::is_z") 1 OnLiterals true
operator OpName.IsBin = row (codes "eo::is_bin") 1 OnLiterals true
operator OpName.IsStr = row (codes "eo::is_str") 1 OnLiterals true
operator OpName.IsBool = row (codes "eo::is_bool") 1 OnLiterals true
operator OpName.IsVar = row (codes "eo::is_var") 1 OnLiterals true
operator OpName.And = row (codes "eo::and") 2 OnLiterals true
operator OpName.Or = row (codes "eo::or") 2 OnLiterals true
operator OpName.Xor = row (codes "eo::xor") 2 OnLiterals true
operator OpName.Not = row (codes "eo::not") 1 OnLiterals true
operator OpName.Add = row (codes "eo::add") 2 OnLiterals true
operator OpName.Mul = row (codes "eo::mul") 2 OnLiterals true
operator OpName.Neg = row (codes "eo::neg") 1 OnLiterals true
operator OpName.Zdiv = row (codes "eo::zdiv") 2 OnLiterals true
operator OpName.Zmod = row (codes "eo::zmod") 2 OnLiterals true
operator OpName.IsNeg = row (codes "eo::is_neg") 1 OnLiterals true
operator OpName.Gt = row (codes "eo::gt") 2 OnLiterals true
operator OpName.Len = row (codes "eo::len") 1 OnLiterals true
operator OpName.Concat = row (codes "eo::concat") 2 OnLiterals true
operator OpName.Extract = row (codes "eo::extract") 3 OnLiterals true
operator OpName.Find = row (codes "eo::find") 2 OnLiterals true
operator OpName.ToZ = row (codes "eo::to_z") 1 OnLiterals true
operator OpName.ToBin = row (codes "eo::to_bin") 2 OnLiterals true
operator OpName.ToStr = row (codes "eo::to_str") 1 OnLiterals true
operator OpName.Nil = row (codes "eo::nil") 1 OnLists false
operator OpName.Cons = row (codes "eo::cons") 3 OnLists false
operator OpName.ListLen = row (codes "eo::list_len") 2 OnLists false
operator OpName.ListConcat = row (codes "eo::list_concat") 3 OnLists false
operator OpName.ListNth = row (codes "eo::list_nth") 3 OnLists false
operator OpName.ListFind = row (codes "eo::list_find") 3 OnLists false
operator OpName.ListRev = row (codes "eo::list_rev") 2 OnLists false
operator OpName.ListErase = row (codes "eo::list_erase") 3 OnLists false
operator OpName.ListSetof = row (codes "eo::list_setof") 2 OnLists false
operator OpName.ListMinclude = row (codes "eo::list_minclude") 3 OnLists false

-- all of them
abbrev pub operators : List OpName
operators =
    OpName.Ite ∷ OpName.Requires ∷ OpName.IsEq ∷ OpName.IsOk ∷ OpName.Typeof ∷ OpName.Var ∷ OpName.Nameof ∷ OpName.IsZ
    ∷ OpName.IsBin ∷ OpName.IsStr ∷ OpName.IsBool ∷ OpName.IsVar ∷ OpName.And ∷ OpName.Or ∷ OpName.Xor ∷ OpName.Not
    ∷ OpName.Add ∷ OpName.Mul ∷ OpName.Neg ∷ OpName.Zdiv ∷ OpName.Zmod ∷ OpName.IsNeg ∷ OpName.Gt ∷ OpName.Len
    ∷ OpName.Concat ∷ OpName.Extract ∷ OpName.Find ∷ OpName.ToZ ∷ OpName.ToBin ∷ OpName.ToStr ∷ OpName.Nil ∷ OpName.Cons
    ∷ OpName.ListLen ∷ OpName.ListConcat ∷ OpName.ListNth ∷ OpName.ListFind ∷ OpName.ListRev ∷ OpName.ListErase ∷ OpName.ListSetof ∷ OpName.ListMinclude ∷ []

abbrev pub arity : OpName → ℕ
arity o = (operator o).arity

-- the operator of a name
abbrev pub is_named : List ℕ → OpName → Bool
is_named word o = bytes_eq word (operator o).word

unfoldable pub operator_named : List ℕ → Option OpName
operator_named word = find (is_named word) operators

-- No declared type may hold a program.
abbrev pub may_type_use : OpCode → Bool
may_type_use (OpCode.Builtin o) = (operator o).in_types
may_type_use (OpCode.Prog p) = false
