-- The programs of the suite.
use Rattle.std.specs.Prelude.{true, false, codes, [], ◌∷◌}
use Rattle.eo_term.specs.declared.OpName.{OpName}
use Rattle.eo_term.specs.Tree.{Con, Par, App, type_tree, bool_tree, truth}
use Rattle.eo_sig.specs.Signature.{Program}
use Rattle.eo_sem.specs.Building.{list, operator, call, parameter, item_list, formula, items, case}
use Rattle.eo_sem.specs.Connectives.{neg, conj, disj, equal}

abbrev pub program_cl : Program
program_cl = record {
  name = codes "$cl";
  parameters = (formula (codes "x") ∷ items (codes "xs") ∷ []);
  inputs = (bool_tree ∷ []);
  output = bool_tree;
  cases =
      case (disj (Par 0) (Par 1) ∷ []) (disj (Par 0) (Par 1))
      ∷ case (truth false ∷ []) (truth false)
      ∷ case (Par 0 ∷ []) (disj (Par 0) (truth false))
      ∷ [];
}

abbrev pub program_uncl : Program
program_uncl = record {
  name = codes "$uncl";
  parameters = (formula (codes "x") ∷ []);
  inputs = (bool_tree ∷ []);
  output = bool_tree;
  cases =
      case (disj (Par 0) (truth false) ∷ []) (Par 0)
      ∷ case (Par 0 ∷ []) (Par 0)
      ∷ [];
}

abbrev pub program_nots : Program
program_nots = record {
  name = codes "$nots";
  parameters = (formula (codes "x") ∷ items (codes "xs") ∷ []);
  inputs = (bool_tree ∷ []);
  output = bool_tree;
  cases =
      case (truth true ∷ []) (truth false)
      ∷ case (conj (Par 0) (Par 1) ∷ []) (operator OpName.Cons (Con 9 ∷ neg (Par 0) ∷ (call 2 (Par 1 ∷ [])) ∷ []))
      ∷ [];
}

abbrev pub program_sy : Program
program_sy = record {
  name = codes "$sy";
  parameters = (parameter (codes "T") type_tree ∷ parameter (codes "t") (Par 0) ∷ parameter (codes "s") (Par 0) ∷ []);
  inputs = (bool_tree ∷ []);
  output = bool_tree;
  cases =
      case (equal (Par 1) (Par 2) ∷ []) (equal (Par 2) (Par 1))
      ∷ case (neg (equal (Par 1) (Par 2)) ∷ []) (neg (equal (Par 2) (Par 1)))
      ∷ [];
}

abbrev pub program_tr : Program
program_tr = record {
  name = codes "$tr";
  parameters = (parameter (codes "T") type_tree ∷ parameter (codes "t") (Par 0) ∷ parameter (codes "s") (Par 0) ∷ parameter (codes "r") (Par 0) ∷ items (codes "Es") ∷ []);
  inputs = (Par 0 ∷ Par 0 ∷ bool_tree ∷ []);
  output = bool_tree;
  cases =
      case (Par 1 ∷ Par 2 ∷ truth true ∷ []) (equal (Par 1) (Par 2))
      ∷ case (Par 1 ∷ Par 2 ∷ conj (equal (Par 2) (Par 3)) (Par 4) ∷ []) (call 4 (Par 1 ∷ Par 3 ∷ Par 4 ∷ []))
      ∷ [];
}

abbrev pub program_rl : Program
program_rl = record {
  name = codes "$rl";
  parameters = (formula (codes "C") ∷ formula (codes "D") ∷ formula (codes "L") ∷ []);
  inputs = (bool_tree ∷ bool_tree ∷ bool_tree ∷ bool_tree ∷ []);
  output = bool_tree;
  cases =
      case (Par 0 ∷ Par 1 ∷ truth true ∷ Par 2 ∷ []) (operator OpName.ListConcat (Con 9 ∷ (operator OpName.ListErase (Con 9 ∷ Par 0 ∷ Par 2 ∷ [])) ∷ (operator OpName.ListErase (Con 9 ∷ Par 1 ∷ neg (Par 2) ∷ [])) ∷ []))
      ∷ case (Par 0 ∷ Par 1 ∷ truth false ∷ Par 2 ∷ []) (operator OpName.ListConcat (Con 9 ∷ (operator OpName.ListErase (Con 9 ∷ Par 0 ∷ neg (Par 2) ∷ [])) ∷ (operator OpName.ListErase (Con 9 ∷ Par 1 ∷ Par 2 ∷ [])) ∷ []))
      ∷ [];
}

abbrev pub program_chain : Program
program_chain = record {
  name = codes "$chain";
  parameters = (formula (codes "C") ∷ formula (codes "D") ∷ items (codes "Ds") ∷ formula (codes "p") ∷ item_list (codes "ps") list ∷ formula (codes "L") ∷ item_list (codes "Ls") list ∷ []);
  inputs = (bool_tree ∷ bool_tree ∷ list ∷ list ∷ []);
  output = bool_tree;
  cases =
      case (Par 0 ∷ truth true ∷ Con 17 ∷ Con 17 ∷ []) (Par 0)
      ∷ case (Par 0 ∷ conj (Par 1) (Par 2) ∷ App (App (Con 18) (Par 3)) (Par 4) ∷ App (App (Con 18) (Par 5)) (Par 6) ∷ []) (call 6 ((call 5 (Par 0 ∷ (call 0 (Par 1 ∷ [])) ∷ Par 3 ∷ Par 5 ∷ [])) ∷ Par 2 ∷ Par 4 ∷ Par 6 ∷ []))
      ∷ [];
}
