-- The rules of the suite.
use Rattle.std.specs.Prelude.{false, codes, [], ◌∷◌}
use Rattle.eo_term.specs.declared.OpName.{OpName}
use Rattle.eo_term.specs.Tree.{Con, Par, type_tree, truth}
use Rattle.eo_sig.specs.Signature.{Rule}
use Rattle.eo_sem.specs.Building.{int, list, operator, call, parameter, formula, items, rule, joining, discharging}
use Rattle.eo_sem.specs.Connectives.{neg, conj, disj, impl, xor, equal, ite}

abbrev pub the_refl : Rule
the_refl =
    rule (codes "refl") (parameter (codes "T") type_tree ∷ parameter (codes "t") (Par 0) ∷ []) [] (Par 1 ∷ []) (equal (Par 1) (Par 1))

abbrev pub the_symm : Rule
the_symm = rule (codes "symm") (formula (codes "F") ∷ []) (Par 0 ∷ []) [] (call 3 (Par 0 ∷ []))

abbrev pub the_trans : Rule
the_trans =
    joining (codes "trans") (parameter (codes "T") type_tree ∷ parameter (codes "t") (Par 0) ∷ parameter (codes "s") (Par 0) ∷ items (codes "Es") ∷ []) (conj (equal (Par 1) (Par 2)) (Par 3)) 8 [] (call 4 (Par 1 ∷ Par 2 ∷ Par 3 ∷ []))

abbrev pub the_split : Rule
the_split =
    rule (codes "split") (formula (codes "F") ∷ []) [] (Par 0 ∷ []) (disj (Par 0) (disj (neg (Par 0)) (truth false)))

abbrev pub the_eq_resolve : Rule
the_eq_resolve =
    rule (codes "eq_resolve") (formula (codes "F") ∷ formula (codes "G") ∷ []) (Par 0 ∷ equal (Par 0) (Par 1) ∷ []) [] (Par 1)

abbrev pub the_modus_ponens : Rule
the_modus_ponens =
    rule (codes "modus_ponens") (formula (codes "F") ∷ formula (codes "G") ∷ []) (Par 0 ∷ impl (Par 0) (Par 1) ∷ []) [] (Par 1)

abbrev pub the_not_not_elim : Rule
the_not_not_elim = rule (codes "not_not_elim") (formula (codes "F") ∷ []) (neg (neg (Par 0)) ∷ []) [] (Par 0)

abbrev pub the_contra : Rule
the_contra = rule (codes "contra") (formula (codes "F") ∷ []) (Par 0 ∷ neg (Par 0) ∷ []) [] (truth false)

abbrev pub the_and_elim : Rule
the_and_elim =
    rule (codes "and_elim") (formula (codes "F") ∷ parameter (codes "i") int ∷ []) (Par 0 ∷ []) (Par 1 ∷ []) (operator OpName.ListNth (Con 8 ∷ Par 0 ∷ Par 1 ∷ []))

abbrev pub the_and_intro : Rule
the_and_intro = joining (codes "and_intro") (formula (codes "F") ∷ []) (Par 0) 8 [] (Par 0)

abbrev pub the_not_or_elim : Rule
the_not_or_elim =
    rule (codes "not_or_elim") (formula (codes "F") ∷ parameter (codes "i") int ∷ []) (neg (Par 0) ∷ []) (Par 1 ∷ []) (neg (operator OpName.ListNth (Con 9 ∷ Par 0 ∷ Par 1 ∷ [])))

abbrev pub the_implies_elim : Rule
the_implies_elim =
    rule (codes "implies_elim") (formula (codes "F") ∷ formula (codes "G") ∷ []) (impl (Par 0) (Par 1) ∷ []) [] (disj (neg (Par 0)) (disj (Par 1) (truth false)))

abbrev pub the_not_implies_elim1 : Rule
the_not_implies_elim1 =
    rule (codes "not_implies_elim1") (formula (codes "F") ∷ formula (codes "G") ∷ []) (neg (impl (Par 0) (Par 1)) ∷ []) [] (Par 0)

abbrev pub the_not_implies_elim2 : Rule
the_not_implies_elim2 =
    rule (codes "not_implies_elim2") (formula (codes "F") ∷ formula (codes "G") ∷ []) (neg (impl (Par 0) (Par 1)) ∷ []) [] (neg (Par 1))

abbrev pub the_equiv_elim1 : Rule
the_equiv_elim1 =
    rule (codes "equiv_elim1") (formula (codes "F") ∷ formula (codes "G") ∷ []) (equal (Par 0) (Par 1) ∷ []) [] (disj (neg (Par 0)) (disj (Par 1) (truth false)))

abbrev pub the_equiv_elim2 : Rule
the_equiv_elim2 =
    rule (codes "equiv_elim2") (formula (codes "F") ∷ formula (codes "G") ∷ []) (equal (Par 0) (Par 1) ∷ []) [] (disj (Par 0) (disj (neg (Par 1)) (truth false)))

abbrev pub the_not_equiv_elim1 : Rule
the_not_equiv_elim1 =
    rule (codes "not_equiv_elim1") (formula (codes "F") ∷ formula (codes "G") ∷ []) (neg (equal (Par 0) (Par 1)) ∷ []) [] (disj (Par 0) (disj (Par 1) (truth false)))

abbrev pub the_not_equiv_elim2 : Rule
the_not_equiv_elim2 =
    rule (codes "not_equiv_elim2") (formula (codes "F") ∷ formula (codes "G") ∷ []) (neg (equal (Par 0) (Par 1)) ∷ []) [] (disj (neg (Par 0)) (disj (neg (Par 1)) (truth false)))

abbrev pub the_xor_elim1 : Rule
the_xor_elim1 =
    rule (codes "xor_elim1") (formula (codes "F") ∷ formula (codes "G") ∷ []) (xor (Par 0) (Par 1) ∷ []) [] (disj (Par 0) (disj (Par 1) (truth false)))

abbrev pub the_xor_elim2 : Rule
the_xor_elim2 =
    rule (codes "xor_elim2") (formula (codes "F") ∷ formula (codes "G") ∷ []) (xor (Par 0) (Par 1) ∷ []) [] (disj (neg (Par 0)) (disj (neg (Par 1)) (truth false)))

abbrev pub the_not_xor_elim1 : Rule
the_not_xor_elim1 =
    rule (codes "not_xor_elim1") (formula (codes "F") ∷ formula (codes "G") ∷ []) (neg (xor (Par 0) (Par 1)) ∷ []) [] (disj (Par 0) (disj (neg (Par 1)) (truth false)))

abbrev pub the_not_xor_elim2 : Rule
the_not_xor_elim2 =
    rule (codes "not_xor_elim2") (formula (codes "F") ∷ formula (codes "G") ∷ []) (neg (xor (Par 0) (Par 1)) ∷ []) [] (disj (neg (Par 0)) (disj (Par 1) (truth false)))

abbrev pub the_ite_elim1 : Rule
the_ite_elim1 =
    rule (codes "ite_elim1") (formula (codes "C") ∷ formula (codes "F") ∷ formula (codes "G") ∷ []) (ite (Par 0) (Par 1) (Par 2) ∷ []) [] (disj (neg (Par 0)) (disj (Par 1) (truth false)))

abbrev pub the_ite_elim2 : Rule
the_ite_elim2 =
    rule (codes "ite_elim2") (formula (codes "C") ∷ formula (codes "F") ∷ formula (codes "G") ∷ []) (ite (Par 0) (Par 1) (Par 2) ∷ []) [] (disj (Par 0) (disj (Par 2) (truth false)))

abbrev pub the_not_ite_elim1 : Rule
the_not_ite_elim1 =
    rule (codes "not_ite_elim1") (formula (codes "C") ∷ formula (codes "F") ∷ formula (codes "G") ∷ []) (neg (ite (Par 0) (Par 1) (Par 2)) ∷ []) [] (disj (neg (Par 0)) (disj (neg (Par 1)) (truth false)))

abbrev pub the_not_ite_elim2 : Rule
the_not_ite_elim2 =
    rule (codes "not_ite_elim2") (formula (codes "C") ∷ formula (codes "F") ∷ formula (codes "G") ∷ []) (neg (ite (Par 0) (Par 1) (Par 2)) ∷ []) [] (disj (Par 0) (disj (neg (Par 2)) (truth false)))

abbrev pub the_not_and : Rule
the_not_and = rule (codes "not_and") (formula (codes "F") ∷ []) (neg (Par 0) ∷ []) [] (call 2 (Par 0 ∷ []))

abbrev pub the_cnf_and_pos : Rule
the_cnf_and_pos =
    rule (codes "cnf_and_pos") (formula (codes "F") ∷ parameter (codes "i") int ∷ []) [] (Par 0 ∷ Par 1 ∷ []) (disj (neg (Par 0)) (disj (operator OpName.ListNth (Con 8 ∷ Par 0 ∷ Par 1 ∷ [])) (truth false)))

abbrev pub the_cnf_and_neg : Rule
the_cnf_and_neg =
    rule (codes "cnf_and_neg") (formula (codes "F") ∷ []) [] (Par 0 ∷ []) (operator OpName.Cons (Con 9 ∷ Par 0 ∷ (call 2 (Par 0 ∷ [])) ∷ []))

abbrev pub the_cnf_or_pos : Rule
the_cnf_or_pos =
    rule (codes "cnf_or_pos") (formula (codes "F") ∷ []) [] (Par 0 ∷ []) (operator OpName.Cons (Con 9 ∷ neg (Par 0) ∷ Par 0 ∷ []))

abbrev pub the_cnf_or_neg : Rule
the_cnf_or_neg =
    rule (codes "cnf_or_neg") (formula (codes "F") ∷ parameter (codes "i") int ∷ []) [] (Par 0 ∷ Par 1 ∷ []) (disj (Par 0) (disj (neg (operator OpName.ListNth (Con 9 ∷ Par 0 ∷ Par 1 ∷ []))) (truth false)))

abbrev pub the_cnf_implies_pos : Rule
the_cnf_implies_pos =
    rule (codes "cnf_implies_pos") (formula (codes "F") ∷ formula (codes "G") ∷ []) [] (impl (Par 0) (Par 1) ∷ []) (disj (neg (impl (Par 0) (Par 1))) (disj (neg (Par 0)) (disj (Par 1) (truth false))))

abbrev pub the_cnf_implies_neg1 : Rule
the_cnf_implies_neg1 =
    rule (codes "cnf_implies_neg1") (formula (codes "F") ∷ formula (codes "G") ∷ []) [] (impl (Par 0) (Par 1) ∷ []) (disj (impl (Par 0) (Par 1)) (disj (Par 0) (truth false)))

abbrev pub the_cnf_implies_neg2 : Rule
the_cnf_implies_neg2 =
    rule (codes "cnf_implies_neg2") (formula (codes "F") ∷ formula (codes "G") ∷ []) [] (impl (Par 0) (Par 1) ∷ []) (disj (impl (Par 0) (Par 1)) (disj (neg (Par 1)) (truth false)))

abbrev pub the_cnf_equiv_pos1 : Rule
the_cnf_equiv_pos1 =
    rule (codes "cnf_equiv_pos1") (formula (codes "F") ∷ formula (codes "G") ∷ []) [] (equal (Par 0) (Par 1) ∷ []) (disj (neg (equal (Par 0) (Par 1))) (disj (neg (Par 0)) (disj (Par 1) (truth false))))

abbrev pub the_cnf_equiv_pos2 : Rule
the_cnf_equiv_pos2 =
    rule (codes "cnf_equiv_pos2") (formula (codes "F") ∷ formula (codes "G") ∷ []) [] (equal (Par 0) (Par 1) ∷ []) (disj (neg (equal (Par 0) (Par 1))) (disj (Par 0) (disj (neg (Par 1)) (truth false))))

abbrev pub the_cnf_equiv_neg1 : Rule
the_cnf_equiv_neg1 =
    rule (codes "cnf_equiv_neg1") (formula (codes "F") ∷ formula (codes "G") ∷ []) [] (equal (Par 0) (Par 1) ∷ []) (disj (equal (Par 0) (Par 1)) (disj (Par 0) (disj (Par 1) (truth false))))

abbrev pub the_cnf_equiv_neg2 : Rule
the_cnf_equiv_neg2 =
    rule (codes "cnf_equiv_neg2") (formula (codes "F") ∷ formula (codes "G") ∷ []) [] (equal (Par 0) (Par 1) ∷ []) (disj (equal (Par 0) (Par 1)) (disj (neg (Par 0)) (disj (neg (Par 1)) (truth false))))

abbrev pub the_resolution : Rule
the_resolution =
    rule (codes "resolution") (formula (codes "C") ∷ formula (codes "D") ∷ formula (codes "p") ∷ formula (codes "L") ∷ []) (Par 0 ∷ Par 1 ∷ []) (Par 2 ∷ Par 3 ∷ []) (call 1 ((call 5 ((call 0 (Par 0 ∷ [])) ∷ (call 0 (Par 1 ∷ [])) ∷ Par 2 ∷ Par 3 ∷ [])) ∷ []))

abbrev pub the_chain_resolution : Rule
the_chain_resolution =
    joining (codes "chain_resolution") (formula (codes "C") ∷ items (codes "Ds") ∷ parameter (codes "ps") list ∷ parameter (codes "Ls") list ∷ []) (conj (Par 0) (Par 1)) 8 (Par 2 ∷ Par 3 ∷ []) (call 1 ((call 6 ((call 0 (Par 0 ∷ [])) ∷ Par 1 ∷ Par 2 ∷ Par 3 ∷ [])) ∷ []))

abbrev pub the_scope : Rule
the_scope =
    discharging (codes "scope") (formula (codes "F") ∷ formula (codes "G") ∷ []) (Par 0) (Par 1 ∷ []) (impl (Par 0) (Par 1))
