-- Declarations with other terms, which are the same over another table.
use Rattle.std.proofs.Common.{◌≡◌, refl, sym, ap, subst, ◌∙◌, ℕ, suc, ◌+◌, ◌<◌, ◌≤◌, List, [], ◌∷◌, ◌++◌, length, map, take, drop, get_or, All, Option, Some, None, arith}
use Rattle.std.specs.Prelude.{flat_map, option_map, option_to_list}
use Rattle.std.proofs.lemmas.List.{append-nil, append_assoc, map-append, length-map, length-append, take_at, drop_at, drop_more, take-append-drop, get_or_append_left, get_or-append-add}
use Rattle.std.proofs.lemmas.List.Concat.{flat_map-append}
use Rattle.std.proofs.lemmas.List.Elements.{All-nil, All-cons, All-append, All-map, All-head, All-tail}
use Rattle.eo_base.specs.Limits.{parameters_limit}
use Rattle.eo_term.specs.Terms.{tree_at}
use Rattle.eo_term.specs.Tree.{Tree}
use Rattle.eo_sig.specs.declared.records.Param.{Param}
use Rattle.eo_sig.specs.declared.records.Attribute as code_attribute
use Rattle.eo_sig.specs.declared.records.Attribute.TheVariants as attribute
use Rattle.eo_sig.specs.declared.records.ConstDecl.{ConstDecl}
use Rattle.eo_sig.specs.declared.records.MacroDecl.{MacroDecl}
use Rattle.eo_sig.specs.declared.records.Case as code_case
use Rattle.eo_sig.specs.declared.records.ProgramDecl.{ProgramDecl}
use Rattle.eo_sig.specs.declared.records.PremiseShape as code_premises
use Rattle.eo_sig.specs.declared.records.PremiseShape.TheVariants as premises
use Rattle.eo_sig.specs.declared.records.RuleDecl.{RuleDecl}
use Rattle.eo_sig.specs.Reading.{read_parameter, read_attribute, read_constant, read_macro, read_case, read_program, read_premises, read_pair, read_rule, AttributeBelow, ConstBelow, MacroBelow, CaseBelow, ProgramBelow, PremisesBelow, SomeBelow, RuleBelow}
use Rattle.eo_sig.specs.Signature.{RightNil, LeftNil, Chain, Pairs, Binder, Each, Joined, premise_patterns}
use Rattle.eo_reclaim.specs.Moving.{param_ids, attribute_ids, constant_ids, macro_ids, case_ids, program_ids, premise_ids, pair_ids, rule_ids, blank_param, blank_params, blank_attribute, blank_constant, blank_macro, blank_ids, blank_case, blank_program, blank_premises, blank_option, blank_pair, blank_rule, IsMoved}
use Rattle.eo_reclaim.specs.Trees.{types_of, terminators, constant_trees, macro_trees, case_trees, program_trees, pair_trees, rule_trees}

-- ---- the trees of the terms

module _ (ts : List Tree) where
  abbrev read : List ℕ → List Tree
  read is = map (tree_at ts) is

  params_read : (ps : List Param) → read (param_ids ps) ≡ types_of (map (read_parameter ts) ps)
  params_read [] = refl
  params_read (p ∷ ps) = ap (λ xs. tree_at ts p.ty ∷ xs) (params_read ps)

  attribute_read : (a : code_attribute.Attribute) → read (attribute_ids a) ≡ terminators (read_attribute ts a)
  attribute_read attribute.Plain = refl
  attribute_read (attribute.RightNil t) = refl
  attribute_read (attribute.LeftNil t) = refl
  attribute_read attribute.Right = refl
  attribute_read attribute.Left = refl
  attribute_read (attribute.Chain g) = refl
  attribute_read (attribute.Pairs g) = refl
  attribute_read (attribute.Binder g) = refl

  pub constant_read : (d : ConstDecl) → read (constant_ids d) ≡ constant_trees (read_constant ts d)
  constant_read d =
      map-append (tree_at ts) (d.ty ∷ param_ids d.params) (attribute_ids d.attribute)
      ∙ (λ i. (tree_at ts d.ty ∷ params_read d.params i) ++ attribute_read d.attribute i)

  pub macro_read : (d : MacroDecl) → read (macro_ids d) ≡ macro_trees (read_macro ts d)
  macro_read d = ap (λ xs. tree_at ts d.tree ∷ xs) (params_read d.params)

  cases_read : (ks : List code_case.Case) → read (flat_map case_ids ks) ≡ flat_map case_trees (map (read_case ts) ks)
  cases_read [] = refl
  cases_read (k ∷ ks) = map-append (tree_at ts) (case_ids k) (flat_map case_ids ks) ∙ ap (λ xs. (tree_at ts k.body ∷ read k.patterns) ++ xs) (cases_read ks)

  pub program_read : (d : ProgramDecl) → read (program_ids d) ≡ program_trees (read_program ts d)
  program_read d =
      map-append (tree_at ts) ((d.output ∷ d.inputs) ++ param_ids d.params) (flat_map case_ids d.cases)
      ∙ (λ i. (map-append (tree_at ts) (d.output ∷ d.inputs) (param_ids d.params) ∙ ap (λ xs. (tree_at ts d.output ∷ read d.inputs) ++ xs) (params_read d.params)) i ++ cases_read d.cases i)

  option_read : (o : Option ℕ) → read (option_to_list o) ≡ option_to_list (option_map (tree_at ts) o)
  option_read None = refl
  option_read (Some i) = refl

  premises_read : (p : code_premises.PremiseShape) → read (premise_ids p) ≡ premise_patterns (read_premises ts p)
  premises_read (premises.Each is) = refl
  premises_read (premises.Joined i f) = refl

  pairs_read : (qs : List (ℕ × ℕ)) → read (flat_map pair_ids qs) ≡ flat_map pair_trees (map (read_pair ts) qs)
  pairs_read [] = refl
  pairs_read (q ∷ qs) = ap (λ xs. tree_at ts q.0 ∷ tree_at ts q.1 ∷ xs) (pairs_read qs)

  -- two lists of terms, one after the other
  both_read : (is js : List ℕ) (xs ys : List Tree) → read is ≡ xs → read js ≡ ys → read (is ++ js) ≡ xs ++ ys
  both_read is js xs ys p q = map-append (tree_at ts) is js ∙ (λ i. p i ++ q i)

  pub rule_read : (d : RuleDecl) → read (rule_ids d) ≡ rule_trees (read_rule ts d)
  rule_read d =
      let c = d.conclusion ∷ param_ids d.params in
      let o = option_to_list d.«assumption» in
      let ps = premise_ids d.premises in
      let us = tree_at ts d.conclusion ∷ types_of (map (read_parameter ts) d.params) in
      let vs = option_to_list (option_map (tree_at ts) d.«assumption») in
      let ws = premise_patterns (read_premises ts d.premises) in
      both_read (((c ++ o) ++ ps) ++ d.args) (flat_map pair_ids d.requirements) (((us ++ vs) ++ ws) ++ read d.args) (flat_map pair_trees (map (read_pair ts) d.requirements))
      (both_read ((c ++ o) ++ ps) d.args ((us ++ vs) ++ ws) (read d.args)
      (both_read (c ++ o) ps (us ++ vs) ws (both_read c o us vs (ap (λ xs. tree_at ts d.conclusion ∷ xs) (params_read d.params)) (option_read d.«assumption»)) (premises_read d.premises)) refl)
      (pairs_read d.requirements)

-- ---- parts of lists

-- lists of two parts that are the same have the same parts, if the first ones are as long
module _ (xs ys us vs : List Tree) (long : length xs ≡ length us) (e : xs ++ ys ≡ us ++ vs) where
  first_same : xs ≡ us
  first_same = sym (take_at xs ys (length us) long) ∙ ap (take (length us)) e ∙ take_at us vs (length us) refl

  rest_same : ys ≡ vs
  rest_same = sym (drop_at xs ys (length us) long) ∙ ap (drop (length us)) e ∙ drop_at us vs (length us) refl

module _ (x y : Tree) (xs ys : List Tree) (e : x ∷ xs ≡ y ∷ ys) where
  head_same : x ≡ y
  head_same = ap (λ zs. get_or zs 0 x) e

  tail_same : xs ≡ ys
  tail_same = ap (drop 1) e

-- as long as before
pub same_length : {A B : Type 0} (f : A → B) (xs ys : List A) → map f xs ≡ map f ys → length xs ≡ length ys
same_length f xs ys e = sym (length-map xs f) ∙ ap length e ∙ length-map ys f

-- ---- declarations that are the same but for their terms, whose trees are the same

module _ (us ts : List Tree) where
  read_long : (is js : List ℕ) → length is ≡ length js → length (read us is) ≡ length (read ts js)
  read_long is js l = length-map is (tree_at us) ∙ l ∙ sym (length-map js (tree_at ts))

  params_long : (ps qs : List Param) → blank_params ps ≡ blank_params qs → length (read us (param_ids ps)) ≡ length (read ts (param_ids qs))
  params_long ps qs e =
      read_long (param_ids ps) (param_ids qs) (length-map ps (λ (p : Param). p.ty) ∙ same_length blank_param ps qs e ∙ sym (length-map qs (λ (p : Param). p.ty)))

  params_moved : (ps qs : List Param) → blank_params ps ≡ blank_params qs → read us (param_ids ps) ≡ read ts (param_ids qs) → map (read_parameter us) ps ≡ map (read_parameter ts) qs
  params_moved [] [] e h = refl
  params_moved [] (q ∷ qs) e h = absurd cc
  params_moved (p ∷ ps) [] e h = absurd cc
  params_moved (p ∷ ps) (q ∷ qs) e h =
      let same = ap (λ (xs : List Param). get_or xs 0 p) e in
      let one : blank_param p ≡ blank_param q = ap (λ (xs : List Param). get_or xs 0 (blank_param p)) e in
      (λ i. record { name = (one i).name; type = head_same (tree_at us p.ty) (tree_at ts q.ty) (read us (param_ids ps)) (read ts (param_ids qs)) h i; implicit = (one i).implicit; list = (one i).list }
      ∷ params_moved ps qs (ap (drop 1) e) (tail_same (tree_at us p.ty) (tree_at ts q.ty) (read us (param_ids ps)) (read ts (param_ids qs)) h) i)

  joiner : code_attribute.Attribute → ℕ
  joiner attribute.Plain = 0
  joiner (attribute.RightNil t) = 0
  joiner (attribute.LeftNil t) = 0
  joiner attribute.Right = 0
  joiner attribute.Left = 0
  joiner (attribute.Chain g) = g
  joiner (attribute.Pairs g) = g
  joiner (attribute.Binder g) = g

  attribute_moved : (a b : code_attribute.Attribute) → blank_attribute a ≡ blank_attribute b → read us (attribute_ids a) ≡ read ts (attribute_ids b) → read_attribute us a ≡ read_attribute ts b
  unfolding joiner
  attribute_moved attribute.Plain attribute.Plain e h = refl
  attribute_moved (attribute.RightNil s) (attribute.RightNil t) e h = ap RightNil (head_same (tree_at us s) (tree_at ts t) [] [] h)
  attribute_moved (attribute.LeftNil s) (attribute.LeftNil t) e h = ap LeftNil (head_same (tree_at us s) (tree_at ts t) [] [] h)
  attribute_moved attribute.Right attribute.Right e h = refl
  attribute_moved attribute.Left attribute.Left e h = refl
  attribute_moved (attribute.Chain f) (attribute.Chain g) e h = ap Chain (ap joiner e)
  attribute_moved (attribute.Pairs f) (attribute.Pairs g) e h = ap Pairs (ap joiner e)
  attribute_moved (attribute.Binder f) (attribute.Binder g) e h = ap Binder (ap joiner e)
  attribute_moved _ _ e h = absurd cc

  pub constant_moved : (d e : ConstDecl) → blank_constant d ≡ blank_constant e → read us (constant_ids d) ≡ read ts (constant_ids e) → read_constant us d ≡ read_constant ts e
  constant_moved d e b h =
      let ps = ap (λ (x : ConstDecl). x.params) b in
      let xs = read us (param_ids d.params) in
      let ys = read ts (param_ids e.params) in
      let all = sym (map-append (tree_at us) (d.ty ∷ param_ids d.params) (attribute_ids d.attribute)) ∙ h ∙ map-append (tree_at ts) (e.ty ∷ param_ids e.params) (attribute_ids e.attribute) in
      let long : length (tree_at us d.ty ∷ xs) ≡ length (tree_at ts e.ty ∷ ys) = ap suc (params_long d.params e.params ps) in
      let front = first_same (tree_at us d.ty ∷ xs) (read us (attribute_ids d.attribute)) (tree_at ts e.ty ∷ ys) (read ts (attribute_ids e.attribute)) long all in
      let rest = rest_same (tree_at us d.ty ∷ xs) (read us (attribute_ids d.attribute)) (tree_at ts e.ty ∷ ys) (read ts (attribute_ids e.attribute)) long all in
      (λ i. record {
        name = (b i).name;
        parameters = params_moved d.params e.params ps (tail_same (tree_at us d.ty) (tree_at ts e.ty) xs ys front) i;
        type = head_same (tree_at us d.ty) (tree_at ts e.ty) xs ys front i;
        attribute = attribute_moved d.attribute e.attribute (ap (λ (x : ConstDecl). x.attribute) b) rest i;
        from_reference = (b i).from_reference;
      })

  pub macro_moved : (d e : MacroDecl) → blank_macro d ≡ blank_macro e → read us (macro_ids d) ≡ read ts (macro_ids e) → read_macro us d ≡ read_macro ts e
  macro_moved d e b h =
      let ps = ap (λ (x : MacroDecl). x.params) b in
      let xs = read us (param_ids d.params) in
      let ys = read ts (param_ids e.params) in
      (λ i. record {
        name = (b i).name;
        parameters = params_moved d.params e.params ps (tail_same (tree_at us d.tree) (tree_at ts e.tree) xs ys h) i;
        tree = head_same (tree_at us d.tree) (tree_at ts e.tree) xs ys h i;
        from_reference = (b i).from_reference;
      })

  ids_long : (is js : List ℕ) → blank_ids is ≡ blank_ids js → length (read us is) ≡ length (read ts js)
  ids_long is js e = read_long is js (same_length (λ (i : ℕ). 0) is js e)

  cases_long : (ks ls : List code_case.Case) → map blank_case ks ≡ map blank_case ls → length (read us (flat_map case_ids ks)) ≡ length (read ts (flat_map case_ids ls))
  cases_long [] [] e = refl
  cases_long [] (l ∷ ls) e = absurd cc
  cases_long (k ∷ ks) [] e = absurd cc
  cases_long (k ∷ ks) (l ∷ ls) e =
      let one : blank_case k ≡ blank_case l = ap (λ (xs : List code_case.Case). get_or xs 0 (blank_case k)) e in
      let a = ids_long k.patterns l.patterns (ap (λ (x : code_case.Case). x.patterns) one) in
      let b = cases_long ks ls (ap (drop 1) e) in
      let p = ap length (map-append (tree_at us) (case_ids k) (flat_map case_ids ks)) ∙ length-append (read us (case_ids k)) (read us (flat_map case_ids ks)) in
      let q = ap length (map-append (tree_at ts) (case_ids l) (flat_map case_ids ls)) ∙ length-append (read ts (case_ids l)) (read ts (flat_map case_ids ls)) in
      omega (arith, a, b, p, q)

  cases_moved : (ks ls : List code_case.Case) → map blank_case ks ≡ map blank_case ls → read us (flat_map case_ids ks) ≡ read ts (flat_map case_ids ls) → map (read_case us) ks ≡ map (read_case ts) ls
  cases_moved [] [] e h = refl
  cases_moved [] (l ∷ ls) e h = absurd cc
  cases_moved (k ∷ ks) [] e h = absurd cc
  cases_moved (k ∷ ks) (l ∷ ls) e h =
      let one : blank_case k ≡ blank_case l = ap (λ (xs : List code_case.Case). get_or xs 0 (blank_case k)) e in
      let xs = read us k.patterns in
      let ys = read ts l.patterns in
      let all = sym (map-append (tree_at us) (case_ids k) (flat_map case_ids ks)) ∙ h ∙ map-append (tree_at ts) (case_ids l) (flat_map case_ids ls) in
      let long : length (tree_at us k.body ∷ xs) ≡ length (tree_at ts l.body ∷ ys) = ap suc (ids_long k.patterns l.patterns (ap (λ (x : code_case.Case). x.patterns) one)) in
      let front = first_same (tree_at us k.body ∷ xs) (read us (flat_map case_ids ks)) (tree_at ts l.body ∷ ys) (read ts (flat_map case_ids ls)) long all in
      let rest = rest_same (tree_at us k.body ∷ xs) (read us (flat_map case_ids ks)) (tree_at ts l.body ∷ ys) (read ts (flat_map case_ids ls)) long all in
      (λ i. record { patterns = tail_same (tree_at us k.body) (tree_at ts l.body) xs ys front i; body = head_same (tree_at us k.body) (tree_at ts l.body) xs ys front i }
      ∷ cases_moved ks ls (ap (drop 1) e) rest i)

  pub program_moved : (d e : ProgramDecl) → blank_program d ≡ blank_program e → read us (program_ids d) ≡ read ts (program_ids e) → read_program us d ≡ read_program ts e
  program_moved d e b h =
      let ps = ap (λ (x : ProgramDecl). x.params) b in
      let xs = read us d.inputs in
      let ys = read ts e.inputs in
      let us' = tree_at us d.output ∷ xs in
      let ts' = tree_at ts e.output ∷ ys in
      let cs = read us (flat_map case_ids d.cases) in
      let ds = read ts (flat_map case_ids e.cases) in
      let pu = read us (param_ids d.params) in
      let pt = read ts (param_ids e.params) in
      let left = map-append (tree_at us) ((d.output ∷ d.inputs) ++ param_ids d.params) (flat_map case_ids d.cases) ∙ ap (λ zs. zs ++ cs) (map-append (tree_at us) (d.output ∷ d.inputs) (param_ids d.params)) in
      let right = map-append (tree_at ts) ((e.output ∷ e.inputs) ++ param_ids e.params) (flat_map case_ids e.cases) ∙ ap (λ zs. zs ++ ds) (map-append (tree_at ts) (e.output ∷ e.inputs) (param_ids e.params)) in
      let all = sym left ∙ h ∙ right in
      let one : length us' ≡ length ts' = ap suc (ids_long d.inputs e.inputs (ap (λ (x : ProgramDecl). x.inputs) b)) in
      let two : length (us' ++ pu) ≡ length (ts' ++ pt) = length-append us' pu ∙ (λ i. one i + params_long d.params e.params ps i) ∙ sym (length-append ts' pt) in
      let front = first_same (us' ++ pu) cs (ts' ++ pt) ds two all in
      let first = first_same us' pu ts' pt one front in
      (λ i. record {
        name = (b i).name;
        parameters = params_moved d.params e.params ps (rest_same us' pu ts' pt one front) i;
        inputs = tail_same (tree_at us d.output) (tree_at ts e.output) xs ys first i;
        output = head_same (tree_at us d.output) (tree_at ts e.output) xs ys first i;
        cases = cases_moved d.cases e.cases (ap (λ (x : ProgramDecl). x.cases) b) (rest_same (us' ++ pu) cs (ts' ++ pt) ds two all) i;
      })

  option_moved : (o q : Option ℕ) → blank_option o ≡ blank_option q → read us (option_to_list o) ≡ read ts (option_to_list q) → option_map (tree_at us) o ≡ option_map (tree_at ts) q
  option_moved None None e h = refl
  option_moved None (Some j) e h = absurd cc
  option_moved (Some i) None e h = absurd cc
  option_moved (Some i) (Some j) e h = ap Some (head_same (tree_at us i) (tree_at ts j) [] [] h)

  option_long : (o q : Option ℕ) → blank_option o ≡ blank_option q → length (read us (option_to_list o)) ≡ length (read ts (option_to_list q))
  option_long None None e = refl
  option_long None (Some j) e = absurd cc
  option_long (Some i) None e = absurd cc
  option_long (Some i) (Some j) e = refl

  shape_joiner : code_premises.PremiseShape → ℕ
  shape_joiner (premises.Each is) = 0
  shape_joiner (premises.Joined i f) = f

  shape_ids : code_premises.PremiseShape → List ℕ
  shape_ids (premises.Each is) = is
  shape_ids (premises.Joined i f) = []

  premises_moved : (p q : code_premises.PremiseShape) → blank_premises p ≡ blank_premises q → read us (premise_ids p) ≡ read ts (premise_ids q) → read_premises us p ≡ read_premises ts q
  unfolding shape_joiner
  premises_moved (premises.Each is) (premises.Each js) e h = ap Each h
  premises_moved (premises.Each is) (premises.Joined j g) e h = absurd cc
  premises_moved (premises.Joined i f) (premises.Each js) e h = absurd cc
  premises_moved (premises.Joined i f) (premises.Joined j g) e h = (λ k. Joined (head_same (tree_at us i) (tree_at ts j) [] [] h k) (shape_joiner (e k)))

  premises_long : (p q : code_premises.PremiseShape) → blank_premises p ≡ blank_premises q → length (read us (premise_ids p)) ≡ length (read ts (premise_ids q))
  unfolding shape_ids
  premises_long (premises.Each is) (premises.Each js) e = ids_long is js (ap shape_ids e)
  premises_long (premises.Each is) (premises.Joined j g) e = absurd cc
  premises_long (premises.Joined i f) (premises.Each js) e = absurd cc
  premises_long (premises.Joined i f) (premises.Joined j g) e = refl

  pairs_moved : (ps qs : List (ℕ × ℕ)) → map blank_pair ps ≡ map blank_pair qs → read us (flat_map pair_ids ps) ≡ read ts (flat_map pair_ids qs) → map (read_pair us) ps ≡ map (read_pair ts) qs
  pairs_moved [] [] e h = refl
  pairs_moved [] (q ∷ qs) e h = absurd cc
  pairs_moved (p ∷ ps) [] e h = absurd cc
  pairs_moved (p ∷ ps) (q ∷ qs) e h =
      let xs = tree_at us p.1 ∷ read us (flat_map pair_ids ps) in
      let ys = tree_at ts q.1 ∷ read ts (flat_map pair_ids qs) in
      let rest = tail_same (tree_at us p.0) (tree_at ts q.0) xs ys h in
      (λ i. (head_same (tree_at us p.0) (tree_at ts q.0) xs ys h i, head_same (tree_at us p.1) (tree_at ts q.1) (read us (flat_map pair_ids ps)) (read ts (flat_map pair_ids qs)) rest i)
      ∷ pairs_moved ps qs (ap (drop 1) e) (tail_same (tree_at us p.1) (tree_at ts q.1) (read us (flat_map pair_ids ps)) (read ts (flat_map pair_ids qs)) rest) i)

  pub rule_moved : (d e : RuleDecl) → blank_rule d ≡ blank_rule e → read us (rule_ids d) ≡ read ts (rule_ids e) → read_rule us d ≡ read_rule ts e
  rule_moved d e b h =
      let cu = tree_at us d.conclusion ∷ read us (param_ids d.params) in
      let ct = tree_at ts e.conclusion ∷ read ts (param_ids e.params) in
      let ou = read us (option_to_list d.«assumption») in
      let ot = read ts (option_to_list e.«assumption») in
      let pu = read us (premise_ids d.premises) in
      let pt = read ts (premise_ids e.premises) in
      let au = read us d.args in
      let at = read ts e.args in
      let qu = read us (flat_map pair_ids d.requirements) in
      let qt = read ts (flat_map pair_ids e.requirements) in
      let left = five us d in
      let right = five ts e in
      let all = sym left ∙ h ∙ right in
      let c_long : length cu ≡ length ct = ap suc (params_long d.params e.params (λ i. (b i).1)) in
      let o_long = option_long d.«assumption» e.«assumption» (λ i. (b i).2) in
      let p_long = premises_long d.premises e.premises (λ i. (b i).3) in
      let a_long = ids_long d.args e.args (λ i. (b i).4) in
      let two : length (cu ++ ou) ≡ length (ct ++ ot) = length-append cu ou ∙ (λ i. c_long i + o_long i) ∙ sym (length-append ct ot) in
      let three : length ((cu ++ ou) ++ pu) ≡ length ((ct ++ ot) ++ pt) = length-append (cu ++ ou) pu ∙ (λ i. two i + p_long i) ∙ sym (length-append (ct ++ ot) pt) in
      let four : length (((cu ++ ou) ++ pu) ++ au) ≡ length (((ct ++ ot) ++ pt) ++ at) = length-append ((cu ++ ou) ++ pu) au ∙ (λ i. three i + a_long i) ∙ sym (length-append ((ct ++ ot) ++ pt) at) in
      let abcd = first_same (((cu ++ ou) ++ pu) ++ au) qu (((ct ++ ot) ++ pt) ++ at) qt four all in
      let abc = first_same ((cu ++ ou) ++ pu) au ((ct ++ ot) ++ pt) at three abcd in
      let ab = first_same (cu ++ ou) pu (ct ++ ot) pt two abc in
      let a = first_same cu ou ct ot c_long ab in
      (λ i. record {
        name = (b i).0;
        parameters = params_moved d.params e.params (λ j. (b j).1) (tail_same (tree_at us d.conclusion) (tree_at ts e.conclusion) (read us (param_ids d.params)) (read ts (param_ids e.params)) a) i;
        assumed = option_moved d.«assumption» e.«assumption» (λ j. (b j).2) (rest_same cu ou ct ot c_long ab) i;
        premises = premises_moved d.premises e.premises (λ j. (b j).3) (rest_same (cu ++ ou) pu (ct ++ ot) pt two abc) i;
        arguments = rest_same ((cu ++ ou) ++ pu) au ((ct ++ ot) ++ pt) at three abcd i;
        requirements = pairs_moved d.requirements e.requirements (λ j. (b j).5) (rest_same (((cu ++ ou) ++ pu) ++ au) qu (((ct ++ ot) ++ pt) ++ at) qt four all) i;
        conclusion = head_same (tree_at us d.conclusion) (tree_at ts e.conclusion) (read us (param_ids d.params)) (read ts (param_ids e.params)) a i;
        sorry = (b i).6;
      })
    where
      five : (xs : List Tree) (r : RuleDecl) → read xs (rule_ids r) ≡ ((((tree_at xs r.conclusion ∷ read xs (param_ids r.params)) ++ read xs (option_to_list r.«assumption»)) ++ read xs (premise_ids r.premises)) ++ read xs r.args) ++ read xs (flat_map pair_ids r.requirements)
      five xs r =
          let c = r.conclusion ∷ param_ids r.params in
          let o = option_to_list r.«assumption» in
          let p = premise_ids r.premises in
          both_read xs (((c ++ o) ++ p) ++ r.args) (flat_map pair_ids r.requirements) (((read xs c ++ read xs o) ++ read xs p) ++ read xs r.args) (read xs (flat_map pair_ids r.requirements))
          (both_read xs ((c ++ o) ++ p) r.args ((read xs c ++ read xs o) ++ read xs p) (read xs r.args)
          (both_read xs (c ++ o) p (read xs c ++ read xs o) (read xs p) (both_read xs c o (read xs c) (read xs o) refl refl) refl) refl) refl

-- ---- bounds

module _ (n : ℕ) where
  abbrev Below : List ℕ → Type 0
  Below is = All (λ i. i < n) is

  front_below : (is js : List ℕ) → Below (is ++ js) → Below is
  front_below is js a k d l = subst (λ i. i < n) (get_or_append_left is js d k l) (a k d (omega (arith, l, length-append is js)))

  rest_below : (is js : List ℕ) → Below (is ++ js) → Below js
  rest_below is js a k d l = subst (λ i. i < n) (get_or-append-add is js k d) (a (length is + k) d (omega (arith, l, length-append is js)))

  params_below : (ps : List Param) → Below (param_ids ps) → All (λ p. p.ty < n) ps
  params_below [] a = All-nil (λ (p : Param). p.ty < n)
  params_below (p ∷ ps) a = All-cons (λ (p : Param). p.ty < n) p ps (All-head (λ i. i < n) p.ty (param_ids ps) a) (params_below ps (All-tail (λ i. i < n) p.ty (param_ids ps) a))

  attribute_below : (a : code_attribute.Attribute) → Below (attribute_ids a) → AttributeBelow n a
  attribute_below attribute.Plain h = tt
  attribute_below (attribute.RightNil t) h = All-head (λ i. i < n) t [] h
  attribute_below (attribute.LeftNil t) h = All-head (λ i. i < n) t [] h
  attribute_below attribute.Right h = tt
  attribute_below attribute.Left h = tt
  attribute_below (attribute.Chain g) h = tt
  attribute_below (attribute.Pairs g) h = tt
  attribute_below (attribute.Binder g) h = tt

  pub constant_below : (d : ConstDecl) → Below (constant_ids d) → ConstBelow n d
  constant_below d h =
      let front = front_below (d.ty ∷ param_ids d.params) (attribute_ids d.attribute) h in
      record {
        params = params_below d.params (All-tail (λ i. i < n) d.ty (param_ids d.params) front);
        type = All-head (λ i. i < n) d.ty (param_ids d.params) front;
        attribute = attribute_below d.attribute (rest_below (d.ty ∷ param_ids d.params) (attribute_ids d.attribute) h);
      }

  pub macro_below : (d e : MacroDecl) → blank_macro d ≡ blank_macro e → length e.params ≤ parameters_limit → Below (macro_ids d) → MacroBelow n d
  macro_below d e b few h = record {
    params = params_below d.params (All-tail (λ i. i < n) d.tree (param_ids d.params) h);
    tree = All-head (λ i. i < n) d.tree (param_ids d.params) h;
    few = omega (arith, few, same_length blank_param d.params e.params (ap (λ (x : MacroDecl). x.params) b));
  }

  cases_below : (ks : List code_case.Case) → Below (flat_map case_ids ks) → All (CaseBelow n) ks
  cases_below [] h = All-nil (CaseBelow n)
  cases_below (k ∷ ks) h =
      let front = front_below (case_ids k) (flat_map case_ids ks) h in
      All-cons (CaseBelow n) k ks (record { patterns = All-tail (λ i. i < n) k.body k.patterns front; body = All-head (λ i. i < n) k.body k.patterns front }) (cases_below ks (rest_below (case_ids k) (flat_map case_ids ks) h))

  pub program_below : (d e : ProgramDecl) → blank_program d ≡ blank_program e → length e.inputs ≤ parameters_limit → Below (program_ids d) → ProgramBelow n d
  program_below d e b few h =
      let front = front_below ((d.output ∷ d.inputs) ++ param_ids d.params) (flat_map case_ids d.cases) h in
      let first = front_below (d.output ∷ d.inputs) (param_ids d.params) front in
      record {
        params = params_below d.params (rest_below (d.output ∷ d.inputs) (param_ids d.params) front);
        inputs = All-tail (λ i. i < n) d.output d.inputs first;
        output = All-head (λ i. i < n) d.output d.inputs first;
        cases = cases_below d.cases (rest_below ((d.output ∷ d.inputs) ++ param_ids d.params) (flat_map case_ids d.cases) h);
        few = omega (arith, few, same_length (λ (i : ℕ). 0) d.inputs e.inputs (ap (λ (x : ProgramDecl). x.inputs) b));
      }

  option_below : (o : Option ℕ) → Below (option_to_list o) → SomeBelow n o
  option_below None h = tt
  option_below (Some i) h = All-head (λ i. i < n) i [] h

  premises_below : (p : code_premises.PremiseShape) → Below (premise_ids p) → PremisesBelow n p
  premises_below (premises.Each is) h = h
  premises_below (premises.Joined i f) h = All-head (λ i. i < n) i [] h

  pairs_below : (qs : List (ℕ × ℕ)) → Below (flat_map pair_ids qs) → All (λ (q : ℕ × ℕ). (q.0 < n) × (q.1 < n)) qs
  pairs_below [] h = All-nil (λ (q : ℕ × ℕ). (q.0 < n) × (q.1 < n))
  pairs_below (q ∷ qs) h =
      let rest = All-tail (λ i. i < n) q.0 (q.1 ∷ flat_map pair_ids qs) h in
      All-cons (λ (q : ℕ × ℕ). (q.0 < n) × (q.1 < n)) q qs (All-head (λ i. i < n) q.0 (q.1 ∷ flat_map pair_ids qs) h, All-head (λ i. i < n) q.1 (flat_map pair_ids qs) rest) (pairs_below qs (All-tail (λ i. i < n) q.1 (flat_map pair_ids qs) rest))

  pub rule_below : (d : RuleDecl) → Below (rule_ids d) → RuleBelow n d
  rule_below d h =
      let c = d.conclusion ∷ param_ids d.params in
      let o = option_to_list d.«assumption» in
      let p = premise_ids d.premises in
      let q = flat_map pair_ids d.requirements in
      let four = front_below (((c ++ o) ++ p) ++ d.args) q h in
      let three = front_below ((c ++ o) ++ p) d.args four in
      let two = front_below (c ++ o) p three in
      let one = front_below c o two in
      record {
        params = params_below d.params (All-tail (λ i. i < n) d.conclusion (param_ids d.params) one);
        assumed = option_below d.«assumption» (rest_below c o two);
        premises = premises_below d.premises (rest_below (c ++ o) p three);
        args = rest_below ((c ++ o) ++ p) d.args four;
        requirements = pairs_below d.requirements (rest_below (((c ++ o) ++ p) ++ d.args) q h);
        conclusion = All-head (λ i. i < n) d.conclusion (param_ids d.params) one;
      }

module _ (n : ℕ) where
  params_ids : (ps : List Param) → All (λ p. p.ty < n) ps → Below n (param_ids ps)
  params_ids ps a = All-map (λ i. i < n) (λ (p : Param). p.ty) ps a

  attribute_terms : (a : code_attribute.Attribute) → AttributeBelow n a → Below n (attribute_ids a)
  attribute_terms attribute.Plain h = All-nil (λ i. i < n)
  attribute_terms (attribute.RightNil t) h = All-cons (λ i. i < n) t [] h (All-nil (λ i. i < n))
  attribute_terms (attribute.LeftNil t) h = All-cons (λ i. i < n) t [] h (All-nil (λ i. i < n))
  attribute_terms attribute.Right h = All-nil (λ i. i < n)
  attribute_terms attribute.Left h = All-nil (λ i. i < n)
  attribute_terms (attribute.Chain g) h = All-nil (λ i. i < n)
  attribute_terms (attribute.Pairs g) h = All-nil (λ i. i < n)
  attribute_terms (attribute.Binder g) h = All-nil (λ i. i < n)

  -- the terms of a declaration are below n where it is
  pub constant_terms : (d : ConstDecl) → ConstBelow n d → Below n (constant_ids d)
  constant_terms d h =
      All-append (λ i. i < n) (d.ty ∷ param_ids d.params) (attribute_ids d.attribute) (All-cons (λ i. i < n) d.ty (param_ids d.params) h.type (params_ids d.params h.params)) (attribute_terms d.attribute h.attribute)

  pub macro_terms : (d : MacroDecl) → MacroBelow n d → Below n (macro_ids d)
  macro_terms d h = All-cons (λ i. i < n) d.tree (param_ids d.params) h.tree (params_ids d.params h.params)

  cases_terms : (ks : List code_case.Case) → All (CaseBelow n) ks → Below n (flat_map case_ids ks)
  cases_terms [] h = All-nil (λ i. i < n)
  cases_terms (k ∷ ks) h =
      let one = All-head (CaseBelow n) k ks h in
      All-append (λ i. i < n) (case_ids k) (flat_map case_ids ks) (All-cons (λ i. i < n) k.body k.patterns one.body one.patterns) (cases_terms ks (All-tail (CaseBelow n) k ks h))

  pub program_terms : (d : ProgramDecl) → ProgramBelow n d → Below n (program_ids d)
  program_terms d h =
      All-append (λ i. i < n) ((d.output ∷ d.inputs) ++ param_ids d.params) (flat_map case_ids d.cases)
      (All-append (λ i. i < n) (d.output ∷ d.inputs) (param_ids d.params) (All-cons (λ i. i < n) d.output d.inputs h.output h.inputs) (params_ids d.params h.params)) (cases_terms d.cases h.cases)

  option_terms : (o : Option ℕ) → SomeBelow n o → Below n (option_to_list o)
  option_terms None h = All-nil (λ i. i < n)
  option_terms (Some i) h = All-cons (λ i. i < n) i [] h (All-nil (λ i. i < n))

  premises_terms : (p : code_premises.PremiseShape) → PremisesBelow n p → Below n (premise_ids p)
  premises_terms (premises.Each is) h = h
  premises_terms (premises.Joined i f) h = All-cons (λ i. i < n) i [] h (All-nil (λ i. i < n))

  pairs_terms : (qs : List (ℕ × ℕ)) → All (λ (q : ℕ × ℕ). (q.0 < n) × (q.1 < n)) qs → Below n (flat_map pair_ids qs)
  pairs_terms [] h = All-nil (λ i. i < n)
  pairs_terms (q ∷ qs) h =
      let one = All-head (λ (q : ℕ × ℕ). (q.0 < n) × (q.1 < n)) q qs h in
      All-cons (λ i. i < n) q.0 (q.1 ∷ flat_map pair_ids qs) one.0 (All-cons (λ i. i < n) q.1 (flat_map pair_ids qs) one.1 (pairs_terms qs (All-tail (λ (q : ℕ × ℕ). (q.0 < n) × (q.1 < n)) q qs h)))

  pub rule_terms : (d : RuleDecl) → RuleBelow n d → Below n (rule_ids d)
  rule_terms d h =
      let c = d.conclusion ∷ param_ids d.params in
      let o = option_to_list d.«assumption» in
      let p = premise_ids d.premises in
      let q = flat_map pair_ids d.requirements in
      All-append (λ i. i < n) (((c ++ o) ++ p) ++ d.args) q
      (All-append (λ i. i < n) ((c ++ o) ++ p) d.args
      (All-append (λ i. i < n) (c ++ o) p (All-append (λ i. i < n) c o (All-cons (λ i. i < n) d.conclusion (param_ids d.params) h.conclusion (params_ids d.params h.params)) (option_terms d.«assumption» h.assumed)) (premises_terms d.premises h.premises)) h.args)
      (pairs_terms d.requirements h.requirements)

-- ---- as many terms as before

counted : (is js : List ℕ) → length (read [] is) ≡ length (read [] js) → length is ≡ length js
counted is js e = sym (length-map is (tree_at [])) ∙ e ∙ length-map js (tree_at [])

pub params_count : (ps qs : List Param) → blank_params ps ≡ blank_params qs → length (param_ids ps) ≡ length (param_ids qs)
params_count ps qs e = counted (param_ids ps) (param_ids qs) (params_long [] [] ps qs e)

attribute_count : (a b : code_attribute.Attribute) → blank_attribute a ≡ blank_attribute b → length (attribute_ids a) ≡ length (attribute_ids b)
attribute_count attribute.Plain attribute.Plain e = refl
attribute_count (attribute.RightNil s) (attribute.RightNil t) e = refl
attribute_count (attribute.LeftNil s) (attribute.LeftNil t) e = refl
attribute_count attribute.Right attribute.Right e = refl
attribute_count attribute.Left attribute.Left e = refl
attribute_count (attribute.Chain f) (attribute.Chain g) e = refl
attribute_count (attribute.Pairs f) (attribute.Pairs g) e = refl
attribute_count (attribute.Binder f) (attribute.Binder g) e = refl
attribute_count _ _ e = absurd cc

pub cases_count : (ks ls : List code_case.Case) → map blank_case ks ≡ map blank_case ls → length (flat_map case_ids ks) ≡ length (flat_map case_ids ls)
cases_count ks ls e = counted (flat_map case_ids ks) (flat_map case_ids ls) (cases_long [] [] ks ls e)

pub pairs_count : (qs : List (ℕ × ℕ)) → length (flat_map pair_ids qs) ≡ length qs + length qs
pairs_count [] = refl
pairs_count (q ∷ qs) = omega (arith, pairs_count qs)

constant_count : (d e : ConstDecl) → blank_constant d ≡ blank_constant e → length (constant_ids d) ≡ length (constant_ids e)
constant_count d e b =
    let ps = params_count d.params e.params (ap (λ (x : ConstDecl). x.params) b) in
    let a = attribute_count d.attribute e.attribute (ap (λ (x : ConstDecl). x.attribute) b) in
    omega (arith, ps, a, length-append (d.ty ∷ param_ids d.params) (attribute_ids d.attribute), length-append (e.ty ∷ param_ids e.params) (attribute_ids e.attribute))

pub program_long : (d : ProgramDecl) → length (program_ids d) ≡ suc (length d.inputs) + length (param_ids d.params) + length (flat_map case_ids d.cases)
program_long d =
    length-append ((d.output ∷ d.inputs) ++ param_ids d.params) (flat_map case_ids d.cases)
    ∙ ap (λ k. k + length (flat_map case_ids d.cases)) (length-append (d.output ∷ d.inputs) (param_ids d.params))

program_count : (d e : ProgramDecl) → blank_program d ≡ blank_program e → length (program_ids d) ≡ length (program_ids e)
program_count d e b =
    let ps = params_count d.params e.params (ap (λ (x : ProgramDecl). x.params) b) in
    let is = same_length (λ (i : ℕ). 0) d.inputs e.inputs (ap (λ (x : ProgramDecl). x.inputs) b) in
    let cs = cases_count d.cases e.cases (ap (λ (x : ProgramDecl). x.cases) b) in
    omega (arith, ps, is, cs, length-append ((d.output ∷ d.inputs) ++ param_ids d.params) (flat_map case_ids d.cases), length-append (d.output ∷ d.inputs) (param_ids d.params), length-append ((e.output ∷ e.inputs) ++ param_ids e.params) (flat_map case_ids e.cases), length-append (e.output ∷ e.inputs) (param_ids e.params))

pub rule_long : (r : RuleDecl) → length (rule_ids r) ≡ suc (length (param_ids r.params)) + length (option_to_list r.«assumption») + length (premise_ids r.premises) + length r.args + length (flat_map pair_ids r.requirements)
rule_long r =
    let c = r.conclusion ∷ param_ids r.params in
    let o = option_to_list r.«assumption» in
    let p = premise_ids r.premises in
    length-append (((c ++ o) ++ p) ++ r.args) (flat_map pair_ids r.requirements)
    ∙ ap (λ k. k + length (flat_map pair_ids r.requirements)) (length-append ((c ++ o) ++ p) r.args ∙ ap (λ k. k + length r.args) (length-append (c ++ o) p ∙ ap (λ k. k + length p) (length-append c o)))

pub option_count : (o q : Option ℕ) → blank_option o ≡ blank_option q → length (option_to_list o) ≡ length (option_to_list q)
option_count o q e = counted (option_to_list o) (option_to_list q) (option_long [] [] o q e)

pub premises_count : (p q : code_premises.PremiseShape) → blank_premises p ≡ blank_premises q → length (premise_ids p) ≡ length (premise_ids q)
premises_count p q e = counted (premise_ids p) (premise_ids q) (premises_long [] [] p q e)

rule_count : (d e : RuleDecl) → blank_rule d ≡ blank_rule e → length (rule_ids d) ≡ length (rule_ids e)
rule_count d e b =
    let ps = params_count d.params e.params (λ i. (b i).1) in
    let o = counted (option_to_list d.«assumption») (option_to_list e.«assumption») (option_long [] [] d.«assumption» e.«assumption» (λ i. (b i).2)) in
    let p = counted (premise_ids d.premises) (premise_ids e.premises) (premises_long [] [] d.premises e.premises (λ i. (b i).3)) in
    let a = same_length (λ (i : ℕ). 0) d.args e.args (λ i. (b i).4) in
    let q = same_length blank_pair d.requirements e.requirements (λ i. (b i).5) in
    omega (arith, ps, o, p, a, q, rule_long d, rule_long e, pairs_count d.requirements, pairs_count e.requirements)

-- ---- what is taken off the carried terms

module _ (us ts : List Tree) (is js left rest : List ℕ) (taken : left ≡ is ++ rest) (same : read us left ≡ read ts js) (long : length is ≡ length js) where
  taken_read : read us is ≡ read ts js
  taken_read =
      first_same (read us is) (read us rest) (read ts js) [] (read_long us ts is js long)
      (sym (map-append (tree_at us) is rest) ∙ ap (read us) (sym taken) ∙ same ∙ sym (append-nil (read ts js)))

taken_below : (n : ℕ) (is left rest : List ℕ) → left ≡ is ++ rest → Below n left → Below n is
taken_below n is left rest e a = front_below n is rest (subst (Below n) e a)

module _ (us ts : List Tree) (n m : ℕ) (left rest : List ℕ) (low : Below n left) where
  pub constant_carried : (d e : ConstDecl) → IsMoved constant_ids blank_constant d left e rest → read us left ≡ read ts (constant_ids d) → (read_constant us e ≡ read_constant ts d) × ConstBelow n e
  constant_carried d e h same = (
    constant_moved us ts e d h.same (taken_read us ts (constant_ids e) (constant_ids d) left rest h.taken same (constant_count e d h.same)),
    constant_below n e (taken_below n (constant_ids e) left rest h.taken low),
  )

  pub macro_carried : (d e : MacroDecl) → MacroBelow m d → IsMoved macro_ids blank_macro d left e rest → read us left ≡ read ts (macro_ids d) → (read_macro us e ≡ read_macro ts d) × MacroBelow n e
  macro_carried d e b h same = (
    macro_moved us ts e d h.same (taken_read us ts (macro_ids e) (macro_ids d) left rest h.taken same (ap suc (params_count e.params d.params (ap (λ (x : MacroDecl). x.params) h.same)))),
    macro_below n e d h.same b.few (taken_below n (macro_ids e) left rest h.taken low),
  )

  pub program_carried : (d e : ProgramDecl) → ProgramBelow m d → IsMoved program_ids blank_program d left e rest → read us left ≡ read ts (program_ids d) → (read_program us e ≡ read_program ts d) × ProgramBelow n e
  program_carried d e b h same = (
    program_moved us ts e d h.same (taken_read us ts (program_ids e) (program_ids d) left rest h.taken same (program_count e d h.same)),
    program_below n e d h.same b.few (taken_below n (program_ids e) left rest h.taken low),
  )

  pub rule_carried : (d e : RuleDecl) → IsMoved rule_ids blank_rule d left e rest → read us left ≡ read ts (rule_ids d) → (read_rule us e ≡ read_rule ts d) × RuleBelow n e
  rule_carried d e h same = (
    rule_moved us ts e d h.same (taken_read us ts (rule_ids e) (rule_ids d) left rest h.taken same (rule_count e d h.same)),
    rule_below n e (taken_below n (rule_ids e) left rest h.taken low),
  )

-- ---- what is taken in a row

pub take_two : (left mid rest is js : List ℕ) → left ≡ is ++ mid → mid ≡ js ++ rest → left ≡ (is ++ js) ++ rest
take_two left mid rest is js p q = p ∙ ap (λ xs. is ++ xs) q ∙ sym (append_assoc is js rest)

-- how many are left
pub taken_long : (left is rest : List ℕ) → left ≡ is ++ rest → length left ≡ length is + length rest
taken_long left is rest e = ap length e ∙ length-append is rest

-- ---- loops over lists

pub zeros : (is js : List ℕ) → length is ≡ length js → blank_ids is ≡ blank_ids js
zeros [] [] e = refl
zeros [] (j ∷ js) e = absurd (omega (arith, e))
zeros (i ∷ is) [] e = absurd (omega (arith, e))
zeros (i ∷ is) (j ∷ js) e = ap (λ (xs : List ℕ). 0 ∷ xs) (zeros is js (omega (arith, e)))

pub zero_pairs : (ps qs : List (ℕ × ℕ)) → length ps ≡ length qs → map blank_pair ps ≡ map blank_pair qs
zero_pairs [] [] e = refl
zero_pairs [] (q ∷ qs) e = absurd (omega (arith, e))
zero_pairs (p ∷ ps) [] e = absurd (omega (arith, e))
zero_pairs (p ∷ ps) (q ∷ qs) e = ap (λ (xs : List (ℕ × ℕ)). (0, 0) ∷ xs) (zero_pairs ps qs (omega (arith, e)))

-- two terms at least are left for the next pair
pub pairs_left : (qs ms : List (ℕ × ℕ)) (left rest : List ℕ) → left ≡ flat_map pair_ids ms ++ rest → length (flat_map pair_ids qs) ≤ length left → length ms < length qs → 2 ≤ length rest
pairs_left qs ms left rest e l h = omega (arith, ap length e ∙ length-append (flat_map pair_ids ms) rest, pairs_count qs, pairs_count ms, l, h)

-- the terms of the next case are left
pub cases_left : (ks ms : List code_case.Case) (i : ℕ) (k : code_case.Case) (left rest : List ℕ) → i < length ks → k ≡ get_or ks i k → map blank_case ms ≡ map blank_case (take i ks) → left ≡ flat_map case_ids ms ++ rest → length (flat_map case_ids ks) ≤ length left → length (case_ids k) ≤ length rest
cases_left ks ms i k left rest l is same e h =
    let before = flat_map case_ids (take i ks) in
    let behind = flat_map case_ids (drop (i + 1) ks) in
    let split : length (flat_map case_ids ks) ≡ length before + length (flat_map case_ids (drop i ks)) =
    ap (λ (xs : List code_case.Case). length (flat_map case_ids xs)) (sym (take-append-drop i ks)) ∙ ap length (flat_map-append case_ids (take i ks) (drop i ks)) ∙ length-append before (flat_map case_ids (drop i ks)) in
    let next : length (flat_map case_ids (drop i ks)) ≡ length (case_ids k) + length behind =
    ap (λ (xs : List code_case.Case). length (flat_map case_ids xs)) (drop_more ks i k l ∙ ap (λ (x : code_case.Case). x ∷ drop (i + 1) ks) (sym is)) ∙ length-append (case_ids k) behind in
    omega (arith, split, next, cases_count ms (take i ks) same, ap length e ∙ length-append (flat_map case_ids ms) rest, h)
