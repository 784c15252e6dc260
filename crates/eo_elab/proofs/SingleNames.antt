-- Where no two constants have one name, terms mean the same whether a name may have several constants or one.
use Rattle.std.specs.Prelude.{◌≡◌, ℕ, Bool, true, false, not, nat_le, if◌then◌else◌, List, [], ◌∷◌, ◌++◌, map, Option, Some, None, bytes_eq, Err, refl}
use Rattle.std.specs.List.{list_any}
use Rattle.std.proofs.Common.{ap, ◌∙◌}
use Rattle.eo_base.specs.declared.FaultName.{FaultName}
use Rattle.eo_base.specs.declared.FaultName.TheVariants.{BadArity, Redeclared}
use Rattle.eo_sexp.specs.AtomKind.{AtomKind}
use Rattle.eo_sexp.specs.AtomKind as kind
use Rattle.eo_sexp.specs.Sexp.{Sexp, Atom, Listed, Sexps, NoSexp, Next}
use Rattle.eo_shape.specs.Words.{symbol_of}
use Rattle.eo_sig.specs.Signature.{Signature, Macro, Attribute, Binder, Named, NamesConstant, NamesMacro, NamesProgram, lookup}
use Rattle.eo_sig.proofs.Single.{IsSingle, single_lookup}
use Rattle.eo_term.specs.declared.OpName.{OpName}
use Rattle.eo_term.specs.Operators.{operator_named}
use Rattle.eo_term.specs.Tree.{Tree, Con}
use Rattle.eo_names.specs.Binders.{pair_local, variable, variable_list}
use Rattle.eo_names.specs.Contexts.{FileKind, Several, One, Context, Local, is_list, local_named}
use Rattle.eo_names.specs.Folding.{attribute_at, applied}
use Rattle.eo_names.specs.Meanings.{Resolved, ATree, AMacro, AnOperator, Nothing, local_meant, operator_meant, meant, meant_before, Word, Underscore, Arrow, Let, Annotation, Name, word_of}
use Rattle.eo_names.specs.Readers.{NamedTerm, Reader, go_on, ◌>>=◌, give, with_named_terms, read, unless, built}
use Rattle.eo_elab.specs.Meaning.{count, atom, word_alone, Application, Wrong, Binds, Uses, ListForm, ALet, AnAnnotation, ABitString, AnApplication, ATermFirst, constant_use, tree_use, meant_use, underscore_form, word_form, head_form, counted_form, list_form, used, is_free_named_term, label, named_terms_of, means, means_list, means_all, in_let, in_binder, pair_list, pairs_after, annotated, without_named_terms, meaning}

-- ---- readings

abbrev pub Alike : {A : Type 0} → Reader A → Reader A → Type 0
Alike m n = (named_terms : List NamedTerm) → m named_terms ≡ n named_terms

bind_alike : {A B : Type 0} (m n : Reader A) (f g : A → Reader B) → Alike m n → ((x : A) → Alike (f x) (g x)) → Alike (m >>= f) (n >>= g)
bind_alike m n f g h k named_terms = λ i. go_on (λ x l. k x l i) (h named_terms i)

unless_alike : {A : Type 0} (b : Bool) (fault : FaultName) (m n : Reader A) → Alike m n → Alike (unless b fault m) (unless b fault n)
unless_alike true fault m n h named_terms = h named_terms
unless_alike false fault m n h named_terms = refl

used_alike : (u : Application) (m n : Reader (List Tree)) (p q : ℕ → Reader (List Tree)) → Alike m n → ((c : ℕ) → Alike (p c) (q c)) → Alike (used u m p) (used u n q)
used_alike (Wrong fault) m n p q h k named_terms = refl
used_alike (Binds f c) m n p q h k named_terms = bind_alike (p c) (q c) (λ ts. built (applied (Con f) ts)) (λ ts. built (applied (Con f) ts)) (k c) (λ ts l. refl) named_terms
used_alike (Uses made) m n p q h k named_terms = bind_alike m n (λ ts. read (made ts) >>= built) (λ ts. read (made ts) >>= built) h (λ ts l. refl) named_terms

module _ (S : Signature) (ms : List Macro) (file_kind : FileKind) (f : FaultName) (single : IsSingle S) where
  -- what names mean where a name may have several constants, and where it has one
  abbrev several : Context
  several = record { signature = S; macros = ms; file_kind = file_kind; naming = Several }

  abbrev one : Context
  one = record { signature = S; macros = ms; file_kind = file_kind; naming = One f }

  -- ---- names

  named_same : (o : Option OpName) (l : Option Tree) (n : Option Named) → operator_meant several o (local_meant several l n) ≡ operator_meant one o (local_meant one l n)
  named_same (Some o) l n = refl
  named_same None (Some t) n = refl
  named_same None None None = refl
  named_same None None (Some (NamesConstant k)) = refl
  named_same None None (Some (NamesMacro k)) = refl
  named_same None None (Some (NamesProgram k)) = refl

  meant_same : (locals : List Local) (name : List ℕ) → meant several locals name ≡ meant one locals name
  meant_same locals name = named_same (operator_named name) (local_named locals name) (lookup S ms name)

  before_same : (n : ℕ) (locals : List Local) (name : List ℕ) → meant_before several n locals name ≡ meant_before one n locals name
  before_same n locals name =
      ap (λ o. operator_meant several (operator_named name) (local_meant several (local_named locals name) o)) (single_lookup S ms name n single)
      ∙ named_same (operator_named name) (local_named locals name) (lookup S ms name)

  atom_same : (locals : List Local) (k : AtomKind) (text : List ℕ) → atom several locals k text ≡ atom one locals k text
  unfolding atom
  atom_same locals kind.Symbol text = ap (word_alone (word_of file_kind text)) (meant_same locals text)
  atom_same locals kind.Literal text = refl
  atom_same locals kind.String text = refl
  atom_same locals kind.Keyword text = refl

  -- ---- forms of lists

  module _ (locals : List Local) (args : Sexps) where
    constant_same : (k : ℕ) (a : Attribute) → constant_use several locals args k a ≡ constant_use one locals args k a
    constant_same k (Binder c) = refl
    constant_same k a = refl

    tree_same : (t : Tree) → tree_use several locals args t ≡ tree_use one locals args t
    tree_same (Con k) = constant_same k (attribute_at S k)
    tree_same t = refl

    use_same : (m : Resolved) → meant_use several locals args m ≡ meant_use one locals args m
    use_same (ATree t) = tree_same t
    use_same (AMacro m) = refl
    use_same (AnOperator code arity) = refl
    use_same Nothing = refl

    underscore_same : (o : Option Tree) → underscore_form several locals args o ≡ underscore_form one locals args o
    underscore_same (Some t) = refl
    underscore_same None = refl

    word_same : (w : Word) (m : Resolved) → word_form several locals args w m ≡ word_form one locals args w m
    word_same Underscore m = underscore_same _
    word_same Arrow m = refl
    word_same Let m = refl
    word_same Annotation m = refl
    word_same Name m = ap (λ u. AnApplication u) (use_same m)

    head_same : (word : Option (List ℕ)) → head_form several locals args word ≡ head_form one locals args word
    head_same None = refl
    head_same (Some name) =
        ap (word_form several locals args (word_of file_kind name)) (before_same (count args) locals name)
        ∙ word_same (word_of file_kind name) (meant_before one (count args) locals name)

    counted_same : (word : Option (List ℕ)) → counted_form several locals args word ≡ counted_form one locals args word
    counted_same word = ap (λ (form : ListForm). if nat_le 1 (count args) then form else AnApplication (Wrong BadArity)) (head_same word)

  form_same : (locals : List Local) (ss : Sexps) → list_form several locals ss ≡ list_form one locals ss
  form_same locals NoSexp = refl
  form_same locals (Next h args) = counted_same locals args (symbol_of h)

  named_term_same : (t : Tree) (names : List (List ℕ)) → Alike (label several t names) (label one t names)
  named_term_same t [] named_terms = refl
  named_term_same t (name ∷ names) named_terms =
      λ i. if is_free_named_term several named_terms name then named_term_same t names (named_terms ++ record { name = name; tree = t } ∷ []) i else Err Redeclared

  -- ---- terms

  mutual
    unfolding means

    pub means_same : (locals : List Local) (s : Sexp) → Alike (means several locals s) (means one locals s)
    means_same locals (Atom k text span) named_terms = ap (with_named_terms named_terms) (atom_same locals k text)
    means_same locals (Listed ss span) named_terms =
        ap (λ form. means_list several locals form ss named_terms) (form_same locals ss) ∙ list_same locals (list_form one locals ss) ss named_terms

    list_same : (locals : List Local) (form : ListForm) (ss : Sexps) → Alike (means_list several locals form ss) (means_list one locals form ss)
    list_same locals form NoSexp named_terms = refl
    list_same locals ALet (Next h args) named_terms = let_same locals args named_terms
    list_same locals AnAnnotation (Next h args) named_terms = annotated_same locals args named_terms
    list_same locals (ABitString t) (Next h args) named_terms = refl
    list_same locals (AnApplication u) (Next h args) named_terms =
        used_alike u (means_all several locals args) (means_all one locals args) (in_binder several locals args) (in_binder one locals args)
        (all_same locals args) (λ k. binder_same locals args k) named_terms
    list_same locals ATermFirst (Next h args) named_terms =
        bind_alike (means several locals h) (means one locals h)
        (λ t. used (tree_use several locals args t) (means_all several locals args) (in_binder several locals args))
        (λ t. used (tree_use one locals args t) (means_all one locals args) (in_binder one locals args))
        (means_same locals h)
        (λ t l. ap (λ u. used u (means_all several locals args) (in_binder several locals args) l) (tree_same locals args t)
        ∙ used_alike (tree_use one locals args t) (means_all several locals args) (means_all one locals args) (in_binder several locals args) (in_binder one locals args)
        (all_same locals args) (λ k. binder_same locals args k) l) named_terms

    all_same : (locals : List Local) (args : Sexps) → Alike (means_all several locals args) (means_all one locals args)
    all_same locals NoSexp named_terms = refl
    all_same locals (Next s rest) named_terms =
        bind_alike (means several locals s) (means one locals s)
        (λ t. means_all several locals rest >>= λ ts. give (t ∷ ts)) (λ t. means_all one locals rest >>= λ ts. give (t ∷ ts))
        (means_same locals s)
        (λ t. bind_alike (means_all several locals rest) (means_all one locals rest) (λ ts. give (t ∷ ts)) (λ ts. give (t ∷ ts)) (all_same locals rest) (λ ts l. refl)) named_terms

    let_same : (locals : List Local) (args : Sexps) → Alike (in_let several locals args) (in_let one locals args)
    let_same locals (Next pairs (Next body NoSexp)) named_terms =
        bind_alike (pair_list several locals pairs) (pair_list one locals pairs)
        (λ ps. means several (map pair_local ps ++ locals) body) (λ ps. means one (map pair_local ps ++ locals) body)
        (pair_list_same locals pairs) (λ ps. means_same (map pair_local ps ++ locals) body) named_terms
    let_same locals args named_terms = refl

    binder_same : (locals : List Local) (args : Sexps) (k : ℕ) → Alike (in_binder several locals args k) (in_binder one locals args k)
    binder_same locals (Next pairs rest) k named_terms =
        bind_alike (pair_list several locals pairs) (pair_list one locals pairs)
        (λ ps. variable_list S (is_list locals) k (map variable ps) >>= λ first. means_all several (map pair_local (map variable ps) ++ locals) rest >>= λ others. give (first ∷ others))
        (λ ps. variable_list S (is_list locals) k (map variable ps) >>= λ first. means_all one (map pair_local (map variable ps) ++ locals) rest >>= λ others. give (first ∷ others))
        (pair_list_same locals pairs)
        (λ ps. bind_alike (variable_list S (is_list locals) k (map variable ps)) (variable_list S (is_list locals) k (map variable ps))
        (λ first. means_all several (map pair_local (map variable ps) ++ locals) rest >>= λ others. give (first ∷ others))
        (λ first. means_all one (map pair_local (map variable ps) ++ locals) rest >>= λ others. give (first ∷ others))
        (λ l. refl)
        (λ first. bind_alike (means_all several (map pair_local (map variable ps) ++ locals) rest) (means_all one (map pair_local (map variable ps) ++ locals) rest)
        (λ others. give (first ∷ others)) (λ others. give (first ∷ others)) (all_same (map pair_local (map variable ps) ++ locals) rest) (λ others l. refl))) named_terms
    binder_same locals NoSexp k named_terms = refl

    pair_list_same : (locals : List Local) (s : Sexp) → Alike (pair_list several locals s) (pair_list one locals s)
    pair_list_same locals (Listed pairs span) named_terms = pairs_same locals pairs [] named_terms
    pair_list_same locals (Atom k text span) named_terms = refl

    pairs_same : (locals : List Local) (pairs : Sexps) (before : List (List ℕ × Tree)) → Alike (pairs_after several locals pairs before) (pairs_after one locals pairs before)
    pairs_same locals NoSexp before named_terms = refl
    pairs_same locals (Next (Listed (Next (Atom k name at) (Next t NoSexp)) span) rest) before named_terms =
        unless_alike (not (list_any (λ p. bytes_eq p.0 name) before)) Redeclared
        (means several locals t >>= λ tree. pairs_after several locals rest (before ++ (name, tree) ∷ []))
        (means one locals t >>= λ tree. pairs_after one locals rest (before ++ (name, tree) ∷ []))
        (bind_alike (means several locals t) (means one locals t)
        (λ tree. pairs_after several locals rest (before ++ (name, tree) ∷ [])) (λ tree. pairs_after one locals rest (before ++ (name, tree) ∷ []))
        (means_same locals t) (λ tree. pairs_same locals rest (before ++ (name, tree) ∷ []))) named_terms
    pairs_same locals pairs before named_terms = refl

    annotated_same : (locals : List Local) (args : Sexps) → Alike (annotated several locals args) (annotated one locals args)
    annotated_same locals (Next t attributes) named_terms =
        bind_alike (means several locals t) (means one locals t)
        (λ tree. label several tree (named_terms_of file_kind attributes)) (λ tree. label one tree (named_terms_of file_kind attributes))
        (means_same locals t) (λ tree. named_term_same tree (named_terms_of file_kind attributes)) named_terms
    annotated_same locals NoSexp named_terms = refl

  pub meaning_same : (locals : List Local) (s : Sexp) → meaning several locals s ≡ meaning one locals s
  unfolding meaning
  meaning_same locals s = ap without_named_terms (means_same locals s [])
