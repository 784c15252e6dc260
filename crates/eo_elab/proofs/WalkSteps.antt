-- The definition of what a term means, one step at a time.
use Rattle.std.proofs.Common.{◌≡◌, ℕ, Bool, true, false, List, [], ◌∷◌, ◌++◌, map, Some, None, refl, sym, ap, ◌∙◌}
use Rattle.std.specs.Prelude.{Ok, Err, not, bytes_eq}
use Rattle.std.specs.List.{list_any}
use Rattle.std.proofs.lemmas.Option.{same_Some}
use Rattle.std.proofs.lemmas.List.{append-nil, append_assoc}
use Rattle.eo_base.specs.Checks.{Checked}
use Rattle.eo_base.specs.declared.FaultName.{FaultName}
use Rattle.eo_base.specs.declared.FaultName.TheVariants.{BadCommand, BadArity, Redeclared}
use Rattle.eo_sexp.specs.AtomKind.{AtomKind}
use Rattle.eo_sexp.specs.AtomKind as kind
use Rattle.eo_sexp.specs.Kinds.{sexp_kind}
use Rattle.eo_sexp.specs.Pairs.{list_of as parts_in, only_two}
use Rattle.eo_sexp.specs.Sexp.{Sexp, Atom, Listed, Sexps, NoSexp, Next, Span, sexps_of, sexp_text}
use Rattle.eo_sig.specs.Reading.{Kept}
use Rattle.eo_term.specs.Tree.{Tree}
use Rattle.eo_term.specs.Terms.{Terms}
use Rattle.eo_elab.specs.Forms.{Parts, application, arguments_for, formed_from, parts_of, all_after, binding_of}
use Rattle.eo_names.specs.declared.usage.Head.{Head}
use Rattle.eo_names.specs.declared.usage.Head.TheVariants as use_
use Rattle.eo_names.specs.Binders.{variable_list, pair_local, variable}
use Rattle.eo_shape.specs.Words.{symbol_of}
use Rattle.eo_names.specs.Contexts.{Context, Local, is_list, Several}
use Rattle.eo_names.specs.Readers.{NamedTerm, Reader, ◌>>=◌, give, go_on, unless, with_named_terms}
use Rattle.eo_elab.specs.Meaning.{ListForm, ALet, AnAnnotation, ABitString, AnApplication, ATermFirst, Wrong, counted_form, atom, meaning, means, means_list, means_all, in_let, in_binder, annotated, label, named_terms_of, pair_list, pairs_after, without_named_terms}
use Rattle.eo_names.specs.Names.{Binding, binding_local, read_locals, read_pairs}
use Rattle.eo_names.specs.declared.scope.Scope.{Scope}
use Rattle.eo_names.specs.Scopes.{bound_in, file_kind_in}
use Rattle.eo_names.specs.Worlds.{World}
use Rattle.eo_elab.specs.Worlds.{place}
use Rattle.eo_names.specs.Laws.{IsInside}
use Rattle.eo_elab.specs.Gives.{atom_told}

module _ (c : Context) (ls : List Local) (named_terms : List NamedTerm) where
  of_atom : (k : AtomKind) (text : List ℕ) (span : Span) → means c ls (Atom k text span) named_terms ≡ with_named_terms named_terms (atom c ls k text)
  unfolding means
  of_atom k text span = refl

  no_parts : (form : ListForm) → means_list c ls form NoSexp named_terms ≡ Err BadArity
  unfolding means_list
  no_parts form = refl

  pub of_nothing : (span : Span) → means c ls (Listed NoSexp span) named_terms ≡ Err BadArity
  unfolding means
  of_nothing span = no_parts (AnApplication (Wrong BadArity))

  by_form : (h : Sexp) (args : Sexps) (form : ListForm) → means_list c ls form (Next h args) named_terms ≡ formed_from c ls args (parts_of c ls h args) form named_terms
  unfolding means_list
  by_form h args ALet = refl
  by_form h args AnAnnotation = refl
  by_form h args (ABitString t) = refl
  by_form h args (AnApplication u) = refl
  by_form h args ATermFirst = refl

  of_counted : (h : Sexp) (args : Sexps) (span : Span) → means c ls (Listed (Next h args) span) named_terms ≡ means_list c ls (counted_form c ls args (symbol_of h)) (Next h args) named_terms
  unfolding means
  of_counted h args span = refl

  pub of_list : (h : Sexp) (args : Sexps) (span : Span) → means c ls (Listed (Next h args) span) named_terms ≡ application c ls args (parts_of c ls h args) (symbol_of h) named_terms
  of_list h args span = of_counted h args span ∙ by_form h args (counted_form c ls args (symbol_of h))

  -- several terms
  pub all_end : (before : List Tree) → all_after before (means_all c ls NoSexp) named_terms ≡ Ok (before, named_terms)
  unfolding means_all
  all_end before = ap (λ ts. Ok (ts, named_terms)) (append-nil before)

  pub all_alone : (r : Reader (List Tree)) → r named_terms ≡ all_after [] r named_terms
  all_alone r = by (r named_terms)
    where
      by : (o : Checked (List Tree × List NamedTerm)) → o ≡ go_on (λ ts. give ([] ++ ts)) o
      by (Ok p) = refl
      by (Err fault) = refl

  all_first : (s : Sexp) (rest : Sexps) → means_all c ls (Next s rest) named_terms ≡ (means c ls s >>= λ t. means_all c ls rest >>= λ ts. give (t ∷ ts)) named_terms
  unfolding means_all
  all_first s rest = refl

  pub all_next : (s : Sexp) (rest : Sexps) (before : List Tree) (t : Tree) (after : List NamedTerm) → means c ls s named_terms ≡ Ok (t, after) → all_after before (means_all c ls (Next s rest)) named_terms ≡ all_after (before ++ t ∷ []) (means_all c ls rest) after
  all_next s rest before t after e =
      ap (go_on (λ ts. give (before ++ ts))) (all_first s rest ∙ ap (go_on (λ u. means_all c ls rest >>= λ ts. give (u ∷ ts))) e) ∙ by (means_all c ls rest after)
    where
      by : (r : Checked (List Tree × List NamedTerm)) → go_on (λ ts. give (before ++ ts)) (go_on (λ ts. give (t ∷ ts)) r) ≡ go_on (λ ts. give ((before ++ t ∷ []) ++ ts)) r
      by (Ok p) = ap (λ ts. Ok (ts, p.1)) (sym (append_assoc before (t ∷ []) p.0))
      by (Err fault) = refl

  pub all_fault : (s : Sexp) (rest : Sexps) (before : List Tree) (fault : FaultName) → means c ls s named_terms ≡ Err fault → all_after before (means_all c ls (Next s rest)) named_terms ≡ Err fault
  all_fault s rest before fault e =
      ap (go_on (λ ts. give (before ++ ts))) (all_first s rest ∙ ap (go_on (λ u. means_all c ls rest >>= λ ts. give (u ∷ ts))) e)

  -- a `let`
  pub let_step : (pairs body : Sexp) → in_let c ls (Next pairs (Next body NoSexp)) named_terms ≡ (pair_list c ls pairs >>= λ ps. means c (map pair_local ps ++ ls) body) named_terms
  unfolding in_let
  let_step pairs body = refl

  pub let_next : (pairs body : Sexp) (ps : List (List ℕ × Tree)) (after : List NamedTerm) → pair_list c ls pairs named_terms ≡ Ok (ps, after) → in_let c ls (Next pairs (Next body NoSexp)) named_terms ≡ means c (map pair_local ps ++ ls) body after
  let_next pairs body ps after e = let_step pairs body ∙ ap (go_on (λ qs. means c (map pair_local qs ++ ls) body)) e

  pub let_fault : (pairs body : Sexp) (fault : FaultName) → pair_list c ls pairs named_terms ≡ Err fault → in_let c ls (Next pairs (Next body NoSexp)) named_terms ≡ Err fault
  let_fault pairs body fault e = let_step pairs body ∙ ap (go_on (λ qs. means c (map pair_local qs ++ ls) body)) e

  pub let_none : in_let c ls NoSexp named_terms ≡ Err BadCommand
  unfolding in_let
  let_none = refl

  pub let_one : (s : Sexp) → in_let c ls (Next s NoSexp) named_terms ≡ Err BadCommand
  unfolding in_let
  let_one s = refl

  pub let_more : (s t u : Sexp) (rest : Sexps) → in_let c ls (Next s (Next t (Next u rest))) named_terms ≡ Err BadCommand
  unfolding in_let
  let_more s t u rest = refl

  pub let_not_two : (xs : List Sexp) → None ≡ only_two xs → in_let c ls (sexps_of xs) named_terms ≡ Err BadCommand
  let_not_two [] e = let_none
  let_not_two (x ∷ []) e = let_one x
  let_not_two (x ∷ y ∷ []) e = cc
  let_not_two (x ∷ y ∷ z ∷ xs) e = let_more x y z (sexps_of xs)

  -- a term with attributes
  pub annotated_step : (s : Sexp) (attributes : Sexps) → annotated c ls (Next s attributes) named_terms ≡ (means c ls s >>= λ t. label c t (named_terms_of c.file_kind attributes)) named_terms
  unfolding annotated
  annotated_step s attributes = refl

  pub annotated_next : (s : Sexp) (attributes : Sexps) (t : Tree) (after : List NamedTerm) → means c ls s named_terms ≡ Ok (t, after) → annotated c ls (Next s attributes) named_terms ≡ label c t (named_terms_of c.file_kind attributes) after
  annotated_next s attributes t after e = annotated_step s attributes ∙ ap (go_on (λ u. label c u (named_terms_of c.file_kind attributes))) e

  pub annotated_fault : (s : Sexp) (attributes : Sexps) (fault : FaultName) → means c ls s named_terms ≡ Err fault → annotated c ls (Next s attributes) named_terms ≡ Err fault
  annotated_fault s attributes fault e = annotated_step s attributes ∙ ap (go_on (λ u. label c u (named_terms_of c.file_kind attributes))) e

  pub annotated_none : annotated c ls NoSexp named_terms ≡ Err BadCommand
  unfolding annotated
  annotated_none = refl

  -- a binder
  abbrev pub bound_rest : Sexps → List (List ℕ × Tree) → Tree → Reader (List Tree)
  bound_rest rest vs first = means_all c (map pair_local vs ++ ls) rest >>= λ others. give (first ∷ others)

  abbrev pub bound_after : Sexps → ℕ → List (List ℕ × Tree) → Reader (List Tree)
  bound_after rest collector ps = variable_list c.signature (is_list ls) collector (map variable ps) >>= bound_rest rest (map variable ps)

  pub binder_step : (pairs : Sexp) (rest : Sexps) (collector : ℕ) → in_binder c ls (Next pairs rest) collector named_terms ≡ (pair_list c ls pairs >>= bound_after rest collector) named_terms
  unfolding in_binder
  binder_step pairs rest collector = refl

  pub binder_next : (pairs : Sexp) (rest : Sexps) (collector : ℕ) (ps : List (List ℕ × Tree)) (first : Tree) (after : List NamedTerm) → pair_list c ls pairs named_terms ≡ Ok (ps, after) → variable_list c.signature (is_list ls) collector (map variable ps) after ≡ Ok (first, after)
      → in_binder c ls (Next pairs rest) collector named_terms ≡ all_after (first ∷ []) (means_all c (map pair_local (map variable ps) ++ ls) rest) after
  binder_next pairs rest collector ps first after e h =
      binder_step pairs rest collector ∙ ap (go_on (bound_after rest collector)) e ∙ ap (go_on (bound_rest rest (map variable ps))) h

  pub binder_pairs_fault : (pairs : Sexp) (rest : Sexps) (collector : ℕ) (fault : FaultName) → pair_list c ls pairs named_terms ≡ Err fault → in_binder c ls (Next pairs rest) collector named_terms ≡ Err fault
  binder_pairs_fault pairs rest collector fault e = binder_step pairs rest collector ∙ ap (go_on (bound_after rest collector)) e

  pub binder_list_fault : (pairs : Sexp) (rest : Sexps) (collector : ℕ) (ps : List (List ℕ × Tree)) (after : List NamedTerm) (fault : FaultName) → pair_list c ls pairs named_terms ≡ Ok (ps, after) → variable_list c.signature (is_list ls) collector (map variable ps) after ≡ Err fault
      → in_binder c ls (Next pairs rest) collector named_terms ≡ Err fault
  binder_list_fault pairs rest collector ps after fault e h =
      binder_step pairs rest collector ∙ ap (go_on (bound_after rest collector)) e ∙ ap (go_on (bound_rest rest (map variable ps))) h

  pub binder_none : (collector : ℕ) → in_binder c ls NoSexp collector named_terms ≡ Err BadCommand
  unfolding in_binder
  binder_none collector = refl

  -- pairs
  pairs_atom : (k : AtomKind) (text : List ℕ) (span : Span) → pair_list c ls (Atom k text span) named_terms ≡ Err BadCommand
  unfolding pair_list
  pairs_atom k text span = refl

  pub pairs_no_list : (s : Sexp) → None ≡ parts_in s → pair_list c ls s named_terms ≡ Err BadCommand
  pairs_no_list (Atom k text span) e = pairs_atom k text span
  pairs_no_list (Listed ss span) e = cc

  pub pairs_listed : (ss : Sexps) (span : Span) → pair_list c ls (Listed ss span) named_terms ≡ pairs_after c ls ss [] named_terms
  unfolding pair_list
  pairs_listed ss span = refl

  pub pairs_end : (before : List (List ℕ × Tree)) → pairs_after c ls NoSexp before named_terms ≡ Ok (before, named_terms)
  unfolding pairs_after
  pairs_end before = refl

  pub pairs_other : (s : Sexp) (rest : Sexps) (before : List (List ℕ × Tree)) → None ≡ binding_of s → pairs_after c ls (Next s rest) before named_terms ≡ Err BadCommand
  unfolding pairs_after
  pairs_other (Atom k text span) rest before e = refl
  pairs_other (Listed NoSexp span) rest before e = refl
  pairs_other (Listed (Next (Listed cs at) ss) span) rest before e = refl
  pairs_other (Listed (Next (Atom k n at) NoSexp) span) rest before e = refl
  pairs_other (Listed (Next (Atom k n at) (Next u NoSexp)) span) rest before e = cc
  pairs_other (Listed (Next (Atom k n at) (Next u (Next v ss))) span) rest before e = refl

  abbrev named_before : List ℕ → List (List ℕ × Tree) → Bool
  named_before name before = list_any (λ (p : List ℕ × Tree). bytes_eq p.0 name) before

  abbrev pair_added : Sexps → List ℕ → List (List ℕ × Tree) → Tree → Reader (List (List ℕ × Tree))
  pair_added rest name before tree = pairs_after c ls rest (before ++ (name, tree) ∷ [])

  abbrev pair_then : Sexps → List ℕ → Sexp → List (List ℕ × Tree) → Bool → Reader (List (List ℕ × Tree))
  pair_then rest name t before b = unless (not b) Redeclared (means c ls t >>= pair_added rest name before)

  pairs_step : (s t : Sexp) (name : List ℕ) (rest : Sexps) (before : List (List ℕ × Tree)) → Some (name, t) ≡ binding_of s → pairs_after c ls (Next s rest) before named_terms ≡ pair_then rest name t before (named_before name before) named_terms
  unfolding pairs_after
  pairs_step (Atom k text span) t name rest before e = cc
  pairs_step (Listed NoSexp span) t name rest before e = cc
  pairs_step (Listed (Next (Listed cs at) ss) span) t name rest before e = cc
  pairs_step (Listed (Next (Atom k n at) NoSexp) span) t name rest before e = cc
  pairs_step (Listed (Next (Atom k n at) (Next u NoSexp)) span) t name rest before e =
      let both = same_Some (name, t) (n, u) e in
      let same_name : n ≡ name = sym (ap (λ (p : List ℕ × Sexp). p.0) both) in
      let same : u ≡ t = sym (ap (λ (p : List ℕ × Sexp). p.1) both) in
      λ i. pair_then rest (same_name i) (same i) before (named_before (same_name i) before) named_terms
  pairs_step (Listed (Next (Atom k n at) (Next u (Next v ss))) span) t name rest before e = cc

  pub pairs_twice : (s t : Sexp) (name : List ℕ) (rest : Sexps) (before : List (List ℕ × Tree)) → Some (name, t) ≡ binding_of s → named_before name before ≡ true → pairs_after c ls (Next s rest) before named_terms ≡ Err Redeclared
  pairs_twice s t name rest before e h = pairs_step s t name rest before e ∙ ap (λ b. pair_then rest name t before b named_terms) h

  pub pairs_next : (s t : Sexp) (name : List ℕ) (rest : Sexps) (before : List (List ℕ × Tree)) (tree : Tree) (after : List NamedTerm) → Some (name, t) ≡ binding_of s → named_before name before ≡ false → means c ls t named_terms ≡ Ok (tree, after)
      → pairs_after c ls (Next s rest) before named_terms ≡ pairs_after c ls rest (before ++ (name, tree) ∷ []) after
  pairs_next s t name rest before tree after e h m =
      pairs_step s t name rest before e ∙ ap (λ b. pair_then rest name t before b named_terms) h ∙ ap (go_on (pair_added rest name before)) m

  pub pairs_fault : (s t : Sexp) (name : List ℕ) (rest : Sexps) (before : List (List ℕ × Tree)) (fault : FaultName) → Some (name, t) ≡ binding_of s → named_before name before ≡ false → means c ls t named_terms ≡ Err fault
      → pairs_after c ls (Next s rest) before named_terms ≡ Err fault
  pairs_fault s t name rest before fault e h m =
      pairs_step s t name rest before e ∙ ap (λ b. pair_then rest name t before b named_terms) h ∙ ap (go_on (pair_added rest name before)) m

-- what names mean inside a `let` or a binder, over a table that has grown
pub world_inside : (k : Kept) (s inner : Scope) (old new : Terms) → place new k s ≡ place old k s → (bs : List Binding) (ps : List (List ℕ × Tree)) → read_pairs new.trees bs ≡ ps → bound_in inner ≡ map binding_local bs ++ bound_in s → IsInside bs (bound_in s)
    → file_kind_in inner ≡ file_kind_in s → place new k inner ≡ record { names = (place old k s).names; locals = map pair_local ps ++ read_locals old.trees (bound_in s) }
world_inside k s inner old new same bs ps e h inside stays =
    let seen : read_locals new.trees (bound_in inner) ≡ map pair_local ps ++ read_locals old.trees (bound_in s) = ap (read_locals new.trees) h ∙ inside.locals new.trees ∙ (λ i. map pair_local (e i) ++ (same i).locals) in
    λ i. record { names = record { signature = (same i).names.signature; macros = (same i).names.macros; file_kind = stays i; naming = Several }; locals = seen i }

pub of_no_list : (w : World) (s : Sexp) (named_terms : List NamedTerm) → None ≡ parts_in s → means w.names w.locals s named_terms ≡ with_named_terms named_terms (atom_told w (sexp_kind s) (sexp_text s))
of_no_list w (Atom kind.Symbol text span) named_terms e = of_atom w.names w.locals named_terms kind.Symbol text span
of_no_list w (Atom kind.Keyword text span) named_terms e = of_atom w.names w.locals named_terms kind.Keyword text span
of_no_list w (Atom kind.Literal text span) named_terms e = of_atom w.names w.locals named_terms kind.Literal text span
of_no_list w (Atom kind.String text span) named_terms e = of_atom w.names w.locals named_terms kind.String text span
of_no_list w (Listed ss span) named_terms e = cc

left_out : (o : Checked Tree) → without_named_terms (with_named_terms [] o) ≡ o
left_out (Ok t) = refl
left_out (Err fault) = refl

-- what an atom means outside of an assertion
pub meaning_of_atom : (w : World) (s : Sexp) → None ≡ parts_in s → meaning w.names w.locals s ≡ atom_told w (sexp_kind s) (sexp_text s)
unfolding meaning
meaning_of_atom w s e = ap without_named_terms (of_no_list w s [] e) ∙ left_out (atom_told w (sexp_kind s) (sexp_text s))

-- arguments of what is no binder
pub no_binder : (parts : Parts) (u : Head) → ((binder collector : ℕ) → u ≡ use_.Bind binder collector → ⊥) → arguments_for parts u ≡ parts.arguments
no_binder parts (use_.Bind binder collector) differs = absurd (differs binder collector refl)
no_binder parts u differs = refl
