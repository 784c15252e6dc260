-- What calls give, said in another way.
use Rattle.std.proofs.Common.{◌≡◌, ℕ, ◌<◌, Bool, Option, true, false, List, [], ◌∷◌, length, map, refl, ap, sym, subst, ◌∙◌, arith}
use Rattle.std.specs.Prelude.{Result, Ok, Err, not, slice_get, IfOk}
use Rattle.std.specs.Result.{IsErrAnd}
use Rattle.std.proofs.lemmas.List.Elements.{All-head, All-tail, All-weaker}
use Rattle.std.proofs.lemmas.List.{take_all}
use Rattle.eo_base.specs.declared.FaultName.{FaultName}
use Rattle.eo_base.specs.declared.FaultName.TheVariants.{TermHeight}
use Rattle.eo_base.specs.Answers.{Gives, Tells}
use Rattle.eo_base.specs.Checks.{Checked}
use Rattle.eo_base.proofs.Answering.{tells_on, tells_through}
use Rattle.eo_sexp.specs.Sexp.{Sexp, Sexps, Next}
use Rattle.eo_sig.specs.Reading.{Kept}
use Rattle.eo_term.specs.Tree.{Tree, Con, Op, to_trees, is_tall}
use Rattle.eo_term.specs.Terms.{Terms, Since, tree_at}
use Rattle.eo_names.specs.declared.refused.ElabRefused.{ElabRefused}
use Rattle.eo_elab.specs.declared.plan.Form.{Form}
use Rattle.eo_names.specs.declared.usage.Head.{Head}
use Rattle.eo_names.specs.Gives.{GivesTree, GivesTerm as GivesNone}
use Rattle.eo_elab.specs.Gives.{GivesTerm, GivesNamedTerms, AddsPair, IsFormed, IsUsed, NamesGrow, world_at}
use Rattle.eo_names.specs.Binders.{variable_list}
use Rattle.eo_names.specs.Contexts.{Context, FileKind, Local, is_list}
use Rattle.eo_names.specs.Folding.{applied, folded, plainly, arrow}
use Rattle.eo_names.specs.Usage.{made_of, UseBelow}
use Rattle.eo_names.specs.declared.usage.Head.TheVariants as use_
use Rattle.eo_pattern.specs.Matching.{put}
use Rattle.eo_sig.specs.Signature.{Signature}
use Rattle.eo_elab.specs.Forms.{Parts}
use Rattle.eo_elab.specs.Meaning.{without_named_terms}
use Rattle.eo_names.specs.Readers.{NamedTerm, Reader, ◌>>=◌, with_named_terms, read, built, unless, give}
use Rattle.eo_names.specs.Names.{Binding, BindingsBelow, read_pairs}
use Rattle.eo_names.specs.Refused.{told}
use Rattle.eo_names.specs.Worlds.{World, Read}
use Rattle.eo_names.specs.declared.scope.Scope.{Scope}
use Rattle.eo_names.specs.Scopes.{bound_in, file_kind_in}
use Rattle.eo_names.specs.Laws.{WorldStays}
use Rattle.eo_elab.specs.Worlds.{place, in_file_kind, named_terms_in, more_pairs_in}

-- the exit of a `?` refuses a pair for the same fault
pub adds_fault : (w : World) (old new : Terms) (given gives : List Binding) (pair : Sexp) (before after : List Binding) (r : Result (Unit {0}) ElabRefused) (e : ElabRefused) → IsErrAnd r (λ x. x ≡ e)
    → ((rest : Sexps) → Tells told e (more_pairs_in w (Next pair rest) (read_pairs old.trees before) (named_terms_in old given))) → AddsPair w old new given gives pair before after r
adds_fault w old new given gives pair before after (Ok a) e q h = absurd q
adds_fault w old new given gives pair before after (Err x) e q h = subst (λ y. (rest : Sexps) → Tells told y (more_pairs_in w (Next pair rest) (read_pairs old.trees before) (named_terms_in old given))) (sym q) h

pub unlabelled : (t : Terms) (ls : List Binding) (r : Result ℕ ElabRefused) (o : Read Tree) (p : Checked Tree) → p ≡ without_named_terms o → GivesTerm t ls r o → GivesTree t r p
unlabelled t ls (Ok i) o p same h = record { live = h.live; is = same ∙ ap without_named_terms h.is }
unlabelled t ls (Err e) o p same h = tells_on told e p o (λ f q. same ∙ ap without_named_terms q) h

-- what has no label, read with them
pub labelled : (t : Terms) (ls : List Binding) (named_terms : List NamedTerm) → named_terms_in t ls ≡ named_terms → (r : Result ℕ ElabRefused) (o : Checked Tree) → GivesTree t r o → GivesTerm t ls r (with_named_terms named_terms o)
labelled t ls named_terms same (Ok i) o h = record { live = h.live; is = ap (with_named_terms named_terms) h.is ∙ ap (λ l. Ok (tree_at t.trees i, l)) (sym same) }
labelled t ls named_terms same (Err e) o h = tells_through told (with_named_terms named_terms) (λ x. refl) e o h

-- what was read with no label, read with them
abbrev pub relabelled : {A : Type 0} → List NamedTerm → Checked (A × List NamedTerm) → Checked (A × List NamedTerm)
relabelled named_terms (Ok r) = Ok (r.0, named_terms)
relabelled named_terms (Err fault) = Err fault

pub with_them : (t : Terms) (ls : List Binding) (named_terms : List NamedTerm) → named_terms_in t ls ≡ named_terms → (r : Result ℕ ElabRefused) (o : Read Tree) → GivesNone t r o → GivesTerm t ls r (relabelled named_terms o)
with_them t ls named_terms same (Ok i) o h = record { live = h.live; is = ap (relabelled named_terms) h.is ∙ ap (λ l. Ok (tree_at t.trees i, l)) (sym same) }
with_them t ls named_terms same (Err e) o h = tells_through told (relabelled named_terms) (λ x. refl) e o h

built_named_terms : (t : Tree) (named_terms : List NamedTerm) → built t named_terms ≡ relabelled named_terms (built t [])
built_named_terms t named_terms = by (not (is_tall t))
  where
    by : (b : Bool) → unless b TermHeight (give t) named_terms ≡ relabelled named_terms (unless b TermHeight (give t) [])
    by true = refl
    by false = refl

read_named_terms : (o : Checked Tree) (named_terms : List NamedTerm) → (read o >>= built) named_terms ≡ relabelled named_terms ((read o >>= built) [])
read_named_terms (Ok t) named_terms = built_named_terms t named_terms
read_named_terms (Err fault) named_terms = refl

pub made_named_terms : (ts : List Tree) (c : Context) (ls : List Local) (u : Head) (args : List Tree) (named_terms : List NamedTerm) → made_of ts c ls u args named_terms ≡ relabelled named_terms (made_of ts c ls u args [])
made_named_terms ts c ls (use_.Apply f) args named_terms = built_named_terms (applied (tree_at ts f) args) named_terms
made_named_terms ts c ls use_.Underscore args named_terms = built_named_terms (plainly args) named_terms
made_named_terms ts c ls use_.Arrow args named_terms = built_named_terms (arrow args) named_terms
made_named_terms ts c ls (use_.Fold k) args named_terms = read_named_terms (folded c.signature (is_list ls) k args) named_terms
made_named_terms ts c ls (use_.Bind binder collector) args named_terms = built_named_terms (applied (Con binder) args) named_terms
made_named_terms ts c ls (use_.Macro tree) args named_terms = built_named_terms (put (slice_get args) (tree_at ts tree)) named_terms
made_named_terms ts c ls (use_.Operator code) args named_terms = built_named_terms (Op code (to_trees args)) named_terms

pub list_named_terms : (S : Signature) (is_list : Tree → Bool) (collector : ℕ) (vs : List (List ℕ × Tree)) (named_terms : List NamedTerm) → variable_list S is_list collector vs named_terms ≡ relabelled named_terms (variable_list S is_list collector vs [])
list_named_terms S is_list collector vs named_terms = read_named_terms (folded S is_list collector (map (λ v. v.1) vs)) named_terms

-- what is made of arguments does not depend on the kind of file
pub made_anywhere : (ts : List Tree) (c : Context) (x : FileKind) (ls : List Local) (u : Head) (args : List Tree) → made_of ts (record { signature = c.signature; macros = c.macros; file_kind = x; naming = c.naming }) ls u args ≡ made_of ts c ls u args
made_anywhere ts c x ls (use_.Apply f) args = refl
made_anywhere ts c x ls use_.Underscore args = refl
made_anywhere ts c x ls use_.Arrow args = refl
made_anywhere ts c x ls (use_.Fold k) args = refl
made_anywhere ts c x ls (use_.Bind binder collector) args = refl
made_anywhere ts c x ls (use_.Macro tree) args = refl
made_anywhere ts c x ls (use_.Operator code) args = refl

-- names mean the same where the table grows
pub named_terms_grown : (old new : Terms) (bs : List Binding) → BindingsBelow (length old.trees) bs → Since old new → named_terms_in new bs ≡ named_terms_in old bs
named_terms_grown old new [] h g = refl
named_terms_grown old new (b ∷ bs) h g =
    λ i. record { name = b.0; tree = g.tree b.1 (All-head (λ (c : Binding). c.1 < length old.trees) b bs h) i } ∷ named_terms_grown old new bs (All-tail (λ (c : Binding). c.1 < length old.trees) b bs h) g i

pub names_stay : (old new : Terms) (bs : List Binding) → BindingsBelow (length old.trees) bs → Since old new → NamesGrow new bs bs
names_stay old new bs h g = record {
  below = All-weaker (λ (b : Binding). b.1 < length old.trees) (λ (b : Binding). b.1 < length new.trees) (λ b k. omega (arith, k, g.more_trees)) bs h;
  now = take_all (length bs) bs (omega arith);
  since = λ first e. e;
}

pub names_same : (t : Terms) (bs : List Binding) → BindingsBelow (length t.trees) bs → NamesGrow t bs bs
names_same t bs h = record { below = h; now = take_all (length bs) bs (omega arith); since = λ first e. e }

pub names_join : (t u : Terms) (a b c : List Binding) → NamesGrow t a b → NamesGrow u b c → NamesGrow u a c
names_join t u a b c h k = record { below = k.below; now = k.since a h.now; since = λ first e. k.since first (h.since first e) }

-- the exit of a `?` refuses names for the same fault
pub named_terms_fault : (t : Terms) (after : List Binding) (i : ℕ) (r : Result (Unit {0}) ElabRefused) (o : Read Tree) (e : ElabRefused) → IsErrAnd r (λ x. x ≡ e) → Tells told e o → GivesNamedTerms t after i r o
named_terms_fault t after i (Ok a) o e q h = absurd q
named_terms_fault t after i (Err x) o e q h = subst (λ y. Tells told y o) (sym q) h

-- names mean the same in every kind of file
pub place_stays : (s : Scope) (k : Kept) (old new : Terms) → WorldStays k (bound_in s) old new → place new k s ≡ place old k s
place_stays s k old new h = ap (in_file_kind (file_kind_in s)) h.world

-- what a list is, and how a head uses its arguments
module _ (w : World) (t : Terms) (args : List Sexp) where
  pub formed_fault : (r : Result Form ElabRefused) (o : Parts → Reader Tree) (e : ElabRefused) → IsErrAnd r (λ x. x ≡ e) → ((parts : Parts) (named_terms : List NamedTerm) → Tells told e (o parts named_terms)) → IsFormed w t args r o
  formed_fault (Ok f) o e q h = absurd q
  formed_fault (Err x) o e q h = subst (λ y. (parts : Parts) (named_terms : List NamedTerm) → Tells told y (o parts named_terms)) (sym q) h

  pub formed_on : (r : Result Form ElabRefused) (o p : Parts → Reader Tree) → ((parts : Parts) (named_terms : List NamedTerm) → o parts named_terms ≡ p parts named_terms) → IsFormed w t args r p → IsFormed w t args r o
  formed_on (Ok f) o p same h = λ parts named_terms. same parts named_terms ∙ h parts named_terms
  formed_on (Err e) o p same h = λ parts named_terms. tells_on told e (o parts named_terms) (p parts named_terms) (λ f q. same parts named_terms ∙ q) (h parts named_terms)

pub used_on : (c : Context) (ts : List Tree) (r : Result Head ElabRefused) (o p : World → Parts → Reader Tree) → ((x : FileKind) (ls : List Local) (parts : Parts) (named_terms : List NamedTerm) → o (world_at x c ls) parts named_terms ≡ p (world_at x c ls) parts named_terms) → IsUsed c ts r p → IsUsed c ts r o
used_on c ts (Ok u) o p same h = λ x ls parts named_terms. same x ls parts named_terms ∙ h x ls parts named_terms
used_on c ts (Err e) o p same h = λ x ls parts named_terms. tells_on told e (o (world_at x c ls) parts named_terms) (p (world_at x c ls) parts named_terms) (λ f q. same x ls parts named_terms ∙ q) (h x ls parts named_terms)

-- what is returned is there
pub given_there : {A B E : Type 0} (told : E → Option FaultName) (There : A → Type 0) (read : A → B) (r : Result A E) (o : Checked B) → Gives told There read r o → IfOk r There
given_there told There read (Ok a) o h = h.live
given_there told There read (Err e) o h = tt

-- the terms of a use are there where the table grows
pub use_more : (old new : Terms) (u : Head) → Since old new → UseBelow (length old.trees) u → UseBelow (length new.trees) u
use_more old new (use_.Apply f) g h = omega (arith, h, g.more_trees)
use_more old new use_.Underscore g h = tt
use_more old new use_.Arrow g h = tt
use_more old new (use_.Fold k) g h = tt
use_more old new (use_.Bind binder collector) g h = tt
use_more old new (use_.Macro tree) g h = omega (arith, h, g.more_trees)
use_more old new (use_.Operator code) g h = tt
