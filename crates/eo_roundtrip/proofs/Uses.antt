-- What lists of parts mean, where what the parts mean is known.
use Rattle.std.specs.Prelude.{◌≡◌, refl, ℕ, suc, ◌+◌, ◌≤◌, Bool, true, false, nat_le, List, [], ◌∷◌, map, length, if◌then◌else◌, Some, Ok, All}
use Rattle.std.proofs.Common.{sym, ◌∙◌, ap, subst}
use Rattle.std.proofs.lemmas.Bool.{le-leb}
use Rattle.std.proofs.lemmas.List.Elements.{All-head, All-tail}
use Rattle.eo_base.specs.Limits.{height_limit}
use Rattle.eo_base.specs.Checks.{Checked}
use Rattle.eo_base.specs.declared.FaultName.TheVariants.{BadArity}
use Rattle.eo_term.specs.Tree.{Tree, height, is_tall}
use Rattle.eo_sexp.specs.Sexp.{Sexp, Next, sexps_of}
use Rattle.eo_sexp.specs.Printing.{printed, placed, placed_others}
use Rattle.eo_sig.specs.Signature.{Signature, Macro}
use Rattle.eo_names.specs.Contexts.{Context, InProof, Several}
use Rattle.eo_names.specs.Meanings.{meant_before, word_of}
use Rattle.eo_names.specs.Readers.{NamedTerm, Reader}
use Rattle.eo_elab.specs.Meaning.{count, Wrong, Uses, list_form, head_form, word_form, used, means, means_list, means_all, in_binder, AnApplication}
use Rattle.eo_show.specs.Forms.{symbol, list}
use Rattle.eo_roundtrip.proofs.Stands.{Stands, AllStand, low}

-- names mean what they do after some macros in a signature or a proof
abbrev pub context_of : Signature → List Macro → Context
context_of S macros = record { signature = S; macros = macros; file_kind = InProof; naming = Several }

module _ (S : Signature) (macros : List Macro) where
  abbrev c : Context
  c = context_of S macros

  -- An s-expression means a tree that represents a value, at each place.
  pub record Reads (s : Sexp) (t : Tree) : Type 0 where
    pub tree : Tree
    pub stands : Stands S tree t
    pub is : (at : ℕ) (named_terms : List NamedTerm) → means c [] (placed at s) named_terms ≡ Ok (tree, named_terms)

  pub record AllRead (ss : List Sexp) (ts : List Tree) : Type 0 where
    pub trees : List Tree
    pub stand : AllStand S trees ts
    pub are : (at : ℕ) (named_terms : List NamedTerm) → means_all c [] (placed_others at (sexps_of ss)) named_terms ≡ Ok (trees, named_terms)

  none-read : AllRead [] []
  unfolding means_all
  none-read = record { trees = []; stand = tt; are = λ at named_terms. refl }

  one-more : (s : Sexp) (ss : List Sexp) (t : Tree) (ts : List Tree) → Reads s t → AllRead ss ts → AllRead (s ∷ ss) (t ∷ ts)
  unfolding means_all
  one-more s ss t ts first rest =
      record {
        trees = first.tree ∷ rest.trees;
        stand = (first.stands, rest.stand);
        are = λ at named_terms. rw (first.is (suc at) named_terms, rest.are (suc at + length (printed s)) named_terms) refl;
      }

  pub all-read : (part : Tree → Sexp) (ts : List Tree) → All (λ p. Reads (part p) p) ts → AllRead (map part ts) ts
  all-read part [] all = none-read
  all-read part (t ∷ ts) all = one-more (part t) (map part ts) t ts (All-head (λ p. Reads (part p) p) t ts all) (all-read part ts (All-tail (λ p. Reads (part p) p) t ts all))

  pub count-placed : (at : ℕ) (ss : List Sexp) → count (placed_others at (sexps_of ss)) ≡ length ss
  count-placed at [] = refl
  count-placed at (s ∷ ss) = ap suc (count-placed (suc at + length (printed s)) ss)

  -- ---- applications

  -- what is made of the arguments, where each of them is read
  used-uses : (made : List Tree → Checked Tree) (arguments : Reader (List Tree)) (others : ℕ → Reader (List Tree)) (named_terms : List NamedTerm) (ms : List Tree) (m : Tree) →
      arguments named_terms ≡ Ok (ms, named_terms) → made ms ≡ Ok m → is_tall m ≡ false → used (Uses made) arguments others named_terms ≡ Ok (m, named_terms)
  used-uses made arguments others named_terms ms m e f few = rw (e, f, few) refl

  -- a list whose head is a symbol, with what is made of its arguments
  pub list-reads : (word : List ℕ) (ss : List Sexp) (ts : List Tree) (made : List Tree → Checked Tree) (t : Tree) (all : AllRead ss ts) (m : Tree) → 1 ≤ length ss →
      ((at : ℕ) → word_form c [] (placed_others at (sexps_of ss)) (word_of InProof word) (meant_before c (count (placed_others at (sexps_of ss))) [] word) ≡ AnApplication (Uses made)) →
      made all.trees ≡ Ok m → Stands S m t → height t ≤ height_limit → Reads (list (symbol word ∷ ss)) t
  unfolding means means_list
  list-reads word ss ts made t all m some form is stands few =
      record {
        tree = m;
        stands = stands;
        is = λ at named_terms.
            let behind = suc at + length (printed (symbol word)) in
            let args = placed_others behind (sexps_of ss) in
            let head = placed (suc at) (symbol word) in
            let many : nat_le 1 (count args) ≡ true = ap (nat_le 1) (count-placed behind ss) ∙ le-leb 1 (length ss) some in
            let shape : list_form c [] (Next head args) ≡ AnApplication (Uses made) =
            ap (λ (b : Bool). if b then head_form c [] args (Some word) else AnApplication (Wrong BadArity)) many ∙ form behind in
            ap (λ f. means_list c [] f (Next head args) named_terms) shape
            ∙ used-uses made (means_all c [] args) (in_binder c [] args) named_terms all.trees m (all.are behind named_terms) is (low m (subst (λ n. n ≤ height_limit) (sym stands.tall) few));
      }
