-- What waits for the meaning of a term, and what it makes of it.
use Rattle.std.specs.Prelude.{◌≡◌, ℕ, ◌+◌, ◌*◌, ◌<◌, ◌≤◌, false, List, [], ◌∷◌, ◌++◌, map, length, drop, reverse, All, Result, Ok, Err}
use Rattle.eo_base.specs.Answers.{Tells}
use Rattle.eo_sexp.specs.Sexp.{Sexp}
use Rattle.eo_sexp.specs.Sizes.{size, size_of_all}
use Rattle.eo_sig.specs.Reading.{Kept}
use Rattle.eo_term.specs.Tree.{Tree, Con}
use Rattle.eo_term.specs.Terms.{Terms, tree_at}
use Rattle.eo_term.specs.Growth.{tree_in, trees_in}
use Rattle.eo_names.specs.Binders.{pair_local, variable, variable_list}
use Rattle.eo_names.specs.Contexts.{is_list}
use Rattle.eo_names.specs.Folding.{applied}
use Rattle.eo_names.specs.Names.{Binding, read_pairs, BindingsBelow, bound_by, names_in}
use Rattle.eo_names.specs.Readers.{NamedTerm, Reader, ◌>>=◌, give, go_on, built}
use Rattle.eo_names.specs.Ready.{IsReady}
use Rattle.eo_names.specs.Refused.{told}
use Rattle.eo_names.specs.Scopes.{bound_in, file_kind_in}
use Rattle.eo_names.specs.Usage.{made_of, UseBelow, Suits}
use Rattle.eo_names.specs.Worlds.{World, Read, world_of}
use Rattle.eo_names.specs.declared.refused.ElabRefused.{ElabRefused}
use Rattle.eo_names.specs.declared.scope.Scope.{Scope}
use Rattle.eo_names.specs.declared.usage.Head.{Head}
use Rattle.eo_elab.specs.Meaning.{means, means_all, in_binder, tree_use, used, label, named_terms_of}
use Rattle.eo_elab.specs.Worlds.{sexps, in_file_kind, named_terms_in, term_in, all_in, pairs_in, more_pairs_in}
use Rattle.eo_elab.specs.declared.waiting.Frame.{Frame}
use Rattle.eo_elab.specs.declared.waiting.Frame.TheVariants as frame
use Rattle.eo_elab.specs.declared.waiting.Next.{Next}
use Rattle.eo_elab.specs.declared.waiting.Next.TheVariants as next
use Rattle.eo_elab.specs.declared.waiting.Now.{Now}
use Rattle.eo_elab.specs.declared.waiting.Now.TheVariants as now

-- what each `let` and binder around a place binds, the innermost first
abbrev pub Blocks : Type 0
Blocks = List (List Binding)

-- what names mean inside of these
abbrev pub inside : Terms → Kept → Scope → Blocks → World
inside t k s blocks = in_file_kind (file_kind_in s) (world_of t k (bound_by blocks ++ bound_in s))

-- the list of a binder's variables, and then its other arguments
abbrev pub bound_list : World → ℕ → List Sexp → List (List ℕ × Tree) → Reader (List Tree)
bound_list w collector others vs =
    variable_list w.names.signature (is_list w.locals) collector vs >>= λ first.
    means_all w.names (map pair_local vs ++ w.locals) (sexps others) >>= λ ts. give (first ∷ ts)

-- what is made of the names of pairs with the meanings beside them
abbrev pub with_names : World → Next → List (List ℕ × Tree) → Reader Tree
with_names w (next.Body s) ps = means w.names (map pair_local ps ++ w.locals) s
with_names w (next.Others binder collector others) ps = bound_list w collector others (map variable ps) >>= λ ts. built (applied (Con binder) ts)

-- arguments after those that are given, and what is made of all
abbrev pub arguments_after : World → List Tree → Head → List Tree → List Sexp → Reader Tree
arguments_after w ts u before rest = all_in w before rest >>= made_of ts w.names w.locals u

-- pairs after those that are given, and what is made of all
abbrev pub pairs_then : World → Next → List (List ℕ × Tree) → List Sexp → Reader Tree
pairs_then w n before rest = more_pairs_in w (sexps rest) before >>= with_names w n

-- what is made of a head and its arguments
abbrev pub headed_by : World → List Sexp → Tree → Reader Tree
headed_by w args f = used (tree_use w.names w.locals (sexps args) f) (means_all w.names w.locals (sexps args)) (in_binder w.names w.locals (sexps args))

-- what is made of the meaning that something waited for
abbrev pub resumed : World → List Tree → Frame → Tree → Reader Tree
resumed w ts (frame.Head args) f = headed_by w args f
resumed w ts (frame.Argument u before rest) t = arguments_after w ts u (map (tree_at ts) before ++ t ∷ []) rest
resumed w ts (frame.Beside b) t = pairs_then w b.value.next (read_pairs ts b.value.before ++ (b.value.name.now, t) ∷ []) b.value.rest
resumed w ts (frame.Annotated attributes) t = label w.names t (named_terms_of w.names.file_kind (sexps attributes))
resumed w ts frame.Inner t = give t

-- what is around where this no longer waits
abbrev pub around : Frame → Blocks → Blocks
around frame.Inner blocks = drop 1 blocks
around (frame.Head args) blocks = blocks
around (frame.Argument u before rest) blocks = blocks
around (frame.Beside b) blocks = blocks
around (frame.Annotated attributes) blocks = blocks

abbrev pub around_all : List Frame → Blocks → Blocks
around_all [] blocks = blocks
around_all (f ∷ fs) blocks = around_all fs (around f blocks)

module _ (k : Kept) (s : Scope) (t : Terms) where
  -- what is read, given to what waits, the innermost first, until nothing waits
  abbrev pub finished : Blocks → List Frame → Read Tree → Read Tree
  finished blocks [] r = r
  finished blocks (f ∷ fs) r = finished (around f blocks) fs (go_on (resumed (inside t k s blocks) t.trees f) r)

  -- what is read next, or is there
  abbrev pub reads : Blocks → List Binding → Now → Read Tree
  reads blocks named_terms (now.Read x) = term_in (inside t k s blocks) x (named_terms_in t named_terms)
  reads blocks named_terms (now.Give i) = Ok (tree_in t i, named_terms_in t named_terms)

-- the terms are there
abbrev pub NowBelow : ℕ → Now → Type 0
NowBelow n (now.Read x) = Unit {0}
NowBelow n (now.Give i) = i < n

abbrev pub FrameBelow : ℕ → Frame → Type 0
FrameBelow n (frame.Head args) = 1 ≤ length args
FrameBelow n (frame.Argument u before rest) = All (λ i. i < n) before × (UseBelow n u × Suits u (length before + 1 + length rest))
FrameBelow n (frame.Beside b) = BindingsBelow n b.value.before × (names_in b.value.before b.value.name.now ≡ false)
FrameBelow n (frame.Annotated attributes) = Unit {0}
FrameBelow n frame.Inner = Unit {0}

abbrev pub FramesBelow : ℕ → List Frame → Type 0
FramesBelow n [] = Unit {0}
FramesBelow n (f ∷ fs) = FrameBelow n f × FramesBelow n fs

-- how much is left to read
abbrev pub weight_next : Next → ℕ
weight_next (next.Body s) = 4 * size s
weight_next (next.Others binder collector others) = 4 * size_of_all others + 1

abbrev pub weight : Frame → ℕ
weight (frame.Head args) = 4 * size_of_all args + 1
weight (frame.Argument u before rest) = 4 * size_of_all rest + 1
weight (frame.Beside b) = 4 * size_of_all b.value.rest + weight_next b.value.next + 1
weight (frame.Annotated attributes) = 1
weight frame.Inner = 1

abbrev pub weights : List Frame → ℕ
weights [] = 0
weights (f ∷ fs) = weight f + weights fs

abbrev pub weight_now : Now → ℕ
weight_now (now.Read s) = 4 * size s
weight_now (now.Give i) = 1

-- Reading goes on: what waits now is what waited before and more in front of it, and what is read next, given to these, is what was to be read. Of that no more is left than so much.
pub record GoesOn (k : Kept) (s : Scope) (t : Terms) (named_terms : List Binding) (blocks inner : Blocks) (before after : List Frame) (most : ℕ) (n : Now) (r : Read Tree) : Type 0 where
  pub more : List Frame
  pub waits : reverse after ≡ more ++ reverse before
  pub left : around_all more inner ≡ blocks
  pub live : FramesBelow (length t.trees) more
  pub ready : IsReady (length t.trees) k (bound_by inner ++ bound_in s)
  pub given : NowBelow (length t.trees) n
  pub is : r ≡ finished k s t inner more (reads k s t inner named_terms n)
  pub less : weights more + weight_now n ≤ most

-- it goes on, or ends with the fault of what was to be read
abbrev pub Goes : Kept → Scope → Terms → List Binding → (blocks inner : Blocks) → (before after : List Frame) → ℕ → Result Now ElabRefused → Read Tree → Type 0
Goes k s t named_terms blocks inner before after most (Ok n) r = GoesOn k s t named_terms blocks inner before after most n r
Goes k s t named_terms blocks inner before after most (Err e) r = Tells told e r

-- More terms are read: what is left, after those that are read, makes what all make.
pub record IsReadOn (w : World) (old new : Terms) (before after : List ℕ) (terms left : List Sexp) : Type 0 where
  pub live : All (λ i. i < length new.trees) after
  pub count : length after + length left ≡ length before + length terms
  pub less : size_of_all left ≤ size_of_all terms
  pub is : (named_terms : List NamedTerm) → all_in w (trees_in old before) terms named_terms ≡ all_in w (trees_in new after) left named_terms

-- they are, or there is the fault of the whole
abbrev pub ReadsOn : World → (old new : Terms) → (before after : List ℕ) → List Sexp → Result (List Sexp) ElabRefused → Type 0
ReadsOn w old new before after terms (Ok left) = IsReadOn w old new before after terms left
ReadsOn w old new before after terms (Err e) = (named_terms : List NamedTerm) → Tells told e (all_in w (trees_in old before) terms named_terms)

-- what is made of arguments that are all there
abbrev pub used_by : World → List Tree → Head → List Tree → Reader Tree
used_by w ts u args = made_of ts w.names w.locals u args

-- pairs from the first one on
abbrev pub pairs_first : World → Next → Sexp → Reader Tree
pairs_first w n s = pairs_in w s >>= with_names w n
