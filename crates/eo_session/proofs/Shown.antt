-- What is decided stays so where the table has grown, and what is seen of it.
use Rattle.std.proofs.Common.{◌≡◌, refl, ℕ, ◌<◌, Bool, true, false, List, [], ◌∷◌, ◌++◌, length, All, sym, ap, subst, ◌∙◌, arith}
use Rattle.std.specs.Prelude.{slice_get, Ok, Err, Result, IfErr}
use Rattle.std.specs.Result.{IsErrAnd}
use Rattle.std.proofs.Math.Path.{transport}
use Rattle.std.proofs.lemmas.List.Elements.{All-nil, All-cons, All-head, All-weaker}
use Rattle.std.proofs.lemmas.Option.{same_Some}
use Rattle.eo_base.specs.declared.Place.{Place}
use Rattle.eo_elab.specs.Fitting.{macro_is_bound}
use Rattle.eo_names.specs.Names.{Binding}
use Rattle.eo_proof.specs.Scopes.{depth, scope_limit, is_live}
use Rattle.eo_sexp.specs.Sexp.{Sexp}
use Rattle.eo_shape.specs.Shapes.{Command, command_of}
use Rattle.eo_sig.specs.Adding.{EntryIsFree, EntryIsOrdered, entry_fault}
use Rattle.eo_sig.specs.Growth.{StaysSince}
use Rattle.eo_sig.specs.Reading.{Kept, EntryBelow, MacroBelow, IsBelow, IsFree, read_entry, read_macro}
use Rattle.eo_sig.specs.Signature.{SignatureEntry, IsConstant, IsProgram, IsRule, IsLiteralType, Macro, Parameter, are_ordered}
use Rattle.eo_sig.specs.declared.records.Declared.{Declared}
use Rattle.eo_sig.specs.declared.records.Declared.TheVariants as declared
use Rattle.eo_sig.specs.declared.records.MacroDecl.{MacroDecl}
use Rattle.eo_term.specs.Growth.{Grows}
use Rattle.eo_term.specs.Terms.{Terms, Since}
use Rattle.eo_term.specs.Tree.{Tree}
use Rattle.eo_session.specs.Asserting.{MayBeNames}
use Rattle.eo_session.specs.Deciding.{MayCommit, read_effect}
use Rattle.eo_session.specs.Decisions.{placed_decision}
use Rattle.eo_session.specs.Effects.{Effect, Declares, Asserts, Defines, Opens, Adds, closed_if}
use Rattle.eo_session.specs.Store.{Keeps}
use Rattle.eo_session.specs.Origin.{Origin}
use Rattle.eo_session.specs.Notes.{seen_by, shown, shown_by}
use Rattle.eo_session.specs.Noting.{UnlessMemory}
use Rattle.eo_session.specs.State.{State, is_in_scope}
use Rattle.eo_session.specs.Step.{is_in_reference, is_free_fact}
use Rattle.eo_session.specs.declared.effects.Effect as code
use Rattle.eo_session.specs.declared.effects.Effect.TheVariants as effect
use Rattle.eo_session.specs.declared.store.Store.{Store}
use Rattle.eo_session.specs.declared.refused.Refused.{Refused}
use Rattle.eo_session.specs.declared.refused.Refused.TheVariants as refused
use Rattle.eo_session.proofs.Assertions.{named_terms_later}
use Rattle.eo_session.proofs.Sessions.{value_later}

-- ---- one declaration, as what alone is kept

module _ (stays : (k : Kept) → StaysSince k) (old new : Terms) (since : Since old new) where
  module _ (d : Declared) (below : EntryBelow (length old.trees) d) where
    abbrev alone : Kept
    alone = record { entries = d ∷ []; macros = [] }

    alone_below : IsBelow (length old.trees) alone
    alone_below = record { entries = All-cons (EntryBelow (length old.trees)) d [] below (All-nil (EntryBelow (length old.trees))); macros = All-nil (MacroBelow (length old.trees)) }

    pub entry_later : read_entry new.trees d ≡ read_entry old.trees d
    entry_later = same_Some (read_entry new.trees d) (read_entry old.trees d) (ap (λ (es : List SignatureEntry). slice_get es 0) (stays alone old new alone_below since).signature)

    pub entry_below : EntryBelow (length new.trees) d
    entry_below = All-head (EntryBelow (length new.trees)) d [] (stays alone old new alone_below since).below.entries

  -- and one macro
  module _ (d : MacroDecl) (below : MacroBelow (length old.trees) d) where
    abbrev lone : Kept
    lone = record { entries = []; macros = d ∷ [] }

    lone_below : IsBelow (length old.trees) lone
    lone_below = record { entries = All-nil (EntryBelow (length old.trees)); macros = All-cons (MacroBelow (length old.trees)) d [] below (All-nil (MacroBelow (length old.trees))) }

    pub macro_later : read_macro new.trees d ≡ read_macro old.trees d
    macro_later = same_Some (read_macro new.trees d) (read_macro old.trees d) (ap (λ (ms : List Macro). slice_get ms 0) (stays lone old new lone_below since).macros)

    pub macro_below : MacroBelow (length new.trees) d
    macro_below = All-head (MacroBelow (length new.trees)) d [] (stays lone old new lone_below since).below.macros

-- the parameters of a rule
abbrev parameters_of : SignatureEntry → List Parameter
parameters_of (IsConstant c n) = []
parameters_of (IsProgram p) = []
parameters_of (IsRule r) = r.parameters
parameters_of (IsLiteralType class t) = []

ordered_later : (ts us : List Tree) (d : Declared) → read_entry us d ≡ read_entry ts d → EntryIsOrdered ts d → EntryIsOrdered us d
ordered_later ts us (declared.Const d n) same h = tt
ordered_later ts us (declared.Program d) same h = tt
ordered_later ts us (declared.Rule d) same h = ap (λ (e : SignatureEntry). are_ordered 0 (parameters_of e)) same ∙ h
ordered_later ts us (declared.Literal class t) same h = tt

-- ---- effects

module _ (stays : (k : Kept) → StaysSince k) (h : Store) where
  pub effect-same : (e : code.Effect) → MayCommit h e → (t : Terms) → Grows h.table t → read_effect t e ≡ read_effect h.table e
  effect-same (effect.Declare d) may t grows = ap Declares (entry_later stays h.table t grows.now d may.below)
  effect-same (effect.Define d) may t grows = ap Defines (macro_later stays h.table t grows.now d may.below)
  effect-same (effect.Assert i names) may t grows = (λ j. Asserts (grows.now.tree i may.live j) (named_terms_later h.table t grows names may.below j))
  effect-same (effect.Open name i) may t grows = ap (Opens name.now) (grows.now.tree i may.value.live)
  effect-same (effect.Add name k closes) may t grows = (λ j. Adds name.now (record { formula = grows.now.tree k.formula may.value.live j; sorry = k.sorry }) closes)
  effect-same effect.Nothing may t grows = refl

  pub effect-stays : (new : Store) → Keeps h new → (e : code.Effect) → MayCommit h e → MayCommit new e
  effect-stays new keeps (effect.Declare d) may =
      let same = entry_later stays h.table new.table keeps.grows.now d may.below in
      record {
        below = entry_below stays h.table new.table keeps.grows.now d may.below;
        free = subst (λ (k : Kept). EntryIsFree k d) (sym keeps.signature) may.free;
        sound = (λ j. entry_fault (keeps.same j).signature (same j)) ∙ may.sound;
        ordered = ordered_later h.table.trees new.table.trees d same may.ordered;
        outside = ap is_in_scope keeps.same ∙ may.outside;
      }
  effect-stays new keeps (effect.Define d) may = record {
    below = macro_below stays h.table new.table keeps.grows.now d may.below;
    free = subst (λ (k : Kept). IsFree k d.name) (sym keeps.signature) may.free;
    bound = ap macro_is_bound (macro_later stays h.table new.table keeps.grows.now d may.below) ∙ may.bound;
  }
  effect-stays new keeps (effect.Assert i names) may = record {
    live = omega (arith, may.live, keeps.grows.now.more_trees);
    below = All-weaker (λ (b : Binding). b.1 < length h.table.trees) (λ (b : Binding). b.1 < length new.table.trees) (λ b l. omega (arith, l, keeps.grows.now.more_trees)) names may.below;
    new = transport (λ j. MayBeNames (sym keeps.same j) (sym (named_terms_later h.table new.table keeps.grows names may.below) j)) may.new;
    outside = ap is_in_scope keeps.same ∙ may.outside;
  }
  effect-stays new keeps (effect.Open name i) may = record {
    value = value_later h.table new.table i keeps.grows may.value;
    few = subst (λ (z : State). depth z.scopes < scope_limit) (sym keeps.same) may.few;
    free = subst (λ (z : State). is_live z.scopes name.now ≡ false) (sym keeps.same) may.free;
  }
  effect-stays new keeps (effect.Add name k closes) may = record {
    value = value_later h.table new.table k.formula keeps.grows may.value;
    free = subst (λ (z : State). is_free_fact (closed_if closes z) name.now ≡ true) (sym keeps.same) may.free;
  }
  effect-stays new keeps effect.Nothing may = tt

-- ---- what is seen

-- what holds, holds unless memory failed
pub always_unless : (x : Refused) (P : Type 0) → P → UnlessMemory x P
always_unless (refused.Fault name) P p = p
always_unless refused.Ended P p = p
always_unless (refused.Memory e) P p = tt

-- what a `?` returns before anything is seen
pub unseen_exit : {A : Type 0} (r : Result A Refused) (x : Refused) (P : Type 0) → IsErrAnd r (λ y. y ≡ x) → P → IfErr r (λ e. UnlessMemory e P)
unseen_exit (Ok a) x P h p = absurd h
unseen_exit (Err e) x P h p = always_unless e P p

-- what is seen of a command by its s-expression
pub shown_is : (st : State) (from : Origin) (bytes : List ℕ) (place : Place) (s : Sexp) (b : Bool) → b ≡ is_in_reference from → (k : Command) → command_of b s ≡ Ok k
    → seen_by st from bytes place k (placed_decision st from k) ≡ shown st from bytes place s
unfolding shown
shown_is st from bytes place s b e k h = sym (ap (λ c. shown_by st from bytes place (command_of c s)) (sym e) ∙ ap (shown_by st from bytes place) h)
