-- A piece that is fed a byte at a time.
use Rattle.std.proofs.Common.{◌≡◌, refl, ℕ, ◌+◌, ◌≤◌, Bool, false, List, [], ◌∷◌, ◌++◌, length, length-drop, take, drop, sym, ap, ◌∙◌, append_assoc, append-nil, subst, arith}
use Rattle.std.specs.Prelude.{Option}
use Rattle.std.proofs.lemmas.List.{drop-append-le, take-append-le}
use Rattle.eo_base.specs.declared.FaultName.TheVariants.{CommandLong}
use Rattle.eo_base.specs.Limits.{limits}
use Rattle.eo_sexp.specs.Spot.{Spot}
use Rattle.eo_sexp.specs.declared.incremental.State.{State}
use Rattle.eo_sexp.specs.declared.incremental.State.TheVariants as state
use Rattle.eo_sexp.specs.declared.incremental.Machine.{Machine}
use Rattle.eo_sexp.specs.Sexp.{Sexp}
use Rattle.eo_sexp.specs.Built.{Built, nothing}
use Rattle.eo_sexp.specs.Reader.{held}
use Rattle.eo_sexp.specs.Lexicon.{pass}
use Rattle.eo_sexp.specs.Commands.{Cut, at_most, front, sexp, command}
use Rattle.eo_sexp.specs.Texts.{Next, Command, End, Fault, SoFar, Known, More, strip, answer, so_far, known, begins_pair, from_front, placed, spot_after}
use Rattle.eo_sexp.specs.Collecting.{Collecting, Within, AtCommand, Failed, NoMemory, IsWithin, becomes, waiting, on_more, fed_from}
use Rattle.eo_sexp.specs.Machine.{phase_of, meaning_at, meaning, IsFirst, IsProofStart, IsPairFact, IsBegun, IsSoundAt, IsSound}
use Rattle.eo_sexp.proofs.LimitFacts.{some_nesting}
use Rattle.eo_sexp.proofs.Answered.{answer-extends}
use Rattle.eo_sexp.proofs.Bounds.{IsIn, HasBounds, answer-bounds}
use Rattle.eo_sexp.proofs.Feeding.{state_of}
use Rattle.eo_sexp.proofs.ReaderSteps.{reader-cut}
use Rattle.eo_sexp.proofs.TokenTurns.{at_most-cut}
use Rattle.eo_sexp.proofs.FedBytes.{begun, fed-first, on-cut, unsat-cut}
use Rattle.eo_sexp.proofs.MachineSteps.{pair-off, begun-meaning}
use Rattle.eo_sexp.proofs.Wrappings.{stripped-none}

-- ---- an answer stays, whatever follows

placed-first : (s : Spot) (bytes more : List ℕ) (c : Sexp) (from size : ℕ) → from + size ≤ length bytes → placed s (bytes ++ more) c from size ≡ placed s bytes c from size
unfolding placed
placed-first s bytes more c from size fits =
    ap (λ bs. record { sexp = c; bytes = take size (drop from (bytes ++ more)); start = spot_after s bs }) (take-append-le from bytes more (omega arith))
    ∙ ap (λ bs. record { sexp = c; bytes = take size bs; start = spot_after s (take from bytes) }) (drop-append-le from bytes more (omega arith))
    ∙ ap (λ bs. record { sexp = c; bytes = bs; start = spot_after s (take from bytes) }) (take-append-le size (drop from bytes) more (omega (arith, length-drop from bytes)))

becomes-more : (start : Spot) (bytes more : List ℕ) (w v : Collecting) (n : Next) → IsIn (length bytes) n → becomes start (bytes ++ more) w n ≡ becomes start bytes v n
unfolding becomes
becomes-more start bytes more w v (Command c from size phase) h = ap (λ k. AtCommand k phase) (placed-first start bytes more c from size h.0)
becomes-more start bytes more w v End h = absurd h
becomes-more start bytes more w v (Fault name at) h = ap (λ bs. Failed name (spot_after start bs)) (take-append-le at bytes more h)

pub fed-stays : (c : Collecting) (p q : List ℕ) → (IsWithin (fed_from limits c p) → ⊥) → fed_from limits c (p ++ q) ≡ fed_from limits c p
unfolding fed_from on_more waiting so_far state_of
fed-stays (AtCommand k phase) p q n = refl
fed-stays (Failed name at) p q n = refl
fed-stays NoMemory p q n = refl
fed-stays (Within phase comment start b) p q n = go (answer limits (strip limits phase comment (record { at = 0; bytes = b ++ p }))) refl n
  where
    go : (a : SoFar) → answer limits (strip limits phase comment (record { at = 0; bytes = b ++ p })) ≡ a →
        (IsWithin (on_more start (b ++ p) (strip limits phase comment (record { at = 0; bytes = b ++ p })) (answer limits (strip limits phase comment (record { at = 0; bytes = b ++ p })))) → ⊥) →
        state_of limits start (b ++ (p ++ q)) (strip limits phase comment (record { at = 0; bytes = b ++ (p ++ q) }))
        ≡ on_more start (b ++ p) (strip limits phase comment (record { at = 0; bytes = b ++ p })) (answer limits (strip limits phase comment (record { at = 0; bytes = b ++ p })))
    go (More e) f w = absurd (w (subst (λ a. IsWithin (on_more start (b ++ p) (strip limits phase comment (record { at = 0; bytes = b ++ p })) a)) (sym f) tt))
    go (Known n) f w =
        let on = answer-extends limits some_nesting phase comment 0 (b ++ p) q n f in
        let bound : IsIn (length (b ++ p)) n = subst (HasBounds (length (b ++ p))) f (answer-bounds limits phase comment (b ++ p)) in
        ap (λ bs. state_of limits start bs (strip limits phase comment (record { at = 0; bytes = bs }))) (sym (append_assoc b p q))
        ∙ ap (on_more start ((b ++ p) ++ q) (strip limits phase comment (record { at = 0; bytes = (b ++ p) ++ q }))) on.1
        ∙ becomes-more start (b ++ p) q _ (waiting start (b ++ p) (strip limits phase comment (record { at = 0; bytes = b ++ p }))) n bound
        ∙ ap (on_more start (b ++ p) (strip limits phase comment (record { at = 0; bytes = b ++ p }))) (sym f)

-- ---- nothing fed changes nothing

first-some : (b : List ℕ) → IsFirst (front b) → (y : ℕ) × (zs : List ℕ) × (b ≡ y ∷ zs)
unfolding front
first-some [] h = absurd h
first-some (y ∷ zs) h = (y, zs, refl)

-- the command begun is not whole
pub begun-cut : (m : Machine) → IsBegun m → (e : Option Sexp) × (sexp limits (front m.begun.bytes) (record { at = 0; bytes = m.begun.bytes }) ≡ Cut e) × (command limits m.begun.bytes ≡ Cut e)
unfolding command
begun-cut m h =
    let r = reader-cut limits (held m.begun m.reader) (length m.begun.bytes) h.reader in
    let s : sexp limits (front m.begun.bytes) (record { at = 0; bytes = m.begun.bytes }) ≡ Cut r.0 =
    ap (λ bs. sexp limits (front m.begun.bytes) (record { at = 0; bytes = bs })) (sym (append-nil m.begun.bytes)) ∙ h.reads [] ∙ r.1 in
    (r.0, s, ap (at_most CommandLong limits.command (record { at = 0; bytes = m.begun.bytes })) s ∙ at_most-cut CommandLong limits.command (record { at = 0; bytes = m.begun.bytes }) r.0 h.short)

idle-begun : (m : Machine) → IsBegun m → IsPairFact m.state (phase_of m.phase) m.begun.bytes → fed_from limits (meaning m) [] ≡ meaning m
unfolding front
idle-begun m h p =
    let c = begun-cut m h in
    ap (λ v. fed_from limits v []) (begun-meaning m.state (phase_of m.phase) m.begun.bytes (phase_of m.phase) m.start m.begun p)
    ∙ go m.begun.bytes refl h.first (pair-off m.state (phase_of m.phase) m.begun.bytes p) c.2
    ∙ on-cut limits (phase_of m.phase) m.start m.begun.bytes c.0
    ∙ sym (begun-meaning m.state (phase_of m.phase) m.begun.bytes (phase_of m.phase) m.start m.begun p)
  where
    go : (bytes : List ℕ) → m.begun.bytes ≡ bytes → IsFirst (front bytes) → (IsProofStart (phase_of m.phase) → begins_pair limits (record { at = 0; bytes = bytes }) ≡ false) →
        command limits bytes ≡ Cut (begun-cut m h).0 →
        fed_from limits (Within (phase_of m.phase) false m.start m.begun.bytes) [] ≡ on_more m.start bytes (begun (phase_of m.phase) bytes) (known (phase_of m.phase) (record { at = 0; bytes = bytes }) (Cut (begun-cut m h).0))
    go [] e f o c = absurd f
    go (y ∷ zs) e f o c = fed-first limits y zs f (phase_of m.phase) m.start m.begun.bytes [] (Cut (begun-cut m h).0) (append-nil m.begun.bytes ∙ e) h.inside o c (λ q. unsat-cut limits (y ∷ zs) (begun-cut m h).0)

idle-between : (m : Machine) (c : Bool) → m.begun ≡ nothing → fed_from limits (Within (phase_of m.phase) c m.start m.begun.bytes) [] ≡ Within (phase_of m.phase) c m.start m.begun.bytes
unfolding fed_from strip pass on_more answer from_front waiting spot_after state_of
idle-between m c b =
    ap (λ (v : Built). fed_from limits (Within (phase_of m.phase) c m.start v.bytes) []) b
    ∙ ap (state_of limits m.start []) (stripped-none limits (phase_of m.phase) c 0)
    ∙ ap (λ (v : Built). Within (phase_of m.phase) c m.start v.bytes) (sym b)

pub idle : (m : Machine) → IsSound m → IsWithin (meaning m) → fed_from limits (meaning m) [] ≡ meaning m
idle m s w = go m.state refl s w
  where
    go : (q : State) → m.state ≡ q → IsSoundAt q m → IsWithin (meaning_at q (phase_of m.phase) m.start m.begun) →
        fed_from limits (meaning m) [] ≡ meaning m
    go (state.Between c) e s w =
        ap (λ q. fed_from limits (meaning_at q (phase_of m.phase) m.start m.begun) []) e ∙ idle-between m c s.0 ∙ sym (ap (λ q. meaning_at q (phase_of m.phase) m.start m.begun) e)
    go state.Begun e s w = idle-begun m s.0 s.1
    go (state.Pair c) e s w = idle-begun m s.0 s.1
    go state.Command e s w = absurd w
    go (state.Failed name at) e s w = absurd w
    go state.NoMemory e s w = absurd w
