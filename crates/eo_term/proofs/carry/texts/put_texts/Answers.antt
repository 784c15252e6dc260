use Rattle.std.proofs.Common.{◌≡◌, ℕ, ◌<◌, Bool, false, List, ◌∷◌, ◌++◌, length, drop, get_or, if◌then◌else◌, sym, ap, ◌∙◌, arith}
use Rattle.eo_term.specs.Carry.{chosen, texts_of}
use Rattle.eo_term.proofs.KeptTexts.{put_step, put_absent, put_room, put_end}
use Rattle.eo_term.proofs.carry.texts.put_texts.Goals as goal

pub loop-text-init : goal.loop-text-init
loop-text-init c =
    let left : c.into_iter-text-iterator.result ≡ c.args.newer.keys = cc in
    record {
      long = omega (arith, ap length left, c.requires.long);
      all = ap (λ ks. texts_of c.args.texts.now.keys ++ chosen c.args.needed.now (texts_of ks)) left;
      room = c.requires.room;
    }

pub is_marked-requires : goal.is_marked-requires
is_marked-requires c = omega (arith, ap length c.in-Some.ensures.steps, c.loop-text.invariant.long)

pub put_needed-requires-clause-absent : goal.put_needed-requires-clause-absent
put_needed-requires-clause-absent c = λ t.
    let needed = c.args.needed.now in
    let at : ℕ = c.loop-text.at in
    let b : Bool = c.is_marked.result in
    let l : at < length needed = omega (arith, ap length c.in-Some.ensures.steps, c.loop-text.invariant.long) in
    let is : b ≡ get_or needed at false = c.is_marked.ensures in
    let xs : List (List ℕ) = texts_of c.loop-text.texts.keys in
    let ws : List (List ℕ) = texts_of c.next.new.self in
    let x : List ℕ = c.in-Some.text.items in
    let all : List (List ℕ) = texts_of c.args.texts.now.keys ++ chosen needed (texts_of c.args.newer.keys) in
    let e : xs ++ chosen (drop at needed) (x ∷ ws) ≡ all = ap (λ ks. xs ++ chosen (drop at needed) (texts_of ks)) (sym c.in-Some.ensures.steps) ∙ c.loop-text.invariant.all in
    put_absent needed at b l is xs ws all x c.requires.apart e t

pub put_needed-requires-clause-room : goal.put_needed-requires-clause-room
put_needed-requires-clause-room c = λ t.
    let needed = c.args.needed.now in
    let at : ℕ = c.loop-text.at in
    let b : Bool = c.is_marked.result in
    let l : at < length needed = omega (arith, ap length c.in-Some.ensures.steps, c.loop-text.invariant.long) in
    let is : b ≡ get_or needed at false = c.is_marked.ensures in
    omega (arith, put_room needed at b l is, ap {B = ℕ} (λ (k : Bool). if k then 1 else 0) t, c.loop-text.invariant.room)

pub loop-text-preserved : goal.loop-text-preserved
loop-text-preserved c =
    let needed = c.args.needed.now in
    let at : ℕ = c.loop-text.at in
    let b : Bool = c.is_marked.result in
    let l : at < length needed = omega (arith, ap length c.in-Some.ensures.steps, c.loop-text.invariant.long) in
    let is : b ≡ get_or needed at false = c.is_marked.ensures in
    let xs : List (List ℕ) = texts_of c.loop-text.texts.keys in
    let ys : List (List ℕ) = texts_of c.put_needed.new.texts.keys in
    let ws : List (List ℕ) = texts_of c.next.new.self in
    let x : List ℕ = c.in-Some.text.items in
    let all : List (List ℕ) = texts_of c.args.texts.now.keys ++ chosen needed (texts_of c.args.newer.keys) in
    let e : xs ++ chosen (drop at needed) (x ∷ ws) ≡ all = ap (λ ks. xs ++ chosen (drop at needed) (texts_of ks)) (sym c.in-Some.ensures.steps) ∙ c.loop-text.invariant.all in
    record {
      long = omega (arith, ap length c.in-Some.ensures.steps, c.loop-text.invariant.long);
      all = put_step needed at b l is xs ys ws all x e c.put_needed.ensures.texts;
      room = omega (arith, put_room needed at b l is, c.loop-text.invariant.room, c.put_needed.ensures.room);
    }

pub returns : goal.returns
returns c =
    let needed = c.args.needed.now in
    let xs : List (List ℕ) = texts_of c.loop-text.texts.keys in
    let all : List (List ℕ) = texts_of c.args.texts.now.keys ++ chosen needed (texts_of c.args.newer.keys) in
    put_end needed c.loop-text.at xs all (ap (λ ks. xs ++ chosen (drop c.loop-text.at needed) (texts_of ks)) (sym c.in-None.ensures.steps.0) ∙ c.loop-text.invariant.all)
