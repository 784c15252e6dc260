-- What a buffer represents, as it grows.
use Rattle.std.proofs.Common.{◌≡◌, refl, ℕ, suc, ◌+◌, ◌-◌, ◌<◌, ◌≤◌, Bool, true, false, List, [], ◌∷◌, ◌++◌, take, drop, length, length-append, length-drop, set, ap, sym, subst, ◌∙◌, arith}
use Rattle.std.specs.List.{slice_range}
use Rattle.std.proofs.lemmas.List.{length-take, take-append-le, drop-append-le, take-append-drop, take-set, drop-set}
use Rattle.std.proofs.Math.Seq.{take-append_seam, take-length}
use Rattle.std.proofs.Math.ListN.{drop_of_length-le}
use Rattle.eo_sexp.specs.declared.token.AtomKind.{AtomKind}
use Rattle.eo_sexp.specs.Token.{kind_meant}
use Rattle.eo_sexp.specs.Sexp.{Sexp, Atom, Listed}
use Rattle.eo_sexp.specs.Sexp.{sexps_of}
use Rattle.eo_sexp.specs.declared.lent.Node.{Node}
use Rattle.eo_sexp.specs.declared.lent.Node.TheVariants as node
use Rattle.eo_sexp.specs.declared.buffer.Open.{Open}
use Rattle.eo_sexp.specs.declared.count.Count.{Count}
use Rattle.eo_sexp.specs.Counts.{count_of}
use Rattle.eo_sexp.specs.Nodes.{trees, token_text, Delimits, AreLinked, HasText, Holds, first_of}
use Rattle.eo_sexp.specs.Built.{OpenList, Built, with_child, closed, parts_in, parts_of}
use Rattle.eo_sexp.specs.Buffers.{open_lists, outside, built, AreOpen, counted}
use Rattle.eo_sexp.specs.Sizes.{size_of_all}
use Rattle.eo_sexp.proofs.Sizes.{size-split}
use Rattle.eo_sexp.proofs.Parts.{linked_behind, some_node}

take_more : {A : Type 0} → (n : ℕ) (xs ys : List A) → n ≤ length xs → take n (xs ++ ys) ≡ take n xs
take_more n xs ys h = take-append-le n xs ys h

-- ---- more nodes

-- nodes represent the same s-expressions whatever is after them
pub trees-append : (bytes : List ℕ) (ns more : List Node) → AreLinked bytes ns → trees bytes (ns ++ more) ≡ trees bytes ns ++ trees bytes more
trees-append bytes [] more h = refl
trees-append bytes (node.Atom k d from to ∷ ns) more h = ap (λ ss. Atom (kind_meant k) (token_text bytes d from to) (record { from = from; to = to }) ∷ ss) (trees-append bytes ns more h.1)
trees-append bytes (node.List k i from to ∷ ns) more h =
    let c : ℕ = count_of k in
    let ts : List Sexp = trees bytes ns in
    let many : c ≤ length ts = h.0.many in
    ap (λ ss. Listed (sexps_of (take c ss)) (record { from = from; to = to }) ∷ drop c ss) (trees-append bytes ns more h.1)
    ∙ ap (λ ss. Listed (sexps_of ss) (record { from = from; to = to }) ∷ drop c (ts ++ trees bytes more)) (take-append-le c ts (trees bytes more) many)
    ∙ ap (λ ss. Listed (sexps_of (take c ts)) (record { from = from; to = to }) ∷ ss) (drop-append-le c ts (trees bytes more) many)

holds-append : (bytes : List ℕ) (c i : ℕ) (ns more : List Node) → AreLinked bytes ns → Holds bytes c i ns → Holds bytes c i (ns ++ more)
holds-append bytes c i ns more linked h =
    let all = trees-append bytes ns more linked in
    let inner : i ≤ length ns = h.inner in
    let many : c ≤ length (trees bytes ns) = h.many in
    record {
      inner = omega (arith, length-append ns more);
      many = omega (arith, ap length all, length-append (trees bytes ns) (trees bytes more));
      behind =
          ap (trees bytes) (drop-append-le i ns more inner) ∙ trees-append bytes (drop i ns) more (linked_behind bytes ns i linked)
          ∙ ap (λ ss. ss ++ trees bytes more) h.behind
          ∙ sym (ap (drop c) all ∙ drop-append-le c (trees bytes ns) (trees bytes more) many);
    }

pub linked-append : (bytes : List ℕ) (ns more : List Node) → AreLinked bytes ns → AreLinked bytes more → AreLinked bytes (ns ++ more)
linked-append bytes [] more h m = m
linked-append bytes (node.Atom k d from to ∷ ns) more h m = (h.0, linked-append bytes ns more h.1 m)
linked-append bytes (node.List k i from to ∷ ns) more h m = (holds-append bytes (count_of k) i ns more h.1 h.0, linked-append bytes ns more h.1 m)

-- ---- a child more

pub added : (bytes : List ℕ) (ns more : List Node) (os : List Open) (s : Sexp) → AreOpen bytes ns os → trees bytes more ≡ s ∷ [] →
    built bytes (ns ++ more) (counted os) ≡ with_child (built bytes ns os) s
added bytes ns more [] s h e = ap (λ ss. record { bytes = bytes; open_lists = []; done = ss }) (trees-append bytes ns more h ∙ ap (λ ss. trees bytes ns ++ ss) e)
added bytes ns more (o ∷ os) s h e =
    let within : o.node < length ns = h.0.within in
    let behind : trees bytes (drop (o.node + 1) (ns ++ more)) ≡ trees bytes (drop (o.node + 1) ns) ++ s ∷ [] =
    ap (trees bytes) (drop-append-le (o.node + 1) ns more (omega arith)) ∙ trees-append bytes (drop (o.node + 1) ns) more h.0.linked
    ∙ ap (λ ss. trees bytes (drop (o.node + 1) ns) ++ ss) e in
    ap (λ (ms : List Node). record { bytes = bytes; open_lists = record { at = o.at; children = trees bytes (drop (o.node + 1) (ns ++ more)) } ∷ open_lists bytes ms os; done = outside bytes ms os }) (take-append-le o.node ns more (omega arith))
    ∙ ap (λ (cs : List Sexp). record { bytes = bytes; open_lists = record { at = o.at; children = cs } ∷ open_lists bytes (take o.node ns) os; done = outside bytes (take o.node ns) os }) behind

pub added-open : (bytes : List ℕ) (ns more : List Node) (os : List Open) (s : Sexp) → AreOpen bytes ns os → AreLinked bytes more → trees bytes more ≡ s ∷ [] → AreOpen bytes (ns ++ more) (counted os)
added-open bytes ns more [] s h m e = linked-append bytes ns more h m
added-open bytes ns more (o ∷ os) s h m e =
    let within : o.node < length ns = h.0.within in
    let many : o.children ≡ length (trees bytes (drop (o.node + 1) ns)) = h.0.many in
    let behind = drop-append-le (o.node + 1) ns more (omega arith) in
    let all = ap (trees bytes) behind ∙ trees-append bytes (drop (o.node + 1) ns) more h.0.linked ∙ ap (λ ss. trees bytes (drop (o.node + 1) ns) ++ ss) e in (
      record {
        within = omega (arith, length-append ns more);
        linked = subst (AreLinked bytes) (sym behind) (linked-append bytes (drop (o.node + 1) ns) more h.0.linked m);
        many = omega (arith, ap length all, length-append (trees bytes (drop (o.node + 1) ns)) (s ∷ []));
      },
      subst (λ ms. AreOpen bytes ms os) (sym (take-append-le o.node ns more (omega arith))) h.1,
    )

-- ---- a list that is closed

-- the node of a list of which all children are after it
whole-linked : (bytes : List ℕ) (ns : List Node) (c : Count) (i from to : ℕ) → AreLinked bytes ns → count_of c ≡ length (trees bytes ns) → i ≡ length ns → AreLinked bytes (node.List c i from to ∷ ns)
whole-linked bytes ns c i from to h e f = (
  record {
    inner = omega arith;
    many = omega arith;
    behind = ap (trees bytes) (drop_of_length-le ns {i = i} (omega arith)) ∙ sym (drop_of_length-le (trees bytes ns) {i = count_of c} (omega arith));
  },
  h,
)

take_all : {A : Type 0} → (xs : List A) (n : ℕ) → n ≡ length xs → take n xs ≡ xs
take_all xs n e = ap (λ k. take k xs) e ∙ take-length xs

whole-tree : (bytes : List ℕ) (ns : List Node) (c : Count) (i from to : ℕ) → count_of c ≡ length (trees bytes ns) → trees bytes (node.List c i from to ∷ ns) ≡ Listed (sexps_of (trees bytes ns)) (record { from = from; to = to }) ∷ []
whole-tree bytes ns c i from to e =
    ap (λ ss. Listed (sexps_of ss) (record { from = from; to = to }) ∷ drop (count_of c) (trees bytes ns)) (take_all (trees bytes ns) (count_of c) e)
    ∙ ap (λ ss. Listed (sexps_of (trees bytes ns)) (record { from = from; to = to }) ∷ ss) (drop_of_length-le (trees bytes ns) {i = count_of c} (omega arith))

-- what a write makes of the nodes
split-set : (ns : List Node) (i : ℕ) (n : Node) → i < length ns → set ns i n ≡ take i ns ++ n ∷ drop (i + 1) ns
split-set ns i n h = sym (take-append-drop i (set ns i n)) ∙ ap (λ ms. ms ++ drop i (set ns i n)) (take-set ns i n) ∙ ap (λ ms. take i ns ++ ms) (drop-set ns i n h)

pub list-closed : (bytes : List ℕ) (ns : List Node) (o : Open) (os : List Open) (c : Count) (i to : ℕ) → AreOpen bytes ns (o ∷ os) → count_of c ≡ o.children → i ≡ length ns - o.node - 1 →
    built bytes (set ns o.node (node.List c i o.at to)) (counted os) ≡ closed (built bytes ns (o ∷ os)) to
list-closed bytes ns o os c i to h d e =
    let more = drop (o.node + 1) ns in
    ap (λ (ms : List Node). built bytes ms (counted os)) (split-set ns o.node (node.List c i o.at to) h.0.within)
    ∙ added bytes (take o.node ns) (node.List c i o.at to ∷ more) os (Listed (sexps_of (trees bytes more)) (record { from = o.at; to = to })) h.1 (whole-tree bytes more c i o.at to (d ∙ h.0.many))

pub list-closed-open : (bytes : List ℕ) (ns : List Node) (o : Open) (os : List Open) (c : Count) (i to : ℕ) → AreOpen bytes ns (o ∷ os) → count_of c ≡ o.children → i ≡ length ns - o.node - 1 →
    AreOpen bytes (set ns o.node (node.List c i o.at to)) (counted os)
list-closed-open bytes ns o os c i to h d e =
    let more = drop (o.node + 1) ns in
    let within : o.node < length ns = h.0.within in
    let size : i ≡ length more = omega (arith, length-drop (o.node + 1) ns) in
    subst (λ (ms : List Node). AreOpen bytes ms (counted os)) (sym (split-set ns o.node (node.List c i o.at to) within))
    (added-open bytes (take o.node ns) (node.List c i o.at to ∷ more) os (Listed (sexps_of (trees bytes more)) (record { from = o.at; to = to })) h.1
    (whole-linked bytes more c i o.at to h.0.linked (d ∙ h.0.many) size) (whole-tree bytes more c i o.at to (d ∙ h.0.many)))

-- ---- a list that is opened

pub list-opened-open : (bytes : List ℕ) (ns : List Node) (n : Node) (os : List Open) (at : ℕ) → AreOpen bytes ns os → AreOpen bytes (ns ++ n ∷ []) (record { at = at; node = length ns; children = 0 } ∷ os)
list-opened-open bytes ns n os at h =
    let none : drop (length ns + 1) (ns ++ n ∷ []) ≡ [] = drop_of_length-le (ns ++ n ∷ []) {i = length ns + 1} (omega (arith, length-append ns (n ∷ []))) in (
      record {
        within = omega (arith, length-append ns (n ∷ []));
        linked = subst (AreLinked bytes) (sym none) tt;
        many = sym (ap (λ (ms : List Node). length (trees bytes ms)) none);
      },
      subst (λ ms. AreOpen bytes ms os) (sym (take-append_seam ns (n ∷ []))) h,
    )

-- ---- more bytes

pub slice-append : (bytes more : List ℕ) (from to : ℕ) → from ≤ to → to ≤ length bytes → slice_range (bytes ++ more) from to ≡ slice_range bytes from to
slice-append bytes more from to p h =
    let n : to - from ≤ length (drop from bytes) = omega (arith, length-drop from bytes) in
    ap (take (to - from)) (drop-append-le from bytes more (omega arith)) ∙ take-append-le (to - from) (drop from bytes) more n

text-append : (bytes more : List ℕ) (d : Bool) (from to : ℕ) → HasText bytes d from to → token_text (bytes ++ more) d from to ≡ token_text bytes d from to
text-append bytes more true from to h = slice-append bytes more (from + 1) (to - 1) (omega arith) (omega arith)
text-append bytes more false from to h = slice-append bytes more from to h.0 h.1

pub trees-bytes : (bytes more : List ℕ) (ns : List Node) → AreLinked bytes ns → trees (bytes ++ more) ns ≡ trees bytes ns
trees-bytes bytes more [] h = refl
trees-bytes bytes more (node.Atom k d from to ∷ ns) h =
    ap (λ t. Atom (kind_meant k) t (record { from = from; to = to }) ∷ trees (bytes ++ more) ns) (text-append bytes more d from to h.0.0)
    ∙ ap (λ ss. Atom (kind_meant k) (token_text bytes d from to) (record { from = from; to = to }) ∷ ss) (trees-bytes bytes more ns h.1)
trees-bytes bytes more (node.List c i from to ∷ ns) h = ap (λ ss. Listed (sexps_of (take (count_of c) ss)) (record { from = from; to = to }) ∷ drop (count_of c) ss) (trees-bytes bytes more ns h.1)

text-within : (bytes more : List ℕ) (d : Bool) (from to : ℕ) → HasText bytes d from to → HasText (bytes ++ more) d from to
text-within bytes more true from to h = (h.0, omega (arith, h.1, length-append bytes more))
text-within bytes more false from to h = (h.0, omega (arith, h.1, length-append bytes more))

pub linked-bytes : (bytes more : List ℕ) (ns : List Node) → AreLinked bytes ns → AreLinked (bytes ++ more) ns
linked-bytes bytes more [] h = tt
linked-bytes bytes more (node.Atom k d from to ∷ ns) h = ((text-within bytes more d from to h.0.0, h.0.1), linked-bytes bytes more ns h.1)
linked-bytes bytes more (node.List c i from to ∷ ns) h =
    let same = trees-bytes bytes more ns h.1 in (
      record {
        inner = h.0.inner;
        many = subst (λ ss. count_of c ≤ length ss) (sym same) h.0.many;
        behind = trees-bytes bytes more (drop i ns) (linked_behind bytes ns i h.1) ∙ h.0.behind ∙ ap (drop (count_of c)) (sym same);
      },
      linked-bytes bytes more ns h.1,
    )

open_lists-bytes : (bytes more : List ℕ) (ns : List Node) (os : List Open) → AreOpen bytes ns os → open_lists (bytes ++ more) ns os ≡ open_lists bytes ns os
open_lists-bytes bytes more ns [] h = refl
open_lists-bytes bytes more ns (o ∷ os) h =
    ap (λ (cs : List Sexp). record { at = o.at; children = cs } ∷ open_lists (bytes ++ more) (take o.node ns) os) (trees-bytes bytes more (drop (o.node + 1) ns) h.0.linked)
    ∙ ap (λ (fs : List OpenList). record { at = o.at; children = trees bytes (drop (o.node + 1) ns) } ∷ fs) (open_lists-bytes bytes more (take o.node ns) os h.1)

outside-bytes : (bytes more : List ℕ) (ns : List Node) (os : List Open) → AreOpen bytes ns os → outside (bytes ++ more) ns os ≡ outside bytes ns os
outside-bytes bytes more ns [] h = trees-bytes bytes more ns h
outside-bytes bytes more ns (o ∷ os) h = outside-bytes bytes more (take o.node ns) os h.1

pub built-bytes : (bytes more : List ℕ) (ns : List Node) (os : List Open) → AreOpen bytes ns os → built (bytes ++ more) ns os ≡ record { bytes = bytes ++ more; open_lists = open_lists bytes ns os; done = outside bytes ns os }
built-bytes bytes more ns os h =
    ap (λ (fs : List OpenList). record { bytes = bytes ++ more; open_lists = fs; done = outside (bytes ++ more) ns os }) (open_lists-bytes bytes more ns os h)
    ∙ ap (λ (ss : List Sexp). record { bytes = bytes ++ more; open_lists = open_lists bytes ns os; done = ss }) (outside-bytes bytes more ns os h)

pub open-bytes : (bytes more : List ℕ) (ns : List Node) (os : List Open) → AreOpen bytes ns os → AreOpen (bytes ++ more) ns os
open-bytes bytes more ns [] h = linked-bytes bytes more ns h
open-bytes bytes more ns (o ∷ os) h = (
  record {
    within = h.0.within;
    linked = linked-bytes bytes more (drop (o.node + 1) ns) h.0.linked;
    many = h.0.many ∙ sym (ap length (trees-bytes bytes more (drop (o.node + 1) ns) h.0.linked));
  },
  open-bytes bytes more (take o.node ns) os h.1,
)

-- ---- how many

pub count-trees : (bytes : List ℕ) (ns : List Node) → length (trees bytes ns) ≤ length ns
count-trees bytes [] = omega arith
count-trees bytes (node.Atom k d from to ∷ ns) = omega (arith, count-trees bytes ns)
count-trees bytes (node.List c i from to ∷ ns) = omega (arith, count-trees bytes ns, length-drop (count_of c) (trees bytes ns))

pub count-children : (bytes : List ℕ) (ns : List Node) (o : Open) (os : List Open) → AreOpen bytes ns (o ∷ os) → o.children < length ns
count-children bytes ns o os h =
    let within : o.node < length ns = h.0.within in
    omega (arith, h.0.many, count-trees bytes (drop (o.node + 1) ns), length-drop (o.node + 1) ns)

pub count-open : (bytes : List ℕ) (ns : List Node) (os : List Open) → length (open_lists bytes ns os) ≡ length os
count-open bytes ns [] = refl
count-open bytes ns (o ∷ os) = ap suc (count-open bytes (take o.node ns) os)

-- ---- how many nodes

size-trees : (bytes : List ℕ) (ns : List Node) → size_of_all (trees bytes ns) ≡ length ns
size-trees bytes [] = refl
size-trees bytes (node.Atom k d from to ∷ ns) = omega (arith, size-trees bytes ns)
size-trees bytes (node.List c i from to ∷ ns) = omega (arith, size-trees bytes ns, size-split (count_of c) (trees bytes ns))

size-open : (bytes : List ℕ) (ns : List Node) (os : List Open) → AreOpen bytes ns os → parts_in (open_lists bytes ns os) + size_of_all (outside bytes ns os) ≡ length ns
size-open bytes ns [] h = omega (arith, size-trees bytes ns)
size-open bytes ns (o ∷ os) h =
    let within : o.node < length ns = h.0.within in
    omega (arith, within, size-trees bytes (drop (o.node + 1) ns), size-open bytes (take o.node ns) os h.1, length-drop (o.node + 1) ns, length-take o.node ns)

-- a node for each list and atom
pub node-parts : (bytes : List ℕ) (ns : List Node) (os : List Open) (b : Built) → AreOpen bytes ns os → built bytes ns os ≡ b → length ns ≡ parts_of b
node-parts bytes ns os b h e = sym (size-open bytes ns os h) ∙ ap parts_of e

pub text-begins : (bytes : List ℕ) (d : Bool) (from to : ℕ) → HasText bytes d from to → (from ≤ to) × (from ≤ length bytes)
text-begins bytes true from to h = (omega (arith, h.0), omega (arith, h.0, h.1))
text-begins bytes false from to h = (h.0, omega (arith, h.0, h.1))

-- ---- what is whole

pub whole-first : (bytes : List ℕ) (ns : List Node) (os : List Open) → AreOpen bytes ns os → open_lists bytes ns os ≡ [] → 0 < length (outside bytes ns os) → ((0 < length ns) × AreLinked bytes ns) × (first_of (trees bytes ns) ≡ first_of (outside bytes ns os))
whole-first bytes ns [] h e s = ((some_node bytes ns s, h), refl)
whole-first bytes ns (o ∷ os) h e s = cc

-- ---- one atom alone

pub alone-open : (bytes : List ℕ) (ns : List Node) (os : List Open) (k : AtomKind) (d : Bool) (from to : ℕ) → open_lists bytes ns os ≡ [] → HasText bytes d from to → Delimits (kind_meant k) d → AreOpen bytes (node.Atom k d from to ∷ []) os
alone-open bytes ns [] k d from to e h g = ((h, g), tt)
alone-open bytes ns (o ∷ os) k d from to e h g = cc

pub alone-built : (bytes : List ℕ) (ns : List Node) (os : List Open) (k : AtomKind) (d : Bool) (from to : ℕ) → open_lists bytes ns os ≡ [] → outside bytes ns os ≡ [] →
    built bytes (node.Atom k d from to ∷ []) os ≡ with_child (built bytes ns os) (Atom (kind_meant k) (token_text bytes d from to) (record { from = from; to = to }))
alone-built bytes ns [] k d from to e h =
    ap (λ ss. record { bytes = bytes; open_lists = []; done = ss ++ Atom (kind_meant k) (token_text bytes d from to) (record { from = from; to = to }) ∷ [] }) (sym h)
alone-built bytes ns (o ∷ os) k d from to e h = cc
