-- What is hashed of a key.
use Rattle.std.specs.Prelude.{◌≡◌, ◌++◌, ◌+◌, ◌*◌, ℕ, true, List, slice_index_or}
use Rattle.std.specs.Cmp.Lexicographic.{bytes_decides}
use Rattle.std.proofs.Common.{ap}
use Rattle.std.proofs.lemmas.Bool.{and_parts, eqb-true, false≢true}
use Rattle.std.proofs.lemmas.Bool.Decides.{Decides-int_eq}
use Rattle.std.specs.Hash as fed
use Rattle.eo_term.specs.SmallNumbers.{hash_of}
use Rattle.eo_term.specs.declared.node.Key.{Key}
use Rattle.eo_term.specs.declared.node.Key.TheVariants as key
use Rattle.eo_term.specs.contracts.OpNameHash.TheImpl as name_hash
use Rattle.eo_term.specs.contracts.OpNameHash.TheImpl.Laws as name_laws
use Rattle.eo_term.specs.contracts.node.KeyPartialEq.TheImpl as key_eq

-- two numbers below 2^32 as one
abbrev pub joined : ℕ → ℕ → ℕ
joined a b = a * 4294967296 + b

-- an application and a constant, which are asked for most, by one write
abbrev pub key_writes : Key → List (List ℕ)
key_writes (key.Con k) = fed.usize k
key_writes (key.Num z) = fed.u8 1 ++ hash_of z
key_writes (key.Literal l) = fed.u8 2 ++ fed.usize l
key_writes (key.Str s) = fed.u8 3 ++ fed.usize s
key_writes (key.Par i) = fed.u8 4 ++ fed.u8 i
key_writes (key.Var s t) = fed.u8 5 ++ (fed.usize s ++ fed.u32 t)
key_writes (key.App f x) = fed.u64 (joined f x)
key_writes (key.Arr a b) = fed.u8 7 ++ fed.u64 (joined a b)
key_writes (key.Qar i t b) = fed.u8 i ++ fed.u64 (joined t b)
key_writes (key.Pair o is) = name_hash.ghosts.hash_input o ++ fed.u64 (joined (slice_index_or is 0 0) (slice_index_or is 1 0))
key_writes (key.Builtin o n l) = name_hash.ghosts.hash_input o ++ (fed.u8 n ++ fed.usize l)
key_writes (key.Prog n p l) = fed.u8 n ++ (fed.usize p ++ fed.usize l)

-- equal keys are hashed alike
pub key_alike : (a b : Key) → key_eq.ghosts.eq a b ≡ true → key_writes a ≡ key_writes b
key_alike (key.Con a) (key.Con b) e = ap fed.usize (eqb-true a b e)
key_alike (key.Num a) (key.Num b) e = ap (λ z. fed.u8 1 ++ hash_of z) ((Decides-int_eq a b).0 e)
key_alike (key.Literal a) (key.Literal b) e = ap (λ l. fed.u8 2 ++ fed.usize l) (eqb-true a b e)
key_alike (key.Str a) (key.Str b) e = ap (λ s. fed.u8 3 ++ fed.usize s) (eqb-true a b e)
key_alike (key.Par a) (key.Par b) e = ap (λ i. fed.u8 4 ++ fed.u8 i) (eqb-true a b e)
key_alike (key.Var m a) (key.Var n b) e = let h = and_parts _ _ e in λ i. fed.u8 5 ++ (fed.usize (eqb-true m n h.0 i) ++ fed.u32 (eqb-true a b h.1 i))
key_alike (key.App m a) (key.App n b) e = let h = and_parts _ _ e in λ i. fed.u64 (joined (eqb-true m n h.0 i) (eqb-true a b h.1 i))
key_alike (key.Arr m a) (key.Arr n b) e = let h = and_parts _ _ e in λ i. fed.u8 7 ++ fed.u64 (joined (eqb-true m n h.0 i) (eqb-true a b h.1 i))
key_alike (key.Qar j m a) (key.Qar k n b) e =
    let h = and_parts _ _ e in
    let g = and_parts _ _ h.1 in
    λ i. fed.u8 (eqb-true j k h.0 i) ++ fed.u64 (joined (eqb-true m n g.0 i) (eqb-true a b g.1 i))
key_alike (key.Pair o is) (key.Pair p js) e =
    let h = and_parts _ _ e in
    let g : is ≡ js = (bytes_decides is js).0 h.1 in
    λ i. name_laws.respects_eq-law o p h.0 i ++ fed.u64 (joined (slice_index_or (g i) 0 0) (slice_index_or (g i) 1 0))
key_alike (key.Builtin o m a) (key.Builtin p n b) e =
    let h = and_parts _ _ e in
    let g = and_parts _ _ h.1 in
    λ i. name_laws.respects_eq-law o p h.0 i ++ (fed.u8 (eqb-true m n g.0 i) ++ fed.usize (eqb-true a b g.1 i))
key_alike (key.Prog j m a) (key.Prog k n b) e =
    let h = and_parts _ _ e in
    let g = and_parts _ _ h.1 in
    λ i. fed.u8 (eqb-true j k h.0 i) ++ (fed.usize (eqb-true m n g.0 i) ++ fed.usize (eqb-true a b g.1 i))
key_alike a b e = absurd (false≢true e)
