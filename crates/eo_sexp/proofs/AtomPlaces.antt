-- An atom whose bytes are kept between two tokens of a list: its place is within the bytes, and after all parts.
use Rattle.std.proofs.Common.{◌≡◌, ℕ, ◌+◌, ◌≤◌, List, ◌++◌, length, length-append, length-take-le, take, sym, ap, subst, arith}
use Rattle.eo_base.specs.Limits.{Limits}
use Rattle.eo_sexp.specs.declared.reader.Position.TheVariants as position
use Rattle.eo_sexp.specs.declared.reader.Reader.{Reader}
use Rattle.eo_sexp.specs.Built.{Built, parts_in, parts_of}
use Rattle.eo_sexp.specs.Sizes.{size_of_all}
use Rattle.eo_sexp.specs.Reader.{held, IsReader}
use Rattle.eo_sexp.proofs.ReaderSteps.{own-as}

-- how many bytes are kept
pub kept-long : (b c : Built) (rest : List ℕ) (m at : ℕ) → length b.bytes ≡ at → m ≤ length rest → c ≡ record b { bytes = b.bytes ++ take m rest } → length c.bytes ≡ at + m
kept-long b c rest m at size within same = omega (arith, ap (λ (v : Built). length v.bytes) same, length-append b.bytes (take m rest), length-take-le m rest within, size)

-- what is begun has no more parts than there were bytes
pub kept-own : (limits : Limits) (b c : Built) (r : Reader) (at : ℕ) (bytes : List ℕ) → r.position ≡ position.Gap → IsReader limits (held b r) at → c ≡ record b { bytes = bytes } → parts_of c ≤ at
kept-own limits b c r at bytes gap h same =
    let own : parts_in b.open_lists ≤ at = own-as limits (held b r) at position.Gap gap h in
    subst (λ (v : Built). parts_of v ≤ at) (sym same) (omega (arith, own, ap size_of_all h.none))
