use Rattle.std.proofs.Common.{◌≡◌, ◌+◌, ◌≤◌, not, length, take}
use Rattle.std.specs.List.{suffix_len}
use Rattle.eo_io.specs.Paths.{is_slash}
use Rattle.eo_io.proofs.folding.folder_len.Given as goal

-- the bytes after `end` are no slashes
abbrev pub invariant-loop-end : goal.invariant-loop-end
invariant-loop-end l =
    (l.end ≤ length l.path)
    × (l.end + suffix_len (λ byte. not (is_slash byte)) l.path ≡ length l.path + suffix_len (λ byte. not (is_slash byte)) (take l.end l.path))

abbrev pub decreases-loop-end : goal.decreases-loop-end
decreases-loop-end l = l.end
