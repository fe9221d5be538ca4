-- `flash_count`: those counted, and those that are left, are all.
use Rattle.std.proofs.Common.{◌≡◌, ◌+◌, length}
use Rattle.name_list.specs.Listed.{behind, names_from}
use Rattle.rules.specs.Counting.{flash_count}
use Rattle.name_list.proofs.flash_count.Given as goal

abbrev pub invariant-loop-blob : goal.invariant-loop-blob
invariant-loop-blob l = l.n + length (names_from (behind l.blob) l.blob l.phase) ≡ flash_count l.phase
