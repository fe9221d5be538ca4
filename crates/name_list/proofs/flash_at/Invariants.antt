-- `flash_at`: the name sought is number `left` of those that are left.
use Rattle.std.proofs.Common.{◌≡◌}
use Rattle.name_list.specs.Listed.{behind, flash_from, flash_at}
use Rattle.name_list.proofs.flash_at.Given as goal

abbrev pub invariant-loop-blob : goal.invariant-loop-blob
invariant-loop-blob l = flash_at l.phase l.i ≡ flash_from (behind l.blob) l.blob l.phase l.left
