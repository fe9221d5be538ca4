-- `zero_region`: the loop carries the answer for the blocks passed.
use Rattle.std.proofs.Common.{◌≡◌}
use Rattle.sound_slots.proofs.Laws.{blocks_zero}
use Rattle.sound_slots.proofs.zero_region.Given as goal

abbrev pub invariant-loop-j : goal.invariant-loop-j
invariant-loop-j l = l.ok ≡ blocks_zero l.at l.bytes l.j
