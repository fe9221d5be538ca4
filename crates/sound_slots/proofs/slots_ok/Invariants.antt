-- `slots_ok`: the loop carries the answer for the slots passed.
use Rattle.std.proofs.Common.{◌≡◌, ℕ, List}
use Rattle.laws.specs.All.{all}
use Rattle.state.specs.Soundness.{slot_ok}
use Rattle.state.specs.State.{state_of}
use Rattle.sound_slots.proofs.slots_ok.Given as goal

abbrev pub invariant-loop-k : goal.invariant-loop-k
invariant-loop-k l = (i h : List ℕ) → l.ok ≡ all (slot_ok (state_of l.control l.table l.names l.committed l.staged i h)) l.k
