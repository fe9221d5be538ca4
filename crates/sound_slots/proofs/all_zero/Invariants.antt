-- `all_zero`: the loop carries the answer for the bytes passed.
use Rattle.std.proofs.Common.{◌≡◌, ℕ, eqb, get_or}
use Rattle.laws.specs.All.{all}
use Rattle.sound_slots.proofs.all_zero.Given as goal

abbrev pub invariant-loop-b : goal.invariant-loop-b
invariant-loop-b l = l.ok ≡ all (λ (k : ℕ). eqb (get_or l.bytes k 0) 0) l.b-index
