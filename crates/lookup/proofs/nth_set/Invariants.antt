-- `nth_set`: the set bits passed so far are counted, and none of them is number i.
use Rattle.std.proofs.Common.{◌≡◌, ◌≤◌}
use Rattle.std.specs.Int.Count.{ones_in}
use Rattle.lookup.proofs.nth_set.Given as goal

abbrev pub invariant-loop-k : goal.invariant-loop-k
invariant-loop-k l = (l.seen ≡ ones_in l.k l.mask) × (l.seen ≤ l.i)
