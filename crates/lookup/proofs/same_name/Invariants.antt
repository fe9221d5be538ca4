-- `same_name`: the bytes passed so far agree.
use Rattle.std.proofs.Common.{◌≡◌, ◌≤◌, ◌-◌}
use Rattle.laws.specs.All.{all}
use Rattle.laws.specs.Bytes.{padded}
use Rattle.laws.specs.Ranges.{block}
use Rattle.lookup.specs.Laws.{same_at}
use Rattle.protocol.specs.Numbers.{name_size}
use Rattle.lookup.proofs.same_name.Given as goal

abbrev pub invariant-loop-i : goal.invariant-loop-i
invariant-loop-i l = (l.i ≤ 32) × (l.ok ≡ all (same_at ((block name_size l.k).get l.names) (padded name_size l.name)) l.i)

abbrev pub decreases-loop-i : goal.decreases-loop-i
decreases-loop-i l = 32 - l.i
