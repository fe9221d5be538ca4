-- `search_rows`: the rows behind are not the one wanted, and the used ones among them are counted.
use Rattle.std.proofs.Common.{◌-◌}
use Rattle.lookup.specs.Laws.{RowsBehind}
use Rattle.protocol.specs.Numbers.{row_count}
use Rattle.state.specs.Lent.{TableLent}
use Rattle.lookup.proofs.search_rows.Given as goal

abbrev pub invariant-loop-left : goal.invariant-loop-left
invariant-loop-left l = TableLent l.table × RowsBehind l.w l.rows l.table l.left l.visits

abbrev pub decreases-loop-left : goal.decreases-loop-left
decreases-loop-left l = row_count - l.visits
