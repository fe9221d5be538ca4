-- `row::write_row`: four stores are the store of the row.
use Rattle.std.proofs.Common.{arith, length-set, ◌*◌}
use Rattle.state.proofs.Laws.{row_write}
use Rattle.state.proofs.row.write_row.Goals as goal

pub bounds-table-at-2 : goal.bounds-table-at-2
bounds-table-at-2 c = simp length-set (omega arith)

pub bounds-table-at-3 : goal.bounds-table-at-3
bounds-table-at-3 c = simp length-set (omega arith)

pub bounds-table-at-4 : goal.bounds-table-at-4
bounds-table-at-4 c = simp length-set (omega arith)

pub shape_of-table : goal.shape_of-table
shape_of-table c = simp length-set

pub returns : goal.returns
returns c = row_write c.args.table.now (c.args.r * 4) c.args.e.id c.args.e.blob c.args.e.word c.args.e.stamp
