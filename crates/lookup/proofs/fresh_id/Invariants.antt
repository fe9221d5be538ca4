-- `fresh_id`: the identifiers passed so far are in use, so the search may as well start here.
use Rattle.std.proofs.Common.{◌≡◌, ◌<◌, ◌-◌}
use Rattle.protocol.specs.Numbers.{row_count, sixteen_bits}
use Rattle.rules.specs.Lookup.{fresh_from}
use Rattle.state.specs.Lent.{TableLent}
use Rattle.state.specs.State.{State, with_rows}
use Rattle.lookup.proofs.fresh_id.Given as goal

abbrev pub invariant-loop : goal.invariant-loop
invariant-loop l =
    ((s : State) → fresh_from row_count l.next (with_rows l.rows l.table s) ≡ fresh_from (row_count - l.counter) l.id (with_rows l.rows l.table s)) × ((l.id < sixteen_bits) × TableLent l.table)
