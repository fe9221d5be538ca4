-- `outcome`: of the flash session, of none.
use Rattle.std.proofs.Common.{List, ℕ}
use Rattle.lookup.specs.Search.{row_low}
use Rattle.rules.specs.Command.{end_job}
use Rattle.session_by_id.proofs.Laws.{row_is, found-flash, of_row, of_none}
use Rattle.state.specs.State.{state_of}
use Rattle.session_by_id.proofs.end_job.Goals as goal

pub read_row-e-requires : goal.read_row-e-requires
read_row-e-requires c =
    (c.requires, row_low c.find_row.ensures c.in-Some.is)

pub end_job-requires : goal.end_job-requires
end_job-requires c =
    (row_is c.find_row.ensures c.in-Some.is c.requires c.read_row-e.ensures, found-flash c.find_row.ensures c.in-Some.is c.read_row-e.ensures)

pub returns-clause-ended : goal.returns-clause-ended
returns-clause-ended c =
    let a = c.args in
    λ (t : ℕ) (n m g im h x : List ℕ). of_row (state_of a.control a.table.now n m g im h) t (end_job a.good) c.find_row.ensures c.in-Some.is (c.end_job.ensures.ended t n m g im h x)

pub returns-in_default-clause-ended : goal.returns-in_default-clause-ended
returns-in_default-clause-ended c =
    let a = c.args in
    λ (t : ℕ) (n m g im h x : List ℕ). of_none (state_of a.control a.table.now n m g im h) t (end_job a.good) c.find_row.ensures c.in_default.is
