-- `write_meta`: of a session, of none.
use Rattle.std.proofs.Common.{List, ℕ}
use Rattle.rules.specs.Command.{write_meta}
use Rattle.session_by_id.proofs.Laws.{of_row, of_none, meta-is}
use Rattle.state.specs.State.{state_of}
use Rattle.session_by_id.proofs.write_meta.Goals as goal

pub returns-in-Some : goal.returns-in-Some
returns-in-Some c =
    let a = c.args in
    λ (t : ℕ) (n m g im h x : List ℕ). of_row (state_of a.control a.table.now n m g im h) t write_meta c.find_row.ensures c.in-Some.is
    (meta-is (state_of a.control a.table.now n m g im h) _ t)

pub returns-in-None : goal.returns-in-None
returns-in-None c =
    let a = c.args in
    λ (t : ℕ) (n m g im h x : List ℕ). of_none (state_of a.control a.table.now n m g im h) t write_meta c.find_row.ensures c.in-None.is
