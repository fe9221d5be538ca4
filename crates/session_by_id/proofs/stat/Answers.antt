-- `stat`: of a store session, of the flash session, of none.
use Rattle.std.proofs.Common.{sym, ◌∙◌, List, ℕ}
use Rattle.lookup.specs.Search.{row_low}
use Rattle.rules.specs.Command.{stat}
use Rattle.session_by_id.proofs.Laws.{row_is, of_row, of_none}
use Rattle.session_row.specs.Lent.{on-slot}
use Rattle.state.specs.State.{state_of}
use Rattle.session_by_id.proofs.stat.Goals as goal

pub read_row-e-requires : goal.read_row-e-requires
read_row-e-requires c = (c.requires, row_low c.find_row.ensures c.in-Some.is)

pub stat-requires : goal.stat-requires
stat-requires c =
    (row_is c.find_row.ensures c.in-Some.is c.requires c.read_row-e.ensures, on-slot (sym c.place.ensures ∙ c.in-AtSlot.is))

pub stat-requires-in-AtFlash : goal.stat-requires-in-AtFlash
stat-requires-in-AtFlash c =
    (row_is c.find_row.ensures c.in-Some.is c.requires c.read_row-e.ensures, sym c.place.ensures ∙ c.in-AtFlash.is)

pub returns-in-AtSlot : goal.returns-in-AtSlot
returns-in-AtSlot c =
    let a = c.args in
    λ (n m g im h x : List ℕ).
    of_row (state_of c.args.control c.args.table.now n m g im h) a.clock stat c.find_row.ensures c.in-Some.is (c.stat.ensures n m g im h x)

pub returns-in-AtFlash : goal.returns-in-AtFlash
returns-in-AtFlash c =
    let a = c.args in
    λ (n m g im h x : List ℕ).
    of_row (state_of c.args.control c.args.table.now n m g im h) a.clock stat c.find_row.ensures c.in-Some.is (c.stat-in-AtFlash.ensures n m g im h x)

pub returns-in_default : goal.returns-in_default
returns-in_default c =
    let a = c.args in
    λ (n m g im h x : List ℕ). of_none (state_of c.args.control c.args.table.now n m g im h) a.clock stat c.find_row.ensures c.in_default.is
