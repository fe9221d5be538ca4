-- `find_session`: what the search gives, where there is a table.
use Rattle.std.proofs.Common.{ap, ◌≡◌, sym, true, arith}
use Rattle.std.specs.Prelude.{not, Some, None}
use Rattle.laws.specs.All.{flag_true, flag-false}
use Rattle.lookup.specs.Laws.{table-lent, looked-search}
use Rattle.lookup.specs.Search.{searched-row, row_low}
use Rattle.state.specs.Words.{fresh}
use Rattle.visits.proofs.Theorems.{looked-nothing}
use Rattle.visits.specs.Visits.{table_fits}
use Rattle.lookup.proofs.find_session.Goals as goal
use Rattle.lookup.proofs.find_session.Goals.{Else-not-table_fits}

fits : (c : Else-not-table_fits) → let a = c.args in table_fits a.rows a.table.now ≡ true
fits c = flag_true c.table_fits.ensures (ap not c.if-not-table_fits.false)

pub returns-then-not-table_fits-clause-said : goal.returns-then-not-table_fits-clause-said
returns-then-not-table_fits-clause-said c =
    let a = c.args in
    sym (looked-nothing a.identifier a.rows a.table.now (flag-false c.table_fits.ensures (ap not c.if-not-table_fits.true)))

pub search_rows-search-requires : goal.search_rows-search-requires
search_rows-search-requires c = let a = c.args in table-lent a.rows a.table.now (fits (goal.at.search_rows-search-requires c).Else-not-table_fits)

pub overflow_cast-row : goal.overflow_cast-row
overflow_cast-row c = let low = row_low (searched-row c.search_rows-search.ensures) c.in-Some.is in omega (arith, low)

pub returns-in-Some-clause-said : goal.returns-in-Some-clause-said
returns-in-Some-clause-said c =
    let a = c.args in
    looked-search a.identifier a.rows a.table.now c.search_rows-search.result (c.search_rows-search.ensures fresh) (Some c.in-Some.r) c.in-Some.is (fits (goal.at.returns-in-Some-clause-said c).Else-not-table_fits)

pub returns-in-None-clause-said : goal.returns-in-None-clause-said
returns-in-None-clause-said c =
    let a = c.args in
    looked-search a.identifier a.rows a.table.now c.search_rows-search.result (c.search_rows-search.ensures fresh) None c.in-None.is (fits (goal.at.returns-in-None-clause-said c).Else-not-table_fits)
