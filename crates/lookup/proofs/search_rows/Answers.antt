-- `search_rows`: the rows behind are not the one wanted, and the used ones among them are counted.
use Rattle.std.proofs.Common.{◌≡◌, sym, ◌∙◌, ap, subst, List, ℕ, ◌+◌, arith}
use Rattle.std.specs.Int.Count.{count_trailing_zeros}
use Rattle.laws.specs.Bits.{bit}
use Rattle.lookup.specs.Laws.{row_in, RowsBehind, NextRow, rows_start, next_row, search-hit, search-miss, search-end}
use Rattle.rules.specs.Session.{matches}
use Rattle.lookup.proofs.search_rows.Goals as goal
use Rattle.lookup.proofs.search_rows.Goals.{After-matches, In-loop-left}

next : (c : In-loop-left) → let a = c.args in NextRow a.w a.rows a.table.now c.loop-left.visits ((count_trailing_zeros 32 c.loop-left.left))
next c = let a = c.args in next_row a.w a.rows a.table.now c.loop-left.left c.loop-left.visits c.loop-left.invariant.1 c.loop-left-test.true

-- whether it is the one wanted
tested : (c : After-matches) → let a = c.args in c.matches.result ≡ matches a.w (row_in a.rows a.table.now ((count_trailing_zeros 32 c.loop-left.left)))
tested c =
    let a = c.args in
    let used = bit ((count_trailing_zeros 32 c.loop-left.left)) a.rows in
    c.matches.ensures used ∙ ap (λ (l : List ℕ). matches a.w (record { words = l; used = used })) (sym c.read_row.ensures)

pub loop-left-init : goal.loop-left-init
loop-left-init c = let a = c.args in (c.requires, rows_start a.w a.rows a.table.now)

pub overflow_cast-r : goal.overflow_cast-r
overflow_cast-r c = omega (arith, (next (goal.at.overflow_cast-r c).In-loop-left).low)

pub read_row-requires : goal.read_row-requires
read_row-requires c = (c.loop-left.invariant.0, (next (goal.at.read_row-requires c).In-loop-left).low)

pub overflow_add-result : goal.overflow_add-result
overflow_add-result c = omega (arith, (next (goal.at.overflow_add-result c).In-loop-left).few)

pub returns-then-matches : goal.returns-then-matches
returns-then-matches c =
    let a = c.args in
    search-hit a.w a.rows a.table.now c.loop-left.visits ((count_trailing_zeros 32 c.loop-left.left)) (next (goal.at.returns-then-matches
    c).In-loop-left) (sym (tested (goal.at.returns-then-matches c).After-matches) ∙ c.if-matches.true)

pub overflow_add-visits : goal.overflow_add-visits
overflow_add-visits c = omega (arith, (next (goal.at.overflow_add-visits c).In-loop-left).few)

pub loop-left-smaller : goal.loop-left-smaller
loop-left-smaller c = omega (arith, (next (goal.at.loop-left-smaller c).In-loop-left).few)

pub loop-left-preserved : goal.loop-left-preserved
loop-left-preserved c =
    let l = c.loop-left in
    let a = c.args in (
      l.invariant.0,
      subst (λ (x : ℕ). RowsBehind a.w a.rows a.table.now x (l.visits + 1)) (sym c.clear_lowest-left.ensures)
          (search-miss a.w a.rows a.table.now l.left l.visits l.invariant.1 c.loop-left-test.true (sym (tested (goal.at.loop-left-preserved c).After-matches) ∙ c.if-matches.false)),
    )

pub returns : goal.returns
returns c =
    let l = c.loop-left in
    let a = c.args in
    search-end a.w a.rows a.table.now l.visits (subst (λ (x : ℕ). RowsBehind a.w a.rows a.table.now x l.visits) c.loop-left-test.false l.invariant.1)
