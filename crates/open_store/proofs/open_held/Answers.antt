-- `open_held`: a session is on the blob, no row is free, or the slot is staged and the row taken.
use Rattle.std.proofs.Common.{sym, ◌∙◌, ap, arith, [], List, ℕ}
use Rattle.lookup.specs.Search.{row_in}
use Rattle.open_steps.proofs.Free.{lowest-is, lowest-low, none-free, full, has-some, has-none}
use Rattle.open_steps.specs.Steps.{row_opened}
use Rattle.open_store.specs.Laws.{held-busy, held-no-row, held-ok}
use Rattle.state.specs.State.{State, state_of}
use Rattle.open_store.proofs.open_held.Goals as goal
use Rattle.open_store.proofs.open_held.Goals.{Start}

-- the state as it is given
abbrev given : Start → (n i h : List ℕ) → State
given c n i h = let a = c.args in state_of a.control.now a.table.now n a.committed.now a.staged.now i h

pub returns-then-is_some : goal.returns-then-is_some
returns-then-is_some c =
    let a = c.args in
    let held = has-some _ (sym c.is_some.ensures ∙ c.if-is_some.true) in
    λ n i h x.
    let s = given (goal.at.returns-then-is_some c).Start n i h in
    held-busy a.k a.flags a.clock s held.0 (row_in s c.find_row.ensures held.1)

pub returns-in_err-r : goal.returns-in_err-r
returns-in_err-r c =
    let a = c.args in
    λ n i h x.
    let s = given (goal.at.returns-in_err-r c).Start n i h in
    rw (full c.from_residual.ensures.1 c.in_err-r.ensures.value c.in_err-r.ensures.ok_part)
    (held-no-row a.k a.flags a.clock s (row_in s c.find_row.ensures (has-none _ (sym c.is_some.ensures ∙ c.if-is_some.false))) (none-free _ c.lowest_free.ensures c.in_err-r.ensures.ok_part))

pub open_row-requires : goal.open_row-requires
open_row-requires c =
    let e = ap (λ (s : State). s.next) (c.stage_slot.ensures [] [] [] []) in
    (lowest-low _ c.lowest_free.ensures c.in_ok-r.ensures.ok_part, (omega arith, (omega (arith, e, c.requires.1.0), c.requires.1.1.0)))

pub returns : goal.returns
returns c =
    let a = c.args in
    λ n i h x.
    let s = given (goal.at.returns c).Start n i h in
    c.open_row.ensures n a.committed.now c.stage_slot.new.staged i h x
    ∙ ap (row_opened c.in_ok-r.r a.k a.flags 1 a.clock) (c.stage_slot.ensures a.table.now n i h)
    ∙ held-ok a.k a.flags a.clock s (row_in s c.find_row.ensures (has-none _ (sym c.is_some.ensures ∙ c.if-is_some.false))) c.in_ok-r.r (lowest-is _ c.lowest_free.ensures c.in_ok-r.ensures.ok_part)
