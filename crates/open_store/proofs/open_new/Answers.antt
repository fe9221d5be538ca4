-- `open_new`: no free row, no free slot, or the slot and then the row are taken.
use Rattle.std.proofs.Common.{◌∙◌, ap, arith, [], List, ℕ}
use Rattle.open_steps.proofs.Free.{lowest-is, lowest-low, none-free, full}
use Rattle.open_steps.specs.Steps.{row_opened}
use Rattle.open_store.specs.Laws.{new-no-row, new-no-slot, new_ok}
use Rattle.state.specs.State.{State, state_of}
use Rattle.open_store.proofs.open_new.Goals as goal
use Rattle.open_store.proofs.open_new.Goals.{Start}

-- the state as it is given
abbrev given : Start → (d g i h : List ℕ) → State
given c d g i h = let a = c.args in state_of a.control.now a.table.now a.names.now d g i h

pub returns-in_err-r : goal.returns-in_err-r
returns-in_err-r c =
    let a = c.args in
    λ d g i h x _.
    let s = given (goal.at.returns-in_err-r c).Start d g i h in
    rw (full c.from_residual.ensures.1 c.in_err-r.ensures.value c.in_err-r.ensures.ok_part)
    (new-no-row a.name.now a.flags a.clock s (none-free _ c.lowest_free.ensures c.in_err-r.ensures.ok_part))

pub returns-in_err-k : goal.returns-in_err-k
returns-in_err-k c =
    let a = c.args in
    λ d g i h x _.
    let s = given (goal.at.returns-in_err-k c).Start d g i h in
    rw (full c.from_residual-in_err-k.ensures.1 c.in_err-k.ensures.value c.in_err-k.ensures.ok_part)
    (new-no-slot a.name.now a.flags a.clock s c.in_ok-r.r (lowest-is _ c.lowest_free.ensures c.in_ok-r.ensures.ok_part)
    (none-free _ c.lowest_free-2.ensures c.in_err-k.ensures.ok_part))

pub new_slot-requires : goal.new_slot-requires
new_slot-requires c = (lowest-low _ c.lowest_free-2.ensures c.in_ok-k.ensures.ok_part, (c.requires.0, c.requires.1.1.1))

pub overflow_cast-k : goal.overflow_cast-k
overflow_cast-k c = let low = lowest-low _ c.lowest_free-2.ensures c.in_ok-k.ensures.ok_part in omega (arith, low)

pub open_row-requires : goal.open_row-requires
open_row-requires c =
    let e = ap (λ (s : State). s.next) (c.new_slot.ensures [] [] [] [] []) in
    (lowest-low _ c.lowest_free.ensures c.in_ok-r.ensures.ok_part, (omega arith, (omega (arith, e, c.requires.1.0), c.requires.1.1.0)))

pub returns : goal.returns
returns c =
    let a = c.args in
    λ d g i h x z.
    let s = given (goal.at.returns c).Start d g i h in
    c.open_row.ensures c.new_slot.new.names d g i h x
    ∙ ap (row_opened c.in_ok-r.r c.in_ok-k.k a.flags 0 a.clock) (c.new_slot.ensures a.table.now d g i h)
    ∙ new_ok a.name.now a.flags a.clock s c.in_ok-r.r (lowest-is _ c.lowest_free.ensures c.in_ok-r.ensures.ok_part)
    c.in_ok-k.k (lowest-is _ c.lowest_free-2.ensures c.in_ok-k.ensures.ok_part) z
