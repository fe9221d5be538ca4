-- `delete_store`: the name is not held, its blob is open, or its slot is freed.
use Rattle.std.proofs.Common.{◌∙◌, ap, arith, ◌<◌, rules}
use Rattle.lookup.specs.Search.{row_in, slot-in, slot-low}
use Rattle.name_delete.specs.Laws.{delete-none, delete-busy, delete-ok}
use Rattle.protocol.specs.Frame.{done}
use Rattle.protocol.specs.Numbers.{slot_count}
use Rattle.state.specs.State.{State, state_of}
use Rattle.name_delete.proofs.delete_store.Goals as goal

pub returns-in_default : goal.returns-in_default
returns-in_default c =
    λ i h x.
    let a = c.args in
    let s = state_of a.control.now a.table.now a.names.now a.committed.now a.staged.now i h in
    (delete-none a.name.now s (slot-in s c.find_name.ensures c.in_default.is))

pub overflow_cast-k : goal.overflow_cast-k
overflow_cast-k c =
    let l : c.in-Some.k < slot_count = slot-low c.find_name.ensures c.in-Some.is in
    omega arith

pub returns-in_default-find_row : goal.returns-in_default-find_row
returns-in_default-find_row c =
    λ i h x.
    let a = c.args in
    let s = state_of a.control.now a.table.now a.names.now a.committed.now a.staged.now i h in
    (delete-busy a.name.now s c.in-Some.k (slot-in s c.find_name.ensures c.in-Some.is) _ (row_in s c.find_row.ensures c.in_default-find_row.is))

pub free_slot-requires : goal.free_slot-requires
free_slot-requires c =
    (slot-low c.find_name.ensures c.in-Some.is, search rules)

pub returns : goal.returns
returns c =
    λ i h x.
    let a = c.args in
    let s = state_of a.control.now a.table.now a.names.now a.committed.now a.staged.now i h in
    (ap (λ (y : State). (done, y)) (c.free_slot.ensures a.table.now i h)
    ∙ delete-ok a.name.now s c.in-Some.k (slot-in s c.find_name.ensures c.in-Some.is)
    (row_in s c.find_row.ensures c.in-None.is))
