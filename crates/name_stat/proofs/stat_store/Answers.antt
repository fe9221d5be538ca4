-- `stat_store`: the name is not held, has no session, or has one.
use Rattle.std.proofs.Common.{◌∙◌, ap, ℕ, arith, ◌<◌}
use Rattle.lookup.specs.Search.{row_in, slot-in, row_low, slot-low}
use Rattle.name_stat.specs.Laws.{store-none, store-closed, store-open}
use Rattle.protocol.specs.Frame.{reply, stat_fields}
use Rattle.protocol.specs.Numbers.{slot_count, state_committed}
use Rattle.state.specs.State.{state_of}
use Rattle.name_stat.proofs.stat_store.Goals as goal

pub returns-in_default : goal.returns-in_default
returns-in_default c =
    λ d g i h _.
    let a = c.args in
    let s = state_of a.control a.table.now a.names.now d g i h in
    store-none a.name.now s (slot-in s c.find_name.ensures c.in_default.is)

pub overflow_cast-k : goal.overflow_cast-k
overflow_cast-k c = let l : c.in-Some.k < slot_count = slot-low c.find_name.ensures c.in-Some.is in omega arith

pub seen_length-requires : goal.seen_length-requires
seen_length-requires c = slot-low c.find_name.ensures c.in-Some.is

pub returns-in_default-find_row : goal.returns-in_default-find_row
returns-in_default-find_row c =
    λ d g i h _.
    let a = c.args in
    let s = state_of a.control a.table.now a.names.now d g i h in
    ap (λ (x : ℕ). reply (stat_fields state_committed x)) c.seen_length.ensures
    ∙ store-closed a.name.now s c.in-Some.k (slot-in s c.find_name.ensures c.in-Some.is) (row_in s c.find_row.ensures c.in_default-find_row.is)

pub stat_row-requires : goal.stat_row-requires
stat_row-requires c = (row_low c.find_row.ensures c.in-Some-find_row.is, c.requires.0)

pub returns : goal.returns
returns c =
    λ d g i h x.
    let a = c.args in
    let s = state_of a.control a.table.now a.names.now d g i h in
    c.stat_row.ensures a.names.now d g i h x ∙ store-open a.name.now s c.in-Some.k (slot-in s c.find_name.ensures c.in-Some.is)
    c.in-Some-find_row.r (row_in s c.find_row.ensures c.in-Some-find_row.is)
