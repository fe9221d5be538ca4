-- `open_store`: flags, the name held or not, then its function.
use Rattle.std.proofs.Common.{sym, ◌∙◌, List, ℕ}
use Rattle.lookup.specs.Search.{slot-in, slot-low}
use Rattle.open_store.specs.Laws.{flags-bad, name-held, name-absent, name_new}
use Rattle.state.specs.State.{State, state_of}
use Rattle.open_store.proofs.open_store.Goals as goal
use Rattle.open_store.proofs.open_store.Goals.{Start}

-- the state as it is given
abbrev given : Start → (i h : List ℕ) → State
given c i h = let a = c.args in state_of a.control.now a.table.now a.names.now a.committed.now a.staged.now i h

pub returns-then-not-store_flags : goal.returns-then-not-store_flags
returns-then-not-store_flags c =
    let a = c.args in
    λ i h x.
    let s = given (goal.at.returns-then-not-store_flags c).Start i h in
    flags-bad a.name.now a.flags a.clock s (sym c.store_flags.ensures ∙ c.if-not-store_flags.true)

pub open_held-requires : goal.open_held-requires
open_held-requires c =
    let p = c.requires.1 in
    (slot-low c.find_name.ensures c.in-Some.is, (p.0, (p.1.0, (p.1.1.1.0, p.1.1.1.1.0))))

pub returns-in-Some : goal.returns-in-Some
returns-in-Some c =
    λ i h x.
    let a = c.args in
    let s = given (goal.at.returns-in-Some c).Start i h in
    c.open_held.ensures a.names.now i h x
    ∙ name-held a.name.now a.flags a.clock s (sym c.store_flags.ensures ∙ c.if-not-store_flags.false)
    c.in-Some.k (slot-in s c.find_name.ensures c.in-Some.is)

pub returns-then-not-writes_with : goal.returns-then-not-writes_with
returns-then-not-writes_with c =
    let a = c.args in
    λ i h x.
    let s = given (goal.at.returns-then-not-writes_with c).Start i h in
    name-absent a.name.now a.flags a.clock s
    (sym c.store_flags.ensures ∙ c.if-not-store_flags.false) (slot-in s c.find_name.ensures c.in_default.is)
    (sym c.writes_with.ensures ∙ c.if-not-writes_with.true)

pub returns : goal.returns
returns c =
    λ i h x.
    let a = c.args in
    let s = given (goal.at.returns c).Start i h in
    c.open_new.ensures a.committed.now a.staged.now i h x c.requires.1.1.1.1.1.1
    ∙ name_new a.name.now a.flags a.clock s (sym c.store_flags.ensures ∙ c.if-not-store_flags.false)
    (slot-in s c.find_name.ensures c.in_default.is) (sym c.writes_with.ensures ∙ c.if-not-writes_with.false)
