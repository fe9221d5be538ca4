-- `open_flash`: flags, listed, quiet, a free row; then the flash and the row.
use Rattle.std.proofs.Common.{ap, sym, ◌∙◌, [], arith, List, ℕ}
use Rattle.lookup.specs.Search.{row_in}
use Rattle.open_flash.specs.Laws.{flash-flags, flash-absent, flash-busy, flash-no-row, flash-ok}
use Rattle.open_steps.proofs.Free.{lowest-is, lowest-low, none-free, full, has-some, has-none}
use Rattle.open_steps.specs.Steps.{row_opened}
use Rattle.state.specs.State.{State, state_of}
use Rattle.open_flash.proofs.open_flash.Goals as goal
use Rattle.open_flash.proofs.open_flash.Goals.{Start}

-- the state as it is given
abbrev given : Start → (n d g : List ℕ) → State
given c n d g = let a = c.args in state_of a.control.now a.table.now n d g a.image.now a.hash.now

pub returns-then-not-flash_flags : goal.returns-then-not-flash_flags
returns-then-not-flash_flags c =
    let a = c.args in
    λ n d g x.
    let s = given (goal.at.returns-then-not-flash_flags c).Start n d g in
    flash-flags a.kind a.flags a.clock s (sym c.flash_flags.ensures ∙ c.if-not-flash_flags.true)

pub returns-then-not-flash_listed : goal.returns-then-not-flash_listed
returns-then-not-flash_listed c =
    let a = c.args in
    λ n d g x.
    let s = given (goal.at.returns-then-not-flash_listed c).Start n d g in
    flash-absent a.kind a.flags a.clock s (sym c.flash_flags.ensures ∙ c.if-not-flash_flags.false)
    (sym c.flash_listed.ensures ∙ c.if-not-flash_listed.true)

pub returns-then-is_some : goal.returns-then-is_some
returns-then-is_some c =
    let a = c.args in
    let held = has-some _ (sym c.is_some.ensures ∙ c.if-is_some.true) in
    λ n d g x.
    let s = given (goal.at.returns-then-is_some c).Start n d g in
    flash-busy a.kind a.flags a.clock s (sym c.flash_flags.ensures ∙ c.if-not-flash_flags.false)
    (sym c.flash_listed.ensures ∙ c.if-not-flash_listed.false) held.0 (row_in s c.find_row.ensures held.1)

pub returns-in_err-r : goal.returns-in_err-r
returns-in_err-r c =
    let a = c.args in
    λ n d g x.
    let s = given (goal.at.returns-in_err-r c).Start n d g in
    rw (full c.from_residual.ensures.1 c.in_err-r.ensures.value c.in_err-r.ensures.ok_part)
    (flash-no-row a.kind a.flags a.clock s (sym c.flash_flags.ensures ∙ c.if-not-flash_flags.false)
    (sym c.flash_listed.ensures ∙ c.if-not-flash_listed.false)
    (row_in s c.find_row.ensures (has-none _ (sym c.is_some.ensures ∙ c.if-is_some.false)))
    (none-free _ c.lowest_free.ensures c.in_err-r.ensures.ok_part))

pub open_row-requires : goal.open_row-requires
open_row-requires c =
    let e = ap (λ (s : State). s.next) (c.begin_flash.ensures [] [] [] []) in
    (lowest-low _ c.lowest_free.ensures c.in_ok-r.ensures.ok_part, (omega arith, (omega (arith, e, c.requires.0), c.requires.1.0)))

pub returns : goal.returns
returns c =
    let a = c.args in
    λ n d g x.
    let s = given (goal.at.returns c).Start n d g in
    c.open_row.ensures n d g c.begin_flash.new.image c.begin_flash.new.hash x
    ∙ ap (row_opened c.in_ok-r.r c.number.result a.flags 0 a.clock) (c.begin_flash.ensures a.table.now n d g)
    ∙ flash-ok a.kind a.flags a.clock s (sym c.flash_flags.ensures ∙ c.if-not-flash_flags.false) (sym c.flash_listed.ensures ∙ c.if-not-flash_listed.false)
    (row_in s c.find_row.ensures (has-none _ (sym c.is_some.ensures ∙ c.if-is_some.false))) c.in_ok-r.r c.number.result c.number.ensures
    (lowest-is _ c.lowest_free.ensures c.in_ok-r.ensures.ok_part)
