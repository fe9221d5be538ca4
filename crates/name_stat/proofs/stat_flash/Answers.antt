-- `stat_flash`: the name is not listed, has no session, or has one.
use Rattle.std.proofs.Common.{ap, sym, ◌∙◌, ℕ}
use Rattle.lookup.specs.Search.{row_in, row_low}
use Rattle.name_stat.specs.Laws.{flash-hidden, flash-closed, flash-open}
use Rattle.protocol.specs.Frame.{reply, stat_fields}
use Rattle.rules.specs.Session.{row_found}
use Rattle.state.specs.State.{state_of}
use Rattle.state.specs.declared.row.Wanted.TheVariants.{OnBlob}
use Rattle.name_stat.proofs.stat_flash.Goals as goal

pub returns-then-not-flash_listed : goal.returns-then-not-flash_listed
returns-then-not-flash_listed c = λ m n d g i h _. let a = c.args in flash-hidden a.kind m (state_of a.control a.table.now n d g i h)
    (sym c.flash_listed.ensures ∙ c.if-not-flash_listed.true)

pub returns-in_default : goal.returns-in_default
returns-in_default c =
    λ m n d g i h _.
    let a = c.args in
    let s = state_of a.control a.table.now n d g i h in
    ap (λ (x : ℕ). reply (stat_fields 0 x)) (c.flash_length.ensures a.table.now n d g i h)
    ∙ flash-closed a.kind m s (sym c.flash_listed.ensures ∙ c.if-not-flash_listed.false)
    (ap (λ (b : ℕ). row_found (OnBlob b) s) (sym c.number.ensures) ∙ (row_in s c.find_row.ensures c.in_default.is))

pub stat_row-requires : goal.stat_row-requires
stat_row-requires c = (row_low c.find_row.ensures c.in-Some.is, c.requires)

pub returns : goal.returns
returns c =
    λ m n d g i h x.
    let a = c.args in
    let s = state_of a.control a.table.now n d g i h in
    c.stat_row.ensures n d g i h x
    ∙ flash-open a.kind m s (sym c.flash_listed.ensures ∙ c.if-not-flash_listed.false) c.in-Some.r
    (ap (λ (b : ℕ). row_found (OnBlob b) s) (sym c.number.ensures) ∙ (row_in s c.find_row.ensures c.in-Some.is))
