-- `stat_row`: the row as read; a slot's view or the flash's length.
use Rattle.std.proofs.Common.{sym, ◌∙◌, ap, ap₂, ℕ, Bool, cond, get_or}
use Rattle.name_stat.specs.Laws.{slot-stat, flash-stat}
use Rattle.protocol.specs.Frame.{reply, stat_fields}
use Rattle.protocol.specs.declared.FlashKind.{FlashKind}
use Rattle.rules.specs.Flash.{flash_length}
use Rattle.state.specs.Agree.{slot_of}
use Rattle.state.specs.State.{state_of}
use Rattle.name_stat.proofs.stat_row.Goals as goal

pub seen_length-size-requires : goal.seen_length-size-requires
seen_length-size-requires c =
    slot_of c.read_row-e.result.blob c.in-AtSlot.k (sym c.place.ensures ∙ c.in-AtSlot.is)

pub returns-in-AtSlot : goal.returns-in-AtSlot
returns-in-AtSlot c =
    λ n d g i h _.
    let a = c.args in
    let e = c.read_row-e in
    let size = c.seen_length-size.ensures ∙ ap (λ (b : Bool). cond b (get_or a.control.staged_len c.in-AtSlot.k 0) (get_or a.control.committed_len c.in-AtSlot.k 0)) c.writes.ensures in
    ap₂ (λ (x y : ℕ). reply (stat_fields x y)) c.state_bits-state.ensures size
    ∙ ap reply (slot-stat a.r ((state_of c.args.control c.args.table.now n d g i h)) e.result e.ensures c.in-AtSlot.k (sym c.place.ensures ∙ c.in-AtSlot.is))

pub returns-in-AtFlash : goal.returns-in-AtFlash
returns-in-AtFlash c =
    λ n d g i h _.
    let a = c.args in
    let e = c.read_row-e in
    let s = (state_of c.args.control c.args.table.now n d g i h) in
    let size = c.flash_length-size.ensures a.table.now n d g i h ∙ ap (λ (k : FlashKind). flash_length k s.flash_group) c.kind_of.ensures in
    ap₂ (λ (x y : ℕ). reply (stat_fields x y)) c.state_bits-state.ensures size
    ∙ ap reply (flash-stat a.r s e.result e.ensures (sym c.place.ensures ∙ c.in-AtFlash.is))
