-- `used_row`: a store row by its slot's bits, another by the phase.
use Rattle.std.proofs.Common.{sym, ◌∙◌, ap, Bool, ◌&&◌, ℕ, arith, ltb}
use Rattle.protocol.specs.Numbers.{sixteen_bits, word_limit}
use Rattle.sound_rows.proofs.Laws.{by_place_lem}
use Rattle.state.specs.Agree.{slot_of}
use Rattle.state.specs.Soundness.{slot_at, store_row, flash_row, used_row}
use Rattle.state.specs.State.{state_of}
use Rattle.state.specs.declared.row.Place.TheVariants.{AtSlot, AtFlash}
use Rattle.sound_rows.proofs.used_row.Goals as goal

pub has-requires : goal.has-requires
has-requires c =
    let low = slot_of c.args.e.blob c.in-AtSlot.k (sym c.place-place.ensures ∙ c.in-AtSlot.is) in omega arith

pub has-requires-in-AtSlot : goal.has-requires-in-AtSlot
has-requires-in-AtSlot c =
    let low = slot_of c.args.e.blob c.in-AtSlot.k (sym c.place-place.ensures ∙ c.in-AtSlot.is) in omega arith

pub returns-in-AtSlot : goal.returns-in-AtSlot
unfolding used_row
returns-in-AtSlot c =
    λ u t n cm g i h.
    let e = c.args.e in
    let s = state_of c.args.control t n cm g i h in
    let k = c.in-AtSlot.k in
    ap (λ (y : Bool). (ltb e.id sixteen_bits && ltb e.word word_limit) && y)
    (c.store_row.ensures (slot_at k s) c.has.ensures c.has-in-AtSlot.ensures
    ∙ sym (by_place_lem (λ (b : ℕ). store_row e.word (slot_at b s)) (flash_row e.blob e.word s.flash_group.phase) e.blob (AtSlot k) (sym c.place-place.ensures ∙ c.in-AtSlot.is)))

pub returns-in-AtFlash : goal.returns-in-AtFlash
unfolding used_row
returns-in-AtFlash c =
    λ u t n cm g i h.
    let e = c.args.e in
    let s = state_of c.args.control t n cm g i h in
    ap (λ (y : Bool). (ltb e.id sixteen_bits && ltb e.word word_limit) && y)
    (c.flash_row.ensures
    ∙ sym (by_place_lem (λ (b : ℕ). store_row e.word (slot_at b s)) (flash_row e.blob e.word s.flash_group.phase) e.blob AtFlash (sym c.place-place.ensures ∙ c.in-AtFlash.is)))
