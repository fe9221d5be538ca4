-- `slot_ok`: a used slot or an unused one, as the mask says.
use Rattle.sound_slots.proofs.Laws.{any-writer}
use Rattle.state.specs.Soundness.{slot_at, slot_ok, has_writer}
use Rattle.state.specs.State.{state_of}
use Rattle.sound_slots.proofs.slot_ok.Goals as goal

pub returns-then-mark-staged_len : goal.returns-then-mark-staged_len
unfolding slot_ok
returns-then-mark-staged_len c =
    λ i h. let s = (let a = c.args in state_of a.control a.table.now a.names.now a.committed.now a.staged.now i h) in
    rw (← c.has.ensures, c.if-has.true, ← c.bit_of-mark.ensures)
    (any-writer _ _ (has_writer s c.args.k) (c.used_slot.ensures (slot_at c.args.k s)) c.if-mark-staged_len.true)

pub returns-then-has : goal.returns-then-has
unfolding slot_ok
returns-then-has c =
    λ i h. let s = (let a = c.args in state_of a.control a.table.now a.names.now a.committed.now a.staged.now i h) in
    rw (← c.has.ensures, c.if-has.true, ← c.bit_of-mark.ensures, ← c.has_writer-writer.ensures s) (c.used_slot-then-has.ensures (slot_at c.args.k s))

pub returns : goal.returns
unfolding slot_ok
returns c =
    λ i h. rw (← c.has.ensures, c.if-has.false, ← c.bit_of-mark.ensures)
    (c.unused_slot.ensures (slot_at c.args.k ((let a = c.args in state_of a.control a.table.now a.names.now a.committed.now a.staged.now i h))))
