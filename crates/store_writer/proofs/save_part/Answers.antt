-- `save_part`: the buffer's length and the state are tested, then the part is written.
use Rattle.std.proofs.Common.{◌≡◌, sym, ◌∙◌, ℕ, ◌≤◌, true, arith, length}
use Rattle.std.proofs.lemmas.Result.{IfOk-weaker}
use Rattle.state.specs.Soundness.{is_sound}
use Rattle.state.specs.State.{State, state_of}
use Rattle.store_file.specs.Saved.{buffer_size}
use Rattle.store_file.specs.Sizes.{buffer-size}
use Rattle.store_writer.proofs.PartLaws.{lent-sound, call-size, call-unsound, call-part}
use Rattle.store_writer.proofs.save_part.Goals as goal
use Rattle.store_writer.proofs.save_part.Goals.{Start, Else-not-sound}

-- the state that is lent
abbrev lent : Start → State
lent c = let a = c.args in state_of a.control a.table.now a.names.now a.committed.now a.staged.now a.image.now a.hash.now

-- what the tests say once they are passed
passes : (c : Else-not-sound) → is_sound (lent (goal.at.Else-not-sound c).Start) ≡ true
passes c = sym c.sound.ensures ∙ c.if-not-sound.false

fits : (c : Else-not-sound) → length c.args.buffer.now ≡ buffer_size
fits c = c.if-buffer-ne-BUFFER_SIZE.false ∙ sym buffer-size

pub returns-then-buffer-ne-BUFFER_SIZE-clause-buffer_after : goal.returns-then-buffer-ne-BUFFER_SIZE-clause-buffer_after
returns-then-buffer-ne-BUFFER_SIZE-clause-buffer_after c =
    call-size c.args.part _ c.args.buffer.now (λ (e : length c.args.buffer.now ≡ buffer_size). c.if-buffer-ne-BUFFER_SIZE.true (e ∙ buffer-size))

pub returns-then-not-sound-clause-buffer_after : goal.returns-then-not-sound-clause-buffer_after
returns-then-not-sound-clause-buffer_after c =
    call-unsound c.args.part _ c.args.buffer.now (c.if-buffer-ne-BUFFER_SIZE.false ∙ sym buffer-size) (sym c.sound.ensures ∙ c.if-not-sound.true)

pub write_part-requires : goal.write_part-requires
write_part-requires c =
    let p = goal.at.write_part-requires c in
    lent-sound (lent p.Start) c.args.buffer.now (passes p.Else-not-sound) (fits p.Else-not-sound)

pub returns-clause-buffer_after : goal.returns-clause-buffer_after
returns-clause-buffer_after c =
    let a = c.args in
    let p = goal.at.returns-clause-buffer_after c in
    c.write_part.ensures.laid a.table.now a.staged.now a.image.now a.hash.now
    ∙ call-part a.part (lent p.Start) a.buffer.now (fits p.Else-not-sound) (passes p.Else-not-sound)

pub returns-clause-len_le_buffer_size : goal.returns-clause-len_le_buffer_size
returns-clause-len_le_buffer_size c =
    let h : length c.args.buffer.now ≡ buffer_size = fits (goal.at.returns-clause-len_le_buffer_size c).Else-not-sound in
    IfOk-weaker _ (λ (len : ℕ). len ≤ buffer_size) _ (λ len q. (q, omega (arith, c.write_part.auto.buffer))) c.write_part.ensures.short
