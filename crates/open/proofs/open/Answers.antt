-- `open`: a sweep keeps what Open asks for.
use Rattle.std.proofs.Common.{◌≡◌, ◌∙◌, ap, true, ℕ}
use Rattle.guarantees.proofs.Keep.{swept-sound}
use Rattle.rules.specs.Sweep.{swept}
use Rattle.state.specs.Agree.{sound-of-test, test-of-sound}
use Rattle.state.specs.Soundness.{is_sound}
use Rattle.state.specs.State.{State, state_of}
use Rattle.open.proofs.open.Goals as goal
use Rattle.open.proofs.open.Goals.{Start}

-- the state as it is given
abbrev given : Start → State
given c = let a = c.args in state_of a.control.now a.table.now a.names.now a.committed.now a.staged.now a.image.now a.hash.now

-- a sweep keeps soundness
swept-test : (t : ℕ) (s x : State) → is_sound s ≡ true → x ≡ swept t s → is_sound x ≡ true
swept-test t s x h e = ap is_sound e ∙ test-of-sound (swept t s) (swept-sound t s (sound-of-test s h))

pub sweep-requires : goal.sweep-requires
sweep-requires c =
    let a = c.args in
    let g = (sound-of-test (given (goal.at.sweep-requires c).Start) c.requires.0).shape in
    (g.table-size, (g.names-size, (g.committed-size, (g.staged-size, (g.image-size, g.hash-size)))))

pub open_swept-requires : goal.open_swept-requires
open_swept-requires c =
    let a = c.args in
    (c.requires.1, swept-test a.clock (given (goal.at.open_swept-requires c).Start) _ c.requires.0 c.sweep.ensures)
