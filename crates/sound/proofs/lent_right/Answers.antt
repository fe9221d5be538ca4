-- `lent_right`: from the lengths tested, and those of the two arrays, which their types give.
use Rattle.sound.proofs.Laws.{lent_is}
use Rattle.state.specs.State.{state_of}
use Rattle.sound.proofs.lent_right.Goals as goal

pub returns : goal.returns
returns c = let a = c.args in
    lent_is (state_of a.control a.table.now a.names.now a.committed.now a.staged.now a.image.now a.hash.now)
    c.well_formed.0.1.1.1.1.1.0.1.0.1
    c.well_formed.0.1.1.1.1.1.1.0.1.0.1
