-- `sound`: another length is refused, else the clauses decide.
use Rattle.std.proofs.Common.{ap}
use Rattle.std.specs.Prelude.{not}
use Rattle.sound.proofs.Laws.{Lent, lent, sound-not, sound-is}
use Rattle.state.specs.State.{state_of}
use Rattle.sound.proofs.sound.Goals as goal
use Rattle.sound.proofs.sound.Goals.{Else-not-lent_right}

-- past the test of the lengths they are exact
lengths : (c : Else-not-lent_right) → Lent ((let a = c.args in state_of a.control a.table.now a.names.now a.committed.now a.staged.now a.image.now a.hash.now))
lengths c = lent _ _ c.lent_right.ensures (ap not c.if-not-lent_right.false)

pub returns-then-not-lent_right : goal.returns-then-not-lent_right
returns-then-not-lent_right c = sound-not _ _ c.lent_right.ensures (ap not c.if-not-lent_right.true)

pub rows_ok-requires : goal.rows_ok-requires
rows_ok-requires c = (lengths (goal.at.rows_ok-requires c).Else-not-lent_right).table-size

pub all_apart-requires : goal.all_apart-requires
all_apart-requires c = (lengths (goal.at.all_apart-requires c).Else-not-lent_right).table-size

pub slots_ok-requires : goal.slots_ok-requires
slots_ok-requires c = let l = lengths (goal.at.slots_ok-requires c).Else-not-lent_right in (l.table-size, (l.names-size, (l.committed-size, l.staged-size)))

pub all_names_apart-requires : goal.all_names_apart-requires
all_names_apart-requires c = (lengths (goal.at.all_names_apart-requires c).Else-not-lent_right).names-size

pub returns : goal.returns
returns c = let s = (let a = c.args in state_of a.control a.table.now a.names.now a.committed.now a.staged.now a.image.now a.hash.now) in
    let t = s.sessions.table in
    let n = s.store.names in
    let cm = s.store.committed in
    let g = s.store.staged in
    let i = s.flash_group.image in
    let h = s.flash_group.hash in
    sound-is s _ _ _ _ _ _ _ c.lent_right.ensures (ap not c.if-not-lent_right.false) (c.values_fit.ensures t n cm g i h)
    (c.flash_fits.ensures t n cm g i h)
    (c.rows_ok.ensures n cm g i h) (c.all_apart.ensures s) (c.slots_ok.ensures i h) (c.all_names_apart.ensures s)
