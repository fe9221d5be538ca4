-- `write`: of a store session, of the flash session, of none.
use Rattle.std.proofs.Common.{sym, ◌∙◌, List, ℕ}
use Rattle.lookup.specs.Search.{row_low}
use Rattle.rules.specs.Command.{write}
use Rattle.session_by_id.proofs.Laws.{row_is, of_row, of_none}
use Rattle.session_row.specs.Lent.{on-slot}
use Rattle.state.specs.State.{state_of}
use Rattle.session_by_id.proofs.write.Goals as goal

pub read_row-e-requires : goal.read_row-e-requires
read_row-e-requires c = (c.requires.0, row_low c.find_row.ensures c.in-Some.is)

pub write-requires : goal.write-requires
write-requires c =
    (row_is c.find_row.ensures c.in-Some.is c.requires.0 c.read_row-e.ensures, (on-slot (sym c.place.ensures ∙ c.in-AtSlot.is), c.requires.1.0))

pub write-requires-in-AtFlash : goal.write-requires-in-AtFlash
write-requires-in-AtFlash c = (
  row_is c.find_row.ensures c.in-Some.is c.requires.0 c.read_row-e.ensures,
  (sym c.place.ensures ∙ c.in-AtFlash.is, (c.requires.1.1.0, c.requires.1.1.1)),
)

pub returns-in-AtSlot : goal.returns-in-AtSlot
returns-in-AtSlot c =
    let a = c.args in
    λ (n m x : List ℕ).
    of_row (state_of c.args.control.now c.args.table.now n m c.args.staged.now c.args.image.now c.args.hash.now) a.clock (write a.offset a.bytes.now)
    c.find_row.ensures c.in-Some.is (c.write.ensures n m a.image.now a.hash.now x)

pub returns-in-AtFlash : goal.returns-in-AtFlash
returns-in-AtFlash c =
    let a = c.args in
    λ (n m x : List ℕ).
    of_row (state_of c.args.control.now c.args.table.now n m c.args.staged.now c.args.image.now c.args.hash.now) a.clock (write a.offset a.bytes.now)
    c.find_row.ensures c.in-Some.is (c.write-in-AtFlash.ensures n m a.staged.now x)

pub returns-in_default : goal.returns-in_default
returns-in_default c =
    let a = c.args in
    λ (n m x : List ℕ).
    (of_none (state_of c.args.control.now c.args.table.now n m c.args.staged.now c.args.image.now c.args.hash.now)
    a.clock (write a.offset a.bytes.now) c.find_row.ensures c.in_default.is)
