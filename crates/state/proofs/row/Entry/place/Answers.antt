-- `place`: by whether the blob is a slot's number.
use Rattle.std.proofs.Common.{sym}
use Rattle.state.specs.Agree.{place-slot, place-flash}
use Rattle.state.proofs.row.Entry.place.Goals as goal

pub returns-then-self : goal.returns-then-self
returns-then-self c = sym (place-slot c.args.self.blob c.if-self.true)

pub returns : goal.returns
returns c = sym (place-flash c.args.self.blob c.if-self.false)
