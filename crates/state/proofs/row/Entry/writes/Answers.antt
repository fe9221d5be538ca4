-- `Entry::writes`: by the flags of the row.
use Rattle.std.proofs.Common.{◌∙◌, ap, ℕ}
use Rattle.state.specs.Words.{writes_with}
use Rattle.state.proofs.row.Entry.writes.Goals as goal

pub returns : goal.returns
returns c = c.writes_with.ensures ∙ ap (λ (f : ℕ). writes_with f) c.flags.ensures
