-- `state_bits`: from the five bits.
use Rattle.std.proofs.Common.{◌∙◌}
use Rattle.rules.specs.Command.{state_bits}
use Rattle.session_row.proofs.Laws.{flag-bits}
use Rattle.session_row.proofs.state_bits.Goals as goal

pub returns : goal.returns
unfolding state_bits
returns c =
    flag-bits _ _ _ _ _ _ c.flags.ensures c.writes.ensures c.bit_if-reading.ensures.0 c.bit_if-writing.ensures.0 ∙ cc
