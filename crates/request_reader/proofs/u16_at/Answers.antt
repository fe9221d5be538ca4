-- `request_reader::u16_at` meets its contract: two bytes of what stands from the place on. Assumes nothing.
use Rattle.std.proofs.Common.{◌∙◌}
use Rattle.request_reader.proofs.Little.{two_ahead}
use Rattle.request_reader.proofs.u16_at.Goals as goal

pub returns : goal.returns
returns c = c.from_le_bytes.ensures ∙ rw (c.u8_at-low.ensures, c.u8_at-high.ensures, c.rest_at-rest.ensures) (two_ahead _ _)
