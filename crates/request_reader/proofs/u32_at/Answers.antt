-- `request_reader::u32_at` meets its contract: four bytes of what stands from the place on. Assumes nothing.
use Rattle.std.proofs.Common.{◌∙◌}
use Rattle.request_reader.proofs.Little.{four_ahead}
use Rattle.request_reader.proofs.u32_at.Goals as goal

pub returns : goal.returns
returns c = c.from_le_bytes.ensures ∙ rw (c.u8_at.ensures, c.u8_at-2.ensures, c.u8_at-3.ensures, c.u8_at-4.ensures, c.rest_at-rest.ensures) (four_ahead _ _)
