-- `request_decode::crc_fits` meets its contract. Assumes nothing.
use Rattle.std.proofs.Common.{◌∙◌}
use Rattle.request_decode.proofs.Fits.{crc-behind}
use Rattle.request_decode.proofs.crc_fits.Goals as goal

pub returns : goal.returns
returns c = crc-behind c.args.message.now _ _ (c.from.ensures ∙ c.crc16.ensures)
