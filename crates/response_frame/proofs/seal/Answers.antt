-- `response_frame::seal` meets its contract: header and CRC go in front of the fields that stand in their place. Assumes nothing.
use Rattle.std.proofs.Common.{◌∙◌, ap}
use Rattle.crc.specs.Crc.{crc}
use Rattle.laws.specs.Bytes.{bytes_of}
use Rattle.laws.specs.Ranges.{lent-part}
use Rattle.protocol.specs.Decode.{fields_at}
use Rattle.response_frame.proofs.Laid.{sealed}
use Rattle.response_frame.proofs.seal.Goals as goal

pub returns : goal.returns
returns c =
    let a = c.args.answer.now in
    let n = c.args.len in
    let crc-is = c.bytes_of_u16-crc.ensures ∙ ap (bytes_of 2) (c.crc16.ensures ∙ ap crc (lent-part fields_at n a)) in
    sealed c.args.sub n _ _ a _ _ _ c.header_of-head.ensures crc-is
    c.put_at-at.ensures.1 c.put_at-at.ensures.0 c.put_at.ensures.1 c.requires
