-- `request_decode::fields_of` meets its contract: what the reader found, with the widths of the subcommand. Assumes nothing.
use Rattle.request_decode.proofs.Asked.{Few, few, fields-found}
use Rattle.request_decode.proofs.fields_of.Goals as goal

pub take_fields-requires : goal.take_fields-requires
unfolding Few
take_fields-requires c = rw c.widths_of-w.ensures (few _)

pub returns : goal.returns
returns c = fields-found _ c.args.message.now _ _ c.widths_of-w.ensures c.take_fields.ensures
