-- `request_decode::ends_in_name` meets its contract. Assumes nothing.
use Rattle.std.proofs.Common.{ap, ◌∙◌}
use Rattle.protocol.specs.Names.{name_form}
use Rattle.request_names.proofs.Names.{tail-part}
use Rattle.request_decode.proofs.ends_in_name.Goals as goal

pub returns : goal.returns
returns c = c.name_form.ensures ∙ ap name_form (tail-part c.args.at c.args.message.now)
