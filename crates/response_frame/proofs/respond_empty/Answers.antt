-- `response_frame::respond_empty` meets its contract. Assumes nothing.
use Rattle.std.proofs.Common.{◌∙◌}
use Rattle.response_frame.proofs.Laid.{empty-long, empty-is}
use Rattle.response_frame.proofs.respond_empty.Goals as goal

pub returns : goal.returns
returns c = (
  empty-long _ _ _ c.header_of-head.ensures c.put_at.ensures.0,
  c.put_at.ensures.1 ∙ empty-is _ _ _ c.header_of-head.ensures,
)
