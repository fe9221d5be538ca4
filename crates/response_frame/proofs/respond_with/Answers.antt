-- `response_frame::respond_with` meets its contract: the fields copied to their place, then header and CRC before them. Assumes nothing.
use Rattle.response_frame.proofs.Laid.{with-is}
use Rattle.response_frame.proofs.respond_with.Goals as goal

pub returns : goal.returns
returns c = with-is _ _ _ _ _ _ c.requires c.copy_at.ensures c.seal.ensures
