-- `response_frame::stat_bytes` meets its contract. Assumes nothing.
use Rattle.response_frame.proofs.Laid.{stat-is}
use Rattle.response_frame.proofs.stat_bytes.Goals as goal

pub returns : goal.returns
returns c = stat-is _ _ _ _ c.bytes_of_u16-s.ensures c.bytes_of_u32-n.ensures
