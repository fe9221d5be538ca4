-- `put_control`: four runs of words, one behind the other, fill the block.
use Rattle.std.proofs.Common.{◌≡◌, arith, length}
use Rattle.capi_control.proofs.Laws.{put-control}
use Rattle.protocol.specs.Numbers.{slot_count}
use Rattle.capi_control.proofs.put_control.Goals as goal
use Rattle.capi_control.proofs.put_control.Goals.{Start}

-- both arrays have 16 lengths
committed-lens : (c : Start) → length c.args.control.committed_len ≡ slot_count
committed-lens c = c.well_formed.1.0.1.1.1.1.1.0.1.0.1

staged-lens : (c : Start) → length c.args.control.staged_len ≡ slot_count
staged-lens c = c.well_formed.1.0.1.1.1.1.1.1.0.1.0.1

pub copy_at-requires-2 : goal.copy_at-requires-2
copy_at-requires-2 c = omega (arith, committed-lens (goal.at.copy_at-requires-2 c).Start)

pub copy_at-requires-3 : goal.copy_at-requires-3
copy_at-requires-3 c = omega (arith, staged-lens (goal.at.copy_at-requires-3 c).Start)

pub returns : goal.returns
returns c =
    put-control c.args.control _ c.args.words.now _ _ _ _ c.requires (committed-lens (goal.at.returns c).Start) (staged-lens (goal.at.returns c).Start)
    c.phase_number.ensures
    c.copy_at.ensures
    c.copy_at-2.ensures
    c.copy_at-3.ensures
    c.copy_at-4.ensures
