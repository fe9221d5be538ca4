-- `blobs::respond` meets its contract: state and answer buffer are tested, then the request is answered. Assumes nothing.
use Rattle.std.proofs.Common.{ap, Bool, ◌&&◌, eqb, length}
use Rattle.protocol.specs.Numbers.{answer_size}
use Rattle.blobs.proofs.respond.Goals as goal

pub answer-requires : goal.answer-requires
answer-requires c =
    ap (λ (y : Bool). y && eqb (length c.args.answer.now) answer_size) c.is_sound.ensures
