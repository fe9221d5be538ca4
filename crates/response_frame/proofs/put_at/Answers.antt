-- `put_at`: the bytes copied, and the place behind them.
use Rattle.std.proofs.Common.{refl, sym, ◌∙◌}
use Rattle.memory_copy.specs.Laws.{pasted}
use Rattle.response_frame.proofs.put_at.Goals as goal

pub returns : goal.returns
returns c =
    let a = c.args in
    (refl, c.copy_at.ensures ∙ sym (pasted a.dst.now a.at a.src.now c.requires))
