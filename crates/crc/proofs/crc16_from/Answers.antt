-- `crc16_from`: the register after the bytes passed.
use Rattle.std.proofs.Common.{refl, ap, ◌∙◌, take_all}
use Rattle.crc.specs.Crc.{shift, shifts, table, crc_from}
use Rattle.crc.proofs.Steps.{crc-more}
use Rattle.crc.proofs.crc16_from.Goals as goal

pub loop-b-init : goal.loop-b-init
unfolding crc_from
loop-b-init c = refl

pub step-r-requires : goal.step-r-requires
unfolding table shifts shift
step-r-requires c = refl

pub loop-b-preserved : goal.loop-b-preserved
loop-b-preserved c = rw (crc-more _ _ _ c.loop-b-test.true, ← c.loop-b.invariant) c.step-r.ensures

pub returns : goal.returns
returns c = c.loop-b.invariant ∙ ap (crc_from _) (take_all _ _ c.loop-b-test.false)
