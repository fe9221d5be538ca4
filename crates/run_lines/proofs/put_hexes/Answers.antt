-- `put_hexes`: the digits so far are those of the bytes passed.
use Rattle.std.proofs.Common.{refl, ◌∙◌, arith, length-take-le}
use Rattle.run_lines.proofs.Laws.{hexes-stored}
use Rattle.run_lines.specs.Lines.{hexes}
use Rattle.run_lines.proofs.put_hexes.Goals as goal

pub loop-i-init : goal.loop-i-init
unfolding hexes
loop-i-init c = refl

pub loop-i-preserved : goal.loop-i-preserved
loop-i-preserved c =
    let a = c.args in
    let l = c.loop-i in
    c.put_hex.ensures ∙ hexes-stored a.text.now a.bytes.now a.at l.i l.text c.loop-i-test.true (length-take-le l.i a.bytes.now (omega arith)) l.invariant
