-- `copy_at`: the buffer so far is the paste of what was passed.
use Rattle.std.proofs.Common.{sym, arith}
use Rattle.memory_copy.specs.Laws.{stored-none, stored_more, stored-all}
use Rattle.memory_copy.proofs.copy_at.Goals as goal

pub loop-i-init : goal.loop-i-init
loop-i-init g c = stored-none c.args.dst.now c.args.at c.args.src.now

pub loop-i-preserved : goal.loop-i-preserved
loop-i-preserved g c =
    let l = c.loop-i in
    let a = c.args in
    stored_more a.dst.now a.at a.src.now c.requires l.i c.index-src-i.result l.dst (omega arith) (sym c.index-src-i.is) l.invariant

pub returns : goal.returns
returns g c =
    let l = c.loop-i in
    let a = c.args in
    stored-all a.dst.now a.at a.src.now c.requires l.i l.dst (omega arith) l.invariant
