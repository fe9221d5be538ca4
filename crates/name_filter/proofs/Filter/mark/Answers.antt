-- `mark`: the places passed are set, and whatever was set stays so.
use Rattle.std.proofs.Common.{rules, ◌≡◌, length, arith}
use Rattle.name_filter.proofs.Laws.{marked-none, marked_more, marked_all}
use Rattle.name_filter.proofs.Filter.mark.Goals as goal

pub loop-i-init : goal.loop-i-init
loop-i-init c = marked-none c.args.self.now.words c.args.hash

pub loop-i-preserved : goal.loop-i-preserved
loop-i-preserved c =
    let p = c.place in
    let l = c.loop-i in
    let a = c.args in
    let n : length l.self.words ≡ 8192 = search rules in
    marked_more a.self.now.words a.hash l.i p.result l.self.words _ (omega arith) p.ensures.0 (omega arith) c.set_bit.ensures l.invariant

pub returns : goal.returns
returns c =
    let a = c.args in
    let l = c.loop-i in
    marked_all a.self.now.words a.hash l.i l.self.words (omega arith) l.invariant
