-- `seen`: the answer so far is carried along, over the places passed.
use Rattle.std.proofs.Common.{◌∙◌, ap, arith}
use Rattle.laws.specs.All.{all_start, all-step, all_end}
use Rattle.name_filter.specs.Filter.{bit_at}
use Rattle.name_filter.proofs.Filter.seen.Goals as goal

pub loop-i-init : goal.loop-i-init
loop-i-init c = all_start _

pub loop-i-preserved : goal.loop-i-preserved
loop-i-preserved c = all-step _ _ _ _ c.loop-i.invariant (c.is_set-ok.ensures ∙ ap (bit_at c.args.self.now.words) c.place.ensures.0)

pub returns : goal.returns
returns c = all_end _ _ _ _ (omega arith) (omega arith) c.loop-i.invariant
