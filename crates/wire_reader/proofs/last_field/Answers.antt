-- `last_field`: what is found so far is the last, unless a later one is left.
use Rattle.std.proofs.Common.{◌∙◌, ap}
use Rattle.wire_reader.specs.Left.{left}
use Rattle.wire_reader.proofs.Numbers.{last-start, last-more, last_end}
use Rattle.wire_reader.proofs.last_field.Goals as goal

pub loop-field-init : goal.loop-field-init
loop-field-init c = last-start _ _ _ _ _ (ap left c.into_iter-field-iterator.ensures.into_iter_gives ∙ c.new-field-items.ensures)

pub loop-field-preserved : goal.loop-field-preserved
loop-field-preserved c = last-more _ _ _ _ c.loop-field.invariant c.in-Some.field _ c.in-Some.ensures.steps

pub returns : goal.returns
returns c = last_end _ _ _ _ c.loop-field.invariant c.in-None.ensures.steps.0
