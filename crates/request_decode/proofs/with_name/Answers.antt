-- `request_decode::with_name` meets its contract: a wrong form is refused, else the name is asked with. Assumes nothing.
use Rattle.std.proofs.Common.{sym, ◌∙◌}
use Rattle.protocol.specs.Decode.{with_name}
use Rattle.request_decode.proofs.with_name.Goals as goal

pub returns-then-ends_in_name : goal.returns-then-ends_in_name
unfolding with_name
returns-then-ends_in_name g c = λ f h. rw (sym c.ends_in_name.ensures ∙ c.if-ends_in_name.true, ← c.blob_at.ensures) (h _ _ c.ask.ensures)

pub returns-else-ends_in_name : goal.returns-else-ends_in_name
unfolding with_name
returns-else-ends_in_name g c = λ f h. rw (sym c.ends_in_name.ensures ∙ c.if-ends_in_name.false)
