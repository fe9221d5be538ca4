-- `started`: from `startable`.
use Rattle.std.proofs.Common.{sym, ◌∙◌, ap, Bool, cond}
use Rattle.state.specs.Entry.{status_set}
use Rattle.session_flash.proofs.started.Goals as goal

pub returns-then-startable : goal.returns-then-startable
returns-then-startable c = let a = c.args in c.with_status.ensures ∙ ap (λ (y : Bool). cond y (status_set a.e 1) a.e) (sym c.if-startable.true ∙ c.startable.ensures)

pub returns-else-startable : goal.returns-else-startable
returns-else-startable c = let a = c.args in ap (λ (y : Bool). cond y (status_set a.e 1) a.e) (sym c.if-startable.false ∙ c.startable.ensures)
