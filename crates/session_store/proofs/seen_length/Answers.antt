-- `seen_length`: by the session's flags.
use Rattle.session_store.proofs.seen_length.Goals as goal

pub returns-then-writing : goal.returns-then-writing
returns-then-writing c = simp c.if-writing.true

pub returns-else-writing : goal.returns-else-writing
returns-else-writing c = simp c.if-writing.false
