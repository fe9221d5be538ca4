-- The memory that a caller in C zeroes once, at start, is the fresh state. Assumes nothing.
use Rattle.std.specs.Prelude.{◌≡◌, refl, true, List, ℕ}
use Rattle.std.proofs.Common.{sym, ◌∙◌, ap}
use Rattle.state.specs.Words.{fresh}
use Rattle.state.specs.Soundness.{is_sound}
use Rattle.state.proofs.Fresh.{fresh-sound}
use Rattle.rules.specs.Respond.{served}
use Rattle.capi_control.specs.Words.{control_fits, control_of}
use Rattle.capi_calls.specs.Call.{state_in, memory_of, responded_with, responded}
use Rattle.capi_calls.proofs.Laws.{memory-state}
use Rattle.capi_calls.specs.Zeros.{zeroed}

-- THEOREM: its words are a control block; its state is the fresh one, which is sound and has this memory (rule 5.11)
pub zeros-fit : control_fits zeroed.control ≡ true
unfolding control_fits
zeros-fit = refl

pub zeros-fresh : state_in zeroed ≡ fresh
unfolding control_of fresh
zeros-fresh = refl

pub zeros-sound : is_sound (state_in zeroed) ≡ true
zeros-sound = ap is_sound zeros-fresh ∙ fresh-sound

pub fresh-zeros : memory_of fresh ≡ zeroed
fresh-zeros = ap memory_of (sym zeros-fresh) ∙ memory-state zeroed zeros-fit

-- THEOREM: so a first call on zeroed memory is a call on the fresh state
pub first-call : (t : ℕ) (m a : List ℕ) → responded t m zeroed a ≡ responded_with (served t m fresh a)
unfolding responded
first-call t m a = rw zeros-fit (ap (λ s. responded_with (served t m s a)) zeros-fresh)
