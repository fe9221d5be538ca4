-- Each way through `job_outcome`, as the rules have it. Assumes nothing.
use mathlib.Core.Path.{◌≡◌, refl, sym, ap, ◌∙◌}
use mathlib.Core.Bool.{Bool, true, false, cond}
use mathlib.Core.List.{[]}
use Prim.Native.Nat.{ℕ}
use Rattle.std.specs.Prelude.{Ok, Err}
use Rattle.protocol.specs.Numbers.{success, not_sound}
use Rattle.protocol.specs.declared.Code.{Code}
use Rattle.response_types.specs.After.{Outcome, reply_of}
use Rattle.response_types.specs.declared.Said.{Said}
use Rattle.response_types.specs.declared.Said.TheVariants.{Done, Session, Number, Stat, Fields}
use Rattle.protocol.specs.Frame.{Reply, refused, done, reply}
use Rattle.state.specs.State.{State}
use Rattle.state.specs.Soundness.{is_sound}
use Rattle.rules.specs.Command.{end_job}
use Rattle.state.specs.declared.row.Wanted.TheVariants.{OnFlash}
use Rattle.rules.specs.Session.{on_session}
use Rattle.rules.specs.Respond.{Effect, effect_of, unsound, silent, job_outcome}
use Rattle.rules.proofs.Laws.{job_is}

-- the state is not sound
pub no-outcome : (good : Bool) (s : State) → is_sound s ≡ false → record { code = not_sound; response = []; state = s } ≡ job_outcome good s
unfolding job_outcome
no-outcome good s g =
    sym (ap (λ (y : Bool). cond y (effect_of (silent (on_session OnFlash 0 (end_job good) s).0) (on_session OnFlash 0 (end_job good) s).1) (unsound s)) g)

quiet : (x : Reply) → [] ≡ (silent x).1
unfolding silent
quiet (refused c) = refl
quiet done = refl
quiet (reply f) = refl

-- the code of a success, and of a refusal
pub said-code : (r : Outcome) (said : Said) → r ≡ Ok said → success ≡ (silent (reply_of r [])).0
unfolding silent
said-code r Done e = rw e
said-code r (Session id) e = rw e
said-code r (Number n) e = rw e
said-code r (Stat state size) e = rw e
said-code r (Fields len) e = rw e

pub refused-code : (r : Outcome) (code : Code) → r ≡ Err code → code.0 ≡ (silent (reply_of r [])).0
unfolding silent
refused-code r code e = rw e

-- it is: what the flash session answered and left
pub outcome-taken : (good : Bool) (s : State) → is_sound s ≡ true → (code : ℕ) (r : Reply) (s' : State) → (r, s') ≡ on_session OnFlash 0 (end_job good) s → code ≡ (silent r).0
    → record { code = code; response = []; state = s' } ≡ job_outcome good s
outcome-taken good s g code r s' did e = whole ∙ sym (job_is good s g)
  where
    whole : ◌≡◌ {A = Effect} (record { code = code; response = []; state = s' }) (effect_of (silent (on_session OnFlash 0 (end_job good) s).0) (on_session OnFlash 0 (end_job good) s).1)
    whole = λ i. record {
      code = (e ∙ ap (λ (x : Reply × State). (silent x.0).0) did) i;
      response = quiet (on_session OnFlash 0 (end_job good) s).0 i;
      state = ap (λ (x : Reply × State). x.1) did i;
    }
