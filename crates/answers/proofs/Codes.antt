-- Every code is one that document 01 has: of a message one of eleven, of a job outcome one of three. Assumes nothing.
use Rattle.std.specs.Prelude.{◌≡◌, refl, Bool, true, false, not, cond, List, ℕ, eqb}
use Rattle.std.proofs.Common.{sym, ◌∙◌, ap, true≢false, eqb-true}
use Rattle.std.proofs.Math.Option.{Option, none, some}
use Rattle.laws.specs.All.{or_right}
use Rattle.protocol.specs.Numbers.{success, not_sound, not_supported, running}
use Rattle.protocol.proofs.NameForms.{one_of}
use Rattle.protocol.specs.Decode.{decoded, number_of}
use Rattle.protocol.specs.Frame.{Reply, refused, done, reply, framed}
use Rattle.state.specs.declared.row.Place.{Place}
use Rattle.state.specs.declared.row.Place.TheVariants.{AtSlot, AtFlash}
use Rattle.state.specs.declared.row.Wanted.TheVariants.{OnFlash}
use Rattle.state.specs.State.{State, Row, FlashBody, Body, place_of, in_row, in_body}
use Rattle.state.specs.Words.{status_of, blob}
use Rattle.state.specs.Soundness.{is_sound}
use Rattle.rules.specs.Command.{end_job}
use Rattle.rules.specs.Store.{on_store}
use Rattle.rules.specs.Flash.{job_ends, on_flash}
use Rattle.rules.specs.Session.{on_part, on_found, on_session, row_found}
use Rattle.rules.specs.Respond.{Effect, effect_of, unsound, answered, respond, silent, job_outcome}
use Rattle.answers.proofs.Replies.{Fine, decoded-known, answered-fine}
use Rattle.answers.specs.Replies.{refusals, has_fields}
use Rattle.answers.specs.Codes.{documented, outcomes}

-- ---- messages
not-unsound : (code : ℕ) → one_of code refusals ≡ true → eqb code not_sound ≡ false
not-unsound code h = go (eqb code not_sound) refl
  where
    go : (y : Bool) → eqb code not_sound ≡ y → eqb code not_sound ≡ false
    go true e = absurd (true≢false (sym h ∙ ap (λ (c : ℕ). one_of c refusals) (eqb-true code not_sound e)))
    go false e = e

frame-code : (sub : ℕ) (y : Bool) (x : Reply) → Fine y x → (one_of (framed sub x).0 documented ≡ true) × (eqb (framed sub x).0 not_sound ≡ false)
unfolding framed
frame-code sub y (refused c) h = (or_right (eqb c success) _ (or_right (eqb c not_sound) (one_of c refusals) h), not-unsound c h)
frame-code sub y done h = (refl, refl)
frame-code sub y (reply f) h = (refl, refl)

abbrev Coded : Bool → Effect → Type 0
Coded sound o = (one_of o.code documented ≡ true) × (eqb o.code not_sound ≡ not sound)

coded : (t : ℕ) (m : List ℕ) (s : State) → Coded (is_sound s) (respond t m s)
unfolding respond
coded t m s = go (is_sound s)
  where
    full : Effect
    full = effect_of (framed (number_of (decoded m)) (answered (decoded m) t m s).0) (answered (decoded m) t m s).1

    go : (y : Bool) → Coded y (cond y full (unsound s))
    go true = frame-code (number_of (decoded m)) (has_fields (number_of (decoded m))) (answered (decoded m) t m s).0 (answered-fine (decoded m) (decoded-known m) t m s)
    go false = (refl, refl)

-- THE CODE OF EVERY MESSAGE IS ONE OF THE ELEVEN, whatever the state (rules 7.1 to 7.11)
pub message-code : (t : ℕ) (m : List ℕ) (s : State) → one_of (respond t m s).code documented ≡ true
message-code t m s = (coded t m s).0

-- AND IT IS FF EXACTLY WHERE THE STATE IS NOT SOUND (rule 7.2)
pub unsound-code : (t : ℕ) (m : List ℕ) (s : State) → eqb (respond t m s).code not_sound ≡ not (is_sound s)
unsound-code t m s = (coded t m s).1

-- ---- job outcomes: a success without fields, or D5
abbrev Ended : Reply → Type 0
Ended (refused code) = code ≡ not_supported
Ended done = Unit {0}
Ended (reply f) = ⊥

job-ended : (y good : Bool) (r : Row) (b : FlashBody) → Ended (job_ends y good r b).0
unfolding job_ends
job-ended true good r b = tt
job-ended false good r b = refl

part-ended : (p : Place) (good : Bool) (r : Row) (b : Body p) → Ended (on_part p 0 (end_job good) r b).0
unfolding on_store on_flash
part-ended (AtSlot k) good r b = refl
part-ended AtFlash good r b = job-ended (eqb (status_of r) running) good r b

session-ended : (good : Bool) (s : State) → Ended (on_session OnFlash 0 (end_job good) s).0
unfolding on_session
session-ended good s = go (row_found OnFlash s)
  where
    go : (o : Option ℕ) → Ended (on_found o OnFlash 0 (end_job good) s).0
    go none = refl
    go (some r) = part-ended (place_of (blob r s)) good ((in_row r).get s) ((in_body (place_of (blob r s))).get s)

silent-code : (x : Reply) → Ended x → one_of (silent x).0 outcomes ≡ true
unfolding silent
silent-code (refused c) h = ap (λ (code : ℕ). one_of code outcomes) h
silent-code done h = refl
silent-code (reply f) h = absurd h

-- THE CODE OF EVERY JOB OUTCOME IS ONE OF THE THREE, whatever the state (rules 17.1 and 17.3)
pub outcome-code : (good : Bool) (s : State) → one_of (job_outcome good s).code outcomes ≡ true
unfolding job_outcome
outcome-code good s = go (is_sound s)
  where
    full : Effect
    full = effect_of (silent (on_session OnFlash 0 (end_job good) s).0) (on_session OnFlash 0 (end_job good) s).1

    go : (y : Bool) → one_of (cond y full (unsound s)).code outcomes ≡ true
    go true = silent-code (on_session OnFlash 0 (end_job good) s).0 (session-ended good s)
    go false = refl
