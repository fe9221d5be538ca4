-- The form of every success: the header of the message's own subcommand, and where the command has fields, their CRC and the fields behind it. Assumes nothing.
use Rattle.std.specs.Prelude.{◌≡◌, refl, Bool, true, false, cond, List, ℕ, ◌≤◌}
use Rattle.std.proofs.Common.{sym, ◌∙◌, ap, subst, true≢false, arith}
use Rattle.protocol.specs.Numbers.{success, write_meta_command}
use Rattle.protocol.proofs.NameForms.{one_of}
use Rattle.protocol.specs.Decode.{decoded, number_of, subcommand}
use Rattle.protocol.proofs.BodyLayout.{accepted-says}
use Rattle.protocol.specs.Frame.{Reply, refused, done, reply, framed}
use Rattle.protocol.specs.declared.Request.{Request}
use Rattle.protocol.specs.declared.Request.TheVariants.{Count, Enumerate, Open, Read, Write, Commit, Close, Delete, Stat, SessionStat, WriteMeta, Refused}
use Rattle.state.specs.State.{State}
use Rattle.state.specs.Soundness.{is_sound}
use Rattle.rules.specs.Respond.{Effect, effect_of, unsound, answered, respond}
use Rattle.guarantees.proofs.Fits.{short-answered}
use Rattle.guarantees.specs.Fits.{Short}
use Rattle.answers.proofs.Replies.{Fine, Known, decoded-known, answered-fine}
use Rattle.answers.specs.Replies.{refusals, has_fields}
use Rattle.answers.specs.Frames.{SuccessForm}

-- a refusal is no success
refused-not : (code : ℕ) → one_of code refusals ≡ true → code ≡ success → ⊥
refused-not code h e = true≢false (sym h ∙ ap (λ (c : ℕ). one_of c refusals) e)

frame-form : (sub : ℕ) (y : Bool) (x : Reply) → Fine y x → Short x → (framed sub x).0 ≡ success → SuccessForm y sub (framed sub x).1
unfolding framed
frame-form sub y (refused c) h k e = absurd (refused-not c h e)
frame-form sub true done h k e = absurd h
frame-form sub false done h k e = refl
frame-form sub true (reply f) h k e = record { fields = f; as-sent = refl; few = k }
frame-form sub false (reply f) h k e = absurd h

-- a message that is answered with a success was not refused when it was decoded
taken : (q : Request) → Known q → (t : ℕ) (m : List ℕ) (s : State) → (framed (number_of q) (answered q t m s).0).0 ≡ success → number_of q ≤ write_meta_command
unfolding answered framed
taken Count n t m s e = omega arith
taken (Enumerate index) n t m s e = omega arith
taken (Open flags b) n t m s e = omega arith
taken (Read session offset count) n t m s e = omega arith
taken (Write session offset start) n t m s e = omega arith
taken (Commit session len rest) n t m s e = omega arith
taken (Close session) n t m s e = omega arith
taken (Delete b) n t m s e = omega arith
taken (Stat b) n t m s e = omega arith
taken (SessionStat session) n t m s e = omega arith
taken (WriteMeta session) n t m s e = omega arith
taken (Refused code) n t m s e = absurd (refused-not code.0 n e)

-- A SUCCESS CARRIES THE OEM NUMBER AND ITS OWN SUBCOMMAND, AND ITS CRC WHERE IT HAS FIELDS, whatever the state (rules 1.6 and 1.7)
pub success-form : (t : ℕ) (m : List ℕ) (s : State) → (respond t m s).code ≡ success → SuccessForm (has_fields (subcommand m)) (subcommand m) (respond t m s).response
unfolding respond
success-form t m s = go (is_sound s)
  where
    reply-of : Reply
    reply-of = (answered (decoded m) t m s).0

    full : Effect
    full = effect_of (framed (number_of (decoded m)) reply-of) (answered (decoded m) t m s).1

    go : (y : Bool) → (cond y full (unsound s)).code ≡ success → SuccessForm (has_fields (subcommand m)) (subcommand m) (cond y full (unsound s)).response
    go true e =
        subst (λ (sub : ℕ). SuccessForm (has_fields sub) sub full.response) (accepted-says m (taken (decoded m) (decoded-known m) t m s e)).command
        (frame-form (number_of (decoded m)) (has_fields (number_of (decoded m))) reply-of (answered-fine (decoded m) (decoded-known m) t m s) (short-answered (decoded m) t m s) e)
    go false e = absurd (omega arith)
