-- Events followed one by one from a state: the code that each is answered, and the state that they leave. Assumes nothing.
use Rattle.std.specs.Prelude.{◌≡◌, refl, Bool, true, List, [], ◌∷◌, ◌++◌, ℕ}
use Rattle.std.proofs.Common.{sym, ◌∙◌, ap}
use Rattle.laws.specs.Merge.{alone}
use Rattle.protocol.specs.Numbers.{success}
use Rattle.protocol.specs.Decode.{decoded, number_of}
use Rattle.protocol.specs.Frame.{Reply, refused, done, reply, Answer, framed}
use Rattle.protocol.specs.declared.Request.{Request}
use Rattle.state.specs.State.{State}
use Rattle.state.specs.Soundness.{is_sound}
use Rattle.state.specs.declared.row.Wanted.TheVariants.{OnFlash}
use Rattle.rules.specs.Command.{end_job}
use Rattle.rules.specs.Session.{on_session}
use Rattle.rules.specs.Respond.{Effect, effect_of, answered, silent}
use Rattle.rules.proofs.Laws.{respond-is, job_is}
use Rattle.guarantees.specs.Merging.{Event, message, job_ended, step}
use Rattle.guarantees.proofs.FlashPromise.{next-sound}
use Rattle.guarantees.specs.FlashPromise.{next, run}

-- the completion codes of answers
abbrev pub codes : List Answer → List ℕ
codes [] = []
codes (a ∷ rest) = a.0 ∷ codes rest

-- the events es, one after the other from the state s, are answered with the codes cs and leave the state y
pub record Goes (s : State) (es : List Event) (cs : List ℕ) (y : State) : Type 0 where
  pub coded : codes (alone step s es) ≡ cs
  pub left : run s es ≡ y

-- the code of a reply
abbrev pub code_of : Reply → ℕ
code_of (refused code) = code
code_of done = success
code_of (reply f) = success

framed-code : (sub : ℕ) (x : Reply) → (framed sub x).0 ≡ code_of x
unfolding framed
framed-code sub (refused code) = refl
framed-code sub done = refl
framed-code sub (reply f) = refl

silent-code : (x : Reply) → (silent x).0 ≡ code_of x
unfolding silent
silent-code (refused code) = refl
silent-code done = refl
silent-code (reply f) = refl

-- one event, in a state that is sound
abbrev pub Makes : State → Event → ℕ → State → Type 0
Makes s e c y = is_sound s ≡ true → ((step s e).0.0 ≡ c) × (next s e ≡ y)

-- a message that asks q
pub by-message : (t : ℕ) (m : List ℕ) (q : Request) (s : State) (x : Reply) (y : State) → decoded m ≡ q → answered q t m s ≡ (x, y) → Makes s (message t m) (code_of x) y
by-message t m q s x y d e h =
    let o = respond-is t m s h ∙ ap (λ (r : Request). effect_of (framed (number_of r) (answered r t m s).0) (answered r t m s).1) d
    ∙ ap (λ (a : Reply × State). effect_of (framed (number_of q) a.0) a.1) e in (ap (λ (z : Effect). z.code) o ∙ framed-code (number_of q) x, ap (λ (z : Effect). z.state) o)

-- a job outcome
pub by-outcome : (good : Bool) (s : State) (x : Reply) (y : State) → on_session OnFlash 0 (end_job good) s ≡ (x, y) → Makes s (job_ended good) (code_of x) y
by-outcome good s x y e h =
    let o = job_is good s h ∙ ap (λ (a : Reply × State). effect_of (silent a.0) a.1) e in (ap (λ (z : Effect). z.code) o ∙ silent-code x, ap (λ (z : Effect). z.state) o)

-- no event
pub ends : (s : State) → is_sound s ≡ true → Goes s [] [] s
ends s h = record { coded = refl; left = refl }

-- an event, then the rest
pub on : {s y z : State} {e : Event} {es : List Event} {c : ℕ} {cs : List ℕ} → Makes s e c y → (is_sound y ≡ true → Goes y es cs z) → is_sound s ≡ true → Goes s (e ∷ es) (c ∷ cs) z
on {s} {y} {z} {e} {es} {c} {cs} f g h =
    let o = f h in
    let r = g (ap is_sound (sym o.1) ∙ next-sound s e h) in record {
      coded = (λ i. o.0 i ∷ codes (alone step (o.1 i) es)) ∙ ap (λ (l : List ℕ). c ∷ l) r.coded;
      left = ap (λ (x : State). run x es) o.1 ∙ r.left;
    }

codes-after : (es fs : List Event) (s : State) → codes (alone step s (es ++ fs)) ≡ codes (alone step s es) ++ codes (alone step (run s es) fs)
codes-after [] fs s = refl
codes-after (e ∷ es) fs s = ap (λ (l : List ℕ). (step s e).0.0 ∷ l) (codes-after es fs (next s e))

run-after : (es fs : List Event) (s : State) → run s (es ++ fs) ≡ run (run s es) fs
run-after [] fs s = refl
run-after (e ∷ es) fs s = run-after es fs (next s e)

-- a history behind a history
pub then : {s y z : State} {es fs : List Event} {cs ds : List ℕ} → Goes s es cs y → Goes y fs ds z → Goes s (es ++ fs) (cs ++ ds) z
then {s} {y} {z} {es} {fs} {cs} {ds} g r = record {
  coded = codes-after es fs s ∙ (λ i. g.coded i ++ codes (alone step (g.left i) fs)) ∙ ap (λ (l : List ℕ). cs ++ l) r.coded;
  left = run-after es fs s ∙ ap (λ (x : State). run x fs) g.left ∙ r.left;
}
