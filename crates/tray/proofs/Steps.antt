-- One step over the messages of a tray. Assumes nothing.
use Rattle.std.specs.Prelude.{◌≡◌, refl, Bool, true, false, cond, List, [], ◌∷◌, ℕ, ◌-◌, ◌≤◌, ◌<◌, leb, length}
use Rattle.std.proofs.Common.{ap, le-leb}
use Rattle.std.proofs.lemmas.Bool.{lt-leb}
use Rattle.protocol.specs.Numbers.{answer_size}
use Rattle.state.specs.State.{State}
use Rattle.rules.specs.Respond.{respond}
use Rattle.records.specs.Records.{Timed}
use Rattle.tray.specs.Tray.{nothing_done, done_first, done_in}

-- no message
pub done_none : (free : ℕ) (s : State) → done_in free [] s ≡ nothing_done s
unfolding done_in
done_none free s = refl

-- a message, by the test for room
done-by : (y : Bool) (free : ℕ) (q : Timed) (qs : List Timed) (s : State) → leb answer_size free ≡ y
    → done_in free (q ∷ qs) s ≡ cond y (done_first (respond q.0 q.1 s) (done_in (free - length (respond q.0 q.1 s).response) qs (respond q.0 q.1 s).state)) (nothing_done s)
unfolding done_in
done-by y free q qs s h =
    let o = respond q.0 q.1 s in
    ap (λ (z : Bool). cond z (done_first o (done_in (free - length o.response) qs o.state)) (nothing_done s)) h

-- no room
pub done_full : (free : ℕ) (qs : List Timed) (s : State) → free < answer_size → done_in free qs s ≡ nothing_done s
done_full free [] s h = done_none free s
done_full free (q ∷ qs) s h = done-by false free q qs s (lt-leb answer_size free h)

-- a message, and room for its response
pub done-one : (free : ℕ) (q : Timed) (qs : List Timed) (s : State) → answer_size ≤ free
    → done_in free (q ∷ qs) s ≡ done_first (respond q.0 q.1 s) (done_in (free - length (respond q.0 q.1 s).response) qs (respond q.0 q.1 s).state)
done-one free q qs s h = done-by true free q qs s (le-leb answer_size free h)
