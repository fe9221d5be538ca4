-- A tray is its messages sent one by one: the results, the responses and the state of those that it does are what single calls give, from the same state. Assumes nothing.
use Rattle.std.specs.Prelude.{◌≡◌, refl, Bool, true, false, cond, ℕ, zero, suc, ◌+◌, ◌*◌, ◌-◌, ◌≤◌, ◌<◌, leb, length, get_or, take}
use Rattle.std.proofs.Common.{sym, ◌∙◌, ap, arith, leb-true, leb-false, length-append}
use mathlib.Core.List.{List, [], ◌∷◌, ◌++◌, map, flat_map}
use Rattle.std.proofs.Math.Decide.{dec_lt}
use Rattle.std.proofs.Math.Seq.{take-append_seam, drop-append-add}
use Rattle.laws.specs.Merge.{alone}
use Rattle.laws.specs.Ranges.{part}
use Rattle.protocol.specs.Numbers.{answer_size}
use Rattle.protocol.specs.Frame.{Answer}
use Rattle.state.specs.State.{State}
use Rattle.rules.specs.Respond.{Effect, respond}
use Rattle.guarantees.specs.Merging.{Event, message, step}
use Rattle.guarantees.specs.FlashPromise.{run}
use Rattle.guarantees.proofs.Fits.{response-fits}
use Rattle.records.specs.Records.{Timed}
use Rattle.tray.specs.Tray.{code_unit, result_word, Done, nothing_done, done_first, done_in}

-- ---- single calls, one after the other
-- each request a message of its own
abbrev pub singly : List Timed → List Event
singly [] = []
singly (q ∷ qs) = message q.0 q.1 ∷ singly qs

-- what they are answered, one after the other from the state s
abbrev pub answers_to : List Timed → State → List Answer
answers_to qs s = alone step s (singly qs)

-- the state that they leave
abbrev pub state_after : List Timed → State → State
state_after qs s = run s (singly qs)

-- an answer's code and length in one number (rule 19.4)
abbrev pub packed : Answer → ℕ
packed a = a.0 + code_unit * length a.1

-- the answers' responses, end to end
abbrev pub end_to_end : List Answer → List ℕ
end_to_end l = flat_map (λ (a : Answer). a.1) l

-- the bytes of the first k responses
abbrev pub bytes_before : (k : ℕ) → List Timed → State → ℕ
bytes_before k qs s = length (end_to_end (answers_to (take k qs) s))

-- message k, on the state that those before it left
abbrev pub call_of : (k : ℕ) → List Timed → State → Effect
call_of k qs s = respond (get_or qs k (0, [])).0 (get_or qs k (0, [])).1 (state_after (take k qs) s)

-- ---- what is done of the messages qs from the state s
-- a beginning of them, by single calls
pub record Beginning (qs : List Timed) (s : State) (d : Done) : Type 0 where
  -- no message more than there are
  pub within : length d.results ≤ length qs
  -- code and length of each, as single calls give them, whatever codes those before it had (rules 30.4 and 30.6)
  pub results-are : d.results ≡ map packed (answers_to (take (length d.results) qs) s)
  -- their responses, end to end (rule 30.5)
  pub responses-are : d.responses ≡ end_to_end (answers_to (take (length d.results) qs) s)
  -- the state after so many single calls (rule 30.4)
  pub state-is : d.state ≡ state_after (take (length d.results) qs) s

-- with so many free bytes
pub record AsSingly (free : ℕ) (qs : List Timed) (s : State) (d : Done) : Type 0 where
  pub begins : Beginning qs s d
  -- there were 64 free bytes before each message that is done (rule 30.7)
  pub had-room : (k : ℕ) → k < length d.results → answer_size ≤ free - bytes_before k qs s
  -- and there are not before the first that is not (rule 30.7)
  pub why-stopped : length d.results < length qs → free - length d.responses < answer_size
  -- all responses fit
  pub fits : length d.responses ≤ free
  -- none has more than 64 bytes
  pub at_most : length d.responses ≤ answer_size * length d.results

-- no message at all is one
pub none-begun : (qs : List Timed) (s : State) → Beginning qs s (nothing_done s)
unfolding flat_map
none-begun qs s = record { within = omega arith; results-are = refl; responses-are = refl; state-is = refl }

-- AS MANY SINGLE CALLS: whatever the messages, the state and the free bytes are (rule 21.27)
pub as-singly : (free : ℕ) (qs : List Timed) (s : State) → AsSingly free qs s (done_in free qs s)
unfolding done_in flat_map
as-singly free [] s = record {
  begins = none-begun [] s;
  had-room = λ (k : ℕ) (h : k < 0). absurd (omega arith);
  why-stopped = λ (h : 0 < 0). absurd (omega arith);
  fits = omega arith;
  at_most = omega arith;
}
as-singly free (q ∷ qs) s = go (leb answer_size free) refl (as-singly (free - length o.response) qs o.state)
  where
    o : Effect
    o = respond q.0 q.1 s

    d : Done
    d = done_in (free - length o.response) qs o.state

    room : AsSingly (free - length o.response) qs o.state d → answer_size ≤ free
        → (k : ℕ) → k < suc (length d.results) → answer_size ≤ free - bytes_before k (q ∷ qs) s
    room r l zero h = omega arith
    room r l (suc k) h =
        let e = length-append o.response (end_to_end (answers_to (take k qs) o.state)) in
        omega (arith, r.had-room k (omega arith))

    go : (y : Bool) → leb answer_size free ≡ y → AsSingly (free - length o.response) qs o.state d → AsSingly free (q ∷ qs) s (cond y (done_first o d) (nothing_done s))
    go true p r =
        let l = leb-true answer_size free p in
        let e = length-append o.response d.responses in
        let f = response-fits q.0 q.1 s in record {
          begins = record {
            within = omega (arith, r.begins.within);
            results-are = ap (λ (x : List ℕ). result_word o ∷ x) r.begins.results-are;
            responses-are = ap (λ (x : List ℕ). o.response ++ x) r.begins.responses-are;
            state-is = r.begins.state-is;
          };
          had-room = room r l;
          why-stopped = λ (h : suc (length d.results) < suc (length qs)). omega (arith, r.why-stopped (omega arith));
          fits = omega (arith, r.fits);
          at_most = omega (arith, r.at_most);
        }
    go false p r = record {
      begins = none-begun (q ∷ qs) s;
      had-room = λ (k : ℕ) (h : k < 0). absurd (omega arith);
      why-stopped = λ (h : 0 < suc (length qs)). omega (arith, leb-false answer_size free p);
      fits = omega arith;
      at_most = omega arith;
    }

-- of two that are so, neither does more messages than the other
no_more : {free : ℕ} {qs : List Timed} {s : State} {d e : Done} → AsSingly free qs s d → AsSingly free qs s e → length e.results ≤ length d.results
no_more {free} {qs} {s} {d} {e} x y = go (dec_lt (length d.results) (length e.results))
  where
    go : Dec (length d.results < length e.results) → length e.results ≤ length d.results
    go (yes h) = absurd (let l = ap length x.begins.responses-are in omega (arith, x.why-stopped (omega (arith, y.begins.within)), y.had-room (length d.results) h))
    go (no h) = omega arith

-- AND IN NO OTHER WAY: single calls and the free bytes determine how many are done, and all of what is done (rule 21.27)
pub only-singly : (free : ℕ) (qs : List Timed) (s : State) (d : Done) → AsSingly free qs s d → d ≡ done_in free qs s
only-singly free qs s d x =
    let y = as-singly free qs s in
    let n : length d.results ≡ length (done_in free qs s).results = omega (arith, no_more x y, no_more y x) in
    let p = x.begins.results-are ∙ ap (λ (k : ℕ). map packed (answers_to (take k qs) s)) n ∙ sym y.begins.results-are in
    let q = x.begins.responses-are ∙ ap (λ (k : ℕ). end_to_end (answers_to (take k qs) s)) n ∙ sym y.begins.responses-are in
    let r = x.begins.state-is ∙ ap (λ (k : ℕ). state_after (take k qs) s) n ∙ sym y.begins.state-is in
    λ i. record { results = p i; responses = q i; state = r i }

-- ---- one message of them
-- message k: its result, and its response, behind those before it
pub record MessageDone (k : ℕ) (qs : List Timed) (s : State) (results responses : List ℕ) : Type 0 where
  pub result-is : get_or results k 0 ≡ result_word (call_of k qs s)
  pub response-is : part (bytes_before k qs s) (length (call_of k qs s).response) responses ≡ (call_of k qs s).response

-- THE K-TH MESSAGE, for each one that is done: code and response are those of a single call on the state that the single calls before it left (rule 21.28)
pub message-done : (free : ℕ) (qs : List Timed) (s : State) (k : ℕ) → k < length (done_in free qs s).results → MessageDone k qs s (done_in free qs s).results (done_in free qs s).responses
unfolding done_in flat_map
message-done free [] s k h = absurd (omega arith)
message-done free (q ∷ qs) s k h = go (leb answer_size free) k h (message-done (free - length o.response) qs o.state)
  where
    o : Effect
    o = respond q.0 q.1 s

    d : Done
    d = done_in (free - length o.response) qs o.state

    go : (y : Bool) (k : ℕ) → k < length (cond y (done_first o d) (nothing_done s)).results → ((j : ℕ) → j < length d.results → MessageDone j qs o.state d.results d.responses)
        → MessageDone k (q ∷ qs) s (cond y (done_first o d) (nothing_done s)).results (cond y (done_first o d) (nothing_done s)).responses
    go true zero h f = record { result-is = refl; response-is = take-append_seam o.response d.responses }
    go true (suc k) h f =
        let r = f k (omega arith) in
        let c = call_of k qs o.state in record {
          result-is = r.result-is;
          response-is = ap (λ (i : ℕ). part i (length c.response) (o.response ++ d.responses)) (length-append o.response (end_to_end (answers_to (take k qs) o.state)))
              ∙ ap (take (length c.response)) (drop-append-add o.response d.responses (bytes_before k qs o.state))
              ∙ r.response-is;
        }
    go false k h f = absurd (omega arith)
