-- `answer_all`: the messages done so far, then those that are left.
use Rattle.std.proofs.Common.{◌≡◌, Ok, Err, List, ℕ, refl, sym, ap, ◌∙◌, ◌-◌, ◌+◌, ◌≤◌, ◌<◌, arith, ltb, length, leb-true, ltb-true, rules}
use Rattle.laws.specs.All.{and-true}
use Rattle.laws.specs.Ranges.{lent-part}
use Rattle.protocol.specs.Numbers.{answer_size}
use Rattle.records.proofs.Found.{Found, found, found_in, found_none}
use Rattle.rules.specs.Respond.{respond}
use Rattle.std.specs.Result.{result_unwrap_or}
use Rattle.response_types.specs.Sent.{Sent, length_of}
use Rattle.state.specs.Memory.{state_in, same-memory, same-then}
use Rattle.tray.specs.Tray.{tray_most}
use Rattle.tray_messages.specs.Call.{served_at}
use Rattle.tray_messages.proofs.Progress.{begins, ends-left, ends-none, goes_to, reply-short}
use Rattle.tray_messages.proofs.answer_all.Goals as goal
use Rattle.tray_messages.proofs.answer_all.Goals.{After-answer_at-sent, In-Whole, Start}

pub loop-done-init : goal.loop-done-init
loop-done-init c = (same-memory _, begins _ _ _ _ c.requires.sound)

pub overflow_sub-responses : goal.overflow_sub-responses
overflow_sub-responses c = let p = c.loop-done.invariant.1.end-in in let q = c.loop-done.invariant.1.as_long in omega arith

pub record_at-requires : goal.record_at-requires
record_at-requires c = tt

-- the record that the code found, and the room for its response
record-found : (c : In-Whole) → Found c.args.records.now c.loop-done.at c.in-Whole.clock c.in-Whole.start
    c.in-Whole.len c.in-Whole.next
record-found c = found _ _ _ _ _ _ (sym c.in-Whole.is ∙ c.record_at.ensures)

room : (c : In-Whole) → c.loop-done.end + answer_size ≤ length c.args.responses.now
room c =
    let l = c.loop-done in
    let p = l.invariant.1.end-in in
    let q = l.invariant.1.as_long in
    let t = leb-true answer_size (length l.responses - l.end) (and-true (ltb l.done tray_most) _ c.loop-done-test.true).1 in
    omega arith

few : (c : In-Whole) → c.loop-done.done < tray_most
few c =
    let l = c.loop-done in
    ltb-true l.done tray_most (and-true (ltb l.done tray_most) _ c.loop-done-test.true).0

-- the response is no longer than an answer buffer
short : (c : After-answer_at-sent) → length_of c.answer_at-sent.result ≤ answer_size
short c = reply-short _ _ _ _ _ c.answer_at-sent.ensures.served

-- a refusal takes no bytes
taken : (r : Sent) → result_unwrap_or r 0 ≡ length_of r
taken (Ok n) = refl
taken (Err code) = refl

-- no buffer is longer than an address can be
bounded : (c : Start) → (length c.args.responses.now < 18446744073709551616) × (length c.args.records.now < 18446744073709551616)
bounded c = (search rules, search rules)

-- the message lies in the records
pub overflow_add-message : goal.overflow_add-message
overflow_add-message c = let f = (found_in (record-found (goal.at.overflow_add-message c).In-Whole)).0 in omega (arith, f, (bounded (goal.at.overflow_add-message c).Start).1)

pub slice_bounds-message-end : goal.slice_bounds-message-end
slice_bounds-message-end c = (found_in (record-found (goal.at.slice_bounds-message-end c).In-Whole)).0

pub answer_at-sent-requires : goal.answer_at-sent-requires
answer_at-sent-requires c =
    let p = c.loop-done.invariant.1 in
    record { sound = p.still-sound; in_bounds = rw p.as_long (room (goal.at.answer_at-sent-requires c).In-Whole) }

pub packed_sent-requires : goal.packed_sent-requires
packed_sent-requires c = omega (arith, short (goal.at.packed_sent-requires c).After-answer_at-sent)

pub offset_bounds-results-done : goal.offset_bounds-results-done
offset_bounds-results-done c = omega (arith, few (goal.at.offset_bounds-results-done c).In-Whole)

pub bounds-results-done : goal.bounds-results-done
bounds-results-done c =
    let p = c.loop-done.invariant.1.as_many in
    let q = c.requires.results_len in
    omega (arith, few (goal.at.bounds-results-done c).In-Whole)

pub overflow_add-done : goal.overflow_add-done
overflow_add-done c = omega (arith, few (goal.at.overflow_add-done c).In-Whole)

pub overflow_add-end : goal.overflow_add-end
overflow_add-end c =
    omega (arith, c.unwrap_or-end.ensures ∙ taken c.answer_at-sent.result, short (goal.at.overflow_add-end c).After-answer_at-sent, room (goal.at.overflow_add-end c).In-Whole, (bounded (goal.at.overflow_add-end c).Start).0)

pub loop-done-smaller : goal.loop-done-smaller
loop-done-smaller c = omega (arith, few (goal.at.loop-done-smaller c).In-Whole)

pub loop-done-preserved : goal.loop-done-preserved
loop-done-preserved c =
    let l = c.loop-done in (
      same-then l.invariant.0 c.answer_at-sent.ensures.same_memory,
      rw (c.unwrap_or-end.ensures ∙ taken c.answer_at-sent.result) (goes_to _ _ _ _ c.requires.results_len _ _ _ _ _ _ l.invariant.1 (record-found (goal.at.loop-done-preserved c).In-Whole)
          (few (goal.at.loop-done-preserved c).In-Whole) (room (goal.at.loop-done-preserved c).In-Whole)
          (c.answer_at-sent.ensures.served ∙ ap (λ (m : List ℕ). served_at (respond c.in-Whole.clock m (state_in l.memory)) l.responses l.end)
          (lent-part c.in-Whole.start c.in-Whole.len c.args.records.now))
          c.packed_sent.ensures.value),
    )

pub returns-after-loop-done-clause-answered : goal.returns-after-loop-done-clause-answered
returns-after-loop-done-clause-answered c = ends-left _ _ _ _ c.requires.results_len _ _ _ _ _ _ c.loop-done.invariant.1 c.loop-done-test.false

pub returns-in_default-clause-answered : goal.returns-in_default-clause-answered
returns-in_default-clause-answered c =
    ends-none _ _ _ _ c.requires.results_len _ _ _ _ _ _ c.loop-done.invariant.1
    (found_none _ _ c.record_at.result c.record_at.ensures
    c.in_default.not-Whole)
