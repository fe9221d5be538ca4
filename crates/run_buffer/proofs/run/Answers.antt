-- `run`: the run over the bytes so far, then the run over those that are left.
use Rattle.std.proofs.Common.{sym, ◌∙◌, ap, Bool, ◌&&◌, ◌+◌, ◌≤◌, ◌<◌, List, ℕ, arith, eqb, length, rules}
use Rattle.laws.specs.Ranges.{lent-part}
use Rattle.protocol.specs.Numbers.{answer_size}
use Rattle.records.proofs.Found.{Found, found, found_in, found_none}
use Rattle.request_answer.specs.Call.{answerable}
use Rattle.run_buffer.specs.Progress.{begins, ends-full, ends-none, goes_to, able-kept}
use Rattle.run_buffer.specs.Step.{Stepped, stepped}
use Rattle.rules.specs.Respond.{served}
use Rattle.run_lines.specs.Lines.{line_most}
use Rattle.state.specs.Memory.{state_in, same-memory, same-then}
use Rattle.run_buffer.proofs.run.Goals as goal
use Rattle.run_buffer.proofs.run.Goals.{In-Whole, Start}

pub loop-text-init : goal.loop-text-init
loop-text-init c = (begins _ _ _ _, same-memory _, ap (λ (y : Bool). y && eqb (length c.args.answer.now) answer_size) c.is_sound.ensures)

pub overflow_sub-text : goal.overflow_sub-text
overflow_sub-text c = let p = c.loop-text.invariant.0 in omega arith

pub record_at-requires : goal.record_at-requires
record_at-requires c = tt

-- no buffer is longer than an address can be
bounded : (c : Start) → length c.args.records.now < 18446744073709551616
bounded c = search rules

-- the record that the code found, and the room for its line
record-found : (c : In-Whole) → Found c.args.records.now c.loop-text.used c.in-Whole.clock c.in-Whole.start
    c.in-Whole.len c.in-Whole.next
record-found c = found _ _ _ _ _ _ (sym c.in-Whole.is ∙ c.record_at.ensures)

room : (c : In-Whole) → c.loop-text.end + line_most ≤ length c.args.text.now
room c =
    let l = c.loop-text in
    let p = l.invariant.0.end-in in
    let q = l.invariant.0.as_long in
    omega (arith, c.loop-text-test.true)

-- the request lies in the records
pub overflow_add-request : goal.overflow_add-request
overflow_add-request c = let f = (found_in (record-found (goal.at.overflow_add-request c).In-Whole)).0 in omega (arith, f, bounded (goal.at.overflow_add-request c).Start)

pub slice_bounds-request-end : goal.slice_bounds-request-end
slice_bounds-request-end c = (found_in (record-found (goal.at.slice_bounds-request-end c).In-Whole)).0

pub answer_one-end-requires : goal.answer_one-end-requires
answer_one-end-requires c =
    record {
      able_value = c.loop-text.invariant.2;
      room_for_line = rw c.loop-text.invariant.0.as_long (room (goal.at.answer_one-end-requires c).In-Whole);
    }

pub loop-text-smaller : goal.loop-text-smaller
loop-text-smaller c =
    let f = found_in (record-found (goal.at.loop-text-smaller c).In-Whole) in
    let p = f.1 in
    let q = f.2 in
    omega arith

pub loop-text-preserved : goal.loop-text-preserved
loop-text-preserved c =
    let l = c.loop-text in (
      goes_to _ _ _ _ _ _ _ _ _ l.invariant.0 (record-found (goal.at.loop-text-preserved c).In-Whole) (room (goal.at.loop-text-preserved c).In-Whole)
          (c.answer_one-end.ensures.stepped ∙ ap (λ (m : List ℕ). stepped (served c.in-Whole.clock m (state_in l.memory) l.answer) l.text l.end)
          (lent-part c.in-Whole.start c.in-Whole.len c.args.records.now)),
      same-then l.invariant.1 c.answer_one-end.ensures.same_memory,
      l.invariant.2 ∙ sym (able-kept _ _ _ _) ∙ ap (λ (w : Stepped). answerable w.state w.answer) (sym c.answer_one-end.ensures.stepped),
    )

pub returns-after-loop-text : goal.returns-after-loop-text
returns-after-loop-text c =
    let p = c.loop-text.invariant.0 in
    record { same_memory = c.loop-text.invariant.1; text_after = ends-full _ _ _ _ _ _ _ _ _ p (omega arith); len_in_bounds = (rw p.as_long p.end-in, p.at_in) }

pub returns-in_default : goal.returns-in_default
returns-in_default c =
    let p = c.loop-text.invariant.0 in record {
      same_memory = c.loop-text.invariant.1;
      text_after = ends-none _ _ _ _ _ _ _ _ _ p (found_none _ _ c.record_at.result c.record_at.ensures c.in_default.not-Whole);
      len_in_bounds = (rw p.as_long p.end-in, p.at_in);
    }
