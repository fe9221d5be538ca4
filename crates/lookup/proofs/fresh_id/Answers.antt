-- `fresh_id`: the identifiers passed so far are in use, so the search may as well start here.
use Rattle.std.proofs.Common.{◌≡◌, sym, ◌∙◌, ap, arith, ℕ, ◌-◌, ◌+◌}
use Rattle.lookup.specs.Laws.{fresh-stop, fresh_step, fresh-last}
use Rattle.protocol.specs.Numbers.{row_count}
use Rattle.rules.specs.Lookup.{fresh_from}
use Rattle.state.specs.State.{State, with_rows}
use Rattle.lookup.proofs.fresh_id.Goals as goal

pub returns-then-is_unused : goal.returns-then-is_unused
returns-then-is_unused c =
    let a = c.args in
    let l = c.loop in
    let i = l.counter in (
      λ (s : State).
          sym (l.invariant.0 s ∙ fresh-stop (with_rows a.rows a.table.now s) (row_count - i) (row_count - (i + 1)) l.id (omega arith) (sym (c.is_unused.ensures s) ∙ c.if-is_unused.true)),
      l.invariant.1.0,
    )

pub loop-preserved : goal.loop-preserved
loop-preserved c =
    let a = c.args in
    let l = c.loop in
    let i = l.counter in (
      λ (s : State).
          l.invariant.0 s
          ∙ fresh_step (with_rows a.rows a.table.now s) (row_count - i) (row_count - (i + 1)) l.id (omega arith) (sym (c.is_unused.ensures s) ∙ c.if-is_unused.false)
          ∙ ap (λ (x : ℕ). fresh_from (row_count - (i + 1)) x (with_rows a.rows a.table.now s)) (sym c.next_id-id.ensures.0),
      (c.next_id-id.ensures.1, l.invariant.1.1),
    )

pub returns-after-loop : goal.returns-after-loop
returns-after-loop c =
    let a = c.args in
    let l = c.loop in
    let e : row_count - l.counter ≡ 0 = omega arith in
    (λ (s : State). sym (l.invariant.0 s ∙ fresh-last (with_rows a.rows a.table.now s) (row_count - l.counter) l.id e), l.invariant.1.0)
