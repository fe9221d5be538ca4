-- `put_field`: the head from `put_head`, and the bytes behind it.
use Rattle.std.proofs.Common.{refl, ◌+◌, ◌≤◌, arith, length}
use Rattle.store_writer.proofs.Laws.{head-length, size-most, field_put}
use Rattle.store_writer.proofs.put_field.Goals as goal
use Rattle.store_writer.proofs.put_field.Goals.{After-put_head-next}

-- a head has at most three bytes
head-end : (c : After-put_head-next) → c.put_head-next.result ≤ c.args.at + 3
head-end c =
    let a = c.args in
    omega (arith, head-length a.number (length a.src.now) (omega arith), size-most (length a.src.now) (omega arith), c.put_head-next.ensures.0)

pub copy_at-requires : goal.copy_at-requires
copy_at-requires c = omega (arith, head-end (goal.at.copy_at-requires c).After-put_head-next, c.put_head-next.auto.dst)

pub overflow_add-result : goal.overflow_add-result
overflow_add-result c = omega (arith, head-end (goal.at.overflow_add-result c).After-put_head-next)

pub returns : goal.returns
returns c =
    field_put _ _ _ _ c.put_head-next.ensures (refl, c.copy_at.ensures)
