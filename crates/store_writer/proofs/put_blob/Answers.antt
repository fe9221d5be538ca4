-- `put_blob`: the head, the field of the name and the field of the data, one behind the other.
use Rattle.std.proofs.Common.{◌≡◌, ◌+◌, ◌≤◌, arith, length, rules}
use Rattle.protocol.proofs.Sizes.{name-size, slot-size}
use Rattle.store_file.specs.Saved.{blob_contents}
use Rattle.store_file.specs.Sizes.{buffer-size}
use Rattle.store_writer.proofs.Laws.{head-length, size-most, field-length, blob-size, blob-put}
use Rattle.wire.specs.Written.{written_all}
use Rattle.store_writer.proofs.put_blob.Goals as goal
use Rattle.store_writer.proofs.put_blob.Goals.{After-head_size-2, After-put_field-next, After-put_head-at}

inner-is : (c : After-head_size-2) → (let a = c.args in c.head_size.result + length a.name.now + (c.head_size-2.result + length a.scan.now)) ≡ length
    (written_all (blob_contents ((let a = c.args in record { name = a.name.now; bytes = a.scan.now }))))
inner-is c = omega (arith, blob-size ((let a = c.args in record { name = a.name.now; bytes = a.scan.now })), c.head_size.ensures.0, c.head_size-2.ensures.0)

-- the head has at most three bytes, and so has that of the name's field
head-end : (c : After-put_head-at) → c.put_head-at.result ≤ 3
head-end c =
    let size = (let a = c.args in c.head_size.result + length a.name.now + (c.head_size-2.result + length a.scan.now)) in
    omega (arith, head-length 2 size (omega (arith, name-size, slot-size)), size-most size (omega (arith, name-size, slot-size)), c.put_head-at.ensures.0)

name-end : (c : After-put_field-next)
    → c.put_field-next.result ≤ c.put_head-at.result + 3 + length c.args.name.now
name-end c =
    let name = c.args.name.now in
    omega (arith, field-length 1 name (omega (arith, name-size, slot-size)), size-most (length name) (omega (arith, name-size, slot-size)), c.put_field-next.ensures.0)

pub head_size-requires : goal.head_size-requires
head_size-requires c = search (rules, name-size, slot-size, buffer-size)

pub overflow_add-first : goal.overflow_add-first
overflow_add-first c = search (rules, name-size, slot-size, buffer-size)

pub head_size-requires-2 : goal.head_size-requires-2
head_size-requires-2 c = search (rules, name-size, slot-size, buffer-size)

pub overflow_add-second : goal.overflow_add-second
overflow_add-second c = search (rules, name-size, slot-size, buffer-size)

pub overflow_add-first-2 : goal.overflow_add-first-2
overflow_add-first-2 c = search (rules, name-size, slot-size, buffer-size)

pub put_head-at-requires : goal.put_head-at-requires
put_head-at-requires c = search (rules, name-size, slot-size, buffer-size)

pub put_field-next-requires : goal.put_field-next-requires
put_field-next-requires c = (
  omega arith,
  (
    omega (arith, name-size, slot-size),
    omega (
      arith,
      head-end (goal.at.put_field-next-requires
          c).After-put_head-at,
      c.put_head-at.auto.dst,
      name-size,
      slot-size,
      buffer-size,
    ),
  ),
)

pub put_field-requires : goal.put_field-requires
put_field-requires c = (
  omega arith,
  (
    omega (arith, name-size, slot-size),
    omega (
      arith,
      head-end (goal.at.put_field-requires c).After-put_head-at,
      c.put_head-at.auto.dst,
      name-size,
      slot-size,
      buffer-size,
      name-end (goal.at.put_field-requires c).After-put_field-next,
      c.put_field-next.auto.dst,
    ),
  ),
)

pub returns : goal.returns
returns c =
    blob-put ((let a = c.args in record { name = a.name.now; bytes = a.scan.now })) _ (inner-is (goal.at.returns c).After-head_size-2)
    c.put_head-at.ensures c.put_field-next.ensures c.put_field.ensures
