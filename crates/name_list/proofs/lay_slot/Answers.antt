-- `lay_slot`: from `first_zero`, lent the name field, and `lay`, lent its front.
use Rattle.std.proofs.Common.{◌∙◌, ap, arith, ◌≤◌}
use Rattle.laws.specs.Bytes.{first_zero}
use Rattle.laws.specs.Fronts.{block-lent, front-short, text-lent}
use Rattle.protocol.proofs.Sizes.{name-size}
use Rattle.protocol.specs.Numbers.{name_size}
use Rattle.name_list.proofs.lay_slot.Goals as goal

pub slice_bounds-first_zero-end : goal.slice_bounds-first_zero-end
slice_bounds-first_zero-end c = omega (arith, name-size)

pub slice_bounds-lay-end : goal.slice_bounds-lay-end
slice_bounds-lay-end c = let a = c.args in
    omega (arith, name-size, c.first_zero.ensures.1, front-short name_size 32 name-size a.k a.names.now 32 (omega (arith, name-size)))

pub lay-requires : goal.lay-requires
lay-requires c = let a = c.args in
    let z : c.first_zero.result ≤ name_size = omega (
      arith,
      c.first_zero.ensures.1,
      front-short name_size 32 name-size a.k a.names.now 32
          (omega (arith, name-size)),
    ) in
    (front-short name_size 32 name-size a.k a.names.now c.first_zero.result z, c.requires.1.1)

pub returns : goal.returns
returns c = let a = c.args in
    let n = a.names.now in
    let z : c.first_zero.result ≤ name_size = omega (arith, c.first_zero.ensures.1, front-short name_size 32 name-size a.k n 32 (omega (arith, name-size))) in
    rw (← text-lent name_size 32 name-size a.k n c.first_zero.result
    (c.first_zero.ensures.0 ∙ ap first_zero (block-lent name_size 32 name-size a.k n)) z) c.lay.ensures
