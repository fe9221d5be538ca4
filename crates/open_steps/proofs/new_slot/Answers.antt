-- `new_slot`: the name and the bit that are set; all else stays.
use Rattle.std.proofs.Common.{ap, arith}
use Rattle.open_steps.specs.Laws.{named_put}
use Rattle.protocol.proofs.Sizes.{name-size}
use Rattle.state.specs.State.{Slots, store_of, state_of, in_store}
use Rattle.open_steps.proofs.new_slot.Goals as goal

pub put_name-requires : goal.put_name-requires
put_name-requires c = grind (arith, name-size)

pub returns : goal.returns
returns c =
    λ t d g i h.
    let a = c.args in
    ap (λ (x : Slots). in_store.put x (state_of a.control.now t a.names.now d g i h))
    (named_put a.k a.name.now (store_of a.control.now a.names.now d g) _ _ c.put_name.ensures c.set_bit-control.ensures)
