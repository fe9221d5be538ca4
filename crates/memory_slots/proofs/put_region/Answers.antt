-- `put_region`: from `copy_at`, then `clear_at`.
use Rattle.std.proofs.Common.{◌∙◌, ap, arith, List, ℕ, ◌+◌, ◌*◌, ◌-◌, length, replicate, rules}
use Rattle.std.proofs.lemmas.List.Edits.{sets}
use Rattle.memory_slots.specs.Laws.{block-named}
use Rattle.protocol.specs.Numbers.{slot_size}
use Rattle.protocol.proofs.Sizes.{slot-size}
use Rattle.memory_slots.proofs.put_region.Goals as goal

pub copy_at-requires : goal.copy_at-requires
copy_at-requires c = search (rules, slot-size)

pub overflow_sub-bytes : goal.overflow_sub-bytes
overflow_sub-bytes c = omega (arith, slot-size)

pub clear_at-requires : goal.clear_at-requires
clear_at-requires c = search (rules, slot-size)

pub returns : goal.returns
returns c =
    let a = c.args in
    let w = a.bytes.now in
    c.clear_at.ensures
    ∙ ap (λ (l : List ℕ). sets l (a.k * 4096 + length w) (replicate (4096 - length w) 0)) c.copy_at.ensures
    ∙ block-named slot_size 4096 slot-size a.k a.dst.now w (omega (arith, slot-size))
