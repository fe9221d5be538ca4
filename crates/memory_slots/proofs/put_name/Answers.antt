-- `put_name`: from `copy_at`, then `clear_at`.
use Rattle.std.proofs.Common.{◌∙◌, ap, arith, List, ℕ, ◌+◌, ◌*◌, ◌-◌, length, replicate, rules}
use Rattle.std.proofs.lemmas.List.Edits.{sets}
use Rattle.memory_slots.specs.Laws.{block-named}
use Rattle.protocol.specs.Numbers.{name_size}
use Rattle.protocol.proofs.Sizes.{name-size}
use Rattle.memory_slots.proofs.put_name.Goals as goal

pub copy_at-requires : goal.copy_at-requires
copy_at-requires c = search (rules, name-size)

pub overflow_sub-name : goal.overflow_sub-name
overflow_sub-name c = omega (arith, name-size)

pub clear_at-requires : goal.clear_at-requires
clear_at-requires c = search (rules, name-size)

pub returns : goal.returns
returns c =
    let a = c.args in
    let w = a.name.now in
    c.clear_at.ensures
    ∙ ap (λ (l : List ℕ). sets l (a.k * 32 + length w) (replicate (32 - length w) 0)) c.copy_at.ensures
    ∙ block-named name_size 32 name-size a.k a.names.now w (omega (arith, name-size))
