-- `same_name`: the bytes passed so far agree.
use Rattle.std.proofs.Common.{◌≡◌, sym, ◌∙◌, ap₂, ap, arith, ℕ, ◌*◌, ◌+◌, eqb, length, get_or, rules}
use Rattle.laws.specs.All.{all_start, all-step, all_end}
use Rattle.laws.specs.Bytes.{padded, padded-length}
use Rattle.laws.specs.Ranges.{block, block-fits, get_d_part, length_part}
use Rattle.lookup.specs.Laws.{same_at, same-all}
use Rattle.protocol.specs.Numbers.{name_size, slot_count}
use Rattle.protocol.proofs.Sizes.{name-size}
use Rattle.lookup.proofs.same_name.Goals as goal

pub loop-i-init : goal.loop-i-init
loop-i-init c = (omega arith, all_start _)

pub bounds-names-at : goal.bounds-names-at
bounds-names-at c = search (rules, name-size)

pub padded_at-requires : goal.padded_at-requires
padded_at-requires c = search (rules, name-size)

pub loop-i-preserved : goal.loop-i-preserved
unfolding same_at
loop-i-preserved c =
    let a = c.args in
    let i = c.loop-i.i in
    let l = a.names.now in
    let e : get_or l (a.k * 32 + i) 0 ≡ get_or ((block name_size a.k).get l) i 0 =
    ap (λ (n : ℕ). get_or l (a.k * n + i) 0) (sym name-size) ∙ sym (get_d_part (a.k * name_size) name_size i l 0 (omega (arith, name-size)))
    in
    (omega arith, all-step _ i _ _ c.loop-i.invariant.1 (ap₂ (λ (x y : ℕ). eqb x y) e c.padded_at.ensures))

pub returns : goal.returns
returns c =
    let a = c.args in
    let f = (block name_size a.k).get a.names.now in
    let p = padded name_size a.name.now in
    let e : length f ≡ name_size = length_part (a.k * name_size) name_size a.names.now (rw c.requires.0 (block-fits name_size a.k slot_count c.requires.1)) in
    all_end _ 32 c.loop-i.i _ (omega arith) (omega arith) c.loop-i.invariant.1 ∙ same-all f p 32 (e ∙ name-size) (padded-length name_size a.name.now ∙ name-size)
