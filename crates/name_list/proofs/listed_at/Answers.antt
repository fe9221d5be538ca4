-- `listed_at`: the base, a committed slot, or what `flash_at` finds.
use Rattle.std.specs.Prelude.{Option}
use Rattle.std.proofs.Common.{sym, ◌∙◌, ap, subst, arith}
use Rattle.name_list.specs.Laws.{enum-base, enum-slot, enum-flash, flash-in-store}
use Rattle.name_list.specs.Listed.{InStore, listed_reply}
use Rattle.name_list.specs.declared.Listed.{Listed}
use Rattle.state.specs.State.{state_of}
use Rattle.name_list.proofs.listed_at.Goals as goal

pub returns-then-index-eq0 : goal.returns-then-index-eq0
returns-then-index-eq0 c = (λ t n d g i h. enum-base (state_of c.args.control t n d g i h) c.args.index c.if-index-eq0.true, tt)

pub returns-then-i-slots : goal.returns-then-i-slots
returns-then-i-slots c = (
  λ t n d g i h.
      enum-slot (state_of c.args.control t n d g i h) c.args.index (omega arith) c.requires c.nth_set.result c.if-i-slots.true c.nth_set.ensures,
  c.nth_set.ensures.low,
)

pub returns : goal.returns
returns c = (
  λ t n d g i h.
      ap (λ (x : Option Listed). listed_reply x n) c.flash_at.ensures
      ∙ enum-flash (state_of c.args.control t n d g i h) c.args.index (omega arith) c.requires c.if-i-slots.false,
  subst InStore (sym c.flash_at.ensures) (flash-in-store c.args.control.phase _),
)
