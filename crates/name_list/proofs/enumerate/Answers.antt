-- `enumerate`: each kind of listed name is laid by its function.
use Rattle.std.proofs.Common.{◌≡◌, refl, sym, ◌∙◌, ap, subst, arith, Some, Ok, List, ℕ}
use Rattle.std.specs.Prelude.{Option}
use Rattle.name_list.specs.Listed.{InStore, listed_reply, Answers}
use Rattle.name_list.specs.declared.Listed.{Listed}
use Rattle.protocol.proofs.Sizes.{name-size}
use Rattle.protocol.specs.Frame.{Reply}
use Rattle.protocol.specs.Names.{base}
use Rattle.rules.specs.Listing.{enumerated}
use Rattle.state.specs.State.{state_of}
use Rattle.name_list.proofs.enumerate.Goals as goal
use Rattle.name_list.proofs.enumerate.Goals.{In-Some}

-- the name that is listed answers the request
listed-is : (c : In-Some) (t d g i h : List ℕ) (x : Listed) → c.in-Some.listed ≡ x
    → listed_reply (Some x) c.args.names.now ≡ enumerated c.args.index (state_of c.args.control t c.args.names.now d g i h)
listed-is c t d g i h x p =
    ap (λ (y : Option Listed). listed_reply y c.args.names.now) (sym (c.in-Some.is ∙ ap Some p)) ∙ c.listed_at.ensures.0 t c.args.names.now d g i h

pub lay-requires : goal.lay-requires
lay-requires c = (omega (arith, name-size), c.requires.1.1)

pub lay_slot-requires : goal.lay_slot-requires
lay_slot-requires c = (subst InStore (c.in-Some.is ∙ ap Some c.in-Slot.is) c.listed_at.ensures.1, (c.requires.1.0, c.requires.1.1))

pub lay_flash-requires : goal.lay_flash-requires
lay_flash-requires c = c.requires.1.1

pub returns-in-Base : goal.returns-in-Base
unfolding base
returns-in-Base c = λ t d g i h.
    let a = c.args in
    subst (λ (r : Reply). Answers r (Ok c.lay.result) a.answer.now c.lay.new.answer) (listed-is (goal.at.returns-in-Base c).In-Some t d g i h _ c.in-Base.is) c.lay.ensures

pub returns-in-Slot : goal.returns-in-Slot
returns-in-Slot c = λ t d g i h.
    let a = c.args in
    subst (λ (r : Reply). Answers r (Ok c.lay_slot.result) a.answer.now c.lay_slot.new.answer) (listed-is (goal.at.returns-in-Slot c).In-Some t d g i h _ c.in-Slot.is) c.lay_slot.ensures

pub returns-in-Flash : goal.returns-in-Flash
returns-in-Flash c = λ t d g i h.
    let a = c.args in
    subst (λ (r : Reply). Answers r (Ok c.lay_flash.result) a.answer.now c.lay_flash.new.answer) (listed-is (goal.at.returns-in-Flash c).In-Some t d g i h _ c.in-Flash.is) c.lay_flash.ensures

pub returns-in_default : goal.returns-in_default
returns-in_default c = λ t d g i h.
    let a = c.args in
    let e = ap (λ (y : Option Listed). listed_reply y a.names.now) (sym c.in_default.is) ∙ c.listed_at.ensures.0 t a.names.now d g i h in
    rw (← e) (record { says = refl; lays = refl; short = omega arith })
