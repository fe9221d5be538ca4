-- `count`: the rules' count, from the masks.
use Rattle.std.proofs.Common.{◌≡◌, sym, ◌∙◌, ap, arith, ℕ, suc, ◌+◌}
use Rattle.std.specs.Int.Count.{ones}
use Rattle.laws.specs.Bytes.{bytes_of}
use Rattle.name_list.specs.Laws.{few-listed}
use Rattle.protocol.specs.Frame.{reply}
use Rattle.rules.specs.Counting.{flash_count}
use Rattle.rules.proofs.Counting.{count-is}
use Rattle.state.specs.State.{state_of}
use lib.Count.{ones-le}
use Rattle.name_list.proofs.count.Goals as goal

pub overflow_add-result : goal.overflow_add-result
overflow_add-result c = omega (arith, ones-le 16 c.args.control.marks c.requires, few-listed c.args.control.phase, c.flash_count.ensures)

pub overflow_add-result-2 : goal.overflow_add-result-2
overflow_add-result-2 c = omega (arith, ones-le 16 c.args.control.marks c.requires, few-listed c.args.control.phase, c.flash_count.ensures)

pub returns : goal.returns
returns c = λ t n d g i h a.
    let s = state_of c.args.control t n d g i h in
    let e : 1 + (ones s.store.marks + c.flash_count.result) ≡ suc (ones s.store.marks + flash_count s.flash_group.phase) = omega (arith, c.flash_count.ensures) in
    ap (λ (x : ℕ). reply (bytes_of 4 x)) (e ∙ sym (count-is s c.requires))
