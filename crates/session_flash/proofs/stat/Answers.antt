-- `stat`: the state bits and the length of what the name holds.
use Rattle.std.proofs.Common.{◌∙◌, ap, List, ℕ}
use Rattle.laws.specs.Ranges.{block}
use Rattle.protocol.specs.Numbers.{row_words}
use Rattle.protocol.specs.declared.FlashKind.{FlashKind}
use Rattle.rules.specs.Flash.{flash_length}
use Rattle.session_flash.proofs.Laws.{stat-is}
use Rattle.state.specs.Entry.{words_of, lifted}
use Rattle.state.specs.State.{State, state_of}
use Rattle.state.specs.declared.row.Entry.{Entry}
use Rattle.session_flash.proofs.stat.Goals as goal

pub returns : goal.returns
returns c =
    let a = c.args in
    λ (n m g im h x : List ℕ). let s : State = state_of a.control a.table.now n m g im h in
    stat-is s a.r a.e c.requires.0.words_of_row c.requires.1 a.clock c.state_bits-state.result c.flash_length-size.result
    c.write_row.new.table c.state_bits-state.ensures
    (c.flash_length-size.ensures a.table.now n m g im h ∙ ap (λ (k : FlashKind). flash_length k s.flash_group) c.kind_of.ensures)
    (c.write_row.ensures ∙ ap (λ (y : Entry). (block row_words a.r).put (words_of y) a.table.now) c.lifted.ensures)
