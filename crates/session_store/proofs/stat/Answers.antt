-- `stat`: the state bits and the length seen.
use Rattle.std.proofs.Common.{◌∙◌, ap, List, ℕ}
use Rattle.laws.specs.Ranges.{block}
use Rattle.protocol.specs.Numbers.{row_words}
use Rattle.session_store.proofs.Laws.{stat-is}
use Rattle.state.specs.Entry.{words_of, lifted}
use Rattle.state.specs.State.{state_of}
use Rattle.state.specs.declared.row.Entry.{Entry}
use Rattle.session_store.proofs.stat.Goals as goal

pub returns : goal.returns
returns c =
    let a = c.args in
    λ (n cm g im h x : List ℕ). stat-is (state_of a.control a.table.now n cm g im h) a.r a.e c.requires.0.words_of_row c.requires.1 a.clock c.state_bits-state.result
    c.seen_length-size.result c.writes.result c.write_row.new.table
    c.writes.ensures c.state_bits-state.ensures c.seen_length-size.ensures
    (c.write_row.ensures ∙ ap (λ (y : Entry). (block row_words a.r).put (words_of y) a.table.now) c.lifted.ensures)
