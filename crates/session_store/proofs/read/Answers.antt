-- `read`: what is shown lies in the slices, is laid in the answer, and is what the rules say.
use Rattle.std.proofs.Common.{◌∙◌, ap, List, ℕ, length, get_or, arith}
use Rattle.laws.specs.Ranges.{block}
use Rattle.protocol.specs.Numbers.{row_words}
use Rattle.session_store.proofs.Laws.{read_is}
use Rattle.session_store.proofs.Shown.{shown, seen}
use Rattle.state.specs.Entry.{words_of, lifted}
use Rattle.state.specs.State.{state_of}
use Rattle.state.specs.declared.row.Entry.{Entry}
use Rattle.session_store.proofs.read.Goals as goal

pub source-shown-requires : goal.source-shown-requires
source-shown-requires c =
    let a = c.args in
    let y = shown a.k a.count a.offset c.seen_length-len.result (get_or a.control.staged_len a.k 0) (get_or a.control.committed_len a.k 0) c.min-from.result c.read_count-n.result
    c.writes-writing.result a.committed.now a.staged.now c.requires.1.0.slot-low c.requires.1.1.0 c.requires.1.1.1.0 c.seen_length-len.ensures c.requires.1.1.1.1.1.0
    c.requires.1.1.1.1.1.1 c.read_count-n.ensures c.min-from.ensures in
    (y.in-committed, y.in-staged)

pub copy_at-requires : goal.copy_at-requires
copy_at-requires c =
    let a = c.args in
    let y = shown a.k a.count a.offset c.seen_length-len.result (get_or a.control.staged_len a.k 0) (get_or a.control.committed_len a.k 0) c.min-from.result
    c.read_count-n.result c.writes-writing.result a.committed.now a.staged.now c.requires.1.0.slot-low c.requires.1.1.0 c.requires.1.1.1.0
    c.seen_length-len.ensures c.requires.1.1.1.1.1.0 c.requires.1.1.1.1.1.1 c.read_count-n.ensures c.min-from.ensures in
    let l = ap length c.source-shown.ensures ∙ y.long in
    omega (arith, l, y.most, c.requires.1.1.1.1.0)

pub returns : goal.returns
returns c =
    let a = c.args in
    let y = shown a.k a.count a.offset c.seen_length-len.result (get_or a.control.staged_len a.k 0) (get_or a.control.committed_len a.k 0) c.min-from.result
    c.read_count-n.result c.writes-writing.result a.committed.now a.staged.now c.requires.1.0.slot-low c.requires.1.1.0 c.requires.1.1.1.0
    c.seen_length-len.ensures c.requires.1.1.1.1.1.0 c.requires.1.1.1.1.1.1 c.read_count-n.ensures c.min-from.ensures in (
      y.most,
      λ (n im h : List ℕ). read_is (state_of a.control a.table.now n a.committed.now a.staged.now im h) a.r a.e c.requires.0.words_of_row c.requires.1.0 a.clock a.offset a.count
          c.read_count-n.result c.writes-writing.result
          c.write_row.new.table a.answer.now c.copy_at.new.dst c.source-shown.result.now c.writes-writing.ensures
          (c.source-shown.ensures ∙ seen c.writes-writing.result a.k a.count a.offset c.seen_length-len.result c.min-from.result c.read_count-n.result
          (get_or a.control.staged_len a.k 0) (get_or a.control.committed_len a.k 0) a.committed.now a.staged.now c.seen_length-len.ensures c.requires.1.1.1.1.1.0
          c.requires.1.1.1.1.1.1 c.read_count-n.ensures c.min-from.ensures)
          (ap length c.source-shown.ensures ∙ y.long) (omega (arith, y.most, c.requires.1.1.1.1.0)) c.copy_at.ensures
          (c.write_row.ensures ∙ ap (λ (x : Entry). (block row_words a.r).put (words_of x) a.table.now) c.lifted.ensures),
    )
