-- `row::read_row`: four words are the row.
use Rattle.std.proofs.Common.{◌≡◌, sym, ◌∙◌, ap, [], ◌∷◌, ℕ, ◌+◌, ◌*◌, arith, get_or}
use Rattle.state.proofs.Laws.{row_read}
use Rattle.state.proofs.row.read_row.Goals as goal

pub returns : goal.returns
returns c =
    let l = c.args.table.now in
    let at = c.args.r * 4 in
    let first : get_or l (at + 0) 0 ≡ get_or l at 0 = ap (λ (i : ℕ). get_or l i 0) (omega arith) in
    row_read l at (omega arith)
    ∙ (λ i. sym (c.word_of.ensures ∙ first) i ∷ sym c.word_of-2.ensures i ∷ sym c.word_of-3.ensures i ∷ sym c.word_of-4.ensures i ∷ [])
