-- `open_row`: the identifier from `fresh_id`, then the row, its bit and "next".
use Rattle.std.proofs.Common.{◌∙◌, ap, [], ◌∷◌, ℕ}
use Rattle.laws.specs.Bytes.{bytes_of}
use Rattle.laws.specs.Ranges.{block}
use Rattle.open_steps.specs.Steps.{row_opened}
use Rattle.protocol.specs.Frame.{reply}
use Rattle.protocol.specs.Numbers.{row_words}
use Rattle.rules.specs.Lookup.{after}
use Rattle.rules.specs.Opening.{with_next, new_row}
use Rattle.state.specs.State.{state_of, in_row}
use Rattle.open_steps.proofs.open_row.Goals as goal

pub returns : goal.returns
unfolding row_opened
returns c =
    λ n d g i h _.
    let a = c.args in
    let v = a.control.now in
    let s = state_of v a.table.now n d g i h in
    let id = c.fresh_id-id.result in
    let row = c.write_row.ensures ∙ ap (λ (w : ℕ). (block row_words a.r).put (id ∷ a.blob ∷ w ∷ a.clock ∷ []) a.table.now) c.word_with.ensures in
    (λ j. (
      reply (bytes_of 2 id),
      record { sessions = record { table = row j; rows = c.set_bit-control.ensures j }; store = s.store; flash_group = s.flash_group; next = c.next_id-control.ensures.0 j; last_sweep = v.last_sweep },
    ))
    ∙ ap (λ (x : ℕ). (reply (bytes_of 2 x), with_next (after x) ((in_row a.r).put (new_row x a.blob a.flags a.clean a.clock) s))) (c.fresh_id-id.ensures.0 s)
