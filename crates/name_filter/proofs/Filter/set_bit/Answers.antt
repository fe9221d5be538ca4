-- `set_bit`: or with the weight of the bit, in the word of its place.
use Rattle.std.proofs.Common.{ap, ◌/◌, ◌%◌, arith, get_or, set}
use Rattle.name_filter.proofs.Laws.{set-by-or}
use Rattle.name_filter.specs.Filter.{word_bits, with_bit}
use Rattle.name_filter.proofs.Filter.set_bit.Goals as goal

pub returns : goal.returns
unfolding with_bit
returns c =
    let a = c.args in
    ap (set a.self.now.words (a.place / word_bits)) (set-by-or (a.place % word_bits) (get_or a.self.now.words (a.place / word_bits) 0) (omega arith))
