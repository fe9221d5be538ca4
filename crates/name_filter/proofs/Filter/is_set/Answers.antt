-- `is_set`: shifted down and masked, the word's bit at its place.
use Rattle.std.proofs.Common.{ap, ℕ, ◌/◌, ◌%◌, eqb, get_or}
use Rattle.laws.specs.Bits.{bit-and}
use Rattle.name_filter.specs.Filter.{word_bits, bit_at}
use Rattle.name_filter.proofs.Filter.is_set.Goals as goal

pub returns : goal.returns
unfolding bit_at
returns c = let a = c.args in ap (λ (x : ℕ). eqb x 1) (bit-and (a.place % word_bits) (get_or a.self.now.words (a.place / word_bits) 0))
