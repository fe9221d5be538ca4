-- `place`: the code is the rule.
use Rattle.std.proofs.Common.{refl, arith}
use Rattle.name_filter.specs.Filter.{filter_words, place_of}
use Rattle.name_filter.proofs.place.Goals as goal

pub returns : goal.returns
unfolding place_of filter_words
returns c = rw (c.from-spread.ensures, c.from.ensures) (refl, omega arith)
