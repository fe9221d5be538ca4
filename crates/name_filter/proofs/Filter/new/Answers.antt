-- `new`: so many zeros.
use Rattle.std.proofs.Common.{refl}
use Rattle.name_filter.specs.Filter.{filter_words}
use Rattle.name_filter.proofs.Filter.new.Goals as goal

pub returns : goal.returns
unfolding filter_words
returns c = refl
