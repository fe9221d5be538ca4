-- `request_names::first_zero` meets its contract: the first place at which a zero stands. Assumes nothing.
use Rattle.request_names.proofs.Names.{first-found}
use Rattle.request_names.proofs.first_zero.Goals as goal

pub returns : goal.returns
returns c = first-found _ _ _ c.zero_place.ensures c.unwrap_or.ensures
