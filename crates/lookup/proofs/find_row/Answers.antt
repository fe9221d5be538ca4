-- `find_row`: the row of the search.
use Rattle.lookup.specs.Search.{searched-row}
use Rattle.lookup.proofs.find_row.Goals as goal

pub returns : goal.returns
returns c = searched-row c.search_rows.ensures
