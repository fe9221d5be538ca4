-- `request_names::blob_at` meets its contract. Assumes nothing.
use Rattle.std.proofs.Common.{sym, length-take-le}
use Rattle.request_names.proofs.Names.{named-at}
use Rattle.request_names.proofs.blob_at.Goals as goal

pub slice_bounds-blob_named-end : goal.slice_bounds-blob_named-end
slice_bounds-blob_named-end c = sym (length-take-le _ _ c.first_zero-n.ensures.1)

pub returns : goal.returns
returns c = named-at _ _ _ _ c.first_zero-n.ensures.0 c.blob_named.ensures
