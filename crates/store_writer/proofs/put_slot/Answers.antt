-- `put_slot`: the slot's name up to its first zero and the slot's bytes, through `put_blob`.
use Rattle.std.proofs.Common.{◌∙◌, ap, ◌≤◌, arith, length, rules}
use Rattle.std.proofs.lemmas.List.Edits.{sets}
use Rattle.protocol.proofs.Sizes.{name-size, slot-size}
use Rattle.store_file.specs.Messages.{Scan}
use Rattle.store_file.specs.Saved.{blob_content}
use Rattle.store_writer.proofs.PartLaws.{scan-lent, zero-short}
use Rattle.wire.specs.Written.{written}
use Rattle.store_writer.proofs.put_slot.Goals as goal

pub slice_bounds-first_zero-end : goal.slice_bounds-first_zero-end
slice_bounds-first_zero-end c = search (rules, name-size)

pub slice_bounds-put_blob-end : goal.slice_bounds-put_blob-end
slice_bounds-put_blob-end c = search (rules, name-size)

pub slice_bounds-put_blob-end-2 : goal.slice_bounds-put_blob-end-2
slice_bounds-put_blob-end-2 c = search (rules, slot-size)

pub put_blob-requires : goal.put_blob-requires
put_blob-requires c = search (rules, name-size, slot-size)

pub returns : goal.returns
returns c =
    let found = c.first_zero in
    let a = c.args in
    let z : found.result ≤ 32 = zero-short a.k found.result _ found.ensures.1 in
    let e = scan-lent a.names.now a.committed.now a.k a.len found.result (omega arith) found.ensures.0 z in (
      c.put_blob.ensures.0 ∙ ap (λ (x : Scan). length (written (blob_content x))) e,
      c.put_blob.ensures.1 ∙ ap (λ (x : Scan). sets a.dst.now 0 (written (blob_content x))) e,
    )
