-- `write_part`: part 0 from `put_field`, a slot's part from `nth_set` and `put_slot`.
use Rattle.std.proofs.Common.{◌≡◌, sym, ◌∙◌, ap, zero-add, arith, length, get_or, rules}
use Rattle.protocol.specs.Names.{base}
use Rattle.store_file.specs.Messages.{base_field}
use Rattle.store_file.specs.Saved.{Saved, buffer_size, laid_out, blob_content}
use Rattle.store_file.specs.Sizes.{buffer-size}
use Rattle.store_writer.proofs.PartLaws.{blob-fits, base-fits, part-base, part-past, part-slot, call-laid}
use Rattle.store_writer.specs.Parts.{scan_in}
use Rattle.wire.specs.Written.{written}
use Rattle.store_writer.proofs.write_part.Goals as goal

pub put_field-requires : goal.put_field-requires
put_field-requires c = search (rules, buffer-size)

pub returns-then-part-eq0-clause-laid : goal.returns-then-part-eq0-clause-laid
unfolding base
returns-then-part-eq0-clause-laid c =
    let b = c.args.buffer.now in
    let h : length b ≡ buffer_size = c.requires.buffer-size in
    let n : c.put_field.result ≡ length (written (base_field, base)) = c.put_field.ensures.0 ∙ zero-add _ in
    λ table staged image hash.
    call-laid (written (base_field, base)) b c.put_field.new.dst c.put_field.result _ (part-base c.args.part _ c.if-part-eq0.true) n
    c.put_field.ensures.1 (omega (arith, base-fits))

pub returns-then-part-eq0-clause-short : goal.returns-then-part-eq0-clause-short
unfolding base
returns-then-part-eq0-clause-short c =
    let n : c.put_field.result ≡ length (written (base_field, base)) = c.put_field.ensures.0 ∙ zero-add _ in
    omega (arith, base-fits)

pub returns-then-control-i-clause-laid : goal.returns-then-control-i-clause-laid
returns-then-control-i-clause-laid c =
    λ table staged image hash.
    sym (ap (λ (v : Saved). laid_out v c.args.buffer.now) (part-past c.args.part _ c.if-part-eq0.false c.requires.marks-small c.if-control-i.true))

pub nth_set-k-requires : goal.nth_set-k-requires
nth_set-k-requires c = (c.requires.marks-small, omega arith)

pub put_slot-requires : goal.put_slot-requires
put_slot-requires c =
    let found = c.nth_set-k in
    let p = c.requires in
    ((found.ensures.low, p.lens-fit found.result found.ensures.low), (p.names-size, (p.committed-size, p.buffer-size)))

pub returns-clause-laid : goal.returns-clause-laid
returns-clause-laid c =
    let found = c.nth_set-k in
    let a = c.args in
    let k = found.result in
    let len = get_or a.control.committed_len k 0 in
    let h : length a.buffer.now ≡ buffer_size = c.requires.buffer-size in
    let f = blob-fits a.names.now a.committed.now k len (c.requires.lens-fit k found.ensures.low) in
    λ table staged image hash.
    call-laid (written (blob_content (scan_in a.names.now a.committed.now k len))) a.buffer.now c.put_slot.new.dst c.put_slot.result _
    (part-slot a.part _ c.if-part-eq0.false c.requires.marks-small k (omega arith) found.ensures)
    c.put_slot.ensures.0 c.put_slot.ensures.1 (omega arith)

pub returns-clause-short : goal.returns-clause-short
returns-clause-short c =
    let found = c.nth_set-k in
    let a = c.args in
    let f = blob-fits a.names.now a.committed.now found.result (get_or a.control.committed_len found.result 0) (c.requires.lens-fit found.result found.ensures.low) in
    omega (arith, f, c.put_slot.ensures.0)
