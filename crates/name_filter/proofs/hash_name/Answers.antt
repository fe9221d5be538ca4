-- `hash_name`: the hash so far, carried on over the bytes that are left, is the name's.
use Rattle.std.proofs.Common.{sym, ◌∙◌, ap, ℕ, ◌+◌, arith, drop}
use Rattle.name_filter.proofs.Laws.{hash-more, hash-end}
use Rattle.name_filter.specs.Hash.{hash_from}
use Rattle.name_filter.proofs.hash_name.Goals as goal

pub loop-byte-preserved : goal.loop-byte-preserved
loop-byte-preserved c =
    let l = c.loop-byte in
    let name = c.args.name.now in
    l.invariant ∙ hash-more l.hash name l.byte-index (omega arith) ∙ ap (λ (h : ℕ). hash_from h (drop (l.byte-index + 1) name)) (sym c.hash_step-hash.ensures)

pub returns : goal.returns
returns c = let l = c.loop-byte in sym (l.invariant ∙ hash-end l.hash c.args.name.now l.byte-index (omega arith))
