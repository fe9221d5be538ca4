-- `flash_at`: the name sought is number `left` of those that are left.
use Rattle.std.proofs.Common.{◌≡◌, Some, sym, ◌∙◌, ap, ℕ, ◌+◌, arith}
use Rattle.name_list.specs.Laws.{at_first, at-shown, at-hidden, outside}
use Rattle.name_list.specs.Listed.{behind, flash_from}
use Rattle.name_list.specs.declared.Listed.TheVariants.{Flash}
use Rattle.protocol.specs.Names.{kind_of}
use Rattle.protocol.specs.declared.FlashKind.{FlashKind}
use Rattle.rules.specs.Opening.{flash_listed}
use Rattle.name_list.proofs.flash_at.Goals as goal
use Rattle.name_list.proofs.flash_at.Goals.{After-flash_listed, then-flash_listed+else-left-eq0, else-flash_listed}

-- whether the blob is listed
is-listed : (c : After-flash_listed) → flash_listed (kind_of c.loop-blob.blob) c.args.phase ≡ c.flash_listed.result
is-listed c = ap (λ (k : FlashKind). flash_listed k c.args.phase) (sym c.kind_of-kind.ensures) ∙ sym c.flash_listed.ensures

pub loop-blob-init : goal.loop-blob-init
loop-blob-init c = ap (λ (b : ℕ). flash_from (behind b) b c.args.phase c.args.i) (sym c.number-blob.ensures)

pub returns-then-left-eq0 : goal.returns-then-left-eq0
returns-then-left-eq0 c =
    sym (c.loop-blob.invariant ∙ at_first c.args.phase c.loop-blob.blob (omega arith) c.loop-blob.left (is-listed (goal.at.returns-then-left-eq0
    c).After-flash_listed ∙ c.if-flash_listed.true) c.if-left-eq0.true
    ∙ ap (λ (k : FlashKind). Some (Flash k)) (sym c.kind_of-kind.ensures))

pub loop-blob-preserved : goal.loop-blob-preserved
loop-blob-preserved c =
    let b = c.loop-blob.blob in
    let p = c.args.phase in
    let e = is-listed (goal.at.loop-blob-preserved c).After-flash_listed in
    let rest = flash_from (behind (b + 1)) (b + 1) p in
    elim c.if-flash_listed.branch [
      | then-flash_listed+else-left-eq0 w ↦ c.loop-blob.invariant ∙ at-shown p b (omega arith) c.loop-blob.left (e ∙ w.if-flash_listed.true) w.if-left-eq0.false ∙ ap rest (sym w.left-is)
      | else-flash_listed w ↦ c.loop-blob.invariant ∙ at-hidden p b (omega arith) c.loop-blob.left (e ∙ w.if-flash_listed.false) ∙ ap rest (sym w.left-is)
    ]

pub returns : goal.returns
returns c = sym (c.loop-blob.invariant ∙ outside c.args.phase c.loop-blob.blob c.loop-blob.left (omega arith))
