-- `fill_all`: the slots filled so far and the blobs that are left make the same store.
use Rattle.std.proofs.Common.{◌≡◌, ap, ◌∙◌, arith, inl}
use Rattle.wire_reader.specs.Left.{left}
use Rattle.store_file.specs.ScanLaws.{Unread, unread}
use Rattle.store_loader.proofs.Laws.{filled-start, filled-end, filled-room, filled-fits, filled_more}
use Rattle.store_loader.proofs.fill_all.Goals as goal
use Rattle.store_loader.proofs.fill_all.Goals.{After-into_iter-k-iterator}

-- before the loop all blobs are left, and none is counted
all-left : (c : After-into_iter-k-iterator) → Unread c.args.file.now (left c.into_iter-k-iterator.result.iter)
all-left c =
    let f = c.args.file.now in
    let e : c.into_iter-k-iterator.result.iter ≡ c.new.result = ap (λ x. x.iter) c.into_iter-k-iterator.ensures.into_iter_gives ∙ c.enumerate-k-items.ensures.source in
    unread f (left c.into_iter-k-iterator.result.iter) (ap left e ∙ c.new.ensures)

none-counted : (c : After-into_iter-k-iterator) → c.into_iter-k-iterator.result.count ≡ 0
none-counted c = ap (λ x. x.count) c.into_iter-k-iterator.ensures.into_iter_gives ∙ c.enumerate-k-items.ensures.count

pub loop-k-init-derived : goal.loop-k-init-derived
loop-k-init-derived c =
    let n = none-counted c in
    let u = all-left c in
    ((tt, tt, inl (omega (arith, u.few))), tt)

pub loop-k-init : goal.loop-k-init
loop-k-init c = rw (none-counted c) (filled-start _ _ _ _ _ c.requires.1.1 (all-left c))

pub fill_slot-requires : goal.fill_slot-requires
fill_slot-requires c =
    let i = c.loop-k.invariant in
    let p = c.requires in
    let s = c.in-Some.ensures.steps in (
      omega (arith, filled-room _ _ _ _ _ _ _ _ _ i _ _ s.0, s.1),
      (i.names-long ∙ p.0, (i.committed-long ∙ p.1.0, filled-fits _ _ _ _ _ _ _ _ _ i _ _ s.0)),
    )

pub loop-k-preserved : goal.loop-k-preserved
loop-k-preserved c =
    let s = c.in-Some.ensures.steps in
    rw s.2
    (filled_more _ _ _ _ _ _ _ _ _ c.loop-k.invariant _ _ s.0 _ _ c.fill_slot.new.control c.fill_slot.auto.names c.fill_slot.auto.committed
    (rw s.1 at c.fill_slot.ensures))

pub returns : goal.returns
returns c = filled-end _ _ _ _ _ _ _ _ _ c.loop-k.invariant c.in-None.ensures.steps.0.0
