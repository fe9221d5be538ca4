-- `stands_once`: what is counted and what is left make the whole count.
use Rattle.std.proofs.Common.{◌≡◌, sym, ◌∙◌, ap, List, ℕ, ◌+◌, length, zero-add, add-zero, arith}
use Rattle.laws.specs.Bytes.{same}
use Rattle.wire.specs.declared.Field.{Field}
use Rattle.wire.proofs.Standing.{stand-turn}
use Rattle.wire_reader.specs.Left.{left}
use Rattle.store_file.specs.Messages.{scan_at}
use Rattle.store_file.specs.ScanLaws.{unread}
use Rattle.store_file.specs.Scans.{scans_in}
use Rattle.store_names.proofs.Equal.{equal-same}
use Rattle.store_names.specs.Laws.{counted-end, counted_step}
use Rattle.store_names.specs.Names.{count_named}
use Rattle.store_names.proofs.stands_once.Goals as goal
use Rattle.store_names.proofs.stands_once.Goals.{After-eq}

-- the blob's name is compared
compared : (c : After-eq) → c.eq.result ≡ same c.args.name.now (scan_at c.args.file.now c.in-Some.blob).name
compared c = equal-same _ _ _ c.eq.ensures ∙ ap (same c.args.name.now) c.last_field.ensures

pub loop-blob-init : goal.loop-blob-init
loop-blob-init c =
    let u = unread c.args.file.now (left c.into_iter-blob-iterator.result) (ap left c.into_iter-blob-iterator.ensures.into_iter_gives ∙ c.new-blob-items.ensures) in
    record { few = omega (arith, u.few); stand = u.stand; whole = ap (count_named c.args.name.now) u.scans ∙ sym (zero-add _) }

pub loop-blob-preserved-then-eq : goal.loop-blob-preserved-then-eq
loop-blob-preserved-then-eq c =
    let i = c.loop-blob.invariant in
    let e = c.in-Some.ensures.steps in
    let l = ap (λ (fs : List Field). length fs) e in
    record {
      few = omega (arith, i.few);
      stand = (stand-turn c.in-Some.blob _ e i.stand).1;
      whole = counted_step _ _ _ _ _ _ _ i.whole (ap (scans_in c.args.file.now) e) (sym c.if-eq.true ∙ compared (goal.at.loop-blob-preserved-then-eq c).After-eq);
    }

pub loop-blob-preserved : goal.loop-blob-preserved
loop-blob-preserved c =
    let i = c.loop-blob.invariant in
    let e = c.in-Some.ensures.steps in
    let l = ap (λ (fs : List Field). length fs) e in
    record {
      few = omega (arith, i.few);
      stand = (stand-turn c.in-Some.blob _ e i.stand).1;
      whole = counted_step _ _ _ _ _ _ _ i.whole (ap (scans_in c.args.file.now) e) (sym c.if-eq.false ∙ compared (goal.at.loop-blob-preserved c).After-eq)
          ∙ ap (λ (k : ℕ). k + count_named c.args.name.now (scans_in c.args.file.now (left c.next.new.self))) (add-zero _);
    }

pub returns : goal.returns
returns c = counted-end _ _ _ _ c.loop-blob.invariant.whole (ap (scans_in c.args.file.now) c.in-None.ensures.steps.0)
