-- `nth_set`: the set bits passed so far are counted, and none of them is number i.
use Rattle.std.proofs.Common.{◌≡◌, sym, ◌∙◌, ap, ℕ, add-one, arith, ◌+◌, eqb-true}
use Rattle.std.proofs.lemmas.Bool.{eqb-false}
use Rattle.std.specs.Int.Count.{ones_in}
use Rattle.laws.specs.Bits.{bit, bit-lt}
use Rattle.laws.specs.Masks.{ones-more}
use Rattle.lookup.specs.Laws.{ones-start, nth_last}
use Rattle.lookup.proofs.nth_set.Goals as goal
use Rattle.lookup.proofs.nth_set.Goals.{then-has+else-seen-i, else-has}

pub loop-k-init : goal.loop-k-init
loop-k-init c = (sym (ones-start c.args.mask), omega arith)

pub returns-then-seen-i : goal.returns-then-seen-i
returns-then-seen-i c =
    record { low = omega arith; is_set = eqb-true _ _ (sym c.has.ensures ∙ c.if-has.true); below = sym c.loop-k.invariant.0 ∙ c.if-seen-i.true }

pub loop-k-preserved : goal.loop-k-preserved
loop-k-preserved c = let k = c.loop-k.k in
    let m = c.args.mask in
    let e : ones_in (k + 1) m ≡ ones_in k m + bit k m = rw add-one (ones-more k m) in
    elim c.if-has.branch [
      | then-has+else-seen-i w ↦ let b : bit k m ≡ 1 = eqb-true _ _ (sym c.has.ensures ∙ w.if-has.true) in (omega arith, omega arith)
      | else-has w ↦ let b : bit k m ≡ 0 = let f = eqb-false (bit k m) 1 (sym c.has.ensures ∙ w.if-has.false) in omega (arith, bit-lt k m, f) in (omega arith, omega arith)
    ]

pub returns : goal.returns
returns c =
    let m = c.args.mask in
    let l = c.loop-k in
    let k : l.k ≡ 15 = omega arith in
    let seen : ones_in 15 m ≡ l.seen = sym (l.invariant.0 ∙ ap (λ (j : ℕ). ones_in j m) k) in
    nth_last m c.args.i 15 c.requires.0 c.requires.1 (omega arith) (omega (arith, seen))
