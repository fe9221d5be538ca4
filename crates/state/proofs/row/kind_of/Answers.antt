-- `row::kind_of`: one blob number after another.
use Rattle.std.proofs.Common.{◌≡◌, refl, sym, ◌∙◌, Bool, true, false, cond, eqb, ne_eqb}
use Rattle.protocol.specs.Names.{kind_of, no_kind}
use Rattle.protocol.specs.declared.FlashKind.TheVariants.{Cleanup}
use Rattle.state.proofs.row.kind_of.Goals as goal

-- cleanup, and what no kind is, is taken for the same
last : (y : Bool) → Cleanup ≡ cond y Cleanup no_kind
last true = refl
last false = refl

pub returns-then-blob-number : goal.returns-then-blob-number
unfolding kind_of
returns-then-blob-number c = let e : c.args.blob ≡ 16 = cc in rw e

pub returns-then-blob-number-2 : goal.returns-then-blob-number-2
unfolding kind_of
returns-then-blob-number-2 c = let e : c.args.blob ≡ 17 = cc in rw e

pub returns-then-blob-number-3 : goal.returns-then-blob-number-3
unfolding kind_of
returns-then-blob-number-3 c = let e : c.args.blob ≡ 18 = cc in rw e

pub returns-then-blob-number-4 : goal.returns-then-blob-number-4
unfolding kind_of
returns-then-blob-number-4 c = let e : c.args.blob ≡ 19 = cc in rw e

pub returns : goal.returns
unfolding kind_of
returns c =
    let b = c.args.blob in
    rw (
      ne_eqb b 16 (λ (e : b ≡ 16). c.if-blob-number.false (e ∙ sym c.number.ensures)),
      ne_eqb b 17
          (λ (e : b ≡ 17). c.if-blob-number-2.false (e ∙ sym c.number-2.ensures)),
      ne_eqb b 18
          (λ (e : b ≡ 18). c.if-blob-number-3.false (e ∙ sym c.number-3.ensures)),
      ne_eqb b 19 (λ (e : b ≡ 19). c.if-blob-number-4.false (e ∙ sym c.number-4.ensures)),
    ) (last (eqb b 20))
