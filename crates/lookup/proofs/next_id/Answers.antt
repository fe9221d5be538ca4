-- `next_id`: 65,535 is followed by 0.
use Rattle.std.proofs.Common.{arith, ◌≡◌, add-one, false, suc, eqb, eq-eqb, ne_eqb, rules}
use Rattle.lookup.proofs.next_id.Goals as goal

pub returns-then-next-eq-SIXTEEN_BITS : goal.returns-then-next-eq-SIXTEEN_BITS
returns-then-next-eq-SIXTEEN_BITS c = let e : suc c.args.id ≡ 65536 = omega arith in (rw (eq-eqb (suc c.args.id) 65536 e), search rules)

pub returns-else-next-eq-SIXTEEN_BITS : goal.returns-else-next-eq-SIXTEEN_BITS
returns-else-next-eq-SIXTEEN_BITS c = let e : eqb (suc c.args.id) 65536 ≡ false = ne_eqb _ _ (λ (q : suc c.args.id ≡ 65536). c.if-next-eq-SIXTEEN_BITS.false (omega arith)) in (rw (e, add-one), search rules)
