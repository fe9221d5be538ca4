-- Lookups worked out. Assumes nothing.
use Rattle.std.specs.Prelude.{◌≡◌, refl, List, [], ◌∷◌, ◌++◌, ℕ, replicate, take}
use Rattle.std.specs.Int.Count.{ones_in}
use Rattle.laws.specs.Find.{first}
use Rattle.rules.specs.Session.{row_found}
use Rattle.visits.specs.Visits.{visited, Looked, looked_up}

-- identifier 7 in row 0, 9 in row 1, and 9 again in row 15; the others are zero
abbrev pub table : List ℕ
table = 7 ∷ 0 ∷ 0x40001 ∷ 100 ∷ 9 ∷ 1 ∷ 0x40001 ∷ 100 ∷ (replicate 52 0 ++ (9 ∷ 2 ∷ 0x40001 ∷ 100 ∷ []))

abbrev pub says : (code row visits : ℕ) → Looked
says c r n = record { code = c; row = r; visits = n }

-- found: in the first row; in the last one, behind one other; in the lower of two that have it
pub lookups-found : (looked_up 7 0x8003 table ≡ says 0x00 0 1) × ((looked_up 9 0x8001 table ≡ says 0x00 15 2) × (looked_up 9 0x8003 table ≡ says 0x00 1 2))
unfolding looked_up row_found visited first ones_in
lookups-found = (refl, (refl, refl))

-- not found: no row has it; the row that has it is not used; it agrees with a row's in the lower half only; no row is used at all
pub lookups-absent : (looked_up 8 0x8003 table ≡ says 0xCB 0 3) × ((looked_up 7 0x8002 table ≡ says 0xCB 0 2) × ((looked_up 0x10007 0x8003 table ≡
    says 0xCB 0 3) × (looked_up 0 0 table ≡ says 0xCB 0 0)))
unfolding looked_up row_found visited first ones_in
lookups-absent = (refl, (refl, (refl, refl)))

-- not looked up: the least mask of 17 bits; a table of 60 words
pub lookups-refused : (looked_up 7 0x10000 table ≡ says 0xFF 0 0) × (looked_up 7 3 (take 60 table) ≡ says 0xFF 0 0)
unfolding looked_up
lookups-refused = (refl, refl)
