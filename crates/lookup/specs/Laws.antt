-- Laws of the searches' loops. Assumes nothing.
use Rattle.std.proofs.Math.Path.{◌≡◌, refl, sym, ap}
use Rattle.std.proofs.Common.{◌∙◌, add-one, arith, eqb-true, eq-eqb, get_or-take, get_or-append-add}
use Rattle.std.specs.Prelude.{◌≢◌, Option as Answer, Bool, List, ◌++◌, ℕ, zero, suc, ◌+◌, ◌*◌, ◌-◌, ◌%◌, ◌≤◌, ◌<◌, eqb, ltb, length, get_or, replicate}
use Rattle.std.proofs.Math.Bool.{true, false}
use Rattle.std.proofs.Math.Option.{Option, none, some}
use Rattle.std.proofs.Math.Decide.{dec_lt}
use Rattle.std.specs.Int.Count.{ones, ones_in, count_trailing_zeros}
use Rattle.std.proofs.Math.ListN.{get_or-eq_default, get_or-append}
use Rattle.std.proofs.lemmas.List.{get_or-replicate}
use Rattle.laws.specs.All.{all, and-true}
use Rattle.laws.specs.Ranges.{block}
use Rattle.laws.specs.Bits.{bit, put_bit, bit-lt}
use Rattle.laws.specs.Bytes.{same, padded}
use Rattle.laws.specs.Masks.{ones-more, ones-in}
use Rattle.laws.specs.SetBits.{Behind, Next, none-behind, all-behind, next-is, next-passes, next-fails}
use Rattle.protocol.specs.Numbers.{row_count, slot_count, row_words, name_size, sixteen_bits}
use Rattle.state.specs.State.{State, Rows, Row, in_sessions, with_rows, with_names}
use Rattle.state.specs.Words.{fresh}
use Rattle.state.specs.Lent.{TableLent}
use Rattle.state.specs.Answers.{option_of}
use Rattle.state.specs.declared.row.Wanted.{Wanted}
use Rattle.state.specs.declared.row.Wanted.TheVariants.{Id}
use Rattle.rules.specs.Session.{matches, row_found}
use Rattle.visits.specs.Visits.{rows_behind, visited, Search, searched, looked_by, table_fits, looked_up}
use Rattle.visits.proofs.Theorems.{looked-by}
use Rattle.lookup.specs.declared.RowSearch.{RowSearch}
use Rattle.lookup.specs.Search.{is_none, search_of, Nth}
use Rattle.rules.specs.Lookup.{slot_named, after, unless, fresh_from}

-- ---- the search for a row
-- the row r of a table
abbrev pub row_in : (rows : ℕ) (table : List ℕ) (r : ℕ) → Row
row_in rows table r = record { words = (block row_words r).get table; used = bit r rows }

-- it is the one wanted, if it is used
abbrev pub is_row : Wanted → (rows : ℕ) (table : List ℕ) → ℕ → Bool
is_row w rows table r = matches w (row_in rows table r)

-- rows are behind: none of them is used and the one wanted, `visits` of them are used, and the used ones of the others are left
abbrev pub RowsBehind : Wanted → (rows : ℕ) (table : List ℕ) (left visits : ℕ) → Type 0
RowsBehind w rows table left visits = Behind (is_row w rows table) row_count rows left visits

-- row r is visited next
abbrev pub NextRow : Wanted → (rows : ℕ) (table : List ℕ) (visits r : ℕ) → Type 0
NextRow w rows table visits r = Next (is_row w rows table) row_count rows visits r

module _ (w : Wanted) (rows : ℕ) (table : List ℕ) where
  pub rows_start : RowsBehind w rows table (rows % sixteen_bits) 0
  rows_start = none-behind (is_row w rows table) row_count rows

  pub next_row : (left visits : ℕ) → RowsBehind w rows table left visits → left ≢ 0 → NextRow w rows table visits (count_trailing_zeros 32 left)
  next_row left visits b h = next-is (is_row w rows table) row_count rows 32 left visits (omega arith) b h

  -- it is the one wanted, and the search ends
  pub search-hit : (visits r : ℕ) → NextRow w rows table visits r → is_row w rows table r ≡ true
      → (s : State) → record { row = some r; visits = visits + 1 } ≡ searched w (with_rows rows table s)
  unfolding row_found visited
  search-hit visits r x e s =
      let p : row_found w (with_rows rows table s) ≡ some r = next-passes (is_row w rows table) row_count rows visits r x e in
      λ i. record { row = sym p i; visits = (x.counts ∙ ap (λ (o : Option ℕ). ones_in (rows_behind o) rows) (sym p)) i }

  -- it is not, and the search goes on
  pub search-miss : (left visits : ℕ) → RowsBehind w rows table left visits → left ≢ 0 → is_row w rows table (count_trailing_zeros 32 left) ≡ false
      → RowsBehind w rows table (put_bit (count_trailing_zeros 32 left) 0 left) (visits + 1)
  search-miss left visits b h e = next-fails (is_row w rows table) row_count rows 32 left visits (omega arith) b h e

  -- none is left
  pub search-end : (visits : ℕ) → RowsBehind w rows table 0 visits → (s : State) → record { row = none; visits = visits } ≡ searched w (with_rows rows table s)
  unfolding row_found visited
  search-end visits b s =
      let e = all-behind (is_row w rows table) row_count rows visits b in
      λ i. record { row = sym e.0 i; visits = (e.1 ∙ ap (λ (o : Option ℕ). ones_in (rows_behind o) rows) (sym e.0)) i }

-- ---- the search for a name, in the same way
-- slot k holds the name n, if it is used
abbrev pub same_name : (n names : List ℕ) → ℕ → Bool
same_name n names k = same ((block name_size k).get names) (padded name_size n)

-- slots are behind: none of them is used and holds the name, and the used ones of the others are left
abbrev pub SlotsBehind : (n : List ℕ) (slots : ℕ) (names : List ℕ) (left : ℕ) → Type 0
SlotsBehind n slots names left = (visits : ℕ) × Behind (same_name n names) slot_count slots left visits

module _ (n : List ℕ) (slots : ℕ) (names : List ℕ) where
  pub slots-start : SlotsBehind n slots names (slots % sixteen_bits)
  slots-start = (0, none-behind (same_name n names) slot_count slots)

  next-slot : (left : ℕ) (b : SlotsBehind n slots names left) → left ≢ 0 → Next (same_name n names) slot_count slots b.0 (count_trailing_zeros 32 left)
  next-slot left b h = next-is (same_name n names) slot_count slots 32 left b.0 (omega arith) b.1 h

  -- the slot that is visited next is one of the store
  pub next-slot-low : (left : ℕ) → SlotsBehind n slots names left → left ≢ 0 → count_trailing_zeros 32 left < slot_count
  next-slot-low left b h = (next-slot left b h).low

  pub name-hit : (left : ℕ) → SlotsBehind n slots names left → left ≢ 0 → same_name n names (count_trailing_zeros 32 left) ≡ true
      → (s : State) → some (count_trailing_zeros 32 left) ≡ slot_named n (with_names slots names s)
  unfolding slot_named
  name-hit left b h e s = sym (next-passes (same_name n names) slot_count slots b.0 (count_trailing_zeros 32 left) (next-slot left b h) e)

  pub name-miss : (left : ℕ) → SlotsBehind n slots names left → left ≢ 0 → same_name n names (count_trailing_zeros 32 left) ≡ false
      → SlotsBehind n slots names (put_bit (count_trailing_zeros 32 left) 0 left)
  name-miss left b h e = (b.0 + 1, next-fails (same_name n names) slot_count slots 32 left b.0 (omega arith) b.1 h e)

  pub name-end : SlotsBehind n slots names 0 → (s : State) → none ≡ slot_named n (with_names slots names s)
  unfolding slot_named
  name-end b s = sym (all-behind (same_name n names) slot_count slots b.0 b.1).0

-- ---- the lookup of an identifier: it needs a table, and says what the search gives
pub table-lent : (rows : ℕ) (table : List ℕ) → table_fits rows table ≡ true → TableLent table
table-lent rows table e = eqb-true _ _ (and-true (eqb (length table) (row_count * row_words)) (ltb rows sixteen_bits) e).0

module _ (id rows : ℕ) (table : List ℕ) (x : RowSearch) (looked : search_of x ≡ searched (Id id) (with_rows rows table fresh)) where
  pub looked-search : (found : Answer ℕ) → x.row ≡ found → table_fits rows table ≡ true → looked_by (option_of found) x.visits ≡ looked_up id rows table
  looked-search found p fits =
      ap (λ (f : Answer ℕ). looked_by (option_of f) x.visits) (sym p) ∙ ap (λ (y : Search). looked_by y.row y.visits) looked ∙ sym (looked-by id rows table fits)

-- ---- equal lists, byte by byte
-- two lists agree at i
unfoldable pub same_at : List ℕ → List ℕ → ℕ → Bool
same_at a b i = eqb (get_or a i 0) (get_or b i 0)

pub same-all : (a b : List ℕ) (n : ℕ) → length a ≡ n → length b ≡ n → all (same_at a b) n ≡ same a b
unfolding same same_at
same-all a b n e f = rw (e, f, eq-eqb n n refl)

-- a byte of the padded list
pub padded-at : (n i : ℕ) (l : List ℕ) → i < n → get_or (padded n l) i 0 ≡ get_or l i 0
unfolding padded
padded-at n i l h = get_or-take n (l ++ replicate n 0) i 0 h ∙ go (dec_lt i (length l))
  where
    go : Dec (i < length l) → get_or (l ++ replicate n 0) i 0 ≡ get_or l i 0
    go (yes q) = get_or-append l (replicate n 0) 0 i q
    go (no q) =
        let e : i ≡ length l + (i - length l) = omega arith in
        ap (λ (j : ℕ). get_or (l ++ replicate n 0) j 0) e
        ∙ get_or-append-add l (replicate n 0) (i - length l) 0
        ∙ get_or-replicate n (i - length l) 0 0 (omega arith)
        ∙ sym (get_or-eq_default l 0 {n = i} (omega arith))

-- behind the list's end there are the padding's zeros
pub padded-zero : (n i : ℕ) (l : List ℕ) → i < n → length l ≤ i → ◌≡◌ {A = ℕ} 0 (get_or (padded n l) i 0)
padded-zero n i l h e = sym (padded-at n i l h ∙ get_or-eq_default l 0 {n = i} e)

-- ---- the identifier: the search stops at one that no session has, goes on at another, and takes the one behind them
module _ (s : State) where
  pub fresh-stop : (n m id : ℕ) → n ≡ m + 1 → is_none (row_found (Id id) s) ≡ true → fresh_from n id s ≡ id
  unfolding fresh_from
  fresh-stop n m id e h = rw (e, add-one) (go (row_found (Id id) s) h)
    where
      go : (o : Option ℕ) → is_none o ≡ true → unless o id (fresh_from m (after id) s) ≡ id
      go none h = refl
      go (some r) h = absurd (let z : ◌≡◌ {A = ℕ} 0 1 = cc in omega arith)

  pub fresh_step : (n m id : ℕ) → n ≡ m + 1 → is_none (row_found (Id id) s) ≡ false → fresh_from n id s ≡ fresh_from m (after id) s
  unfolding fresh_from
  fresh_step n m id e h = rw (e, add-one) (go (row_found (Id id) s) h)
    where
      go : (o : Option ℕ) → is_none o ≡ false → unless o id (fresh_from m (after id) s) ≡ fresh_from m (after id) s
      go none h = absurd (let z : ◌≡◌ {A = ℕ} 0 1 = cc in omega arith)
      go (some r) h = refl

  pub fresh-last : (n id : ℕ) → n ≡ 0 → fresh_from n id s ≡ id
  unfolding fresh_from
  fresh-last n id e = rw e

-- the identifier hangs on the session table and its mask alone
pub fresh-same : (n id : ℕ) (x : Rows) (s s' : State) → fresh_from n id (in_sessions.put x s) ≡ fresh_from n id (in_sessions.put x s')
unfolding fresh_from row_found
fresh-same zero id x s s' = refl
fresh-same (suc n) id x s s' = ap (unless (row_found (Id id) (in_sessions.put x s)) id) (fresh-same n (after id) x s s')

-- ---- the search for the bit number i: its start, and its end at the last place
pub ones-start : (m : ℕ) → ones_in 0 m ≡ 0
unfolding ones_in
ones-start m = refl

one_more : (a b t i : ℕ) → a + b ≡ t → a ≤ i → i < t → b < 2 → (b ≡ 1) × (a ≡ i)
one_more a b t i e h l q = (omega arith, omega arith)

pub nth_last : (m i k : ℕ) → m < sixteen_bits → i < ones m → suc k ≡ slot_count → ones_in k m ≤ i → Nth m i k
nth_last m i k h l e q =
    let t : ones_in k m + bit k m ≡ ones m = sym (ones-more k m) ∙ ap (λ (n : ℕ). ones_in n m) e ∙ ones-in slot_count m h in
    let p = one_more (ones_in k m) (bit k m) (ones m) i t q l (bit-lt k m) in
    record { low = omega arith; is_set = p.0; below = p.1 }
