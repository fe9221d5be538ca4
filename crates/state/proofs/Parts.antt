-- The parts of a state are apart from each other, and what is put into a part is found there. Assumes nothing.
use Rattle.std.specs.Prelude.{◌≡◌, refl, ◌≢◌, List, ℕ, ◌*◌, ◌<◌, length, take}
use Rattle.std.proofs.Common.{◌∙◌, length-set, get_or-set_same}
use Rattle.std.proofs.Math.Logic.{Ne-symm}
use Rattle.std.proofs.Math.Seq.{length-sets}
use Rattle.laws.specs.Lens.{Indep, Steady, Field, into-indep, into-steady, both-indep, both-steady, indep-sym}
use Rattle.laws.specs.Ranges.{block, block-indep, block-fits, block-steady, range-get-put, element, element-indep, element-steady}
use Rattle.laws.specs.Bits.{flag-kept, put-lt, bits, bits-indep, put-bit}
use Rattle.protocol.specs.Numbers.{row_count, row_words, name_size, slot_size}
use Rattle.state.specs.declared.row.Place.{Place}
use Rattle.state.specs.declared.row.Place.TheVariants.{AtSlot, AtFlash}
use Rattle.state.specs.State.{Rows, Slots, FlashBody, State, Row, Slot, Body, in_sessions, in_store, row_of, in_row, slot_of, in_body, cell}
use Rattle.state.specs.Parts.{Separate, Shape, FitsRow, FitsBody}

sessions-field : Field in_sessions
sessions-field = record { get-put = λ (c : Rows) (s : State). refl; put-put = λ (c d : Rows) (s : State). refl; put-get = λ (s : State). refl }

store-field : Field in_store
store-field = record { get-put = λ (c : Slots) (s : State). refl; put-put = λ (c d : Slots) (s : State). refl; put-get = λ (s : State). refl }

row_of-indep : (r q : ℕ) → r ≢ q → Indep (row_of r) (row_of q)
row_of-indep r q n =
    let t : Indep {S = List ℕ} (block row_words r) (block row_words q) = block-indep 4 r q n in
    let b : Indep (bits r) (bits q) = bits-indep r q n in
    record {
      sees = λ (c : Row) (x : Rows). λ i. record { words = t.sees c.words x.table i; used = b.sees c.used x.rows i };
      seen = λ (c : Row) (x : Rows). λ i. record { words = t.seen c.words x.table i; used = b.seen c.used x.rows i };
      swap = λ (c d : Row) (x : Rows). λ i. record { table = t.swap c.words d.words x.table i; rows = b.swap c.used d.used x.rows i };
    }

row_of-steady : (r : ℕ) → Steady (row_of r)
row_of-steady r x = λ i. record { table = block-steady 0 4 r x.table i; rows = put-bit r x.rows i }

slot_of-indep : (k l : ℕ) → k ≢ l → Indep (slot_of k) (slot_of l)
slot_of-indep k l h =
    let n : Indep {S = List ℕ} (block name_size k) (block name_size l) = block-indep name_size k l h in
    let t : Indep {S = List ℕ} (block slot_size k) (block slot_size l) = block-indep slot_size k l h in
    let b : Indep (bits k) (bits l) = bits-indep k l h in
    let e : Indep {S = List ℕ} (element 0 k) (element 0 l) = element-indep 0 k l h in
    record {
      sees = λ (c : Slot) (x : Slots). λ i. record {
        name = n.sees c.name x.names i;
        committed_bytes = t.sees c.committed_bytes x.committed i;
        staged_bytes = t.sees c.staged_bytes x.staged i;
        held = b.sees c.held x.slots i;
        mark = b.sees c.mark x.marks i;
        committed_len = e.sees c.committed_len x.committed_lens i;
        staged_len = e.sees c.staged_len x.staged_lens i;
      };
      seen = λ (c : Slot) (x : Slots). λ i. record {
        name = n.seen c.name x.names i;
        committed_bytes = t.seen c.committed_bytes x.committed i;
        staged_bytes = t.seen c.staged_bytes x.staged i;
        held = b.seen c.held x.slots i;
        mark = b.seen c.mark x.marks i;
        committed_len = e.seen c.committed_len x.committed_lens i;
        staged_len = e.seen c.staged_len x.staged_lens i;
      };
      swap = λ (c d : Slot) (x : Slots). λ i. record {
        names = n.swap c.name d.name x.names i;
        committed = t.swap c.committed_bytes d.committed_bytes x.committed i;
        staged = t.swap c.staged_bytes d.staged_bytes x.staged i;
        slots = b.swap c.held d.held x.slots i;
        marks = b.swap c.mark d.mark x.marks i;
        committed_lens = e.swap c.committed_len d.committed_len x.committed_lens i;
        staged_lens = e.swap c.staged_len d.staged_len x.staged_lens i;
      };
    }

pub slot_of-steady : (k : ℕ) → Steady (slot_of k)
slot_of-steady k x = λ i. record {
  names = block-steady 0 name_size k x.names i;
  committed = block-steady 0 slot_size k x.committed i;
  staged = block-steady 0 slot_size k x.staged i;
  slots = put-bit k x.slots i;
  marks = put-bit k x.marks i;
  committed_lens = element-steady 0 k x.committed_lens i;
  staged_lens = element-steady 0 k x.staged_lens i;
}

pub body-indep : (p q : Place) → Separate p q → Indep (in_body p) (in_body q)
body-indep (AtSlot k) (AtSlot l) n = into-indep in_store (slot_of k) (slot_of l) store-field (slot_of-indep k l n)
body-indep (AtSlot k) AtFlash n = record { sees = λ (c : Slot) (s : State). refl; seen = λ (d : FlashBody) (s : State). refl; swap = λ (c : Slot) (d : FlashBody) (s : State). refl }
body-indep AtFlash (AtSlot l) n = record { sees = λ (c : FlashBody) (s : State). refl; seen = λ (d : Slot) (s : State). refl; swap = λ (c : FlashBody) (d : Slot) (s : State). refl }
body-indep AtFlash AtFlash n = absurd n

pub row-body : (r : ℕ) (p : Place) → Indep (in_row r) (in_body p)
row-body r (AtSlot k) = record { sees = λ (c : Row) (s : State). refl; seen = λ (d : Slot) (s : State). refl; swap = λ (c : Row) (d : Slot) (s : State). refl }
row-body r AtFlash = record { sees = λ (c : Row) (s : State). refl; seen = λ (d : FlashBody) (s : State). refl; swap = λ (c : Row) (d : FlashBody) (s : State). refl }

pub cell-indep : (r q : ℕ) (p w : Place) → r ≢ q → Separate p w → Indep (cell r p) (cell q w)
cell-indep r q p w n m =
    both-indep (in_row r) (in_body p) (cell q w)
    (indep-sym (both-indep (in_row q) (in_body w) (in_row r) (into-indep in_sessions (row_of q) (row_of r) sessions-field (row_of-indep q r (Ne-symm n))) (indep-sym (row-body r w))))
    (indep-sym (both-indep (in_row q) (in_body w) (in_body p) (row-body q p) (indep-sym (body-indep p w m))))

body-steady : (p : Place) → Steady (in_body p)
body-steady (AtSlot k) = into-steady in_store (slot_of k) store-field.put-get (slot_of-steady k)
body-steady AtFlash = λ (s : State). refl

pub cell-steady : (r : ℕ) (p : Place) → Steady (cell r p)
cell-steady r p = both-steady (in_row r) (in_body p) (into-steady in_sessions (row_of r) sessions-field.put-get (row_of-steady r)) (body-steady p)

pub row_get_put : (r : ℕ) (c : Row) (s : State) → r < 16 → Shape s → FitsRow c → (in_row r).get ((in_row r).put c s) ≡ c
row_get_put r c s h sh f = λ i. record {
  words = range-get-put (r * 4) 4 c.words s.sessions.table f.four (rw sh.table-size (block-fits 4 r 16 h)) i;
  used = flag-kept r c.used s.sessions.rows f.flag i;
}

pub body-get-put : (p : Place) (b : Body p) (s : State) → Shape s → FitsBody p b → (in_body p).get ((in_body p).put b s) ≡ b
body-get-put (AtSlot k) b s sh f = λ i. record {
  name = range-get-put (k * name_size) name_size b.name s.store.names f.1.name-long (rw sh.names-size (block-fits name_size k 16 f.0)) i;
  committed_bytes = range-get-put (k * slot_size) slot_size b.committed_bytes s.store.committed f.1.committed-long (rw sh.committed-size (block-fits slot_size k 16 f.0)) i;
  staged_bytes = range-get-put (k * slot_size) slot_size b.staged_bytes s.store.staged f.1.staged-long (rw sh.staged-size (block-fits slot_size k 16 f.0)) i;
  held = flag-kept k b.held s.store.slots f.1.held-flag i;
  mark = flag-kept k b.mark s.store.marks f.1.mark-flag i;
  committed_len = get_or-set_same s.store.committed_lens k b.committed_len 0 (rw sh.committed_lens-size f.0) i;
  staged_len = get_or-set_same s.store.staged_lens k b.staged_len 0 (rw sh.staged_lens-size f.0) i;
}
body-get-put AtFlash b s sh f = refl

pub row-shape : (r : ℕ) (c : Row) (s : State) → r < 16 → Shape s → Shape ((in_row r).put c s)
row-shape r c s h sh = record {
  table-size = length-sets s.sessions.table (r * 4) (take 4 c.words) ∙ sh.table-size;
  rows-small = put-lt r 16 c.used s.sessions.rows h sh.rows-small;
  names-size = sh.names-size;
  committed-size = sh.committed-size;
  staged-size = sh.staged-size;
  committed_lens-size = sh.committed_lens-size;
  staged_lens-size = sh.staged_lens-size;
  image-size = sh.image-size;
  hash-size = sh.hash-size;
  slots_small = sh.slots_small;
  marks-small = sh.marks-small;
  next_small = sh.next_small;
}

pub body-shape : (p : Place) (b : Body p) (s : State) → FitsBody p b → Shape s → Shape ((in_body p).put b s)
body-shape (AtSlot k) b s f sh = record {
  names-size = length-sets s.store.names (k * name_size) (take name_size b.name) ∙ sh.names-size;
  committed-size = length-sets s.store.committed (k * slot_size) (take slot_size b.committed_bytes) ∙ sh.committed-size;
  staged-size = length-sets s.store.staged (k * slot_size) (take slot_size b.staged_bytes) ∙ sh.staged-size;
  committed_lens-size = length-set s.store.committed_lens k b.committed_len ∙ sh.committed_lens-size;
  staged_lens-size = length-set s.store.staged_lens k b.staged_len ∙ sh.staged_lens-size;
  slots_small = put-lt k 16 b.held s.store.slots f.0 sh.slots_small;
  marks-small = put-lt k 16 b.mark s.store.marks f.0 sh.marks-small;
  table-size = sh.table-size;
  image-size = sh.image-size;
  hash-size = sh.hash-size;
  rows-small = sh.rows-small;
  next_small = sh.next_small;
}
body-shape AtFlash b s f sh = record {
  image-size = f.0;
  hash-size = f.1;
  table-size = sh.table-size;
  names-size = sh.names-size;
  committed-size = sh.committed-size;
  staged-size = sh.staged-size;
  committed_lens-size = sh.committed_lens-size;
  staged_lens-size = sh.staged_lens-size;
  rows-small = sh.rows-small;
  slots_small = sh.slots_small;
  marks-small = sh.marks-small;
  next_small = sh.next_small;
}

pub cell-shape : (r : ℕ) (p : Place) (c : Row × Body p) (s : State) → r < 16 → FitsBody p c.1 → Shape s → Shape ((cell r p).put c s)
cell-shape r p c s h f sh = row-shape r c.0 ((in_body p).put c.1 s) h (body-shape p c.1 s f sh)

pub cell-get-put : (r : ℕ) (p : Place) (c : Row × Body p) (s : State) → r < 16 → Shape s → FitsRow c.0 → FitsBody p c.1 → (cell r p).get ((cell r p).put c s) ≡ c
cell-get-put r p c s h sh fr fb = λ i. (
  row_get_put r c.0 ((in_body p).put c.1 s) h (body-shape p c.1 s fb sh) fr i,
  ((row-body r p).sees c.0 ((in_body p).put c.1 s) ∙ body-get-put p c.1 s sh fb) i,
)

-- what another row and another place see of a part that was put
pub cell-row-other : (i r : ℕ) (p : Place) (c : Row × Body p) (s : State) → i ≢ r → (in_row r).get ((cell i p).put c s) ≡ (in_row r).get s
cell-row-other i r p c s n =
    (into-indep in_sessions (row_of i) (row_of r) sessions-field (row_of-indep i r n)).sees c.0 ((in_body p).put c.1 s) ∙ (row-body r p).seen c.1 s

pub cell-body-other : (i : ℕ) (p w : Place) (c : Row × Body p) (s : State) → Separate p w → (in_body w).get ((cell i p).put c s) ≡ (in_body w).get s
cell-body-other i p w c s m = (row-body i w).sees c.0 ((in_body p).put c.1 s) ∙ (body-indep p w m).sees c.1 s

-- a row that is put is found where the table has its length; the table keeps it
pub row_put : (r : ℕ) (p : Place) (c : Row × Body p) (s : State) → r < row_count → length s.sessions.table ≡ row_count * row_words → FitsRow c.0 → (in_row r).get ((cell r p).put c s) ≡ c.0
row_put r (AtSlot k) c s h len f = λ i. record {
  words = range-get-put (r * 4) 4 c.0.words s.sessions.table f.four (rw len (block-fits 4 r 16 h)) i;
  used = flag-kept r c.0.used s.sessions.rows f.flag i;
}
row_put r AtFlash c s h len f = λ i. record {
  words = range-get-put (r * 4) 4 c.0.words s.sessions.table f.four (rw len (block-fits 4 r 16 h)) i;
  used = flag-kept r c.0.used s.sessions.rows f.flag i;
}

pub table_kept : (r : ℕ) (p : Place) (c : Row × Body p) (s : State) → length ((cell r p).put c s).sessions.table ≡ length s.sessions.table
table_kept r (AtSlot k) c s = length-sets s.sessions.table (r * 4) (take 4 c.0.words)
table_kept r AtFlash c s = length-sets s.sessions.table (r * 4) (take 4 c.0.words)
