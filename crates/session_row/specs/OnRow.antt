-- From a command on the part of a session to the state around it. Assumes nothing.
use Rattle.std.specs.Prelude.{◌≡◌, List, ℕ, get_or, set}
use Rattle.std.proofs.Common.{sym, ◌∙◌, ap}
use Rattle.laws.specs.Ranges.{block}
use Rattle.laws.specs.Bits.{bit, put_bit, put-bit}
use Rattle.protocol.specs.Numbers.{row_words, name_size, slot_size}
use Rattle.protocol.specs.Frame.{Reply, refused}
use Rattle.state.specs.declared.row.Entry.{Entry}
use Rattle.state.specs.Entry.{words_of}
use Rattle.state.specs.declared.row.Place.{Place}
use Rattle.state.specs.declared.row.Place.TheVariants.{AtSlot, AtFlash}
use Rattle.state.specs.State.{State, Rows, Slots, FlashBody, Row, Slot, Body, place_of, row_of, slot_of, in_body, cell}
use Rattle.state.proofs.Parts.{cell-steady}
use Rattle.state.specs.Words.{free_row}
use Rattle.rules.specs.Command.{Command, Out, refuse}
use Rattle.rules.specs.Session.{on_part, on_place, on_row}

-- row r of the state, read as e
abbrev pub row_read : ℕ → Entry → State → Row
row_read r e s = record { words = words_of e; used = bit r s.sessions.rows }

module _ (s : State) (r : ℕ) (e : Entry) (words : (block row_words r).get s.sessions.table ≡ words_of e) (p : Place) (place : place_of e.blob ≡ p) (t : ℕ) (cmd : Command) where
  -- a command that answers q and leaves x and b
  pub does : (q : Reply) (x : Row) (b : Body p) (after : State) → on_part p t cmd (row_read r e s) ((in_body p).get s) ≡ (q, (x, b)) → (cell r p).put (x, b) s ≡ after → (q, after) ≡ on_row r t cmd s
  does q x b after h u = sym (
      ap (λ (l : List ℕ). on_place (place_of (get_or l 1 0)) r t cmd s) words
      ∙ ap (λ (y : Place). on_place y r t cmd s) place
      ∙ ap (λ (l : List ℕ). out (on_part p t cmd (record { words = l; used = bit r s.sessions.rows }) ((in_body p).get s))) words
      ∙ ap out h
      ∙ ap (λ (y : State). (q, y)) u
      )
    where
      out : Out (Body p) → Reply × State
      out o = (o.0, (cell r p).put o.1 s)

  -- a refusal
  pub refuses : (code : ℕ) → on_part p t cmd (row_read r e s) ((in_body p).get s) ≡ refuse code (row_read r e s) ((in_body p).get s) → (refused code, s) ≡ on_row r t cmd s
  refuses code h =
      does (refused code) (row_read r e s) ((in_body p).get s) s h
      (ap (λ (l : List ℕ). (cell r p).put (record { words = l; used = bit r s.sessions.rows }, (in_body p).get s) s) (sym words) ∙ cell-steady r p s)

-- ---- the state with a part put
-- the state with other rows, another store, another flash
abbrev pub with : State → Rows → Slots → FlashBody → State
with s x y z = record { sessions = x; store = y; flash_group = z; next = s.next; last_sweep = s.last_sweep }

module _ (s : State) (r : ℕ) (x : Row) (rows : Rows) (h : (row_of r).put x s.sessions ≡ rows) where
  pub put-slot : (k : ℕ) (b : Slot) (slots : Slots) → (slot_of k).put b s.store ≡ slots → (cell r (AtSlot k)).put (x, b) s ≡ with s rows slots s.flash_group
  put-slot k b slots q = λ i. with s (h i) (q i) s.flash_group

  pub put-flash : (b b' : FlashBody) → b ≡ b' → (cell r AtFlash).put (x, b) s ≡ with s rows s.store b'
  put-flash b b' q = λ i. with s (h i) s.store (q i)

-- a row that stays used
pub row_kept : (r : ℕ) (x : Rows) (words table : List ℕ) → table ≡ (block row_words r).put words x.table → (row_of r).put (record { words = words; used = bit r x.rows }) x ≡ record { table = table; rows = x.rows }
row_kept r x words table p = λ i. record { table = sym p i; rows = put-bit r x.rows i }

-- a row that is freed
pub row-freed : (r : ℕ) (x : Rows) (table : List ℕ) (rows : ℕ) → table ≡ (block row_words r).put free_row.words x.table → rows ≡ put_bit r 0 x.rows → (row_of r).put free_row x ≡ record { table = table; rows = rows }
row-freed r x table rows p q = λ i. record { table = sym p i; rows = sym q i }

-- a slot put back with other parts: names, committed, staged, slots used, slots committed, lengths
module _ (k : ℕ) (b : Slot) (x y : Slots) where
  pub slot-put : (block name_size k).put b.name x.names ≡ y.names → (block slot_size k).put b.committed_bytes x.committed ≡ y.committed → (block slot_size k).put b.staged_bytes x.staged ≡ y.staged
      → put_bit k b.held x.slots ≡ y.slots → put_bit k b.mark x.marks ≡ y.marks → set x.committed_lens k b.committed_len ≡ y.committed_lens → set x.staged_lens k b.staged_len ≡ y.staged_lens
      → (slot_of k).put b x ≡ y
  slot-put p1 p2 p3 p4 p5 p6 p7 = λ i. record { names = p1 i; committed = p2 i; staged = p3 i; slots = p4 i; marks = p5 i; committed_lens = p6 i; staged_lens = p7 i }
