-- The whole state, by groups, and what one session has of it: its row, and its slot or the flash.
use Rattle.std.specs.Prelude.{List, ℕ, cond, ltb, get_or, set}
use Rattle.laws.specs.Lens.{Lens, into, both}
use Rattle.laws.specs.Ranges.{block}
use Rattle.laws.specs.Bits.{bit, put_bit}
use Rattle.protocol.specs.Numbers.{slot_count, row_words, name_size, slot_size}
use Rattle.state.specs.declared.Phase.{Phase}
use Rattle.state.specs.declared.Control.{Control}
use Rattle.state.specs.declared.row.Place.{Place}
use Rattle.state.specs.declared.row.Place.TheVariants.{AtSlot, AtFlash}

-- the session table and the mask of rows used
pub record Rows : Type 0 where
  pub table : List ℕ
  pub rows : ℕ

-- the store: names, committed and staged regions, masks of slots used and slots committed, lengths
pub record Slots : Type 0 where
  pub names : List ℕ
  pub committed : List ℕ
  pub staged : List ℕ
  pub slots : ℕ
  pub marks : ℕ
  pub committed_lens : List ℕ
  pub staged_lens : List ℕ

-- the flash: phase, image and hash, lengths (rule 5.3)
pub record FlashBody : Type 0 where
  pub phase : Phase
  pub image : List ℕ
  pub hash : List ℕ
  pub image_len : ℕ
  pub hash_len : ℕ

-- the whole: three groups, the next identifier and the last sweep (rule 5.2)
pub record State : Type 0 where
  pub sessions : Rows
  pub store : Slots
  pub flash_group : FlashBody
  pub next : ℕ
  pub last_sweep : ℕ

-- the store that the values by value and the lent lists make: names, committed, staged
abbrev pub store_of : Control → (names committed staged : List ℕ) → Slots
store_of v n c g = record { names = n; committed = c; staged = g; slots = v.slots; marks = v.marks; committed_lens = v.committed_len; staged_lens = v.staged_len }

-- the state that the control block v and the lent buffers make: table, names, committed, staged, image, hash (rules 5.1 and 5.2)
abbrev pub state_of : Control → (table names committed staged image hash : List ℕ) → State
state_of v t n c g i h = record {
  sessions = record { table = t; rows = v.rows };
  store = store_of v n c g;
  flash_group = record { phase = v.phase; image = i; hash = h; image_len = v.image_len; hash_len = v.hash_len };
  next = v.next;
  last_sweep = v.last_sweep;
}

-- one row: its four words, and whether it is used (1) or not (0)
pub record Row : Type 0 where
  pub words : List ℕ
  pub used : ℕ

-- one slot: its name field, committed and staged regions, used or not, committed or not, committed and staged length
pub record Slot : Type 0 where
  pub name : List ℕ
  pub committed_bytes : List ℕ
  pub staged_bytes : List ℕ
  pub held : ℕ
  pub mark : ℕ
  pub committed_len : ℕ
  pub staged_len : ℕ

-- what a session has beside its row: a slot of the store, or the flash
abbrev pub Body : Place → Type 0
Body (AtSlot k) = Slot
Body AtFlash = FlashBody

-- the place of a blob number: the first 16 are the slots, those above them the flash (rule 5.8)
abbrev pub place_of : ℕ → Place
place_of b = cond (ltb b slot_count) (AtSlot b) AtFlash

-- the groups
abbrev pub in_sessions : Lens State Rows
in_sessions = record { get = λ (s : State). s.sessions; put = λ (x : Rows) (s : State). record { sessions = x; store = s.store; flash_group = s.flash_group; next = s.next; last_sweep = s.last_sweep } }

-- the state with this mask of rows and this session table
abbrev pub with_rows : ℕ → List ℕ → State → State
with_rows m t s = in_sessions.put (record { table = t; rows = m }) s

abbrev pub in_store : Lens State Slots
in_store = record { get = λ (s : State). s.store; put = λ (x : Slots) (s : State). record { sessions = s.sessions; store = x; flash_group = s.flash_group; next = s.next; last_sweep = s.last_sweep } }

-- the state with this mask of slots used and these names
abbrev pub with_names : ℕ → List ℕ → State → State
with_names m n s = in_store.put (record
    { names = n; committed = s.store.committed; staged = s.store.staged; slots = m; marks = s.store.marks; committed_lens = s.store.committed_lens; staged_lens = s.store.staged_lens }) s

abbrev pub in_flash : Lens State FlashBody
in_flash = record { get = λ (s : State). s.flash_group; put = λ (x : FlashBody) (s : State). record { sessions = s.sessions; store = s.store; flash_group = x; next = s.next; last_sweep = s.last_sweep } }

-- row r: its words of the table, and its bit of the mask (rule 5.9)
abbrev pub row_of : ℕ → Lens Rows Row
row_of r = record {
  get = λ (x : Rows). record { words = (block row_words r).get x.table; used = bit r x.rows };
  put = λ (c : Row) (x : Rows). record { table = (block row_words r).put c.words x.table; rows = put_bit r c.used x.rows };
}

-- a session's row, in the state
abbrev pub in_row : ℕ → Lens State Row
in_row r = into in_sessions (row_of r)

-- slot k: its part of each buffer, its bit of each mask, its two lengths (rule 5.9)
abbrev pub slot_of : ℕ → Lens Slots Slot
slot_of k = record {
  get = λ (x : Slots). record {
    name = (block name_size k).get x.names;
    committed_bytes = (block slot_size k).get x.committed;
    staged_bytes = (block slot_size k).get x.staged;
    held = bit k x.slots;
    mark = bit k x.marks;
    committed_len = get_or x.committed_lens k 0;
    staged_len = get_or x.staged_lens k 0;
  };
  put = λ (c : Slot) (x : Slots). record {
    names = (block name_size k).put c.name x.names;
    committed = (block slot_size k).put c.committed_bytes x.committed;
    staged = (block slot_size k).put c.staged_bytes x.staged;
    slots = put_bit k c.held x.slots;
    marks = put_bit k c.mark x.marks;
    committed_lens = set x.committed_lens k c.committed_len;
    staged_lens = set x.staged_lens k c.staged_len;
  };
}

-- a session's body, in the state
abbrev pub in_body : (p : Place) → Lens State (Body p)
in_body (AtSlot k) = into in_store (slot_of k)
in_body AtFlash = in_flash

abbrev pub cell : (r : ℕ) (p : Place) → Lens State (Row × Body p)
cell r p = both (in_row r) (in_body p)
