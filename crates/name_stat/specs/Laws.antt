-- The ways through Stat. Assumes nothing.
use Rattle.std.specs.Prelude.{◌≡◌, Bool, true, false, cond, ℕ, ◌+◌, ◌-◌, eqb, get_or, take, drop}
use Rattle.std.proofs.Math.Path.{sym, ap}
use Rattle.std.proofs.Common.{◌∙◌}
use mathlib.Core.List.{List}
use Rattle.std.proofs.Math.Option.{Option, none, some}
use Rattle.laws.specs.Ranges.{lent-part, block}
use Rattle.laws.specs.Bits.{bit}
use Rattle.protocol.specs.Numbers.{row_words, not_found, state_committed}
use Rattle.protocol.specs.Names.{kind_of, flash_number}
use Rattle.protocol.specs.Frame.{refused, reply, stat_fields, Reply}
use Rattle.protocol.specs.declared.Blob.TheVariants.{Store, Flash}
use Rattle.protocol.specs.declared.FlashKind.{FlashKind}
use Rattle.state.specs.declared.row.Place.{Place}
use Rattle.state.specs.declared.row.Place.TheVariants.{AtSlot, AtFlash}
use Rattle.state.specs.State.{State, place_of, in_body}
use Rattle.state.specs.Words.{writing_in}
use Rattle.state.specs.Entry.{words_of}
use Rattle.state.specs.declared.row.Entry.{Entry}
use Rattle.rules.specs.Command.{state_bits}
use Rattle.rules.specs.Flash.{flash_length}
use Rattle.rules.specs.Session.{row_found, stat_row, stat_part}
use Rattle.state.specs.declared.row.Wanted.TheVariants.{OnBlob}
use Rattle.rules.specs.Lookup.{slot_named}
use Rattle.rules.specs.Opening.{flash_listed}
use Rattle.rules.specs.Named.{stat_blob, stat_kind, stat_name}
use Rattle.rules.specs.Checks.{some_or, whether, holds_or}
use Rattle.state.specs.Soundness.{slot_at}

-- ---- row r, which was read as e
module _ (r : ℕ) (s : State) (e : Entry) (words : (block row_words r).get s.sessions.table ≡ words_of e) where
  row-stat : (p : Place) → place_of e.blob ≡ p → stat_part p (record { words = words_of e; used = bit r s.sessions.rows }) ((in_body p).get s) ≡ stat_row r s
  unfolding stat_row
  row-stat p q = sym (
      ap (λ (l : List ℕ). stat_part (place_of (get_or l 1 0)) (record { words = l; used = bit r s.sessions.rows }) ((in_body (place_of (get_or l 1 0))).get s)) words
      ∙ ap (λ (x : Place). stat_part x (record { words = words_of e; used = bit r s.sessions.rows }) ((in_body x).get s)) q
      )

  pub slot-stat : (k : ℕ) → place_of e.blob ≡ AtSlot k
      → stat_fields (state_bits e.word) (cond (eqb (writing_in e.word) 1) (get_or s.store.staged_lens k 0) (get_or s.store.committed_lens k 0)) ≡ stat_row r s
  slot-stat k p = row-stat (AtSlot k) p

  pub flash-stat : place_of e.blob ≡ AtFlash → stat_fields (state_bits e.word) (flash_length (kind_of e.blob) s.flash_group) ≡ stat_row r s
  flash-stat p = row-stat AtFlash p

-- ---- a store name
module _ (n : List ℕ) (s : State) where
  -- a session on slot k, or none
  abbrev held : (k : ℕ) → Option ℕ → Reply
  held k o = whether o (λ (r : ℕ). reply (stat_row r s)) (reply (stat_fields state_committed (slot_at k s).committed_len))

  named : (o : Option ℕ) → slot_named n s ≡ o → some_or o (refused not_found) (λ (k : ℕ). held k (row_found (OnBlob k) s)) ≡ stat_name n s
  unfolding stat_name
  named o e = ap (λ (x : Option ℕ). some_or x (refused not_found) (λ (k : ℕ). held k (row_found (OnBlob k) s))) (sym e)

  pub store-none : slot_named n s ≡ none → refused not_found ≡ stat_name n s
  store-none e = named none e

  module _ (k : ℕ) (e : slot_named n s ≡ some k) where
    pub store-closed : row_found (OnBlob k) s ≡ none → reply (stat_fields state_committed (get_or s.store.committed_lens k 0)) ≡ stat_name n s
    store-closed f = ap (held k) (sym f) ∙ named (some k) e

    pub store-open : (r : ℕ) → row_found (OnBlob k) s ≡ some r → reply (stat_row r s) ≡ stat_name n s
    store-open r f = ap (held k) (sym f) ∙ named (some k) e

-- it is lent from the message
pub store-lent : (start len : ℕ) (m : List ℕ) (s : State) → stat_name (take (start + len - start) (drop start m)) s ≡ stat_blob (Store start len) m s
unfolding stat_blob
store-lent start len m s = ap (λ (n : List ℕ). stat_name n s) (lent-part start len m)

-- ---- a flash name
module _ (k : FlashKind) (m : List ℕ) (s : State) where
  -- the flash session on it, or none
  abbrev there : Option ℕ → Reply
  there o = whether o (λ (r : ℕ). reply (stat_row r s)) (reply (stat_fields 0 (flash_length k s.flash_group)))

  listed : (b : Bool) → flash_listed k s.flash_group.phase ≡ b → holds_or b (refused not_found) (there (row_found (OnBlob (flash_number k)) s)) ≡ stat_blob (Flash k) m s
  unfolding stat_blob stat_kind
  listed b e = ap (λ (x : Bool). holds_or x (refused not_found) (there (row_found (OnBlob (flash_number k)) s))) (sym e)

  pub flash-hidden : flash_listed k s.flash_group.phase ≡ false → refused not_found ≡ stat_blob (Flash k) m s
  flash-hidden e = listed false e

  module _ (e : flash_listed k s.flash_group.phase ≡ true) where
    pub flash-closed : row_found (OnBlob (flash_number k)) s ≡ none → reply (stat_fields 0 (flash_length k s.flash_group)) ≡ stat_blob (Flash k) m s
    flash-closed f = ap there (sym f) ∙ listed true e

    pub flash-open : (r : ℕ) → row_found (OnBlob (flash_number k)) s ≡ some r → reply (stat_row r s) ≡ stat_blob (Flash k) m s
    flash-open r f = ap there (sym f) ∙ listed true e
