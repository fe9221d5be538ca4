-- An Open of a new name keeps a state sound. Assumes nothing.
use Rattle.std.specs.Prelude.{◌≡◌, refl, ◌≢◌, ◌⊎◌, true, List, ℕ, ◌<◌}
use Rattle.std.proofs.Common.{subst, inl, inr, arith}
use Rattle.std.proofs.Math.Option.{none}
use Rattle.std.proofs.lemmas.List.{length-replicate}
use Rattle.laws.specs.Bytes.{padded-length}
use Rattle.protocol.specs.Numbers.{row_count, slot_count, name_size, slot_size, sixteen_bits, read_write}
use Rattle.protocol.specs.Names.{store_name}
use Rattle.state.specs.declared.row.Place.{Place}
use Rattle.state.specs.declared.row.Place.TheVariants.{AtSlot}
use Rattle.state.specs.State.{State, Body, place_of, in_row, in_body, cell}
use Rattle.state.specs.Parts.{Separate, FitsBody}
use Rattle.state.specs.Words.{word_of, ident, blob, Live, store_writes}
use Rattle.state.specs.Soundness.{slot_at}
use Rattle.state.specs.Facts.{StoreFacts, Session, Sound}
use Rattle.state.specs.Agree.{place-slot, place-cases}
use Rattle.rules.proofs.Change.{NewName, added-sound, values-sound}
use Rattle.rules.proofs.Identifiers.{after_small, fresh-small, fresh-unused}
use Rattle.protocol.proofs.Naming.{field-of-name}
use Rattle.rules.specs.Searches.{no_name}
use Rattle.rules.specs.Lookup.{slot_named, after, fresh_id}
use Rattle.rules.specs.Opening.{new_row, opened, new_slot}

-- ---- a new session at a place that has none, on a free row
pub opened-sound : (s : State) (g : Sound s) (r : ℕ) (low : r < row_count) (free : ((in_row r).get s).used ≡ 0) (p : Place) (b flags clean t : ℕ) (body : Body p)
    (at : place_of b ≡ p) (alone : (q : ℕ) → Live q s → Separate (place_of (blob q s)) p) (fits : FitsBody p body)
    (ses : fresh_id s < sixteen_bits → Session p (new_row (fresh_id s) b flags clean t) body) (named : NewName s p body) → Sound (opened p r b flags clean t body s).1
unfolding opened
opened-sound s g r low free p b flags clean t body at alone fits ses named =
    let small : fresh_id s < sixteen_bits = fresh-small s row_count s.next g.shape.next_small in
    let row = new_row (fresh_id s) b flags clean t in
    values-sound (after (fresh_id s)) ((cell r p).put (row, body) s).last_sweep ((cell r p).put (row, body) s) (after_small (fresh_id s) small)
    (added-sound s g r low free p row body refl refl at alone fits (ses small) (λ (q : ℕ) (l : Live q s). fresh-unused s g.shape.next_small q l) named)

-- a slot that is not used has no session
unused-alone : (k : ℕ) (s : State) → Sound s → k < slot_count → (slot_at k s).held ≡ 0 → (q : ℕ) → Live q s → Separate (place_of (blob q s)) (AtSlot k)
unused-alone k s g h z q l = go (place-cases (place_of (blob q s)) (AtSlot k))
  where
    go : (place_of (blob q s) ≡ AtSlot k) ⊎ Separate (place_of (blob q s)) (AtSlot k) → Separate (place_of (blob q s)) (AtSlot k)
    go (inl e) = absurd (
        let f : StoreFacts k (ident q s) (blob q s) (word_of ((in_row q).get s)) (slot_at k s) = subst (λ (w : Place). Session w ((in_row q).get s) ((in_body w).get s)) e (g.session q l) in
        let u = f.is_held in omega arith)
    go (inr m) = m

-- ---- Open, of a store name
pub new-sound : (n : List ℕ) (t r k : ℕ) (s : State) → Sound s → store_name n ≡ true → slot_named n s ≡ none → (r < row_count) ×
    (((in_row r).get s).used ≡ 0) → (k < slot_count) × ((slot_at k s).held ≡ 0)
    → Sound (opened (AtSlot k) r k read_write 0 t (new_slot n) s).1
new-sound n t r k s g nm none-held fr fs =
    opened-sound s g r fr.0 fr.1 (AtSlot k) k read_write 0 t (new_slot n) (place-slot k fs.0) (unused-alone k s g fs.0 fs.1) (
      fs.0,
      record {
        name-long = padded-length name_size n;
        committed-long = length-replicate slot_size 0;
        staged-long = length-replicate slot_size 0;
        held-flag = omega arith;
        mark-flag = omega arith;
      },
    )
    (λ (sm : fresh_id s < sixteen_bits). record {
      id-small = sm;
      on-slot = refl;
      flags = store_writes;
      no-status = refl;
      rest-zero = omega arith;
      is_held = refl;
      mark-bit = omega arith;
      committed-fits = omega arith;
      staged-fits = omega arith;
      clean-marked = omega arith;
      reader-clean = omega arith;
      unmarked = λ (z : ◌≡◌ {A = ℕ} 0 0). refl;
      unstaged = λ (z : ◌≡◌ {A = ℕ} 1 0). absurd (omega arith);
      name-good = field-of-name n nm;
    })
    (λ (l : ℕ) (h : l < slot_count) (m : k ≢ l) (u : (slot_at l s).held ≡ 1). no_name n s none-held l h u)
