-- When a change of one row and one place keeps a state sound: a command on an open session, and a new session. Assumes nothing.
use Rattle.std.specs.Prelude.{◌≡◌, refl, ◌≢◌, ◌⊎◌, [], ◌∷◌, ℕ, ◌<◌, length}
use Rattle.std.proofs.Common.{sym, ◌∙◌, ap, subst, inl, inr, arith}
use Rattle.std.proofs.Math.Logic.{Ne-symm}
use Rattle.std.proofs.Math.Decide.{ℕ_discrete}
use Rattle.protocol.specs.Numbers.{row_count, slot_count, row_words, sixteen_bits}
use Rattle.state.specs.declared.row.Place.{Place}
use Rattle.state.specs.declared.row.Place.TheVariants.{AtSlot, AtFlash}
use Rattle.state.specs.State.{State, Row, Slot, Body, place_of, in_row, in_body, cell}
use Rattle.state.specs.Parts.{Separate, InRange, Shape, FitsRow, FitsBody}
use Rattle.state.proofs.Parts.{cell-shape, cell-get-put, cell-row-other, cell-body-other}
use Rattle.state.specs.Words.{id_of, blob_of, ident, blob, Live}
use Rattle.state.specs.Soundness.{slot_at}
use Rattle.state.specs.Facts.{Session, Unheld, Sound}
use Rattle.state.specs.Agree.{place-cases, separate-irrefl, separate-sym}

-- s' is s but for row i and place p; what the two hold now is right, and clashes with no other
pub record Change (s s' : State) (i : ℕ) (p : Place) : Type 0 where
  pub new-shape : Shape s'
  pub rows-kept : (r : ℕ) → r ≢ i → (in_row r).get s' ≡ (in_row r).get s
  pub bodies_kept : (w : Place) → Separate p w → (in_body w).get s' ≡ (in_body w).get s
  pub others : (r : ℕ) → Live r s → r ≢ i → Separate (place_of (blob r s)) p
  pub before : Live i s → place_of (blob i s) ≡ p
  pub now-at : Live i s' → place_of (blob i s') ≡ p
  pub now-open : Live i s' → Session p ((in_row i).get s') ((in_body p).get s')
  pub now-id : Live i s' → (r : ℕ) → Live r s → r ≢ i → ident r s ≢ ident i s'
  pub now-free : i < row_count → ((in_row i).get s').used ≡ 0 → ((in_row i).get s').words ≡ 0 ∷ 0 ∷ 0 ∷ 0 ∷ []
  pub now-loose : (Live i s' → ⊥) → Unheld p ((in_body p).get s')
  pub now-named : (k l : ℕ) → p ≡ AtSlot k → k < slot_count → l < slot_count → k ≢ l → (slot_at k s').held ≡ 1 → (slot_at l s).held ≡ 1 → (slot_at k s').name ≢ (slot_at l s).name

module _ (s s' : State) (i : ℕ) (p : Place) (sound : Sound s) (c : Change s s' i p) where
  live-was : (r : ℕ) → r ≢ i → Live r s' → Live r s
  live-was r n l = (l.0, sym (ap (λ (x : Row). x.used) (c.rows-kept r n)) ∙ l.1)

  live_now : (r : ℕ) → r ≢ i → Live r s → Live r s'
  live_now r n l = (l.0, ap (λ (x : Row). x.used) (c.rows-kept r n) ∙ l.1)

  id-was : (r : ℕ) → r ≢ i → ident r s' ≡ ident r s
  id-was r n = ap id_of (c.rows-kept r n)

  blob-was : (r : ℕ) → r ≢ i → blob r s' ≡ blob r s
  blob-was r n = ap blob_of (c.rows-kept r n)

  abbrev Holds : ℕ → Place → Type 0
  Holds r w = Session w ((in_row r).get s') ((in_body w).get s')

  new-session : (r : ℕ) → Live r s' → Holds r (place_of (blob r s'))
  new-session r l = go (ℕ_discrete r i)
    where
      here : Live i s' → Holds i (place_of (blob i s'))
      here v = subst (Holds i) (sym (c.now-at v)) (c.now-open v)

      go : Dec (r ≡ i) → Holds r (place_of (blob r s'))
      go (yes e) = subst (λ (x : ℕ). Holds x (place_of (blob x s'))) (sym e) (here (subst (λ (x : ℕ). Live x s') e l))
      go (no n) =
          let w = place_of (blob r s) in
          let v = live-was r n l in
          subst (Holds r) (sym (ap place_of (blob-was r n)))
          (subst (λ (x : Row). Session w x ((in_body w).get s')) (sym (c.rows-kept r n))
          (subst (λ (y : Body w). Session w ((in_row r).get s) y) (sym (c.bodies_kept w (separate-sym w p (c.others r v n)))) (sound.session r v)))

  new-unused : (r : ℕ) → r < row_count → ((in_row r).get s').used ≡ 0 → ((in_row r).get s').words ≡ 0 ∷ 0 ∷ 0 ∷ 0 ∷ []
  new-unused r h u = go (ℕ_discrete r i)
    where
      go : Dec (r ≡ i) → ((in_row r).get s').words ≡ 0 ∷ 0 ∷ 0 ∷ 0 ∷ []
      go (yes e) = subst (λ (x : ℕ). ((in_row x).get s').words ≡ 0 ∷ 0 ∷ 0 ∷ 0 ∷ []) (sym e)
          (c.now-free (subst (λ (x : ℕ). x < row_count) e h) (subst (λ (x : ℕ). ((in_row x).get s').used ≡ 0) e u))
      go (no n) = ap (λ (x : Row). x.words) (c.rows-kept r n) ∙ sound.unused r h (sym (ap (λ (x : Row). x.used) (c.rows-kept r n)) ∙ u)

  new-ids : (r q : ℕ) → Live r s' → Live q s' → r ≢ q → ident r s' ≢ ident q s'
  new-ids r q a b n = go (ℕ_discrete r i) (ℕ_discrete q i)
    where
      go : Dec (r ≡ i) → Dec (q ≡ i) → ident r s' ≢ ident q s'
      go (yes e) (yes f) = absurd (n (e ∙ sym f))
      go (yes e) (no f) = λ (z : ident r s' ≡ ident q s').
          c.now-id (subst (λ (x : ℕ). Live x s') e a) q (live-was q f b) f (sym (id-was q f) ∙ sym z ∙ ap (λ (x : ℕ). ident x s') e)
      go (no e) (yes f) = λ (z : ident r s' ≡ ident q s').
          c.now-id (subst (λ (x : ℕ). Live x s') f b) r (live-was r e a) e (sym (id-was r e) ∙ z ∙ ap (λ (x : ℕ). ident x s') f)
      go (no e) (no f) = λ (z : ident r s' ≡ ident q s'). sound.ids r q (live-was r e a) (live-was q f b) n (sym (id-was r e) ∙ z ∙ id-was q f)

  new-spots : (r q : ℕ) → Live r s' → Live q s' → r ≢ q → Separate (place_of (blob r s')) (place_of (blob q s'))
  new-spots r q a b n = go (ℕ_discrete r i) (ℕ_discrete q i)
    where
      other : (x : ℕ) → x ≢ i → Live x s' → Separate (place_of (blob x s')) p
      other x m l = subst (λ (y : ℕ). Separate (place_of y) p) (sym (blob-was x m)) (c.others x (live-was x m l) m)

      at : (x : ℕ) → x ≡ i → Live x s' → p ≡ place_of (blob x s')
      at x e l = sym (c.now-at (subst (λ (y : ℕ). Live y s') e l)) ∙ sym (ap (λ (y : ℕ). place_of (blob y s')) e)

      go : Dec (r ≡ i) → Dec (q ≡ i) → Separate (place_of (blob r s')) (place_of (blob q s'))
      go (yes e) (yes f) = absurd (n (e ∙ sym f))
      go (yes e) (no f) = subst (λ (w : Place). Separate w (place_of (blob q s'))) (at r e a) (separate-sym (place_of (blob q s')) p (other q f b))
      go (no e) (yes f) = subst (λ (w : Place). Separate (place_of (blob r s')) w) (at q f b) (other r e a)
      go (no e) (no f) = rw (blob-was r e, blob-was q f) (sound.spots r q (live-was r e a) (live-was q f b) n)

  new-loose : (w : Place) → InRange w → ((r : ℕ) → Live r s' → Separate (place_of (blob r s')) w) → Unheld w ((in_body w).get s')
  new-loose w range f = go (place-cases p w)
    where
      past : Separate p w → (r : ℕ) → Live r s → Dec (r ≡ i) → Separate (place_of (blob r s)) w
      past m r l (yes e) = subst (λ (x : Place). Separate x w) (sym (ap (λ (y : ℕ). place_of (blob y s)) e ∙ c.before (subst (λ (y : ℕ). Live y s) e l))) m
      past m r l (no n) = subst (λ (b : ℕ). Separate (place_of b) w) (blob-was r n) (f r (live_now r n l))

      go : (p ≡ w) ⊎ Separate p w → Unheld w ((in_body w).get s')
      go (inl e) = subst (λ (x : Place). Unheld x ((in_body x).get s')) e
          (c.now-loose (λ (v : Live i s'). separate-irrefl w (subst (λ (x : Place). Separate x w) (c.now-at v ∙ e) (f i v))))
      go (inr m) = subst (Unheld w) (sym (c.bodies_kept w m)) (sound.loose w range (λ (r : ℕ) (l : Live r s). past m r l (ℕ_discrete r i)))

  slot_kept : (k : ℕ) → Separate p (AtSlot k) → slot_at k s' ≡ slot_at k s
  slot_kept k m = c.bodies_kept (AtSlot k) m

  new-names : (k l : ℕ) → k < slot_count → l < slot_count → k ≢ l → (slot_at k s').held ≡ 1 → (slot_at l s').held ≡ 1 → (slot_at k s').name ≢ (slot_at l s').name
  new-names k l hk hl n a b = go (place-cases p (AtSlot k)) (place-cases p (AtSlot l))
    where
      held_was : (j : ℕ) → Separate p (AtSlot j) → (slot_at j s').held ≡ 1 → (slot_at j s).held ≡ 1
      held_was j m h = sym (ap (λ (x : Slot). x.held) (slot_kept j m)) ∙ h

      name-was : (j : ℕ) → Separate p (AtSlot j) → (slot_at j s').name ≡ (slot_at j s).name
      name-was j m = ap (λ (x : Slot). x.name) (slot_kept j m)

      apart : (x y : ℕ) → x ≢ y → p ≡ AtSlot x → Separate p (AtSlot y)
      apart x y m e = subst (λ (w : Place). Separate w (AtSlot y)) (sym e) m

      go : (p ≡ AtSlot k) ⊎ Separate p (AtSlot k) → (p ≡ AtSlot l) ⊎ Separate p (AtSlot l) → (slot_at k s').name ≢ (slot_at l s').name
      go (inl e) d = λ (z : (slot_at k s').name ≡ (slot_at l s').name).
          let m = apart k l n e in
          c.now-named k l e hk hl n a (held_was l m b) (z ∙ name-was l m)
      go (inr m) (inl e) = λ (z : (slot_at k s').name ≡ (slot_at l s').name). c.now-named l k e hl hk (Ne-symm n) b (held_was k m a) (sym z ∙ name-was k m)
      go (inr m) (inr o) = λ (z : (slot_at k s').name ≡ (slot_at l s').name).
          sound.names-differ k l hk hl n (held_was k m a) (held_was l o b) (sym (name-was k m) ∙ z ∙ name-was l o)

  -- such a change keeps the state sound
  pub change-sound : Sound s'
  change-sound = record { shape = c.new-shape; session = new-session; unused = new-unused; ids = new-ids; spots = new-spots; loose = new-loose; names-differ = new-names }

-- ---- a session's command: its own part changes
abbrev pub NameKept : (p : Place) → Body p → Body p → Type 0
NameKept (AtSlot k) b d = d.held ≡ 1 → (b.held ≡ 1) × (d.name ≡ b.name)
NameKept AtFlash b d = Unit {0}

-- what a command may do to its own part: the session stays with its identifier and blob, or it is freed
pub record Proper (p : Place) (r q : Row) (b d : Body p) : Type 0 where
  pub row_fits : FitsRow q
  pub body-fits : FitsBody p d
  pub kept : q.used ≡ 1 → (id_of q ≡ id_of r) × (blob_of q ≡ blob_of r) × Session p q d
  pub freed : q.used ≡ 0 → (q.words ≡ 0 ∷ 0 ∷ 0 ∷ 0 ∷ []) × Unheld p d
  pub named : NameKept p b d

module _ (s : State) (sound : Sound s) (i : ℕ) (live : Live i s) (q : Row)
    (d : Body (place_of (blob i s))) (proper : Proper (place_of (blob i s)) ((in_row i).get s) q ((in_body (place_of (blob i s))).get s) d) where
  -- the session's place
  abbrev pub own : Place
  own = place_of (blob i s)

  -- the state with its row and body replaced
  abbrev pub put : State
  put = (cell i own).put (q, d) s

  -- the row that was put is found
  pub row_new : (in_row i).get put ≡ q
  row_new = ap (λ (c : Row × Body own). c.0) (cell-get-put i own (q, d) s live.0 sound.shape proper.row_fits proper.body-fits)

  -- and the body
  pub body_new : (in_body own).get put ≡ d
  body_new = ap (λ (c : Row × Body own). c.1) (cell-get-put i own (q, d) s live.0 sound.shape proper.row_fits proper.body-fits)

  -- and every other row as it was
  pub row_old : (r : ℕ) → r ≢ i → (in_row r).get put ≡ (in_row r).get s
  row_old r n = cell-row-other i r own (q, d) s (Ne-symm n)

  used-new : Live i put → q.used ≡ 1
  used-new v = sym (ap (λ (c : Row). c.used) row_new) ∙ v.1

  put-change : Change s put i own
  put-change = record {
    new-shape = cell-shape i own (q, d) s live.0 proper.body-fits sound.shape;
    rows-kept = row_old;
    bodies_kept = λ (w : Place) (m : Separate own w). cell-body-other i own w (q, d) s m;
    others = λ (r : ℕ) (l : Live r s) (n : r ≢ i). sound.spots r i l live n;
    before = λ (l : Live i s). refl;
    now-at = λ (v : Live i put). ap place_of (ap blob_of row_new ∙ (proper.kept (used-new v)).1);
    now-open = λ (v : Live i put). subst (λ (x : Row). Session own x ((in_body own).get put)) (sym row_new) (subst (λ (y : Body own). Session own q y) (sym body_new) (proper.kept (used-new v)).2);
    now-id = λ (v : Live i put) (r : ℕ) (l : Live r s) (n : r ≢ i) (e : ident r s ≡ ident i put). sound.ids r i l live n (e ∙ ap id_of row_new ∙ (proper.kept (used-new v)).0);
    now-free = λ (h : i < row_count) (u : ((in_row i).get put).used ≡ 0). ap (λ (c : Row). c.words) row_new ∙ (proper.freed (sym (ap (λ (c : Row). c.used) row_new) ∙ u)).0;
    now-loose = λ (f : Live i put → ⊥).
        let n : q.used ≢ 1 = λ (u : q.used ≡ 1). f (live.0, ap (λ (c : Row). c.used) row_new ∙ u) in
        let b : q.used < 2 = proper.row_fits.flag in
        subst (Unheld own) (sym body_new) (proper.freed (omega arith)).1;
    now-named = λ (k l : ℕ) (e : own ≡ AtSlot k) (hk : k < slot_count) (hl : l < slot_count) (n : k ≢ l) (a : (slot_at k put).held ≡ 1)
        (b : (slot_at l s).held ≡ 1) (z : (slot_at k put).name ≡ (slot_at l s).name).
        let m : NameKept (AtSlot k) (slot_at k s) (slot_at k put)
        = subst (λ (w : Place). NameKept w ((in_body w).get s) ((in_body w).get put)) e (subst (λ (y : Body own). NameKept own ((in_body own).get s) y) (sym body_new) proper.named) in
        sound.names-differ k l hk hl n (m a).0 b (sym (m a).1 ∙ z);
  }

  -- what is proper keeps the state sound
  pub put-sound : Sound put
  put-sound = change-sound s put i own sound put-change

  -- a row that is live now was so before, with its identifier and blob
  pub record Was (r : ℕ) : Type 0 where
    pub was-live : Live r s
    pub same_id : ident r put ≡ ident r s
    pub same-blob : blob r put ≡ blob r s

  -- every row that is live now
  pub was : (r : ℕ) → Live r put → Was r
  was r l = go (ℕ_discrete r i)
    where
      here : Live i put → Was i
      here v = let k = proper.kept (used-new v) in record { was-live = live; same_id = ap id_of row_new ∙ k.0; same-blob = ap blob_of row_new ∙ k.1 }

      go : Dec (r ≡ i) → Was r
      go (yes e) = subst (λ (x : ℕ). Was x) (sym e) (here (subst (λ (x : ℕ). Live x put) e l))
      go (no n) = record { was-live = (l.0, sym (ap (λ (c : Row). c.used) (row_old r n)) ∙ l.1); same_id = ap id_of (row_old r n); same-blob = ap blob_of (row_old r n) }

-- ---- a new session at a place that has none, on a free row
-- no other slot in use has the name
abbrev pub NewName : State → (p : Place) → Body p → Type 0
NewName s (AtSlot k) d = (l : ℕ) → l < slot_count → k ≢ l → (slot_at l s).held ≡ 1 → d.name ≢ (slot_at l s).name
NewName s AtFlash d = Unit {0}

module _ (s : State) (g : Sound s) (r : ℕ) (low : r < row_count) (free : ((in_row r).get s).used ≡ 0) (p : Place) (row : Row) (body : Body p) (four : length row.words ≡ row_words) (on : row.used ≡ 1)
    (at : place_of (blob_of row) ≡ p) (alone : (q : ℕ) → Live q s → Separate (place_of (blob q s)) p) (fits : FitsBody p body) (ses : Session p row body)
    (unused : (q : ℕ) → Live q s → ident q s ≢ id_of row) (named : NewName s p body) where
  abbrev with-new : State
  with-new = (cell r p).put (row, body) s

  found_back : (cell r p).get with-new ≡ (row, body)
  found_back = cell-get-put r p (row, body) s low g.shape (record { four = four; flag = omega arith }) fits

  new_row : (in_row r).get with-new ≡ row
  new_row = ap (λ (c : Row × Body p). c.0) found_back

  new-body : (in_body p).get with-new ≡ body
  new-body = ap (λ (c : Row × Body p). c.1) found_back

  new-used : ((in_row r).get with-new).used ≡ 1
  new-used = ap (λ (x : Row). x.used) new_row ∙ on

  -- the state with the new session is sound
  pub added-sound : Sound with-new
  added-sound = change-sound s with-new r p g (record {
    new-shape = cell-shape r p (row, body) s low fits g.shape;
    rows-kept = λ (q : ℕ) (n : q ≢ r). cell-row-other r q p (row, body) s (Ne-symm n);
    bodies_kept = λ (w : Place) (m : Separate p w). cell-body-other r p w (row, body) s m;
    others = λ (q : ℕ) (l : Live q s) (n : q ≢ r). alone q l;
    before = λ (l : Live r s). absurd (let e : ((in_row r).get s).used ≡ 1 = l.1 in omega arith);
    now-at = λ (v : Live r with-new). ap place_of (ap blob_of new_row) ∙ at;
    now-open = λ (v : Live r with-new). subst (λ (x : Row). Session p x ((in_body p).get with-new)) (sym new_row) (subst (λ (y : Body p). Session p row y) (sym new-body) ses);
    now-id = λ (v : Live r with-new) (q : ℕ) (l : Live q s) (n : q ≢ r) (e : ident q s ≡ ident r with-new). unused q l (e ∙ ap id_of new_row);
    now-free = λ (h : r < row_count) (u : ((in_row r).get with-new).used ≡ 0). absurd (let e = new-used in omega arith);
    now-loose = λ (f : Live r with-new → ⊥). absurd (f (low, new-used));
    now-named = λ (k l : ℕ) (e : p ≡ AtSlot k) (hk : k < slot_count) (hl : l < slot_count) (n : k ≢ l) (a : (slot_at k with-new).held ≡ 1) (h : (slot_at l s).held ≡ 1).
        subst (λ (w : Place). NewName s w ((in_body w).get with-new)) e (subst (NewName s p) (sym new-body) named) l hl n h;
  })

-- ---- the values that no session has
abbrev pub with_values : ℕ → ℕ → State → State
with_values n t s = record { sessions = s.sessions; store = s.store; flash_group = s.flash_group; next = n; last_sweep = t }

body-values : (w : Place) (n t : ℕ) (s : State) → (in_body w).get (with_values n t s) ≡ (in_body w).get s
body-values (AtSlot k) n t s = refl
body-values AtFlash n t s = refl

-- soundness sees of them only that the next identifier is small
pub values-sound : (n t : ℕ) (s : State) → n < sixteen_bits → Sound s → Sound (with_values n t s)
values-sound n t s h g = record {
  shape = record {
    table-size = g.shape.table-size;
    names-size = g.shape.names-size;
    committed-size = g.shape.committed-size;
    staged-size = g.shape.staged-size;
    committed_lens-size = g.shape.committed_lens-size;
    staged_lens-size = g.shape.staged_lens-size;
    image-size = g.shape.image-size;
    hash-size = g.shape.hash-size;
    rows-small = g.shape.rows-small;
    slots_small = g.shape.slots_small;
    marks-small = g.shape.marks-small;
    next_small = h;
  };
  session = λ (r : ℕ) (l : Live r (with_values n t s)). subst (Session (place_of (blob r s)) ((in_row r).get s)) (sym (body-values (place_of (blob r s)) n t s)) (g.session r l);
  unused = g.unused;
  ids = g.ids;
  spots = g.spots;
  loose = λ (p : Place) (q : InRange p) (f : (r : ℕ) → Live r (with_values n t s) → Separate (place_of (blob r (with_values n t s))) p). subst (Unheld p) (sym (body-values p n t s)) (g.loose p q f);
  names-differ = g.names-differ;
}
