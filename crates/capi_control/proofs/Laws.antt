-- The words and the control block determine each other; words stored run after run. Assumes nothing.
use Rattle.std.specs.Prelude.{◌≡◌, refl, true, List, [], ◌∷◌, ◌++◌, ℕ, zero, suc, ◌+◌, ◌≤◌, ◌<◌, eqb, leb, length, get_or, take, drop}
use Rattle.std.proofs.Common.{sym, ◌∙◌, ap, append-nil, arith, length-append, drop_of_length-le, take-append-drop, drop-cons, drop-drop, take_at, drop_at, get_or-append-add, eqb-true, leb-true}
use Rattle.std.proofs.lemmas.List.Edits.{sets, sets-eq}
use Rattle.laws.specs.Ranges.{part, sets-append}
use Rattle.laws.specs.All.{and-true}
use Rattle.protocol.specs.Numbers.{slot_count}
use Rattle.state.specs.declared.Phase.{Phase}
use Rattle.state.specs.declared.Phase.TheVariants.{Idle, Uploading, Verified}
use Rattle.state.specs.declared.Control.{Control}
use Rattle.capi_control.specs.Words.{control_size, committed_lens_at, staged_lens_at, phase_at, image_len_at, hash_len_at, next_at, last_sweep_at, phase_number, phase_of, control_fits, control_of, words_of}

-- ---- runs of words stored one behind the other
-- as many words as there are
pub sets-whole : (l w : List ℕ) → length w ≡ length l → sets l 0 w ≡ w
sets-whole l w h = sets-eq w l 0 (omega arith) ∙ ap (λ (r : List ℕ). w ++ r) (drop_of_length-le l {i = 0 + length w} (omega arith)) ∙ append-nil w

sets-next : (l a b : List ℕ) (i j : ℕ) → j ≡ i + length a → sets (sets l i a) j b ≡ sets l i (a ++ b)
sets-next l a b i j e = ap (λ (k : ℕ). sets (sets l i a) k b) e ∙ sym (sets-append a b l i)

-- the masks, the two runs of lengths and the values behind them fill the control block; n is the number of the phase
pub put-control : (c : Control) (n : ℕ) (l l₁ l₂ l₃ l₄ : List ℕ) → length l ≡ control_size → length c.committed_len ≡ slot_count → length c.staged_len ≡ slot_count
    → n ≡ phase_number c.phase
    → l₁ ≡ sets l 0 (c.rows ∷ c.slots ∷ c.marks ∷ [])
    → l₂ ≡ sets l₁ committed_lens_at c.committed_len
    → l₃ ≡ sets l₂ staged_lens_at c.staged_len
    → l₄ ≡ sets l₃ phase_at (n ∷ c.image_len ∷ c.hash_len ∷ c.next ∷ c.last_sweep ∷ [])
    → l₄ ≡ words_of c
unfolding words_of
put-control c n l l₁ l₂ l₃ l₄ s p q e e₁ e₂ e₃ e₄ =
    let h : List ℕ = c.rows ∷ c.slots ∷ c.marks ∷ [] in
    let a : List ℕ = c.committed_len in
    let b : List ℕ = c.staged_len in
    let t : List ℕ = phase_number c.phase ∷ c.image_len ∷ c.hash_len ∷ c.next ∷ c.last_sweep ∷ [] in
    e₄
    ∙ ap (λ (k : ℕ). sets l₃ phase_at (k ∷ c.image_len ∷ c.hash_len ∷ c.next ∷ c.last_sweep ∷ [])) e
    ∙ ap (λ (r : List ℕ). sets r phase_at t) e₃
    ∙ sets-next l₂ b t staged_lens_at phase_at (omega arith)
    ∙ ap (λ (r : List ℕ). sets r staged_lens_at (b ++ t)) e₂
    ∙ sets-next l₁ a (b ++ t) committed_lens_at staged_lens_at (omega arith)
    ∙ ap (λ (r : List ℕ). sets r committed_lens_at (a ++ (b ++ t))) e₁
    ∙ sets-next l h (a ++ (b ++ t)) 0 committed_lens_at refl
    ∙ sets-whole l (h ++ (a ++ (b ++ t))) (simp length-append (omega arith))

-- ---- a control block is found again in its words
phase-found : (p : Phase) → phase_of (phase_number p) ≡ p
phase-found Idle = refl
phase-found Uploading = refl
phase-found Verified = refl

-- what stands behind the two runs of lengths
behind : (a b t : List ℕ) (k : ℕ) → length a ≡ slot_count → length b ≡ slot_count → get_or (a ++ (b ++ t)) (slot_count + (slot_count + k)) 0 ≡ get_or t k 0
behind a b t k p q =
    ap (λ (n : ℕ). get_or (a ++ (b ++ t)) (n + (slot_count + k)) 0) (sym p)
    ∙ get_or-append-add a (b ++ t) (slot_count + k) 0
    ∙ ap (λ (n : ℕ). get_or (b ++ t) (n + k) 0) (sym q)
    ∙ get_or-append-add b t k 0

-- THEOREM: the words of a control block whose two arrays have 16 lengths are that control block
pub control-words : (c : Control) → length c.committed_len ≡ slot_count → length c.staged_len ≡ slot_count → control_of (words_of c) ≡ c
unfolding control_of words_of
control-words c p q =
    let a : List ℕ = c.committed_len in
    let b : List ℕ = c.staged_len in
    let t : List ℕ = phase_number c.phase ∷ c.image_len ∷ c.hash_len ∷ c.next ∷ c.last_sweep ∷ [] in
    λ i. record {
      rows = c.rows;
      slots = c.slots;
      marks = c.marks;
      committed_len = take_at a (b ++ t) slot_count p i;
      staged_len = (ap (take slot_count) (drop_at a (b ++ t) slot_count p) ∙ take_at b t slot_count q) i;
      phase = (ap phase_of (behind a b t 0 p q) ∙ phase-found c.phase) i;
      image_len = behind a b t 1 p q i;
      hash_len = behind a b t 2 p q i;
      next = behind a b t 3 p q i;
      last_sweep = behind a b t 4 p q i;
    }

-- ---- and the words in the control block
number-found : (n : ℕ) → n ≤ phase_number Verified → phase_number (phase_of n) ≡ n
number-found zero h = refl
number-found (suc zero) h = refl
number-found (suc (suc zero)) h = refl
number-found (suc (suc (suc n))) h = absurd (omega arith)

-- what starts with the words from i on
word_more : (w : List ℕ) (i v : ℕ) (r : List ℕ) → i < length w → v ≡ get_or w i 0 → r ≡ drop (suc i) w → v ∷ r ≡ drop i w
word_more w i v r h e q = ap (λ (n : ℕ). n ∷ r) e ∙ ap (λ (l : List ℕ). get_or w i 0 ∷ l) q ∙ sym (drop-cons w i 0 h)

words_more : (w : List ℕ) (i n : ℕ) (r : List ℕ) → r ≡ drop (i + n) w → part i n w ++ r ≡ drop i w
words_more w i n r q = ap (λ (l : List ℕ). part i n w ++ l) (q ∙ sym (drop-drop n i w)) ∙ take-append-drop n (drop i w)

-- words that are a control block have its length and a phase
pub fits-is : (w : List ℕ) → control_fits w ≡ true → (length w ≡ control_size) × (get_or w phase_at 0 ≤ phase_number Verified)
unfolding control_fits
fits-is w h =
    let p : (eqb (length w) control_size ≡ true) × (leb (get_or w phase_at 0) (phase_number Verified) ≡ true) = and-true _ _ h in
    (eqb-true _ _ p.0, leb-true _ _ p.1)

-- THEOREM: words that are a control block are the words of that control block
pub words-control : (w : List ℕ) → control_fits w ≡ true → words_of (control_of w) ≡ w
unfolding control_of words_of
words-control w h =
    let n : length w ≡ control_size = (fits-is w h).0 in
    let single : (i : ℕ) (r : List ℕ) → i < control_size → r ≡ drop (suc i) w → get_or w i 0 ∷ r ≡ drop i w =
    λ (i : ℕ) (r : List ℕ) (l : i < control_size). word_more w i (get_or w i 0) r (omega arith) refl in
    single 0 _ (omega arith) (single 1 _ (omega arith) (single 2 _ (omega arith)
    (words_more w committed_lens_at slot_count _ (words_more w staged_lens_at slot_count _
    (word_more w phase_at _ _ (omega arith) (number-found _ (fits-is w h).1)
    (single image_len_at _ (omega arith) (single hash_len_at _ (omega arith) (single next_at _ (omega arith)
    (single last_sweep_at [] (omega arith) (sym (drop_of_length-le w {i = control_size} (omega arith))))))))))))
