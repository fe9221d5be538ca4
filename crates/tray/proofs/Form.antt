-- The form of a tray: what each code for the bytes alone stands for, and that both sides of a cut between two records have the form. Assumes nothing.
use Rattle.std.specs.Prelude.{◌≡◌, refl, ◌≢◌, ◌↔◌, Bool, true, false, cond, List, [], ◌∷◌, ◌++◌, ℕ, ◌+◌, ◌-◌, ◌≤◌, ◌<◌, eqb, length, take, drop}
use Rattle.std.proofs.Common.{sym, ◌∙◌, ap, subst, arith, eqb-true, length-append, length-drop, take-append-drop, length-take-le}
use Rattle.std.proofs.lemmas.List.{append_cancel_left}
use Rattle.std.proofs.lemmas.Bool.{eqb-false}
use Rattle.laws.specs.All.{Or, this, that}
use Rattle.protocol.specs.Numbers.{success, wrong_length, too_long}
use Rattle.records.specs.Records.{is_whole, Timed, requests_in, bytes_in}
use Rattle.tray.specs.Tray.{tray_most, messages_in, bytes_behind, form_of, tray_form}
use Rattle.tray.proofs.Whole.{AllWhole, requests-most, bytes-within, bytes-append, behind-cut, requests-joined, requests-higher, requests-front}

-- ---- what the code says
-- one of three: no bytes behind; some behind 64 records; some behind another number of records
abbrev FormSays : List ℕ → ℕ → ℕ → Type 0
FormSays x n c = Or ((length x ≡ 0) × (c ≡ success)) (Or ((0 < length x) × ((n ≡ tray_most) × (c ≡ too_long))) ((0 < length x) × ((n ≢ tray_most) × (c ≡ wrong_length))))

form-says : (x : List ℕ) (n : ℕ) → FormSays x n (form_of x n)
form-says [] n = this (refl, refl)
form-says (y ∷ x) n = go (eqb n tray_most) refl
  where
    go : (t : Bool) → eqb n tray_most ≡ t → FormSays (y ∷ x) n (cond t too_long wrong_length)
    go true h = that (this (omega arith, (eqb-true n tray_most h, refl)))
    go false h = that (that (omega arith, (eqb-false n tray_most h, refl)))

-- some bytes stand behind the records
abbrev pub MoreBehind : List ℕ → Type 0
MoreBehind b = bytes_in (messages_in b) < length b

-- what each code stands for
pub record Form (b : List ℕ) : Type 0 where
  -- 00: whole records, at most 64, and nothing behind them
  pub accepted : (tray_form b ≡ success) ↔ AllWhole tray_most b
  -- C7: fewer than 64 records, and bytes behind them
  pub cut : (tray_form b ≡ wrong_length) ↔ ((length (messages_in b) < tray_most) × MoreBehind b)
  -- which begin no whole record
  pub cut_record : tray_form b ≡ wrong_length → is_whole (bytes_behind b) ≡ false
  -- C8: 64 records, and bytes behind them
  pub is_too_long : (tray_form b ≡ too_long) ↔ ((length (messages_in b) ≡ tray_most) × MoreBehind b)
  -- and there is no other code
  pub one-of : Or (tray_form b ≡ success) (Or (tray_form b ≡ wrong_length) (tray_form b ≡ too_long))

-- of the bytes alone: every list of bytes is one of the three, and no two (rule 21.29)
pub form : (b : List ℕ) → Form b
unfolding tray_form
form b = go (form-says (bytes_behind b) (length (messages_in b))) (length-drop (bytes_in (messages_in b)) b) (bytes-within tray_most b) (requests-most tray_most b)
  where
    go : FormSays (bytes_behind b) (length (messages_in b)) (tray_form b) → length (bytes_behind b) ≡ length b - bytes_in (messages_in b) → bytes_in (messages_in b) ≤ length b
        → length (messages_in b) ≤ tray_most → Form b
    go (this (x, e)) l w m = record {
      accepted = (λ _. omega arith, λ _. e);
      cut = (λ z. absurd (omega arith), λ z. absurd (omega arith));
      cut_record = λ z. absurd (omega arith);
      is_too_long = (λ z. absurd (omega arith), λ z. absurd (omega arith));
      one-of = this e;
    }
    go (that (this (x, (n, e)))) l w m = record {
      accepted = (λ z. absurd (omega arith), λ z. absurd (omega arith));
      cut = (λ z. absurd (omega arith), λ z. absurd (omega arith));
      cut_record = λ z. absurd (omega arith);
      is_too_long = (λ _. (n, omega arith), λ _. e);
      one-of = that (that e);
    }
    go (that (that (x, (n, e)))) l w m = record {
      accepted = (λ z. absurd (omega arith), λ z. absurd (omega arith));
      cut = (λ _. (omega arith, omega arith), λ _. e);
      cut_record = λ _. behind-cut tray_most b (omega arith);
      is_too_long = (λ z. absurd (omega arith), λ z. absurd (n z.0));
      one-of = that (this e);
    }

-- ---- two trays, one behind the other
module _ (b c : List ℕ) (whole : tray_form (b ++ c) ≡ success) (first : tray_form b ≡ success) where
  -- what the first leaves of the 64 is enough for the second
  rest-long : AllWhole (tray_most - length (messages_in b)) c
  rest-long =
      let n = tray_most - length (messages_in b) in
      let e : bytes_in (messages_in (b ++ c)) ≡ bytes_in (messages_in b) + bytes_in (requests_in n c) = ap bytes_in (requests-joined tray_most b c
      ((form b).accepted.0 first)) ∙ bytes-append (messages_in b) (requests_in n c) in
      omega (arith, (form b).accepted.0 first, (form (b ++ c)).accepted.0 whole, length-append b c)

  rest-same : messages_in c ≡ requests_in (tray_most - length (messages_in b)) c
  rest-same = requests-higher (tray_most - length (messages_in b)) tray_most c rest-long (omega arith)

  -- the messages of the second come behind those of the first
  pub messages-joined : messages_in (b ++ c) ≡ messages_in b ++ messages_in c
  messages-joined = requests-joined tray_most b c ((form b).accepted.0 first) ∙ ap (λ (l : List Timed). messages_in b ++ l) (sym rest-same)

  -- and the second has the form
  pub rest-form : tray_form c ≡ success
  rest-form = (form c).accepted.1 (ap bytes_in rest-same ∙ rest-long)

-- ---- a cut between two records
-- where the record k begins
abbrev pub start_of : (k : ℕ) (records : List ℕ) → ℕ
start_of k b = bytes_in (take k (messages_in b))

-- what stands before a record and what stands from it on are trays too, the one with the messages before it, the other with the rest
pub record Between (k : ℕ) (b : List ℕ) : Type 0 where
  pub before-form : tray_form (take (start_of k b) b) ≡ success
  pub before-messages : messages_in (take (start_of k b) b) ≡ take k (messages_in b)
  pub behind-form : tray_form (drop (start_of k b) b) ≡ success
  pub behind-messages : messages_in (drop (start_of k b) b) ≡ drop k (messages_in b)

-- A TRAY MAY BE CUT BETWEEN ANY TWO OF ITS RECORDS (rule 21.32)
pub between-records : (k : ℕ) (b : List ℕ) → tray_form b ≡ success → Between k b
between-records k b h = record {
  before-form = first;
  before-messages = front;
  behind-form = rest-form x y (subst (λ (z : List ℕ). tray_form z ≡ success) (sym j) h) first;
  behind-messages = append_cancel_left (take k qs) (messages_in y) (drop k qs)
      (ap (λ (l : List Timed). l ++ messages_in y) (sym front)
      ∙ sym (messages-joined x y (subst (λ (z : List ℕ). tray_form z ≡ success) (sym j) h) first)
      ∙ ap messages_in j
      ∙ sym (take-append-drop k qs));
}
  where
    qs : List Timed
    qs = messages_in b

    x : List ℕ
    x = take (start_of k b) b

    y : List ℕ
    y = drop (start_of k b) b

    j : x ++ y ≡ b
    j = take-append-drop (start_of k b) b

    front : messages_in x ≡ take k qs
    front = requests-front tray_most k b

    inside : start_of k b ≤ length b
    inside = omega (arith, bytes-within tray_most b, bytes-append (take k qs) (drop k qs), ap bytes_in (take-append-drop k qs))

    first : tray_form x ≡ success
    first = (form x).accepted.1 (ap bytes_in front ∙ sym (length-take-le (start_of k b) b inside))
