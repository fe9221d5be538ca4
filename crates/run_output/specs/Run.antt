-- What the program prints for a file of requests, and what a run over a buffer of records leaves.
use Rattle.std.specs.Prelude.{cond, List, [], ◌∷◌, ◌++◌, ℕ, ◌+◌, ◌-◌, leb, length, take, drop, replicate}
use Rattle.protocol.specs.Numbers.{answer_size}
use Rattle.protocol.specs.Frame.{laid}
use Rattle.state.specs.State.{State}
use Rattle.state.specs.Words.{fresh}
use Rattle.rules.specs.Respond.{respond, Served, served}
use Rattle.records.specs.Records.{prefix_size, Timed, requests, bytes_in}
use Rattle.run_lines.specs.Lines.{line_of, line_most, cut_line}

-- ---- what is printed
-- the lines of requests, each answered on the state that the one before left (rule 20.1)
unfoldable pub lines_of : List Timed → State → List ℕ
lines_of [] s = []
lines_of (q ∷ qs) s = line_of (respond q.0 q.1 s).code (respond q.0 q.1 s).response ++ lines_of qs (respond q.0 q.1 s).state

-- what is left when no whole record is: nothing, or a cut record (rules 20.3 and 20.5)
abbrev pub end_of : List ℕ → List ℕ
end_of [] = []
end_of (x ∷ b) = cut_line

-- all that is printed for the bytes b from the state s on
unfoldable pub printed : List ℕ → State → List ℕ
printed b s = lines_of (requests b) s ++ end_of (drop (bytes_in (requests b)) b)

-- THE PROGRAM'S OUTPUT for a file, from the fresh state (rule 20.1)
abbrev pub output : List ℕ → List ℕ
output file = printed file fresh

-- ---- a run over a buffer of records
-- what it leaves: the lines, the bytes of the records that were answered, the state and the answer buffer
pub record Ran : Type 0 where
  pub text : List ℕ
  pub used : ℕ
  pub state : State
  pub answer : List ℕ

abbrev pub stopped : State → List ℕ → Ran
stopped s a = record { text = []; used = 0; state = s; answer = a }

-- a line, and the n bytes of its record, before what follows
abbrev pub after : (line : List ℕ) (n : ℕ) → Ran → Ran
after line n r = record { text = line ++ r.text; used = n + r.used; state = r.state; answer = r.answer }

-- the line of what the library's function left
abbrev pub line_after : Served → List ℕ
line_after v = line_of v.code (take v.len v.answer)

-- requests are answered while a longest line has room
unfoldable pub run_of : ℕ → List Timed → State → List ℕ → Ran
run_of room [] s a = stopped s a
run_of room (q ∷ qs) s a =
    cond (leb line_most room)
    (after (line_after (served q.0 q.1 s a)) (prefix_size + length q.1)
    (run_of (room - length (line_after (served q.0 q.1 s a))) qs (served q.0 q.1 s a).state (served q.0 q.1 s a).answer))
    (stopped s a)

-- a run as the code leaves it: how long the lines are, and the text buffer with the lines at its front
pub record Written : Type 0 where
  pub len : ℕ
  pub used : ℕ
  pub state : State
  pub answer : List ℕ
  pub text : List ℕ

abbrev pub written_to : List ℕ → Ran → Written
written_to t r = record { len = length r.text; used = r.used; state = r.state; answer = r.answer; text = laid r.text t }

-- THE RUN: the buffer b of records, the state, the answer buffer, and the text buffer t
abbrev pub ran : (records : List ℕ) → State → (answer text : List ℕ) → Written
ran b s a t = written_to t (run_of (length t) (requests b) s a)

-- ---- the program over the reads of a file
-- the reads, one behind the other
unfoldable pub joined : List (List ℕ) → List ℕ
joined [] = []
joined (c ∷ cs) = c ++ joined cs

-- what it has between two reads: the text written so far, the bytes left of what was read, the state and the answer buffer
pub record Held : Type 0 where
  pub text : List ℕ
  pub rest : List ℕ
  pub state : State
  pub answer : List ℕ

abbrev pub begun : Held
begun = record { text = []; rest = []; state = fresh; answer = replicate answer_size 0 }

-- the run r over the bytes b: its lines are written behind t, and the bytes that it did not use are kept
abbrev pub turned : List ℕ → Ran → List ℕ → Held
turned b r t = record { text = t ++ r.text; rest = drop r.used b; state = r.state; answer = r.answer }

-- each read is put behind the bytes that are left, and a run goes over both
unfoldable pub reads_of : ℕ → List (List ℕ) → Held → Held
reads_of room [] h = h
reads_of room (c ∷ cs) h = reads_of room cs (turned (h.rest ++ c) (run_of room (requests (h.rest ++ c)) h.state h.answer) h.text)
