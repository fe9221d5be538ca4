-- The program's output, line by line (rule 20.4).
use Rattle.std.specs.Prelude.{cond, List, [], ◌∷◌, ◌++◌, ℕ, ◌+◌, ◌/◌, ◌%◌, eqb, ltb}
use Rattle.protocol.specs.Numbers.{success}

-- ---- characters
abbrev pub space : ℕ
space = 0x20

abbrev pub line_feed : ℕ
line_feed = 0x0A

-- the character 0
abbrev pub zero_digit : ℕ
zero_digit = 0x30

-- what makes 10 the character A, and 15 the character F
abbrev pub letter_digit : ℕ
letter_digit = 0x37

-- a capital hex digit
abbrev pub digit_of : ℕ → ℕ
digit_of n = cond (ltb n 10) (n + zero_digit) (n + letter_digit)

-- two capital hex digits
abbrev pub hex_of : ℕ → List ℕ
hex_of b = digit_of (b / 16) ∷ digit_of (b % 16) ∷ []

-- the bytes, each as two digits, nothing between them (rule 20.4)
unfoldable pub hexes : List ℕ → List ℕ
hexes [] = []
hexes (b ∷ l) = hex_of b ++ hexes l

-- the code; for a success also a space and the response (rule 20.4)
unfoldable pub answer_text : (code : ℕ) → List ℕ → List ℕ
answer_text code response = hex_of code ++ cond (eqb code success) (space ∷ hexes response) []

-- THE LINE of one request (rule 20.4)
unfoldable pub line_of : (code : ℕ) → List ℕ → List ℕ
line_of code response = answer_text code response ++ (line_feed ∷ [])

-- no line is longer: two digits, a space, 64 bytes of response, a line feed
abbrev pub line_most : ℕ
line_most = 132

-- the line of a cut record: C U T (rule 20.5)
abbrev pub cut_line : List ℕ
cut_line = 0x43 ∷ 0x55 ∷ 0x54 ∷ line_feed ∷ []
