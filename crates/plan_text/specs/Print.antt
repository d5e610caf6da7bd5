-- The text of a plan: the guard band, the top, the ports and the flows by rising number, the clocks. What says no more than its absence is left out.
use Rattle.std.specs.Prelude.{ℕ, zero, suc, ◌+◌, ◌/◌, ◌%◌, Bool, not, cond, List, [], ◌∷◌, ◌++◌, map, eqb, ltb}
use Rattle.cqf.specs.Bounded.{sublist}
use Rattle.cqf.specs.Form.{Form, older, newer}
use Rattle.cqf.specs.Limits.{port_slots, flow_slots}
use Rattle.cqf.specs.Plan.{Plan, clocks_equal, rate_of, blocking_of, extra_of, period_of, count_of, length_of, jitter_of, route_of}
use Rattle.words.specs.Lines.{line_feed}
use Rattle.words.specs.Words.{space}
use Rattle.words.specs.Decimal.{zero_digit}
use Rattle.plan_text.specs.Names.{guard_word, top_word, port_word, rate_word, blocker_word, extra_word, flow_word, period_word, count_word, length_word, jitter_word, route_word, clocks_word, drift_word, timing_word, sync_word, format_word}
use Rattle.plan_text.specs.Line.{Word}

-- a number of at most this many decimal digits, without leading zeros
unfoldable pub digits_by : (most : ℕ) → ℕ → Word
digits_by zero n = []
digits_by (suc k) n = cond (ltb n 10) ((zero_digit + n) ∷ []) (digits_by k (n / 10) ++ ((zero_digit + n % 10) ∷ []))

-- no number of a plan has more
abbrev pub max_digits : ℕ
max_digits = 9

abbrev pub digits : ℕ → Word
digits n = digits_by max_digits n

-- the bytes of a line: words with spaces between, and its end
unfoldable pub line_bytes : List Word → List ℕ
line_bytes [] = line_feed ∷ []
line_bytes (w ∷ []) = w ++ (line_feed ∷ [])
line_bytes (w ∷ v ∷ ws) = w ++ (space ∷ line_bytes (v ∷ ws))

-- a word and a number, where the test holds
abbrev pub word_when : Bool → Word → ℕ → List Word
word_when test w n = cond test (w ∷ digits n ∷ []) []

abbrev pub port_line : Plan → ℕ → List Word
port_line p q =
    port_word
    ∷ digits (suc q)
    ∷ rate_word
    ∷ digits (rate_of p q)
    ∷ (word_when (ltb 0 (blocking_of p q)) blocker_word (blocking_of p q) ++ word_when (ltb 0 (extra_of p q)) extra_word (extra_of p q))

abbrev pub flow_line : Plan → ℕ → List Word
flow_line p f =
    flow_word
    ∷ digits (suc f)
    ∷ period_word
    ∷ digits (period_of p f)
    ∷ (word_when (not (eqb (count_of p f) 1)) count_word (count_of p f)
    ++ (length_word
    ∷ digits (length_of p f)
    ∷ (word_when (ltb 0 (jitter_of p f)) jitter_word (jitter_of p f) ++ (route_word ∷ map digits (route_of p f)))))

abbrev pub clocks_line : Plan → List Word
clocks_line p =
    clocks_word
    ∷ drift_word
    ∷ digits p.clock.drift
    ∷ timing_word
    ∷ digits p.clock.timing_jitter_of
    ∷ sync_word
    ∷ digits p.clock.sync_error_of
    ∷ []

-- a line where the test holds, and the lines of the first n slots
abbrev pub line_when : Bool → List Word → List (List Word)
line_when test l = cond test (l ∷ []) []

unfoldable pub lines_to : ℕ → (ℕ → List (List Word)) → List (List Word)
lines_to zero at = []
lines_to (suc n) at = lines_to n at ++ at n

abbrev pub form_line : Form → List (List Word)
form_line older = []
form_line newer = (format_word ∷ digits 2 ∷ []) ∷ []

unfoldable pub plan_lines : Form → Plan → List (List Word)
unfolding lines_to digits_by sublist
plan_lines form p =
    form_line form
    ++ ((guard_word ∷ digits p.guard ∷ [])
    ∷ (top_word ∷ digits p.top ∷ [])
    ∷ (lines_to port_slots (λ q. line_when (ltb 0 (rate_of p q)) (port_line p q))
    ++ (lines_to flow_slots (λ f. line_when (ltb 0 (period_of p f)) (flow_line p f)) ++ line_when (not (clocks_equal p)) (clocks_line p))))

unfoldable pub lines_bytes : List (List Word) → List ℕ
unfolding line_bytes
lines_bytes [] = []
lines_bytes (l ∷ ls) = line_bytes l ++ lines_bytes ls

unfoldable pub text_of : Form → Plan → List ℕ
unfolding plan_lines lines_bytes
text_of form p = lines_bytes (plan_lines form p)
