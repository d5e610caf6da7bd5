-- The bytes of the lines of a plan, part by part as they are written.
use Rattle.std.specs.Prelude.{ℕ, ◌+◌, ◌*◌, ◌≤◌, ◌<◌, not, cond, List, [], ◌∷◌, ◌++◌, map, eqb, ltb, get_or}
use Rattle.cqf.specs.Limits.{port_slots, flow_slots, max_hops}
use Rattle.cqf.specs.Plan.{Clock, Plan, clocks_equal, rate_of, period_of}
use Rattle.words.specs.Lines.{line_feed}
use Rattle.words.specs.Words.{space}
use Rattle.plan_text.specs.Names.{port_word, rate_word, blocker_word, extra_word, flow_word, period_word, count_word, length_word, jitter_word, route_word, clocks_word, drift_word, timing_word, sync_word}
use Rattle.plan_text.specs.Line.{Word}
use Rattle.plan_text.specs.Print.{digits, line_when, port_line, flow_line, clocks_line}

-- a number, a word with its number, and the same where the number is not the one that stands for its absence
abbrev pub number_bytes : ℕ → List ℕ
number_bytes n = space ∷ digits n

abbrev pub pair_bytes : Word → ℕ → List ℕ
pair_bytes w n = space ∷ (w ++ number_bytes n)

abbrev pub unless_bytes : Word → (n absent : ℕ) → List ℕ
unless_bytes w n absent = cond (eqb n absent) [] (pair_bytes w n)

-- words of a line, each behind a space
unfoldable pub spaced : List Word → List ℕ
spaced [] = []
spaced (w ∷ ws) = (space ∷ w) ++ spaced ws

abbrev pub end_bytes : List ℕ
end_bytes = line_feed ∷ []

-- the line of a port, and the most bytes that it has: no number has more than nine digits
abbrev pub port_bytes : (number rate blocking extra : ℕ) → List ℕ
port_bytes n rate blocking extra =
    ((((port_word ++ number_bytes n) ++ pair_bytes rate_word rate) ++ unless_bytes blocker_word blocking 0) ++ unless_bytes extra_word extra 0) ++ end_bytes

abbrev pub most_port : ℕ
most_port = 64

-- the line of a flow up to its route, and the whole of it
abbrev pub flow_number_bytes : (number period count bytes jitter : ℕ) → List ℕ
flow_number_bytes n period count bytes jitter =
    ((((flow_word ++ number_bytes n) ++ pair_bytes period_word period) ++ unless_bytes count_word count 1) ++ pair_bytes length_word bytes) ++ unless_bytes jitter_word jitter 0

abbrev pub flow_bytes : (number period count bytes jitter : ℕ) → List ℕ → List ℕ
flow_bytes n period count bytes jitter route =
    ((flow_number_bytes n period count bytes jitter ++ (space ∷ route_word)) ++ spaced (map digits route)) ++ end_bytes

-- the most bytes of a port on a route, of the line up to its route, and of the line
abbrev pub most_hop : ℕ
most_hop = 4

abbrev pub most_numbers : ℕ
most_numbers = 81

abbrev pub most_flow : ℕ
most_flow = 184

-- the lines of a slot: one where it holds a port or a flow
abbrev pub port_at : Plan → ℕ → List (List Word)
port_at p q = line_when (ltb 0 (rate_of p q)) (port_line p q)

abbrev pub flow_at : Plan → ℕ → List (List Word)
flow_at p f = line_when (ltb 0 (period_of p f)) (flow_line p f)

-- the line of the clocks, which is left out where they are equal
abbrev pub clocks_bytes : Clock → List ℕ
clocks_bytes k =
    (((clocks_word ++ pair_bytes drift_word k.drift) ++ pair_bytes timing_word k.timing_jitter_of) ++ pair_bytes sync_word k.sync_error_of) ++ end_bytes

abbrev pub most_clocks : ℕ
most_clocks = 55

abbrev pub clocks_at : Plan → List (List Word)
clocks_at p = line_when (not (clocks_equal p)) (clocks_line p)

-- the most bytes of the form's line, of the guard band's and of the top's, and of all lines
abbrev pub most_form : ℕ
most_form = 17

abbrev pub most_guard : ℕ
most_guard = 16

abbrev pub most_top : ℕ
most_top = 14

abbrev pub most_text : ℕ
most_text = most_form + most_guard + most_top + port_slots * most_port + flow_slots * most_flow + most_clocks

-- routes that are no longer than a plan may have
abbrev pub HopsFit : List ℕ → Type 0
HopsFit hops = (f : ℕ) → f < flow_slots → get_or hops f 0 ≤ max_hops
