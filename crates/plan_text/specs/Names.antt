-- The words of a plan's text, in ASCII.
use Rattle.std.specs.Prelude.{ℕ, List, [], ◌∷◌}

abbrev pub guard_word : List ℕ
guard_word = 103 ∷ 117 ∷ 97 ∷ 114 ∷ 100 ∷ []

abbrev pub top_word : List ℕ
top_word = 116 ∷ 111 ∷ 112 ∷ []

abbrev pub port_word : List ℕ
port_word = 112 ∷ 111 ∷ 114 ∷ 116 ∷ []

abbrev pub rate_word : List ℕ
rate_word = 114 ∷ 97 ∷ 116 ∷ 101 ∷ []

abbrev pub blocker_word : List ℕ
blocker_word = 98 ∷ 108 ∷ 111 ∷ 99 ∷ 107 ∷ 101 ∷ 114 ∷ []

abbrev pub extra_word : List ℕ
extra_word = 101 ∷ 120 ∷ 116 ∷ 114 ∷ 97 ∷ []

abbrev pub flow_word : List ℕ
flow_word = 102 ∷ 108 ∷ 111 ∷ 119 ∷ []

abbrev pub period_word : List ℕ
period_word = 112 ∷ 101 ∷ 114 ∷ 105 ∷ 111 ∷ 100 ∷ []

abbrev pub count_word : List ℕ
count_word = 99 ∷ 111 ∷ 117 ∷ 110 ∷ 116 ∷ []

abbrev pub length_word : List ℕ
length_word = 108 ∷ 101 ∷ 110 ∷ 103 ∷ 116 ∷ 104 ∷ []

abbrev pub jitter_word : List ℕ
jitter_word = 106 ∷ 105 ∷ 116 ∷ 116 ∷ 101 ∷ 114 ∷ []

abbrev pub route_word : List ℕ
route_word = 114 ∷ 111 ∷ 117 ∷ 116 ∷ 101 ∷ []

abbrev pub clocks_word : List ℕ
clocks_word = 99 ∷ 108 ∷ 111 ∷ 99 ∷ 107 ∷ 115 ∷ []

abbrev pub drift_word : List ℕ
drift_word = 100 ∷ 114 ∷ 105 ∷ 102 ∷ 116 ∷ []

abbrev pub timing_word : List ℕ
timing_word = 116 ∷ 105 ∷ 109 ∷ 105 ∷ 110 ∷ 103 ∷ []

abbrev pub sync_word : List ℕ
sync_word = 115 ∷ 121 ∷ 110 ∷ 99 ∷ []

abbrev pub format_word : List ℕ
format_word = 102 ∷ 111 ∷ 114 ∷ 109 ∷ 97 ∷ 116 ∷ []
