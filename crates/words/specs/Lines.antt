-- The lines of a text.
use Rattle.std.specs.Prelude.{ℕ, Bool, not, cond, ◌&&◌, List, [], ◌∷◌, map, eqb}
use Rattle.words.specs.Run.{begins, on_first}

-- ASCII
abbrev pub line_feed : ℕ
line_feed = 10

abbrev pub carriage_return : ℕ
carriage_return = 13

abbrev pub hash : ℕ
hash = 35

abbrev pub is_feed : ℕ → Bool
is_feed c = eqb c line_feed

-- a line ends in a line feed, or in a carriage return and a line feed; the last may lack its end
unfoldable pub lines : List ℕ → List (List ℕ)
lines [] = []
lines (c ∷ s) = cond (is_feed c) ([] ∷ lines s) (cond (eqb c carriage_return && begins is_feed s) (lines s) (on_first c (lines s)))

-- a line without its comment, which begins with a hash
unfoldable pub uncommented : List ℕ → List ℕ
uncommented [] = []
uncommented (c ∷ s) = cond (eqb c hash) [] (c ∷ uncommented s)

-- what the lines of a text say
abbrev pub said_lines : List ℕ → List (List ℕ)
said_lines text = map uncommented (lines text)

-- a byte that ends no line, and one that begins no comment either
abbrev pub is_in_line : ℕ → Bool
is_in_line c = not (is_feed c)

abbrev pub is_plain : ℕ → Bool
is_plain c = is_in_line c && not (eqb c hash)
