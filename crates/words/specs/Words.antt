-- The words of a line, which spaces and tabs keep apart.
use Rattle.std.specs.Prelude.{ℕ, Bool, true, false, not, cond, ◌&&◌, ◌||◌, List, [], ◌∷◌, eqb}
use Rattle.words.specs.Run.{begins, on_first}

-- ASCII
abbrev pub tab : ℕ
tab = 9

abbrev pub space : ℕ
space = 32

abbrev pub is_blank : ℕ → Bool
is_blank c = eqb c space || eqb c tab

abbrev pub is_in_word : ℕ → Bool
is_in_word c = not (is_blank c)

-- a byte begins a word of its own where a blank follows it, and otherwise stands in front of the word that follows
unfoldable pub words : List ℕ → List (List ℕ)
words [] = []
words (c ∷ s) = cond (is_blank c) (words s) (cond (begins is_blank s) ((c ∷ []) ∷ words s) (on_first c (words s)))

-- whether two texts are the same
unfoldable pub same_bytes : List ℕ → List ℕ → Bool
same_bytes [] [] = true
same_bytes [] (d ∷ t) = false
same_bytes (c ∷ s) [] = false
same_bytes (c ∷ s) (d ∷ t) = eqb c d && same_bytes s t
