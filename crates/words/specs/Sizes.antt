-- How many bytes the first line of a text takes, and where the first word of a line stands.
use Rattle.std.specs.Prelude.{◌≡◌, ℕ, suc, ◌+◌, cond, ◌&&◌, ◌||◌, List, [], ◌∷◌, eqb, drop}
use Rattle.words.specs.Run.{run, begins}
use Rattle.words.specs.Lines.{is_feed, hash, carriage_return}
use Rattle.words.specs.Words.{is_blank, is_in_word}

-- what it says: without comment and end
unfoldable pub said_size : List ℕ → ℕ
said_size [] = 0
said_size (c ∷ s) = cond (is_feed c || eqb c hash || (eqb c carriage_return && begins is_feed s)) 0 (suc (said_size s))

-- with all that belongs to it
unfoldable pub line_size : List ℕ → ℕ
line_size [] = 0
line_size (c ∷ s) = cond (is_feed c) 1 (suc (line_size s))

-- where what the line at a position says ends, and where the next one begins
pub record LineAt (text : List ℕ) (at end next : ℕ) : Type 0 where
  pub says : end ≡ at + said_size (drop at text)
  pub goes : next ≡ at + line_size (drop at text)

-- where the first word from a position on begins, and where it ends
pub record WordAt (line : List ℕ) (at start end : ℕ) : Type 0 where
  pub begins : start ≡ at + run is_blank (drop at line)
  pub ends : end ≡ start + run is_in_word (drop start line)
