-- Bytes written into a lent buffer from a position on. What it has no room for is left out.
use Rattle.std.specs.Prelude.{ℕ, ◌+◌, ◌≤◌, ◌≡◌, List, length}
use Rattle.std.proofs.lemmas.List.Edits.{sets}

unfoldable pub over_from : (at : ℕ) → List ℕ → (buffer : List ℕ) → List ℕ
over_from at bs buffer = sets buffer at bs

-- the bytes are written from this position on, the next ones begin behind them, and they are at most so many
pub record Puts (most : ℕ) (bs buffer : List ℕ) (at next : ℕ) (exit : List ℕ) : Type 0 where
  pub size : next ≡ at + length bs
  pub few : length bs ≤ most
  pub bytes : exit ≡ over_from at bs buffer

-- positions behind which no byte, no word and no line is written; no text is so long
abbrev pub farthest : ℕ
farthest = 3000000

abbrev pub far_line : ℕ
far_line = 2000000

abbrev pub far_text : ℕ
far_text = 1000000
