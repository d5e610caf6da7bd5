-- Bytes written into a lent buffer.
use Rattle.std.specs.Prelude.{ℕ, List, [], ◌∷◌, ◌++◌, ◌≡◌, cond, leb, length, drop}

-- bytes, and behind them what the buffer has there
abbrev pub over : List ℕ → List ℕ → List ℕ
over bs buffer = bs ++ drop (length bs) buffer

-- the buffer with these bytes over its first ones; as it was where it has no room for all of them
unfoldable pub laid : List ℕ → List ℕ → List ℕ
laid bs buffer = cond (leb (length bs) (length buffer)) (over bs buffer) buffer

-- the bytes are laid over the buffer's first ones, and the answer is how many they are
pub record Puts (bs buffer : List ℕ) (answer : ℕ) (exit : List ℕ) : Type 0 where
  pub size : answer ≡ length bs
  pub bytes : exit ≡ over bs buffer

-- a number in 1 byte
abbrev pub bytes1 : ℕ → List ℕ
bytes1 n = n ∷ []
