-- What the program writes.
use Rattle.std.specs.Prelude.{◌≡◌, List, ℕ, ◌≤◌, length, take}
pub mod laws

-- these bytes are the first n of the buffer
pub record Front (bytes buffer : List ℕ) (n : ℕ) : Type 0 where
  pub within : n ≤ length buffer
  pub is : take n buffer ≡ bytes
