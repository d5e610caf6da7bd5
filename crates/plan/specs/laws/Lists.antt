-- Laws of the tests on lists, for a reader that goes from the front: what is left from position i on, by what stands at i.
use Rattle.std.specs.Prelude.{ℕ, ◌+◌, ◌≤◌, ◌<◌, ◌≡◌, List, Bool, true, false, not, ◌&&◌, ◌||◌, eqb, length, get_or, drop}
use Rattle.std.proofs.Math.Numerals.{add-one}
use Rattle.std.proofs.Common.{drop_of_length-le, drop-cons}
use Rattle.cqf.specs.Bounded.{every, elem, distinct}

module _ (l : List ℕ) (i : ℕ) where
  pub every_drop : (b : ℕ → Bool) → i < length l → every b (drop i l) ≡ (b (get_or l i 0) && every b (drop (i + 1) l))
  unfolding every
  every_drop b h = rw (drop-cons l i 0 h, add-one i)

  pub elem_drop : (n : ℕ) → i < length l → elem n (drop i l) ≡ (eqb n (get_or l i 0) || elem n (drop (i + 1) l))
  unfolding elem
  elem_drop n h = rw (drop-cons l i 0 h, add-one i)

  pub distinct_drop : i < length l → distinct (drop i l) ≡ (not (elem (get_or l i 0) (drop (i + 1) l)) && distinct (drop (i + 1) l))
  unfolding distinct
  distinct_drop h = rw (drop-cons l i 0 h, add-one i)

  -- past the end nothing is left
  pub every_end : (b : ℕ → Bool) → length l ≤ i → every b (drop i l) ≡ true
  unfolding every
  every_end b h = rw (drop_of_length-le l h)

  pub elem_end : (n : ℕ) → length l ≤ i → elem n (drop i l) ≡ false
  unfolding elem
  elem_end n h = rw (drop_of_length-le l h)

  pub distinct_end : length l ≤ i → distinct (drop i l) ≡ true
  unfolding distinct
  distinct_end h = rw (drop_of_length-le l h)
