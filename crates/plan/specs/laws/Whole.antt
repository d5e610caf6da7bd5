-- Laws of a field that the plan holds whole: its head, its value, and what of the plan they are.
use Rattle.std.specs.Prelude.{ℕ, ◌+◌, ◌≤◌, ◌<◌, ◌≡◌, refl, List, [], Bool, true, false, leb}
use Rattle.std.proofs.Common.{◌∙◌}
use Rattle.std.proofs.Math.Bool.{and-false, and-eq-true_iff}
use native.Mathlib.Omega.{arith}
use borrow.Author.Tests.{le-leb, lt-leb, leb-true}
use Rattle.std.proofs.Math.ListN.{length}
use Rattle.plan.specs.Bytes.{head_size, tag_at, size_at, whole_at, value_at, part_at}
use Rattle.plan.specs.Field.{head, cut, head_at}

module _ (s : List ℕ) (at : ℕ) where
  -- a field is whole exactly where it ends within the plan
  pub whole : at + head_size + size_at s at ≤ length s → whole_at s at ≡ true
  unfolding whole_at
  whole h =
      let h' : at + head_size ≤ length s = omega arith in
      simp (le-leb _ _ h', le-leb _ _ h)

  pub whole_fits : whole_at s at ≡ true → at + head_size + size_at s at ≤ length s
  unfolding whole_at
  whole_fits e = leb-true _ _ ((and-eq-true_iff (leb (at + head_size) (length s)) _).0 e).1

  pub not_whole : length s < at + head_size + size_at s at → whole_at s at ≡ false
  unfolding whole_at
  not_whole h = rw (lt-leb _ _ h) (and-false (leb (at + head_size) (length s)))

  -- the head that is read of a whole field, and of any other
  pub head_whole : whole_at s at ≡ true → head_at s at ≡ head (tag_at s at) (size_at s at)
  unfolding head_at
  head_whole e = rw e

  pub head_cut : whole_at s at ≡ false → head_at s at ≡ cut 2
  unfolding head_at
  head_cut e = rw e

  -- a head that was read is that of a whole field
  pub read_whole : (tag size : ℕ) → head tag size ≡ head_at s at → whole_at s at ≡ true
  read_whole tag size e = go (whole_at s at) refl
    where
      go : (b : Bool) → whole_at s at ≡ b → whole_at s at ≡ true
      go true w = w
      go false w = let z : head tag size ≡ cut 2 = e ∙ head_cut w in cc

  pub read_tag : (tag size : ℕ) → head tag size ≡ head_at s at → tag ≡ tag_at s at
  read_tag tag size e = let z : head tag size ≡ head (tag_at s at) (size_at s at) = e ∙ head_whole (read_whole tag size e) in cc

  pub read_size : (tag size : ℕ) → head tag size ≡ head_at s at → size ≡ size_at s at
  read_size tag size e = let z : head tag size ≡ head (tag_at s at) (size_at s at) = e ∙ head_whole (read_whole tag size e) in cc

  pub read_fits : (tag size : ℕ) → head tag size ≡ head_at s at → at + head_size + size ≤ length s
  read_fits tag size e = omega (arith, read_size tag size e, whole_fits (read_whole tag size e))

  -- a cut one is not
  pub read_cut : cut 2 ≡ head_at s at → whole_at s at ≡ false
  read_cut e = go (whole_at s at) refl
    where
      go : (b : Bool) → whole_at s at ≡ b → whole_at s at ≡ false
      go false w = w
      go true w = let z : cut 2 ≡ head (tag_at s at) (size_at s at) = e ∙ head_whole w in cc

  -- the splitter's part is the value of a whole field, and nothing of any other
  pub part_whole : whole_at s at ≡ true → part_at s at ≡ value_at s at
  unfolding part_at
  part_whole e = rw e

  pub part_cut : whole_at s at ≡ false → part_at s at ≡ []
  unfolding part_at
  part_cut e = rw e
