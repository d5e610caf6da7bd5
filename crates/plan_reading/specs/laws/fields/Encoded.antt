-- Bytes of which numbers are read are the bytes of those numbers.
use Prim.Native.Nat.{ℕ, zero, suc, ◌+◌, ◌*◌, ◌/◌, ◌%◌, ◌≤◌, ◌<◌}
use Rattle.std.specs.Prelude.{◌≡◌, Bool, true, false, ltb, length}
use Rattle.std.proofs.Math.Path.{refl, ap, ap₂}
use Rattle.std.proofs.Common.{◌∙◌, ltb-true, ltb-false, length-take, drop-drop, take-add, get_or-take, get_or-drop}
use mathlib.Core.List.{List, [], ◌∷◌, ◌++◌}
use native.Mathlib.Omega.{arith}
use Rattle.std.proofs.Math.ListN.{take, drop, get_or-eq_default}
use Rattle.std.proofs.Math.Seq.{drop-cons}
use Rattle.plan.specs.Bytes.{byte_at, Octets, number2, number4, numbers2}
use Rattle.plan.specs.Layout.{Width, two, four, bytes_in, Number, widths}
use Rattle.plan.specs.Field.{number_in, numbers_at}
use Rattle.plan_reading.specs.FieldBytes.{bytes2, bytes4, bytes2s, bytes_by, numbers_bytes}

-- a part of bytes is bytes
pub octets_drop : (n : ℕ) (s : List ℕ) → Octets s → Octets (drop n s)
octets_drop n s o i = rw (get_or-drop n s i 0) (o (n + i))

pub octets_take : (n : ℕ) (s : List ℕ) → Octets s → Octets (take n s)
octets_take n s o i = go (ltb i n) refl
  where
    go : (b : Bool) → ltb i n ≡ b → byte_at (take n s) i < 256
    go true e = rw (get_or-take n s i 0 (ltb-true i n e)) (o i)
    go false e = rw (get_or-eq_default (take n s) 0 {n = i} (omega (arith, length-take n s, ltb-false i n e))) (omega arith)

-- n bytes from position i on, and those after them
pub part_add : (v : List ℕ) (i n m : ℕ) → take (n + m) (drop i v) ≡ take n (drop i v) ++ take m (drop (i + n) v)
part_add v i n m = take-add n m (drop i v) ∙ ap (λ (l : List ℕ). take n (drop i v) ++ take m l) (drop-drop n i v)

module _ (v : List ℕ) (o : Octets v) where
  -- a number of 2 bytes
  pub encoded2 : (i : ℕ) → i + 2 ≤ length v → take 2 (drop i v) ≡ bytes2 (number2 v i)
  unfolding number2
  encoded2 i fits =
      let high = o i in
      let low = o (i + 1) in
      let a : byte_at v i ≡ (byte_at v i * 256 + byte_at v (i + 1)) / 256 = omega arith in
      let b : byte_at v (i + 1) ≡ (byte_at v i * 256 + byte_at v (i + 1)) % 256 = omega arith in
      let first : drop i v ≡ byte_at v i ∷ drop (suc i) v = drop-cons v i 0 (omega arith) in
      let second : drop (suc i) v ≡ byte_at v (suc i) ∷ drop (suc (suc i)) v = drop-cons v (suc i) 0 (omega arith) in
      let same : byte_at v (suc i) ≡ byte_at v (i + 1) = ap (byte_at v) (omega arith) in
      ap (take 2) (first ∙ ap (λ (l : List ℕ). byte_at v i ∷ l) second)
      ∙ ap₂ (λ (x y : ℕ). x ∷ y ∷ []) a (same ∙ b)

  -- of 4
  pub encoded4 : (i : ℕ) → i + 4 ≤ length v → take 4 (drop i v) ≡ bytes4 (number4 v i)
  unfolding number4 number2
  encoded4 i fits =
      let a = o i in
      let b = o (i + 1) in
      let c = o (i + 2) in
      let d = o (i + 2 + 1) in
      let high : number2 v i ≡ (number2 v i * 65536 + number2 v (i + 2)) / 65536 = omega arith in
      let low : number2 v (i + 2) ≡ (number2 v i * 65536 + number2 v (i + 2)) % 65536 = omega arith in
      part_add v i 2 2
      ∙ ap₂ ◌++◌ (encoded2 i (omega arith)) (encoded2 (i + 2) (omega arith))
      ∙ ap₂ (λ (x y : ℕ). bytes2 x ++ bytes2 y) high low

  -- and several of 2 each
  pub encoded2s : (i h : ℕ) → i + 2 * h ≤ length v → take (2 * h) (drop i v) ≡ bytes2s (numbers2 v i h)
  unfolding numbers2 bytes2s
  encoded2s i zero fits = refl
  encoded2s i (suc h) fits =
      let more : 2 * suc h ≡ 2 + 2 * h = omega arith in
      ap (λ (n : ℕ). take n (drop i v)) more
      ∙ part_add v i 2 (2 * h)
      ∙ ap₂ ◌++◌ (encoded2 i (omega arith)) (encoded2s (i + 2) h (omega arith))

  -- a number of a width, and those of a row of the table
  encoded_number : (w : Width) (i : ℕ) → i + bytes_in w ≤ length v → take (bytes_in w) (drop i v) ≡ bytes_by w (number_in w v i)
  encoded_number two i fits = encoded2 i fits
  encoded_number four i fits = encoded4 i fits

  pub encoded_numbers : (cs : List Number) (i : ℕ) → i + widths cs ≤ length v → take (widths cs) (drop i v) ≡ numbers_bytes cs (numbers_at cs v i)
  encoded_numbers [] i fits = refl
  encoded_numbers (c ∷ cs) i fits =
      part_add v i (bytes_in c.width) (widths cs)
      ∙ ap₂ ◌++◌ (encoded_number c.width i (omega arith)) (encoded_numbers cs (i + bytes_in c.width) (omega arith))
