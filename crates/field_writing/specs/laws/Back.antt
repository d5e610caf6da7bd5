-- The bytes of a field that is to be written, read back: its numbers whether they are in range or not, and which test refuses it.
use Rattle.std.specs.Prelude.{ℕ, ◌+◌, ◌*◌, ◌/◌, ◌%◌, ◌≡◌, List, [], ◌∷◌, ◌++◌, true}
use Rattle.std.proofs.Math.Path.{refl}
use Rattle.std.proofs.Common.{ap, ap₂, ◌∙◌, append_assoc, arith, get_or-append-add}
use Rattle.std.proofs.Math.ListN.{length, length-append}
use Rattle.std.proofs.Math.Seq.{take_all}
use Rattle.plan.specs.Bytes.{byte_at, head_size, number2, number4, tag_at, size_at, whole_at, value_at}
use Rattle.plan.specs.Layout.{Width, two, four, bytes_in, Number, widths, Kind, layout, numbers_size}
use Rattle.plan.specs.Field.{Field, number_in, numbers_at, value_in, field_at}
use Rattle.plan.specs.laws.Whole.{whole}
use Rattle.plan.specs.laws.Tested.{field_whole, tag_known}
use Rattle.plan_reading.specs.FieldBytes.{bytes2s, bytes_by, numbers_bytes, value_of, bytes_of}
use Rattle.plan_reading.specs.laws.fields.Decoded.{decoded2, ports_length}
use Rattle.writing.specs.Fields.{routed_bytes}

-- a number that stands behind other bytes
module _ (front v : List ℕ) where
  byte_behind : (i j : ℕ) → j ≡ length front + i → byte_at (front ++ v) j ≡ byte_at v i
  byte_behind i j e = rw e (get_or-append-add front v i 0)

  pub behind2 : (i j : ℕ) → j ≡ length front + i → number2 (front ++ v) j ≡ number2 v i
  unfolding number2
  behind2 i j e = rw (byte_behind i j e, byte_behind (i + 1) (j + 1) (omega arith))

  behind : (w : Width) (i j : ℕ) → j ≡ length front + i → number_in w (front ++ v) j ≡ number_in w v i
  unfolding number4
  behind two i j e = behind2 i j e
  behind four i j e = rw (behind2 i j e, behind2 (i + 2) (j + 2) (omega arith))

  all_behind : (cs : List Number) (i j : ℕ) → j ≡ length front + i → numbers_at cs (front ++ v) j ≡ numbers_at cs v i
  all_behind [] i j e = refl
  all_behind (c ∷ cs) i j e =
      ap₂ ◌∷◌ (behind c.width i j e) (all_behind cs (i + bytes_in c.width) (j + bytes_in c.width) (omega arith))

bytes_long : (w : Width) (n : ℕ) → length (bytes_by w n) ≡ bytes_in w
bytes_long two n = refl
bytes_long four n = refl

first_back : (w : Width) (n : ℕ) (v : List ℕ) → number_in w (bytes_by w n ++ v) 0 ≡ n
unfolding number2 number4
first_back two n v = decoded2 n
first_back four n v = omega (arith, decoded2 (n / 65536), decoded2 (n % 65536))

-- as many numbers as a row of the table has, whatever they are
numbers_back : (cs : List Number) (ns v : List ℕ) → length ns ≡ length cs → numbers_at cs (numbers_bytes cs ns ++ v) 0 ≡ ns
numbers_back [] [] v e = refl
numbers_back [] (n ∷ ns) v e = absurd (omega arith)
numbers_back (c ∷ cs) [] v e = absurd (omega arith)
numbers_back (c ∷ cs) (n ∷ ns) v e =
    let bs = bytes_by c.width n in
    let rest = numbers_bytes cs ns ++ v in
    let at : 0 + bytes_in c.width ≡ length bs + 0 = omega (arith, bytes_long c.width n) in
    ap (λ (l : List ℕ). numbers_at (c ∷ cs) l 0) (append_assoc bs (numbers_bytes cs ns) v)
    ∙ ap₂ ◌∷◌ (first_back c.width n rest) (all_behind bs rest cs 0 (0 + bytes_in c.width) at ∙ numbers_back cs ns v (omega arith))

pub numbers_long : (cs : List Number) (ns : List ℕ) → length ns ≡ length cs → length (numbers_bytes cs ns) ≡ widths cs
numbers_long [] ns e = refl
numbers_long (c ∷ cs) [] e = absurd (omega arith)
numbers_long (c ∷ cs) (n ∷ ns) e =
    omega (arith, length-append (bytes_by c.width n) (numbers_bytes cs ns), bytes_long c.width n, numbers_long cs ns (omega arith))

-- the field of a kind with these numbers, over a route
module _ (k : Kind) (ns r : List ℕ) (many : length ns ≡ length (layout k).numbers) where
  abbrev alone : Field
  alone = record { kind = k; numbers = ns; hops = length r }

  value_long : length (value_of alone r) ≡ numbers_size k + 2 * length r
  unfolding value_of
  value_long =
      omega (arith, length-append (numbers_bytes (layout k).numbers ns) (bytes2s r), numbers_long (layout k).numbers ns many, ports_length r)

  size_back : size_at (routed_bytes k ns r) 0 ≡ numbers_size k + 2 * length r
  unfolding bytes_of size_at
  size_back = decoded2 (numbers_size k + 2 * length r)

  whole_back : whole_at (routed_bytes k ns r) 0 ≡ true
  unfolding bytes_of
  whole_back = whole (routed_bytes k ns r) 0 (omega (arith, size_back, value_long))

  pub value_back : value_at (routed_bytes k ns r) 0 ≡ value_of alone r
  unfolding bytes_of value_at
  value_back = take_all (size_at (routed_bytes k ns r) 0) (value_of alone r) (omega (arith, size_back, value_long))

  -- it is the field's value that is tested, and these are its length and its numbers
  pub field_back : field_at (layout k).form (routed_bytes k ns r) 0 ≡ value_in k (value_of alone r) 0 (head_size + (numbers_size k + 2 * length r))
  unfolding bytes_of
  field_back =
      field_whole (layout k).form (routed_bytes k ns r) 0 whole_back
      ∙ tag_known (value_at (routed_bytes k ns r) 0) 0 _ k (tag_at (routed_bytes k ns r) 0) refl
      ∙ rw (value_back, size_back)

  pub length_back : length (value_of alone r) ≡ numbers_size k + 2 * length r
  length_back = value_long

  pub value_numbers : numbers_at (layout k).numbers (value_of alone r) 0 ≡ ns
  unfolding value_of
  value_numbers = numbers_back (layout k).numbers ns (bytes2s r) many
