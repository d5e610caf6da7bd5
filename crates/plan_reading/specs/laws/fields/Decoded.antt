-- What is read of a field's value is the field.
use Prim.Native.Nat.{ℕ, zero, suc, ◌+◌, ◌*◌, ◌/◌, ◌%◌}
use Rattle.std.specs.Prelude.{◌≡◌, length}
use Rattle.std.proofs.Math.Path.{refl, ap, ap₂}
use Rattle.std.proofs.Common.{sym, ◌∙◌, true≢false, eq-eqb, get_or-append-add, drop_at}
use mathlib.Core.List.{List, [], ◌∷◌, ◌++◌, append_assoc}
use Rattle.std.proofs.Math.Bool.{true, and-eq-true_iff}
use native.Mathlib.Omega.{arith}
use Rattle.std.proofs.Math.ListN.{length-append}
use Rattle.cqf.specs.Form.{Form}
use Rattle.plan.specs.Bytes.{byte_at, number2, number4, numbers2}
use Rattle.plan.specs.Layout.{Width, two, four, bytes_in, Number, widths, layout, numbers_size}
use Rattle.plan.specs.Field.{Field, field, number_in, numbers_at, in_ranges, hops_in, route_ports, route_in, size_ok, ranges_ok, field_in}
use Rattle.plan_reading.specs.Rank.{tag_of}
use Rattle.plan_reading.specs.Ranges.{NumbersOk, RouteFits}
use Rattle.plan_reading.specs.FieldBytes.{bytes2s, bytes_by, numbers_bytes, size_of, value_of}
use Rattle.plan.specs.laws.Tested.{tag_known, value_read}

-- a number of 2 bytes, and of 4
pub decoded2 : (n : ℕ) → n / 256 * 256 + n % 256 ≡ n
decoded2 n = omega arith

decoded4
    : (n : ℕ)
    → (n / 65536 / 256 * 256 + n / 65536 % 256) * 65536 + (n % 65536 / 256 * 256 + n % 65536 % 256) ≡ n
decoded4 n = omega (arith, decoded2 (n / 65536), decoded2 (n % 65536))

-- numbers behind others
module _ (front v : List ℕ) where
  byte_behind : (i j : ℕ) → j ≡ length front + i → byte_at (front ++ v) j ≡ byte_at v i
  byte_behind i j e = rw e (get_or-append-add front v i 0)

  behind2 : (i j : ℕ) → j ≡ length front + i → number2 (front ++ v) j ≡ number2 v i
  unfolding number2
  behind2 i j e = rw (byte_behind i j e, byte_behind (i + 1) (j + 1) (omega arith))

  behind4 : (i j : ℕ) → j ≡ length front + i → number4 (front ++ v) j ≡ number4 v i
  unfolding number4
  behind4 i j e = rw (behind2 i j e, behind2 (i + 2) (j + 2) (omega arith))

  behind : (w : Width) (i j : ℕ) → j ≡ length front + i → number_in w (front ++ v) j ≡ number_in w v i
  behind two = behind2
  behind four = behind4

  all_behind : (cs : List Number) (i j : ℕ) → j ≡ length front + i → numbers_at cs (front ++ v) j ≡ numbers_at cs v i
  all_behind [] i j e = refl
  all_behind (c ∷ cs) i j e =
      ap₂ ◌∷◌ (behind c.width i j e) (all_behind cs (i + bytes_in c.width) (j + bytes_in c.width) (omega arith))

  ports_behind : (i j h : ℕ) → j ≡ length front + i → numbers2 (front ++ v) j h ≡ numbers2 v i h
  unfolding numbers2
  ports_behind i j zero e = refl
  ports_behind i j (suc h) e = ap₂ ◌∷◌ (behind2 i j e) (ports_behind (i + 2) (j + 2) h (omega arith))

-- a number of a width, and those of a row of the table
bytes_long : (w : Width) (n : ℕ) → length (bytes_by w n) ≡ bytes_in w
bytes_long two n = refl
bytes_long four n = refl

decoded : (w : Width) (n : ℕ) (v : List ℕ) → number_in w (bytes_by w n ++ v) 0 ≡ n
unfolding number2 number4
decoded two n v = decoded2 n
decoded four n v = decoded4 n

numbers-decoded : (cs : List Number) (ns v : List ℕ) → in_ranges cs ns ≡ true → numbers_at cs (numbers_bytes cs ns ++ v) 0 ≡ ns
numbers-decoded [] [] v e = refl
numbers-decoded [] (n ∷ ns) v e = absurd (true≢false (sym e))
numbers-decoded (c ∷ cs) [] v e = absurd (true≢false (sym e))
numbers-decoded (c ∷ cs) (n ∷ ns) v e =
    let bs = bytes_by c.width n in
    let rest = numbers_bytes cs ns ++ v in
    let at : 0 + bytes_in c.width ≡ length bs + 0 = omega (arith, bytes_long c.width n) in
    ap (λ (l : List ℕ). numbers_at (c ∷ cs) l 0) (append_assoc bs (numbers_bytes cs ns) v)
    ∙ ap₂ ◌∷◌ (decoded c.width n rest)
    (all_behind bs rest cs 0 (0 + bytes_in c.width) at ∙ numbers-decoded cs ns v ((and-eq-true_iff (c.ok n) _).0 e).1)

numbers_long : (cs : List Number) (ns : List ℕ) → in_ranges cs ns ≡ true → length (numbers_bytes cs ns) ≡ widths cs
numbers_long [] ns e = refl
numbers_long (c ∷ cs) [] e = absurd (true≢false (sym e))
numbers_long (c ∷ cs) (n ∷ ns) e =
    omega (
      arith,
      length-append (bytes_by c.width n) (numbers_bytes cs ns),
      bytes_long c.width n,
      numbers_long cs ns ((and-eq-true_iff (c.ok n) _).0 e).1,
    )

-- the ports of a route
ports_decoded : (r : List ℕ) → numbers2 (bytes2s r) 0 (length r) ≡ r
unfolding numbers2 number2 bytes2s
ports_decoded [] = refl
ports_decoded (n ∷ r) =
    ap₂ ◌∷◌ (decoded2 n) (ports_behind (n / 256 ∷ n % 256 ∷ []) (bytes2s r) 0 2 (length r) refl ∙ ports_decoded r)

pub ports_length : (r : List ℕ) → length (bytes2s r) ≡ 2 * length r
unfolding bytes2s
ports_length [] = refl
ports_length (n ∷ r) = omega (arith, ports_length r)

route_decoded : (r : List ℕ) → route_ports (bytes2s r) ≡ r
unfolding route_ports
route_decoded r =
    let hops : length (bytes2s r) / 2 ≡ length r = omega (arith, ports_length r) in
    ap (numbers2 (bytes2s r) 0) hops ∙ ports_decoded r

-- a value in range is as long as its field's head says
module _ {form : Form} (x : Field) (r : List ℕ) (k : NumbersOk form x) (fits : RouteFits x r) where
  pub value_length : length (value_of x r) ≡ size_of x
  unfolding value_of
  value_length =
      omega (
        arith,
        length-append (numbers_bytes (layout x.kind).numbers x.numbers) (bytes2s r),
        numbers_long (layout x.kind).numbers x.numbers k.ranges,
        ports_length r,
        fits.hops,
      )

  -- its route is the field's
  pub route_in_value : route_in x.kind (value_of x r) ≡ r
  unfolding value_of route_in
  route_in_value =
      ap route_ports
      (drop_at (numbers_bytes (layout x.kind).numbers x.numbers) (bytes2s r) (numbers_size x.kind)
      (numbers_long (layout x.kind).numbers x.numbers k.ranges))
      ∙ route_decoded r

  -- and it is read as the field in a plan of its form
  pub value_decoded : (at next : ℕ) → field_in form (tag_of x) (value_of x r) at next ≡ field x next
  unfolding value_of
  value_decoded at next =
      let v = value_of x r in
      let hops : hops_in x.kind (length v) ≡ x.hops = omega (arith, value_length) in
      let ns = numbers-decoded (layout x.kind).numbers x.numbers (bytes2s r) k.ranges in
      let long : size_ok x.kind (length v) ≡ true = rw (hops, k.hops) (eq-eqb (length v) _ value_length) in
      let ranges : ranges_ok x.kind v ≡ true = rw (ns, k.ranges, route_in_value) fits.ports in
      ap (λ (f : Form). field_in f (tag_of x) v at next) (sym k.kind)
      ∙ tag_known v at next x.kind (tag_of x) refl
      ∙ value_read v at next x.kind long ranges
      ∙ (λ i. field (record { kind = x.kind; numbers = ns i; hops = hops i }) next)
