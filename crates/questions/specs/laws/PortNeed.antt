-- What a port needs, from its numbers.
use Rattle.std.specs.Prelude.{◌≡◌, Bool, true, false, cond, ℕ, ◌+◌, ◌-◌, ◌*◌, ◌/◌, ◌^◌, ◌≤◌, ◌<◌, eqb}
use Rattle.std.proofs.Common.{div-le_self, sub-one, arith, lt-ltb}
use Rattle.cqf.specs.Ceil.{ceil_div}
use Rattle.cqf.specs.Port.{bits_of, workload_of}
use Rattle.cqf.specs.Need.{need_by}
use Rattle.cqf.specs.Overflow.{most_demand}

-- the bits of a blocking frame, and the work of a demand, are far below 2 ^ 64
pub blocking_most
    : (blocking extra : ℕ)
    → blocking < 2 ^ 16
    → extra < 2 ^ 8
    → cond (eqb blocking 0) 0 (bits_of blocking extra) < 2 ^ 20
blocking_most blocking extra l x = go (eqb blocking 0)
  where
    go : (x : Bool) → cond x 0 (bits_of blocking extra) < 2 ^ 20
    go true = omega arith
    go false = omega arith

pub work_fits
    : (blocking extra bits : ℕ)
    → blocking < 2 ^ 16
    → extra < 2 ^ 8
    → bits ≤ most_demand
    → workload_of blocking extra bits < 2 ^ 60
work_fits blocking extra bits l x few = omega (arith, blocking_most blocking extra l x)

-- and so is a quotient of such numbers beside two guard bands
pub quotient_fits : (guard n d : ℕ) → guard < 2 ^ 32 → n < 2 ^ 61 → 2 * guard + n / d < 2 ^ 64
quotient_fits guard n d g l = omega (arith, div-le_self n d)

-- a port with a demand needs its work in ns, rounded up, beside two guard bands: n is one below the work and the rate
pub need_rounded
    : (guard rate blocking extra bits n : ℕ)
    → 0 < bits
    → 0 < rate
    → n + 1 ≡ workload_of blocking extra bits + rate
    → 2 * guard + n / rate ≡ need_by guard rate blocking extra bits
unfolding ceil_div
need_rounded guard rate blocking extra bits n some served e =
    let is : n ≡ workload_of blocking extra bits + (rate - 1) = omega arith in
    rw (is, lt-ltb 0 bits some, sub-one)
