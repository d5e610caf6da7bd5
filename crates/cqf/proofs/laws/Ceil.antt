-- Laws of the division rounded up: how many periods cover a duration.
use Rattle.std.specs.Prelude.{ℕ, zero, suc, pred, ◌+◌, ◌*◌, ◌≤◌, ◌<◌}
use Rattle.std.proofs.Common.{suc-mul, le-div_iff_mul-le, div-lt_iff_lt-mul, mul-le-mul_left, le_trans, le_of_suc-le-suc, arith}
use Rattle.std.proofs.Math.Nat.{div-zero, lt-div-mul-add}
use Rattle.cqf.specs.Ceil.{ceil_div}

-- so many periods last at least T
pub ceil_covers : (T : ℕ) {P : ℕ} → 0 < P → T ≤ ceil_div T P * P
unfolding ceil_div
ceil_covers T {P} h = omega (arith, lt-div-mul-add {a = T + pred P} h)

-- fewer periods end before T
pub ceil_before : (T m : ℕ) {P : ℕ} → 0 < P → m < ceil_div T P → m * P < T
unfolding ceil_div
ceil_before T m {P} h l =
    omega (arith, (le-div_iff_mul-le {x = suc m} {y = T + pred P} h).0 l, suc-mul m P)

-- a number of periods that covers T is no smaller
pub ceil_least : (T m : ℕ) {P : ℕ} → 0 < P → T ≤ m * P → ceil_div T P ≤ m
unfolding ceil_div
ceil_least T m {P} h l =
    le_of_suc-le-suc ((div-lt_iff_lt-mul {x = T + pred P} {y = suc m} h).1 (omega (arith, suc-mul m P)))

-- one period at least, where T is above 0
pub ceil_positive : {T P : ℕ} → 0 < T → 0 < P → 0 < ceil_div T P
unfolding ceil_div
ceil_positive {T} {P} t h = (le-div_iff_mul-le {x = 1} {y = T + pred P} h).1 (omega arith)

-- a longer duration holds no fewer periods
pub ceil_mono : (P : ℕ) {T U : ℕ} → T ≤ U → ceil_div T P ≤ ceil_div U P
unfolding ceil_div
ceil_mono zero {T} {U} l = omega (arith, div-zero (T + pred zero))
ceil_mono (suc P) {T} {U} l =
    let h : 0 < suc P = omega arith in
    ceil_least T (ceil_div U (suc P)) h (le_trans l (ceil_covers U h))

-- nor do shorter periods
pub ceil_shorter : (T : ℕ) {P Q : ℕ} → 0 < Q → Q ≤ P → ceil_div T P ≤ ceil_div T Q
ceil_shorter T {P} {Q} h l =
    ceil_least T (ceil_div T Q) (omega arith) (le_trans (ceil_covers T h) (mul-le-mul_left (ceil_div T Q) l))
