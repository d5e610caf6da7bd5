-- `product` is safe: two numbers of 32 bits have a product of 64.
use Rattle.std.proofs.Common.{ℕ, ◌*◌, ◌≤◌, mul-le-mul, arith}
use Rattle.ask.proofs.bits.product.Goals as goal

most : (a b : ℕ) → a ≤ 4294967295 → b ≤ 4294967295 → a * b ≤ 18446744065119617025
most a b k l = omega (arith, mul-le-mul k l)

pub overflow_mul-result : goal.overflow_mul-result
overflow_mul-result c = record { fits = omega (arith, most c.from.result c.from-2.result (omega arith) (omega arith)) }
