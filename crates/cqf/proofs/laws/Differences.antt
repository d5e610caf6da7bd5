-- Laws of the difference of two natural numbers as a signed number.
use Rattle.std.specs.Prelude.{◌≡◌, ℕ, zero, suc, ◌+◌, ◌-◌, ◌≤◌, ◌<◌, ℤ, pos, negsuc, ◌+ℤ◌, ◌-ℤ◌, ◌≤ℤ◌}
use Rattle.std.proofs.Common.{sym, ap, ◌∙◌, arith, le→leb, lt-ltb, le-ltb}
use Rattle.std.proofs.Math.Decide.{dec_lt}
use Rattle.std.proofs.Math.IntN.{sub_ℕ}

-- by its sign
sub_neg : (a b : ℕ) → a < b → sub_ℕ a b ≡ negsuc (b - suc a)
sub_neg a b l = rw (lt-ltb a b l)

sub_pos : (a b : ℕ) → b ≤ a → sub_ℕ a b ≡ pos (a - b)
sub_pos a b l = rw (le-ltb a b l)

-- differences of numbers that lie as far apart are the same
pub sub_same : (a b c d : ℕ) → a + d ≡ c + b → sub_ℕ a b ≡ sub_ℕ c d
sub_same a b c d e = go (dec_lt a b)
  where
    go : Dec (a < b) → sub_ℕ a b ≡ sub_ℕ c d
    go (yes l) = sub_neg a b l ∙ ap negsuc (omega arith) ∙ sym (sub_neg c d (omega arith))
    go (no l) = sub_pos a b (omega arith) ∙ ap pos (omega arith) ∙ sym (sub_pos c d (omega arith))

-- a number more on the left, and on the right
pub sub_more : (a b c : ℕ) → sub_ℕ a b +ℤ pos c ≡ sub_ℕ (a + c) b
sub_more a b c = go (dec_lt a b)
  where
    go : Dec (a < b) → sub_ℕ a b +ℤ pos c ≡ sub_ℕ (a + c) b
    go (yes l) = ap (λ (z : ℤ). z +ℤ pos c) (sub_neg a b l) ∙ sub_same c (suc (b - suc a)) (a + c) b (omega arith)
    go (no l) = ap (λ (z : ℤ). z +ℤ pos c) (sub_pos a b (omega arith)) ∙ ap pos (omega arith) ∙ sym (sub_pos (a + c) b (omega arith))

pub sub_less : (a b c : ℕ) → sub_ℕ a b -ℤ pos c ≡ sub_ℕ a (b + c)
sub_less a b zero = go (dec_lt a b)
  where
    go : Dec (a < b) → sub_ℕ a b -ℤ pos zero ≡ sub_ℕ a (b + zero)
    go (yes l) = ap (λ (z : ℤ). z -ℤ pos zero) (sub_neg a b l) ∙ sub_same zero (suc (b - suc a)) a (b + zero) (omega arith)
    go (no l) = ap (λ (z : ℤ). z -ℤ pos zero) (sub_pos a b (omega arith)) ∙ ap pos (omega arith) ∙ sym (sub_pos a (b + zero) (omega arith))
sub_less a b (suc c) = go (dec_lt a b)
  where
    go : Dec (a < b) → sub_ℕ a b -ℤ pos (suc c) ≡ sub_ℕ a (b + suc c)
    go (yes l) = ap (λ (z : ℤ). z -ℤ pos (suc c)) (sub_neg a b l) ∙ ap negsuc (omega arith) ∙ sym (sub_neg a (b + suc c) (omega arith))
    go (no l) = ap (λ (z : ℤ). z -ℤ pos (suc c)) (sub_pos a b (omega arith)) ∙ sub_same (a - b) (suc c) a (b + suc c) (omega arith)

-- the smaller of two
pub sub_le : (a b c d : ℕ) → a + d ≤ c + b → sub_ℕ a b ≤ℤ sub_ℕ c d
sub_le a b c d e = go (dec_lt a b) (dec_lt c d)
  where
    go : Dec (a < b) → Dec (c < d) → sub_ℕ a b ≤ℤ sub_ℕ c d
    go (yes l) (yes k) = rw (lt-ltb a b l, lt-ltb c d k) (record { le = le→leb (d - suc c) (b - suc a) (omega arith) })
    go (yes l) (no k) = rw (lt-ltb a b l, le-ltb c d (omega arith)) (record { le = tt })
    go (no l) (yes k) = absurd (omega arith)
    go (no l) (no k) = rw (le-ltb a b (omega arith), le-ltb c d (omega arith)) (record { le = le→leb (a - b) (c - d) (omega arith) })
