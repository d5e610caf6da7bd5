-- The bits of a number, from the lowest up: where its lowest 1 stands, and sums over the bits that are 1.
use Rattle.std.specs.Prelude.{◌≡◌, Bool, eqb}
use Rattle.std.proofs.Math.Path.{refl, sym, ap, ap₂}
use Rattle.std.proofs.Common.{◌∙◌, pow-suc, div-le_self, add-zero, add-suc, lt_of_lt_of_le, mul-le-mul_right, add-one, arith, pow-add, pow_mono, eq-eqb, eqb-true}
use Rattle.std.proofs.Math.Bool.{true, false, cond}
use Prim.Native.Nat.{ℕ, zero, suc, ◌+◌, ◌-◌, ◌*◌, ◌/◌, ◌%◌, ◌^◌, ◌≤◌, ◌<◌, zero-le}
use Rattle.std.proofs.Math.Nat.{pow-succ', div-div-eq-div-mul, div-eq_of_lt, zero-div, le_trans}
use Rattle.std.proofs.Math.Decide.{dec_lt}
use Rattle.std.specs.Int.Count.{under, count_trailing_zeros}
use Rattle.cqf.specs.Bounded.{sum_to}
use Rattle.questions.specs.Failing.{set_to}
use Rattle.questions.specs.FlowSet.{word_slots, bit_at, word_bits}
use Rattle.questions.specs.laws.Sets.{shift}
use Rattle.cqf.proofs.laws.Bounds.{sum_to_most}

-- a number shifted twice
shifted : (n i j : ℕ) → n / 2 ^ i / 2 ^ j ≡ n / 2 ^ (i + j)
shifted n i j = div-div-eq-div-mul n (2 ^ i) (2 ^ j) ∙ ap (λ (m : ℕ). n / m) (sym (pow-add 2 i j))

halved : (n j : ℕ) → n / 2 / 2 ^ j ≡ n / 2 ^ suc j
halved n j = div-div-eq-div-mul n 2 (2 ^ j) ∙ ap (λ (m : ℕ). n / m) (sym (pow-succ' 2 j))

-- the lowest 1 of a number that is not 0
pub record Lowest (k n : ℕ) : Type 0 where
  pub inside : count_trailing_zeros k n < k
  pub one : n / 2 ^ count_trailing_zeros k n % 2 ≡ 1
  pub zeros : (j : ℕ) → j < count_trailing_zeros k n → n / 2 ^ j % 2 ≡ 0

pub lowest-one : (k n : ℕ) → 0 < n → n < 2 ^ k → Lowest k n
unfolding count_trailing_zeros
lowest-one zero n some l = absurd (omega arith)
lowest-one (suc k) n some l = go (n % 2) refl (λ h. lowest-one k (n / 2) h (omega (arith, pow-suc 2 k)))
  where
    go : (d : ℕ) → n % 2 ≡ d → (0 < n / 2 → Lowest k (n / 2)) → Lowest (suc k) n
    go zero e below =
        let s = below (omega arith) in
        let is : count_trailing_zeros (suc k) n ≡ suc (count_trailing_zeros k (n / 2)) = ap (λ (d : ℕ). under d (count_trailing_zeros k (n / 2))) e in
        record {
          inside = omega (arith, is, s.inside);
          one = ap (λ (m : ℕ). n / 2 ^ m % 2) is ∙ ap (λ (m : ℕ). m % 2) (sym (halved n (count_trailing_zeros k (n / 2)))) ∙ s.one;
          zeros = λ j h. low s j (omega (arith, is, h));
        }
      where
        low : Lowest k (n / 2) → (j : ℕ) → j < suc (count_trailing_zeros k (n / 2)) → n / 2 ^ j % 2 ≡ 0
        low s zero h = omega arith
        low s (suc j) h = ap (λ (m : ℕ). m % 2) (sym (halved n j)) ∙ s.zeros j (omega arith)
    go (suc d) e below =
        let is : count_trailing_zeros (suc k) n ≡ 0 = ap (λ (d : ℕ). under d (count_trailing_zeros k (n / 2))) e in
        record {
          inside = omega (arith, is);
          one = ap (λ (m : ℕ). n / 2 ^ m % 2) is ∙ omega arith;
          zeros = λ j h. absurd (omega (arith, is, h));
        }

-- bit i of a set says whether i is in it
pub bit_set : (n : ℕ) (b : ℕ → Bool) (i : ℕ) → i < n → bit_at (set_to n b) i ≡ b i
bit_set zero b i l = absurd (omega arith)
bit_set (suc n) b zero l = rw (shift n b) (go (b zero))
  where
    go : (x : Bool) → eqb ((cond x 1 0 + 2 * set_to n (λ i. b (suc i))) / 2 ^ 0 % 2) 1 ≡ x
    go true =
        let odd : (1 + 2 * set_to n (λ i. b (suc i))) / 2 ^ 0 % 2 ≡ 1 = omega arith in
        rw odd
    go false =
        let even : (0 + 2 * set_to n (λ i. b (suc i))) / 2 ^ 0 % 2 ≡ 0 = omega arith in
        rw even
bit_set (suc n) b (suc i) l =
    ap (λ (m : ℕ). eqb (m % 2) 1) (sym (halved (set_to (suc n) b) i) ∙ ap (λ (m : ℕ). m / 2 ^ i) (half (b zero) ∙ refl))
    ∙ bit_set n (λ i. b (suc i)) i (omega arith)
  where
    half : (x : Bool) → set_to (suc n) b / 2 ≡ set_to n (λ i. b (suc i))
    half x = rw (shift n b) (omega (arith, small (b zero)))
      where
        small : (x : Bool) → cond x 1 0 < 2
        small true = omega arith
        small false = omega arith

-- a sum goes on past terms of 0, and splits where it is cut
pub sum_to_quiet : (n m : ℕ) (g : ℕ → ℕ) → ((j : ℕ) → j < m → g (n + j) ≡ 0) → sum_to (n + m) g ≡ sum_to n g
unfolding sum_to
sum_to_quiet n zero g h = ap (λ (k : ℕ). sum_to k g) (add-zero n)
sum_to_quiet n (suc m) g h =
    ap (λ (k : ℕ). sum_to k g) (add-suc n m)
    ∙ omega (arith, sum_to_quiet n m g (λ j l. h j (omega arith)), h m (omega arith))

pub sum_to_add : (n m : ℕ) (g : ℕ → ℕ) → sum_to (n + m) g ≡ sum_to n g + sum_to m (λ j. g (n + j))
unfolding sum_to
sum_to_add n zero g = ap (λ (k : ℕ). sum_to k g) (add-zero n) ∙ sym (add-zero _)
sum_to_add n (suc m) g = ap (λ (k : ℕ). sum_to k g) (add-suc n m) ∙ omega (arith, sum_to_add n m g)

-- the flows of a number below bit i are counted, and the bits from i on are left
pub record Counted (g : ℕ → ℕ) (word base i rest bits : ℕ) : Type 0 where
  pub inside : i ≤ word_slots
  pub left : rest ≡ word / 2 ^ i
  pub sum : bits ≡ sum_to i (λ j. cond (bit_at word j) (g (base + j)) 0)

-- each flow of the number brings at most so much
abbrev pub Each : (g : ℕ → ℕ) (word base most : ℕ) → Type 0
Each g word base most = (j : ℕ) → j < word_slots → bit_at word j ≡ true → g (base + j) ≤ most

module _ (g : ℕ → ℕ) (word base : ℕ) where
  term : ℕ → ℕ
  term j = cond (bit_at word j) (g (base + j)) 0

  term_none : (j : ℕ) → word / 2 ^ j % 2 ≡ 0 → term j ≡ 0
  unfolding term
  term_none j e = rw e

  term_some : (j : ℕ) → bit_at word j ≡ true → term j ≡ g (base + j)
  unfolding term
  term_some j e = rw e

  term_most : (m : ℕ) → Each g word base m → (j : ℕ) → j < word_slots → term j ≤ m
  unfolding term
  term_most m each j l = go (bit_at word j) (each j l)
    where
      go : (x : Bool) → (x ≡ true → g (base + j) ≤ m) → cond x (g (base + j)) 0 ≤ m
      go true h = h refl
      go false h = zero-le

  pub word_most : (m : ℕ) → Each g word base m → word_bits g word base ≤ word_slots * m
  unfolding word_bits term
  word_most m each = sum_to_most word_slots term m (term_most m each)

  pub counted_start : Counted g word base 0 word 0
  unfolding sum_to
  counted_start = record { inside = omega arith; left = omega arith; sum = refl }

module _ {g : ℕ → ℕ} {word base i rest bits : ℕ} (s : Counted g word base i rest bits) where
  -- nothing is left: all are counted
  pub counted_all : rest ≡ 0 → bits ≡ word_bits g word base
  unfolding word_bits term
  counted_all none =
      let all : i + (word_slots - i) ≡ word_slots = omega (arith, s.inside) in
      s.sum
      ∙ sym (sum_to_quiet i (word_slots - i) (term g word base) quiet)
      ∙ ap (λ (n : ℕ). sum_to n (term g word base)) all
    where
      quiet : (j : ℕ) → j < word_slots - i → term g word base (i + j) ≡ 0
      quiet j l =
          term_none g word base (i + j)
          (ap (λ (n : ℕ). n % 2) (sym (shifted word i j) ∙ ap (λ (n : ℕ). n / 2 ^ j) (sym s.left ∙ none) ∙ zero-div (2 ^ j)))

  -- the next flow: the one of the lowest 1 that is left
  module _ (small : word < 2 ^ word_slots) (some : 0 < rest) where
    lowest_left : Lowest word_slots rest
    lowest_left = lowest-one word_slots rest some (omega (arith, div-le_self word (2 ^ i), s.left, small))

    bit_of : (j : ℕ) → rest / 2 ^ j % 2 ≡ word / 2 ^ (i + j) % 2
    bit_of j = ap (λ (n : ℕ). n / 2 ^ j % 2) s.left ∙ ap (λ (n : ℕ). n % 2) (shifted word i j)

    pub next_one : bit_at word (i + count_trailing_zeros word_slots rest) ≡ true
    next_one = eq-eqb _ 1 (sym (bit_of (count_trailing_zeros word_slots rest)) ∙ lowest_left.one)

    pub next_inside : i + count_trailing_zeros word_slots rest < word_slots
    next_inside = go (dec_lt (i + count_trailing_zeros word_slots rest) word_slots)
      where
        go : Dec (i + count_trailing_zeros word_slots rest < word_slots) → i + count_trailing_zeros word_slots rest < word_slots
        go (yes l) = l
        go (no l) =
            let k = i + count_trailing_zeros word_slots rest in
            let long : word_slots ≤ k = omega arith in
            let none : word / 2 ^ k ≡ 0 = div-eq_of_lt (lt_of_lt_of_le small (pow_mono {i = word_slots} {j = k} long)) in
            let one : word / 2 ^ k % 2 ≡ 1 = eqb-true (word / 2 ^ k % 2) 1 next_one in
            absurd (omega (arith, none, one))

    pub counted_next
        : Counted g word base (i + count_trailing_zeros word_slots rest + 1) (rest / 2 ^ count_trailing_zeros word_slots rest / 2) (bits + g (base + (i + count_trailing_zeros word_slots rest)))
    unfolding sum_to term
    counted_next =
        let skip = count_trailing_zeros word_slots rest in
        record {
          inside = omega (arith, next_inside);
          left =
              ap (λ (n : ℕ). n / 2) (ap (λ (n : ℕ). n / 2 ^ skip) s.left ∙ shifted word i skip)
              ∙ div-div-eq-div-mul word (2 ^ (i + skip)) 2
              ∙ ap (λ (n : ℕ). word / n) (sym (pow-suc 2 (i + skip)) ∙ ap (λ (n : ℕ). 2 ^ n) (sym (add-one (i + skip))));
          sum =
              ap₂ (λ (a b : ℕ). a + b)
              (s.sum ∙ sym (sum_to_quiet i skip (term g word base) (λ j l. term_none g word base (i + j) (sym (bit_of j) ∙ lowest_left.zeros j l))))
              (sym (term_some g word base (i + skip) next_one))
              ∙ ap (λ (n : ℕ). sum_to n (term g word base)) (sym (add-one (i + skip)));
        }

    -- the sum with it is no more than the most of all
    pub counted_most : (m : ℕ) → Each g word base m → bits + g (base + (i + count_trailing_zeros word_slots rest)) ≤ word_slots * m
    unfolding term
    counted_most m each =
        le_trans
        (rw counted_next.sum (sum_to_most (i + count_trailing_zeros word_slots rest + 1) (term g word base) m (λ j l. term_most g word base m each j (omega (arith, next_inside)))))
        (mul-le-mul_right m counted_next.inside)
