-- How many frames of one flow can be emitted in one cycle: at most count for each period that its stretch begins.
use Rattle.std.specs.Prelude.{◌≡◌, refl, Bool, true, false, cond, ℕ, zero, suc, ◌+◌, ◌-◌, ◌*◌, ◌≤◌, ◌<◌, length, get_or, eqb}
use Rattle.std.proofs.Common.{sym, ◌∙◌, zero-le, le_refl, mul-suc, mul-zero, suc-mul, add-zero, add-suc, lt_of_not-le, not-le_of_lt, arith, eqb-true}
use Rattle.cqf.specs.Bounded.{count_to}
use Rattle.cqf.specs.Plan.{Plan, present, period_of, count_of, jitter_of}
use Rattle.cqf.specs.Condition.{begun, frames}
use Rattle.cqf.specs.Emission.{Emission, Keeps}
use Rattle.cqf.specs.Cycles.{Cycles, Partition}
use Rattle.cqf.proofs.laws.Begun.{begun_covers}

-- where nothing below a passes, at most n - a numbers below n pass
count_from : (b : ℕ → Bool) (n a : ℕ) → ((i : ℕ) → i < n → b i ≡ true → a ≤ i) → count_to n b ≤ n - a
unfolding count_to
count_from b zero a h = zero-le
count_from b (suc n) a h = go (b n) refl (count_from b n a (λ i l. h i (omega arith)))
  where
    go : (t : Bool) → b n ≡ t → count_to n b ≤ n - a → count_to n b + cond (b n) 1 0 ≤ suc n - a
    go true e ih = rw e (omega (arith, h n (le_refl _) e))
    go false e ih = rw e (omega arith)

-- where those that pass lie less than M apart, at most M pass
count_within
    : (b : ℕ → Bool) (n M : ℕ)
    → ((i j : ℕ) → i ≤ j → j < n → b i ≡ true → b j ≡ true → j < i + M)
    → count_to n b ≤ M
unfolding count_to
count_within b zero M h = zero-le
count_within b (suc n) M h = go (b n) refl (count_within b n M (λ i j l m. h i j l (omega arith)))
  where
    after : b n ≡ true → (i : ℕ) → i < suc n → b i ≡ true → suc n - M ≤ i
    after e i l q = omega (arith, h i n (omega arith) (le_refl _) q e)

    go : (t : Bool) → b n ≡ t → count_to n b ≤ M → count_to n b + cond (b n) 1 0 ≤ M
    go true e ih = omega (arith, count_from b (suc n) (suc n - M) (after e))
    go false e ih = rw e (omega arith)

module _ {p : Plan} {e : Emission} (keeps : Keeps p e) (f : ℕ) where
  -- a later frame is not emitted earlier
  rising-over : (i d : ℕ) → i + d < length (e f) → get_or (e f) i 0 ≤ get_or (e f) (i + d) 0
  rising-over i zero l = rw add-zero (le_refl _)
  rising-over i (suc d) l =
      let l' : suc (i + d) < length (e f) = omega arith in
      rw add-suc (omega (arith, rising-over i d (omega arith), keeps.rising f (i + d) l'))

  -- m times count frames later, the nominal instant is at least m periods later
  spaced-over
      : (i m : ℕ)
      → i + count_of p f * m < length (e f)
      → keeps.nominal f i + m * period_of p f ≤ keeps.nominal f (i + count_of p f * m)
  spaced-over i zero l = rw (mul-zero, add-zero) (omega arith)
  spaced-over i (suc m) l =
      let at : i + count_of p f * suc m ≡ i + count_of p f * m + count_of p f = omega (arith, mul-suc (count_of p f) m) in
      let l' : i + count_of p f * m + count_of p f < length (e f) = omega arith in
      rw at
      (omega (arith, spaced-over i m (omega arith), keeps.spaced f (i + count_of p f * m) l', suc-mul m (period_of p f)))

  -- every frame from there on is emitted at most the jitter less than m periods later
  apart
      : (i j m : ℕ)
      → i + count_of p f * m ≤ j
      → j < length (e f)
      → get_or (e f) i 0 + m * period_of p f ≤ get_or (e f) j 0 + jitter_of p f
  apart i j m h l =
      let at : i + count_of p f * m + (j - (i + count_of p f * m)) ≡ j = omega arith in
      let later = rising-over (i + count_of p f * m) (j - (i + count_of p f * m)) (omega arith) in
      let from = keeps.released f i (omega arith) in
      let upto = keeps.released f (i + count_of p f * m) (omega arith) in
      omega (arith, spaced-over i m (omega arith), rw at at later, from.0, from.1, upto.0, upto.1)

-- in one cycle a flow that keeps its contract emits at most the frames of the condition
pub at_most
    : (p : Plan) (e : Emission)
    → Keeps p e
    → (T : ℕ) (cycles : Cycles)
    → Partition p T e cycles
    → (f c : ℕ)
    → (present p f ≡ true → (0 < count_of p f) × (0 < period_of p f))
    → count_to (length (cycles f)) (λ k. eqb (get_or (cycles f) k 0) c) ≤ frames p f T
unfolding count_to frames
at_most p e keeps T cycles parts f c valid = go (present p f) refl
  where
    near
        : 0 < period_of p f
        → (i j : ℕ)
        → i ≤ j
        → j < length (cycles f)
        → eqb (get_or (cycles f) i 0) c ≡ true
        → eqb (get_or (cycles f) j 0) c ≡ true
        → j < i + frames p f T
    near pos i j l m q r =
        let m' : j < length (e f) = omega (arith, parts.each f) in
        let same = eqb-true _ _ q ∙ sym (eqb-true _ _ r) in
        lt_of_not-le
        (λ g.
        let far = apart keeps f i j (begun p f T) g m' in
        not-le_of_lt (parts.near f i j (omega arith) m' same) (omega (arith, begun_covers p f T pos)))

    go : (t : Bool) → present p f ≡ t → count_to (length (cycles f)) (λ k. eqb (get_or (cycles f) k 0) c) ≤ frames p f T
    go true q = count_within _ (length (cycles f)) (frames p f T) (near (valid q).1)
    go false q = rw (parts.each f, keeps.absent f q) zero-le
