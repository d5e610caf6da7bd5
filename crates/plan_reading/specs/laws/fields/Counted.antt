-- How many places of a column are above 0, while numbers are put into it one after the other, each with the flag of its key.
use Rattle.std.specs.Prelude.{ℕ, zero, suc, ◌+◌, ◌<◌, ◌≡◌, ◌≢◌, List, Bool, true, false, cond, ltb, length, get_or, set}
use Rattle.std.proofs.Common.{sym, ap, ◌∙◌, true≢false, arith, lt-ltb, le-ltb, length-set, get_or-set_same, get_or-set_other}
use Rattle.std.proofs.Math.Decide.{ℕ_discrete, dec_lt}
use Rattle.cqf.specs.Bounded.{count_to}

-- one more place below n holds where place i does now and did not
count_more
    : (n i : ℕ) (b c : ℕ → Bool)
    → ((j : ℕ) → j ≢ i → c j ≡ b j)
    → b i ≡ false
    → c i ≡ true
    → count_to n c ≡ count_to n b + cond (ltb i n) 1 0
unfolding count_to
count_more zero i b c same was is = rw (le-ltb i 0 (omega arith))
count_more (suc n) i b c same was is = go (ℕ_discrete n i) (count_more n i b c same was is)
  where
    go : Dec (n ≡ i) → count_to n c ≡ count_to n b + cond (ltb i n) 1 0 → count_to (suc n) c ≡ count_to (suc n) b + cond (ltb i (suc n)) 1 0
    go (yes here) less =
        let past : ltb i n ≡ false = le-ltb i n (omega arith) in
        let in_row : ltb i (suc n) ≡ true = lt-ltb i (suc n) (omega arith) in
        let a : b n ≡ false = ap b here ∙ was in
        let d : c n ≡ true = ap c here ∙ is in
        rw (a, d, in_row) (omega (arith, rw past at less))
    go (no apart) less = rest (dec_lt i n)
      where
        rest : Dec (i < n) → count_to (suc n) c ≡ count_to (suc n) b + cond (ltb i (suc n)) 1 0
        rest (yes before) =
            let now : ltb i n ≡ true = lt-ltb i n before in
            let then-too : ltb i (suc n) ≡ true = lt-ltb i (suc n) (omega arith) in
            rw (same n apart, then-too) (omega (arith, rw now at less))
        rest (no after) =
            let now : ltb i n ≡ false = le-ltb i n (omega arith) in
            let then-too : ltb i (suc n) ≡ false = le-ltb i (suc n) (omega arith) in
            rw (same n apart, then-too) (omega (arith, rw now at less))

-- of a column and the flags of its keys: as many places are above 0 as were counted, and a place without a flag is 0
pub record Counted (column seen : List ℕ) (base slots count : ℕ) : Type 0 where
  pub size : length column ≡ slots
  pub is : count ≡ count_to slots (λ i. ltb 0 (get_or column i 0))
  pub free : (i : ℕ) → i < slots → ltb 0 (get_or seen (base + i) 0) ≡ false → get_or column i 0 ≡ 0

-- a key without a flag, after one was set, is another and had none
still_free
    : (seen : List ℕ) (k j : ℕ)
    → k < length seen
    → ltb 0 (get_or (set seen k 1) j 0) ≡ false
    → (j ≢ k) × (ltb 0 (get_or seen j 0) ≡ false)
still_free seen k j fits e = (apart, rw (get_or-set_other seen k j 1 0 apart) at e)
  where
    apart : j ≢ k
    apart same = true≢false (sym (rw (same, get_or-set_same seen k 1 0 fits)) ∙ e)

module _ {column seen : List ℕ} {base slots count k : ℕ} (c : Counted column seen base slots count) (fits : k < length seen) where
  -- a field that puts nothing there
  pub counted_other : Counted column (set seen k 1) base slots (count + 0)
  counted_other = record { size = c.size; is = omega (arith, c.is); free = λ i l e. c.free i l (still_free seen k (base + i) fits e).1 }

  -- one that does
  pub counted-own
      : (i v : ℕ)
      → k ≡ base + i
      → i < slots
      → 0 < v
      → ltb 0 (get_or seen k 0) ≡ false
      → Counted (set column i v) (set seen k 1) base slots (count + 1)
  counted-own i v here less some fresh =
      let was : get_or column i 0 ≡ 0 = c.free i less (rw (← here) fresh) in
      let in_row : ltb i slots ≡ true = lt-ltb i slots less in
      let more =
      count_more slots i (λ j. ltb 0 (get_or column j 0)) (λ j. ltb 0 (get_or (set column i v) j 0))
      (λ j apart. rw (get_or-set_other column i j v 0 apart))
      (rw was)
      (rw (get_or-set_same column i v 0 (rw c.size less)) (lt-ltb 0 v some)) in
      record {
        size = length-set column i v ∙ c.size;
        is = omega (arith, c.is, rw in_row at more);
        free = λ j l e.
            let f = still_free seen k (base + j) fits e in
            get_or-set_other column i j v 0 (λ same. f.0 (omega arith)) ∙ c.free j l f.1;
      }
