-- A number in decimal digits, read back.
use Rattle.std.specs.Prelude.{ℕ, zero, suc, ◌+◌, ◌-◌, ◌*◌, ◌/◌, ◌%◌, ◌≤◌, ◌<◌, ◌≡◌, refl, Bool, true, false, cond, List, [], ◌∷◌, ◌++◌, ltb, length}
use Rattle.std.proofs.Common.{sym, ap, ◌∙◌, arith, ltb-true}
use Rattle.std.proofs.Math.Option.{some, none, some-injective}
use Rattle.words.specs.Decimal.{zero_digit, is_digit, value_from, largest, capped_option, decimal_value}
use Rattle.words.specs.laws.Decimal.{capped_same, value_whole, value-same, digit_byte}
use Rattle.plan_text.specs.Print.{digits_by, digits}
use Rattle.text_back.specs.laws.Bytes.{Solid, IsWord, solid_append, word_snoc}

-- digits behind others
value_append : (s t : List ℕ) (v n : ℕ) → value_from v s ≡ some n → value_from v (s ++ t) ≡ value_from n t
unfolding value_from
value_append [] t v n e = ap (λ (m : ℕ). value_from m t) (some-injective v n e)
value_append (d ∷ s) t v n e = go (value_append s t (10 * v + (d - zero_digit)) n) (is_digit d) e
  where
    go
        : (value_from (10 * v + (d - zero_digit)) s ≡ some n → value_from (10 * v + (d - zero_digit)) (s ++ t) ≡ value_from n t)
        → (b : Bool)
        → cond b (value_from (10 * v + (d - zero_digit)) s) none ≡ some n
        → cond b (value_from (10 * v + (d - zero_digit)) (s ++ t)) none ≡ value_from n t
    go rest true e = rest e
    go rest false e = let z : ◌≡◌ {A = ℕ} 0 1 = cc in absurd (omega arith)

value_digit : (v d : ℕ) → d < 10 → value_from v ((zero_digit + d) ∷ []) ≡ some (10 * v + d)
unfolding value_from
value_digit v d less = rw (digit_byte (zero_digit + d) (omega arith) (omega arith)) (ap some (omega arith))

-- 10 to the power k: the numbers of k digits are below it
abbrev pub tens : ℕ → ℕ
tens zero = 1
tens (suc k) = 10 * tens k

value_by : (k n : ℕ) → n < tens k → value_from 0 (digits_by k n) ≡ some n
unfolding digits_by value_from
value_by zero n less = ap some (omega arith)
value_by (suc k) n less = go (value_by k (n / 10)) (ltb n 10) refl
  where
    go
        : (n / 10 < tens k → value_from 0 (digits_by k (n / 10)) ≡ some (n / 10))
        → (b : Bool)
        → ltb n 10 ≡ b
        → value_from 0 (cond b ((zero_digit + n) ∷ []) (digits_by k (n / 10) ++ ((zero_digit + n % 10) ∷ []))) ≡ some n
    go front true e = value_digit 0 n (ltb-true n 10 e) ∙ ap some (omega arith)
    go front false e =
        value_append (digits_by k (n / 10)) ((zero_digit + n % 10) ∷ []) 0 (n / 10) (front (omega arith))
        ∙ value_digit (n / 10) (n % 10) (omega arith)
        ∙ ap some (omega arith)

-- its digits are a word
digits-solid : (k n : ℕ) → Solid (digits_by k n)
unfolding digits_by
digits-solid zero n = tt
digits-solid (suc k) n = go (digits-solid k (n / 10)) (ltb n 10)
  where
    go : Solid (digits_by k (n / 10)) → (b : Bool) → Solid (cond b ((zero_digit + n) ∷ []) (digits_by k (n / 10) ++ ((zero_digit + n % 10) ∷ [])))
    go front true = (omega arith, tt)
    go front false = solid_append (digits_by k (n / 10)) ((zero_digit + n % 10) ∷ []) front (omega arith, tt)

some_digit : (k n : ℕ) → IsWord (digits_by (suc k) n)
unfolding digits_by
some_digit k n = go (ltb n 10)
  where
    go : (b : Bool) → IsWord (cond b ((zero_digit + n) ∷ []) (digits_by k (n / 10) ++ ((zero_digit + n % 10) ∷ [])))
    go true = (omega arith, tt)
    go false = word_snoc (digits_by k (n / 10)) (zero_digit + n % 10) (digits-solid k (n / 10)) (omega arith)

pub digits_word : (n : ℕ) → IsWord (digits n)
digits_word n = some_digit 8 n

word_some : (w : List ℕ) → IsWord w → length w ≡ 0 → ⊥
word_some [] a e = a
word_some (c ∷ w) a e = omega arith

-- no number of a plan is as large
abbrev pub max_number : ℕ
max_number = 100000000

pub digits_value : (n : ℕ) → n ≤ max_number → decimal_value (digits n) ≡ some n
digits_value n most =
    sym (value-same (digits n))
    ∙ value_whole largest (digits n) (word_some (digits n) (digits_word n))
    ∙ ap capped_option (value_by 9 n (omega arith))
    ∙ ap some (capped_same largest n (omega arith))
