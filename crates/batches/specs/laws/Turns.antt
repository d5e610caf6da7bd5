-- Which slot a turn serves, and how far a slot is from the next one.
use Rattle.std.specs.Prelude.{◌≡◌, Bool, true, ℕ, suc, ◌+◌, ◌-◌, ◌%◌, ◌≤◌, ◌<◌}
use Rattle.std.proofs.Math.Path.{sym, ap}
use Rattle.std.proofs.Common.{◌∙◌, true≢false}
use Rattle.std.proofs.Math.Option.{Option, none, some}
use Rattle.std.proofs.Math.Bool.{false}
use Rattle.std.proofs.lemmas.Bool.{false≢true}
use Rattle.std.proofs.Math.Decide.{dec_lt, dec_le, ℕ_discrete}
use native.Mathlib.Omega.{arith}
use borrow.Author.Tests.{lt-ltb, le-ltb}
use Rattle.cqf.specs.Bounded.{lowest}
use Rattle.cqf.proofs.laws.Bounded.{lowest-passes, lowest_below}
use Rattle.batches.specs.Slot.{is_pending}
use Rattle.batches.specs.Batch.{Batch, slot_count, slot_at, slot_after, serve_answer, served}

-- slot t is the first pending one from the next on, going round
pub record Serves (b : Batch) (t : ℕ) : Type 0 where
  pub offset : ℕ
  pub within : offset < slot_count
  pub is : t ≡ slot_after b offset
  pub pends : is_pending (slot_at b t) ≡ true
  pub passed : (k : ℕ) → k < offset → is_pending (slot_at b (slot_after b k)) ≡ false

abbrev somewhere : ℕ → Option ℕ → ℕ
somewhere d none = d
somewhere d (some t) = t

abbrev is_some : Option ℕ → Bool
is_some none = false
is_some (some t) = true

module _ (b : Batch) where
  test : ℕ → Bool
  test k = is_pending (slot_at b (slot_after b k))

  pub serves_told : (t : ℕ) → serve_answer b ≡ some t → Serves b t
  unfolding serve_answer test
  serves_told t e = go (dec_lt (lowest slot_count test) slot_count)
    where
      go : Dec (lowest slot_count test < slot_count) → Serves b t
      go (yes l) =
          let same : some (slot_after b (lowest slot_count test)) ≡ some t = rw (lt-ltb _ _ l) at e in
          let is : t ≡ slot_after b (lowest slot_count test) = sym (ap (somewhere 0) same) in
          record {
            offset = lowest slot_count test;
            within = l;
            is = is;
            pends = ap (λ s. is_pending (slot_at b s)) is ∙ lowest-passes slot_count test l;
            passed = lowest_below slot_count test;
          }
      go (no l) = let z : none ≡ some t = rw (le-ltb (lowest slot_count test) slot_count (omega arith)) at e in absurd (false≢true (ap is_some z))

  pub serves-none : serve_answer b ≡ none → (k : ℕ) → k < slot_count → is_pending (slot_at b (slot_after b k)) ≡ false
  unfolding serve_answer test
  serves-none e k h = go (dec_lt (lowest slot_count test) slot_count)
    where
      go : Dec (lowest slot_count test < slot_count) → is_pending (slot_at b (slot_after b k)) ≡ false
      go (yes l) = let z : some (slot_after b (lowest slot_count test)) ≡ none = rw (lt-ltb _ _ l) at e in absurd (true≢false (ap is_some z))
      go (no l) = lowest_below slot_count test k (omega arith)

-- how far slot s is from the next one, going round
abbrev pub gap : Batch → ℕ → ℕ
gap b s = (s + (slot_count - b.next % slot_count)) % slot_count

pub gap_below : (b : Batch) (s : ℕ) → gap b s < slot_count
gap_below b s = omega arith

pub gap_there : (b : Batch) (s : ℕ) → s < slot_count → slot_after b (gap b s) ≡ s
gap_there b s h = omega arith

-- where the slot s is pending, the slot that is served is not past it
pub not_past : (b : Batch) (s t : ℕ) → s < slot_count → is_pending (slot_at b s) ≡ true → (v : Serves b t) → v.offset ≤ gap b s
not_past b s t h pends v = go (dec_le v.offset (gap b s))
  where
    go : Dec (v.offset ≤ gap b s) → v.offset ≤ gap b s
    go (yes l) = l
    go (no l) =
        absurd
        (false≢true
        (sym (v.passed (gap b s) (omega arith))
        ∙ ap (λ k. is_pending (slot_at b k)) (gap_there b s h)
        ∙ pends))

-- a turn of its own puts it last, and a turn of another brings it nearer
pub gap-own : (b : Batch) (s : ℕ) → s < slot_count → gap (served b (some s)) s ≡ slot_count - 1
gap-own b s h = omega arith

-- how far slot a is from the one after slot c: less than d where it is no more than d from c
module _ (a c d : ℕ) where
  ahead : c < a → a < slot_count → a ≤ c + d → (a + (slot_count - suc c % slot_count)) % slot_count < d
  ahead l m n = omega arith

  round : a ≤ c → c < slot_count → a + slot_count ≤ c + d → (a + (slot_count - suc c % slot_count)) % slot_count < d
  round l m n = go (dec_lt (suc c) slot_count)
    where
      go : Dec (suc c < slot_count) → (a + (slot_count - suc c % slot_count)) % slot_count < d
      go (yes k) = let e : suc c % slot_count ≡ suc c = omega arith in rw e (omega arith)
      go (no k) = let e : suc c % slot_count ≡ 0 = omega arith in rw e (omega arith)

nearer
    : (m i d a c : ℕ)
    → m < slot_count
    → i < d
    → d < slot_count
    → c ≡ (m + i) % slot_count
    → a ≡ (m + d) % slot_count
    → (a + (slot_count - suc c % slot_count)) % slot_count < d
nearer m i d a c l near far first second = go (dec_lt (m + i) slot_count) (dec_lt (m + d) slot_count)
  where
    low : m + i < slot_count → c ≡ m + i
    low x = omega arith

    high : (m + i < slot_count → ⊥) → c + slot_count ≡ m + i
    high x = omega arith

    low_far : m + d < slot_count → a ≡ m + d
    low_far x = omega arith

    high_far : (m + d < slot_count → ⊥) → a + slot_count ≡ m + d
    high_far x = omega arith

    go : Dec (m + i < slot_count) → Dec (m + d < slot_count) → (a + (slot_count - suc c % slot_count)) % slot_count < d
    go (yes x) (yes y) = ahead a c d (omega (arith, low x, low_far y)) (omega (arith, low_far y)) (omega (arith, low x, low_far y))
    go (yes x) (no y) = round a c d (omega (arith, low x, high_far y)) (omega (arith, low x)) (omega (arith, low x, high_far y))
    go (no x) (yes y) = absurd (omega arith)
    go (no x) (no y) = ahead a c d (omega (arith, high x, high_far y)) (omega (arith, high_far y)) (omega (arith, high x, high_far y))

pub gap_other
    : (b : Batch) (s t i : ℕ)
    → s < slot_count
    → i < slot_count
    → t ≡ slot_after b i
    → i ≤ gap b s
    → (t ≡ s → ⊥)
    → gap (served b (some t)) s < gap b s
gap_other b s t i h l is near other =
    let again : suc t % slot_count % slot_count ≡ suc t % slot_count = omega arith in
    rw again
    (nearer
    (b.next % slot_count)
    i
    (gap b s)
    s
    t
    (omega arith)
    (before (ℕ_discrete i (gap b s)))
    (gap_below b s)
    (is ∙ from i)
    (sym (gap_there b s h) ∙ from (gap b s)))
  where
    from : (k : ℕ) → slot_after b k ≡ (b.next % slot_count + k) % slot_count
    from k = omega arith

    before : Dec (i ≡ gap b s) → i < gap b s
    before (yes e) = absurd (other (is ∙ ap (slot_after b) e ∙ gap_there b s h))
    before (no e) = omega arith

-- the slot that a turn serves, by the first offset that is pending; and none
module _ (b : Batch) where
  pub serves_first
      : (i : ℕ)
      → i < slot_count
      → ((k : ℕ) → k < i → is_pending (slot_at b (slot_after b k)) ≡ false)
      → is_pending (slot_at b (slot_after b i)) ≡ true
      → serve_answer b ≡ some (slot_after b i)
  unfolding serve_answer test
  serves_first i h before pends =
      let same : lowest slot_count (test b) ≡ i = go (dec_lt (lowest slot_count (test b)) i) (dec_lt i (lowest slot_count (test b))) in
      rw (same, lt-ltb i slot_count h)
    where
      go : Dec (lowest slot_count (test b) < i) → Dec (i < lowest slot_count (test b)) → lowest slot_count (test b) ≡ i
      go (yes l) _ = absurd (false≢true (sym (before _ l) ∙ lowest-passes slot_count (test b) (omega arith)))
      go (no l) (yes m) = absurd (false≢true (sym (lowest_below slot_count (test b) i m) ∙ pends))
      go (no l) (no m) = omega arith

  pub serves_idle : ((k : ℕ) → k < slot_count → is_pending (slot_at b (slot_after b k)) ≡ false) → serve_answer b ≡ none
  unfolding serve_answer test
  serves_idle before = go (dec_lt (lowest slot_count (test b)) slot_count)
    where
      go : Dec (lowest slot_count (test b) < slot_count) → serve_answer b ≡ none
      go (yes l) = absurd (false≢true (sym (before _ l) ∙ lowest-passes slot_count (test b) l))
      go (no l) = rw (le-ltb (lowest slot_count (test b)) slot_count (omega arith))
