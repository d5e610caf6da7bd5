-- A gate control list as a reader plays it: each field's states hold for its interval, then those of the next.
use Rattle.std.specs.Prelude.{ℕ, zero, suc, ◌+◌, ◌-◌, ◌*◌, ◌/◌, ◌%◌, ◌<◌, ◌≡◌, List, Bool, true, false, ◌&&◌, ◌||◌, leb, ltb, eqb, length, drop}
use Rattle.std.proofs.Math.Option.{Option, some, none}
use Rattle.plan.specs.Bytes.{byte_at, number4, head_size, tag_at, size_at, whole_at}
use Rattle.gate_lists.specs.GateList.{gate_tag, gate_size, field_size, queues, bit}

-- whether the list begins with a whole field of its kind, its states and its interval, and the fields after it
abbrev pub begins : List ℕ → Bool
begins s = whole_at s 0 && eqb (tag_at s 0) gate_tag && eqb (size_at s 0) gate_size

abbrev pub first_states : List ℕ → ℕ
first_states s = byte_at s head_size

abbrev pub first_interval : List ℕ → ℕ
first_interval s = number4 s (head_size + 1)

abbrev pub others : List ℕ → List ℕ
others s = drop field_size s

-- the gate states t ns after the start of the list; none past its end. The first number bounds how many fields are played: the
-- list's length is enough.
unfoldable pub play_for : ℕ → List ℕ → (t : ℕ) → Option ℕ
unfolding whole_at size_at number4
play_for zero s t = none
play_for (suc n) s t =
    elim (begins s) [
      | true ↦ elim (ltb t (first_interval s)) [ true ↦ some (first_states s) | false ↦ play_for n (others s) (t - first_interval s) ]
      | false ↦ none
    ]

unfoldable pub played_at : List ℕ → ℕ → Option ℕ
unfolding play_for
played_at s t = play_for (length s) s t

-- how long it plays
unfoldable pub total_for : ℕ → List ℕ → ℕ
unfolding whole_at size_at number4
total_for zero s = 0
total_for (suc n) s = elim (begins s) [ true ↦ first_interval s + total_for n (others s) | false ↦ 0 ]

unfoldable pub played : List ℕ → ℕ
unfolding total_for
played s = total_for (length s) s

-- how many fields it has
unfoldable pub count_for : ℕ → List ℕ → ℕ
unfolding whole_at size_at
count_for zero s = 0
count_for (suc n) s = elim (begins s) [ true ↦ suc (count_for n (others s)) | false ↦ 0 ]

unfoldable pub counted : List ℕ → ℕ
unfolding count_for
counted s = count_for (length s) s

-- whether each of its intervals is above 0
unfoldable pub lasts_for : ℕ → List ℕ → Bool
unfolding whole_at size_at number4
lasts_for zero s = true
lasts_for (suc n) s = elim (begins s) [ true ↦ ltb 0 (first_interval s) && lasts_for n (others s) | false ↦ true ]

unfoldable pub each_lasts : List ℕ → Bool
unfolding lasts_for
each_lasts s = lasts_for (length s) s

-- whether a field ends t ns after the start of the list
unfoldable pub ends_for : ℕ → List ℕ → (t : ℕ) → Bool
unfolding whole_at size_at number4
ends_for zero s t = false
ends_for (suc n) s t =
    elim (begins s) [
      | true ↦ eqb t (first_interval s) || (ltb (first_interval s) t && ends_for n (others s) (t - first_interval s))
      | false ↦ false
    ]

unfoldable pub field_ends : List ℕ → (t : ℕ) → Bool
unfolding ends_for
field_ends s t = ends_for (length s) s t

-- whether queue q is open in these states
unfoldable pub is_open : (states q : ℕ) → Bool
unfolding bit
is_open states q = eqb ((states / bit q) % 2) 1

-- At one instant of two cycles of T ns with guard bands of S: each of the two queues is open in the window of its own cycle and
-- at no other instant, so never both; the others are open.
pub record Opens (S T even odd t states : ℕ) : Type 0 where
  pub even_open : is_open states even ≡ leb S t && ltb (t + S) T
  pub odd_open : is_open states odd ≡ leb (T + S) t && ltb (t + S) (2 * T)
  pub never_both : is_open states even && is_open states odd ≡ false
  pub six_open : (q : ℕ) → q < queues → (q ≡ even → ⊥) → (q ≡ odd → ⊥) → is_open states q ≡ true

-- The list is fields and nothing else, and no interval is 0; it plays two cycles, the second begins with a field of its own, and
-- at each of their instants the gates are as `Opens` says.
pub record PlaysTwoCycles (S T even odd : ℕ) (s : List ℕ) : Type 0 where
  pub whole : length s ≡ field_size * counted s
  pub lasts : each_lasts s ≡ true
  pub total : played s ≡ 2 * T
  pub cycle_ends : field_ends s T ≡ true
  pub instants : (t : ℕ) → t < 2 * T → (states : ℕ) × (played_at s t ≡ some states) × Opens S T even odd t states
