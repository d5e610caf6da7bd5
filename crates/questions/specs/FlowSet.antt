-- The flows that cross a port as a set of 256 bits in four numbers, and what the flows of a set bring.
use Rattle.std.specs.Prelude.{◌≡◌, Bool, true, cond, List, ℕ, suc, ◌+◌, ◌*◌, ◌/◌, ◌%◌, ◌^◌, ◌≤◌, ◌<◌, eqb, get_or}
use Rattle.cqf.specs.Bounded.{sum_to, elem, sublist}
use Rattle.cqf.specs.Limits.{route_stride, min_period, max_period, max_count, max_length, max_jitter}
use Rattle.cqf.specs.Port.{bits_of}
use Rattle.cqf.specs.Condition.{frames_by}
use Rattle.questions.specs.Failing.{set_to}
use Rattle.questions.specs.declared.flow_set.FlowSet.{FlowSet}

-- flows in one number of the set
abbrev pub word_slots : ℕ
word_slots = 64

-- whether bit i of a number is 1
abbrev pub bit_at : ℕ → ℕ → Bool
bit_at word i = eqb (word / 2 ^ i % 2) 1

-- the flows from slot base on that cross the port in slot q: bit i for the flow in slot base + i
abbrev pub flow_word : (hops routes : List ℕ) (q base : ℕ) → ℕ
flow_word hops routes q base =
    set_to word_slots (λ i. elem (suc q) (sublist routes ((base + i) * route_stride) (get_or hops (base + i) 0)))

-- the set of all flows that cross it
pub record Crossing (hops routes : List ℕ) (q : ℕ) (set : FlowSet) : Type 0 where
  pub first : set.first ≡ flow_word hops routes q 0
  pub second : set.second ≡ flow_word hops routes q 64
  pub third : set.third ≡ flow_word hops routes q 128
  pub fourth : set.fourth ≡ flow_word hops routes q 192

-- what the flow in slot f brings to a port over a length, in bits
abbrev pub flow_bits : (periods counts lengths jitters : List ℕ) (extra over : ℕ) → ℕ → ℕ
flow_bits periods counts lengths jitters extra over f =
    frames_by (get_or counts f 0) over (get_or jitters f 0) (get_or periods f 0) * bits_of (get_or lengths f 0) extra

-- what the flows of one number bring, each by the given function, and those of the set
unfoldable pub word_bits : (ℕ → ℕ) → (word base : ℕ) → ℕ
word_bits g word base = sum_to word_slots (λ i. cond (bit_at word i) (g (base + i)) 0)

unfoldable pub set_bits : (ℕ → ℕ) → FlowSet → ℕ
set_bits g set = word_bits g set.first 0 + word_bits g set.second 64 + word_bits g set.third 128 + word_bits g set.fourth 192

-- the flow in slot f has numbers that can be counted with
pub record Countable (periods counts lengths jitters : List ℕ) (f : ℕ) : Type 0 where
  pub period_least : min_period ≤ get_or periods f 0
  pub period_most : get_or periods f 0 ≤ max_period
  pub count_most : get_or counts f 0 ≤ max_count
  pub bytes_most : get_or lengths f 0 ≤ max_length
  pub jitter_most : get_or jitters f 0 ≤ max_jitter

-- each flow of a number, and of a set, has
abbrev pub WordCountable : (periods counts lengths jitters : List ℕ) (word base : ℕ) → Type 0
WordCountable periods counts lengths jitters word base =
    (i : ℕ) → i < word_slots → bit_at word i ≡ true → Countable periods counts lengths jitters (base + i)

pub record SetCountable (periods counts lengths jitters : List ℕ) (set : FlowSet) : Type 0 where
  pub first : WordCountable periods counts lengths jitters set.first 0
  pub second : WordCountable periods counts lengths jitters set.second 64
  pub third : WordCountable periods counts lengths jitters set.third 128
  pub fourth : WordCountable periods counts lengths jitters set.fourth 192
