-- The set of the flows that cross a port: what they bring is the port's demand.
use Rattle.std.specs.Prelude.{◌≡◌, refl, Bool, true, List, ℕ, zero, suc, ◌+◌, ◌*◌, ◌≤◌, ◌<◌}
use Rattle.std.proofs.Math.Path.{sym, ap, ap₂}
use Rattle.std.proofs.Common.{◌∙◌, le_trans, le_of_eq}
use Rattle.std.proofs.Math.Bool.{cond}
use native.Mathlib.Omega.{arith}
use Rattle.cqf.specs.Bounded.{sum_to}
use Rattle.cqf.specs.Limits.{flow_slots, max_extra}
use Rattle.cqf.specs.Overflow.{most_widened, most_bits, most_demand}
use Rattle.cqf.specs.Plan.{Plan, rate_of, blocking_of, extra_of, crosses, valid_plan}
use Rattle.cqf.specs.Port.{wire_bits}
use Rattle.cqf.specs.Widened.{widened_by, widened}
use Rattle.cqf.specs.Condition.{frames, demand}
use Rattle.cqf.specs.Need.{need_by, need}
use Rattle.cqf.proofs.laws.Demand.{frames_by_lem, share, demand_sum, flow_bits_most}
use Rattle.cqf.proofs.laws.Search.{busy_rate}
use Rattle.questions.specs.FlowSet.{word_slots, bit_at, flow_word, Crossing, flow_bits, word_bits, set_bits, WordCountable, SetCountable}
use Rattle.questions.specs.declared.flow_set.FlowSet.{FlowSet}
use Rattle.questions.specs.laws.Sums.{slot_in_range, crossing_period}
use Rattle.questions.specs.laws.WordBits.{Each, bit_set, sum_to_add, word_most}

-- a sum of the same terms
sum_to_same : (n : ℕ) (g h : ℕ → ℕ) → ((i : ℕ) → i < n → g i ≡ h i) → sum_to n g ≡ sum_to n h
unfolding sum_to
sum_to_same zero g h e = refl
sum_to_same (suc n) g h e = ap₂ (λ (a b : ℕ). a + b) (sum_to_same n g h (λ i l. e i (omega arith))) (e n (omega arith))

-- a sum over all flows, by the numbers of a set
none : (g : ℕ → ℕ) → sum_to 0 g ≡ 0
unfolding sum_to
none g = refl

quarters
    : (g : ℕ → ℕ)
    → sum_to flow_slots g
    ≡ sum_to word_slots (λ i. g (0 + i)) + sum_to word_slots (λ i. g (64 + i)) + sum_to word_slots (λ i. g (128 + i)) + sum_to word_slots (λ i. g (192 + i))
quarters g =
    let first : sum_to 64 g ≡ sum_to 0 g + sum_to 64 (λ i. g (0 + i)) = sum_to_add 0 64 g in
    let second : sum_to 128 g ≡ sum_to 64 g + sum_to 64 (λ i. g (64 + i)) = sum_to_add 64 64 g in
    let third : sum_to 192 g ≡ sum_to 128 g + sum_to 64 (λ i. g (128 + i)) = sum_to_add 128 64 g in
    let fourth : sum_to 256 g ≡ sum_to 192 g + sum_to 64 (λ i. g (192 + i)) = sum_to_add 192 64 g in
    omega (arith, none g)

-- each flow brings no more than the most bits, and the set no more than the largest demand
module _
    {periods counts lengths jitters : List ℕ} {extra over : ℕ}
    (few : extra ≤ max_extra)
    (short : over ≤ most_widened)
  where
    pub countable_each
        : (word base : ℕ)
        → WordCountable periods counts lengths jitters word base
        → Each (flow_bits periods counts lengths jitters extra over) word base most_bits
    countable_each word base h j l e =
        let r = h j l e in
        flow_bits_most over short r.period_least r.count_most r.bytes_most r.jitter_most few

    pub countable_word
        : (word base : ℕ)
        → WordCountable periods counts lengths jitters word base
        → word_bits (flow_bits periods counts lengths jitters extra over) word base ≤ word_slots * most_bits
    countable_word word base h =
        word_most (flow_bits periods counts lengths jitters extra over) word base most_bits (countable_each word base h)

    pub countable_set
        : {set : FlowSet}
        → SetCountable periods counts lengths jitters set
        → set_bits (flow_bits periods counts lengths jitters extra over) set ≤ most_demand
    unfolding set_bits
    countable_set {set} h =
        let a = countable_word set.first 0 h.first in
        let b = countable_word set.second 64 h.second in
        let c = countable_word set.third 128 h.third in
        let d = countable_word set.fourth 192 h.fourth in
        omega arith

module _ (p : Plan) (q : ℕ) {set : FlowSet} (s : Crossing p.hops p.routes q set) where
  -- bit i of a number of it says whether that flow crosses the port
  bit-crosses : {word : ℕ} (base i : ℕ) → word ≡ flow_word p.hops p.routes q base → i < word_slots → bit_at word i ≡ crosses p (base + i) q
  bit-crosses base i e l = ap (λ (w : ℕ). bit_at w i) e ∙ bit_set word_slots (λ i. crosses p (base + i) q) i l

  -- the flows of a valid plan can be counted with
  module _ (valid : valid_plan p ≡ true) where
    countable : {word : ℕ} (base : ℕ) → base + word_slots ≤ flow_slots → word ≡ flow_word p.hops p.routes q base → WordCountable p.periods p.counts p.lengths p.jitters word base
    countable base fits e i l h =
        let slot : base + i < flow_slots = omega arith in
        let r = slot_in_range p valid (base + i) slot in
        record {
          period_least = crossing_period p (slot_in_range p valid) q (base + i) slot (sym (bit-crosses base i e l) ∙ h);
          period_most = r.period_most;
          count_most = r.count_most;
          bytes_most = r.bytes_most;
          jitter_most = r.jitter_most;
        }

    pub crossing_countable : SetCountable p.periods p.counts p.lengths p.jitters set
    crossing_countable =
        record {
          first = countable 0 (omega arith) s.first;
          second = countable 64 (omega arith) s.second;
          third = countable 128 (omega arith) s.third;
          fourth = countable 192 (omega arith) s.fourth;
        }

  -- they bring the port's demand
  module _ (T : ℕ) where
    abbrev brings : ℕ → ℕ
    brings = flow_bits p.periods p.counts p.lengths p.jitters (extra_of p q) (widened_by p.clock T)

    brings_is : (f : ℕ) → brings f ≡ frames p f T * wire_bits p f q
    unfolding widened wire_bits
    brings_is f = ap (λ (n : ℕ). n * wire_bits p f q) (sym (frames_by_lem p f T))

    word_share : {word : ℕ} (base : ℕ) → word ≡ flow_word p.hops p.routes q base → word_bits brings word base ≡ sum_to word_slots (λ i. share p q T (base + i))
    unfolding word_bits
    word_share {word} base e =
        sum_to_same word_slots (λ i. cond (bit_at word i) (brings (base + i)) 0) (λ i. share p q T (base + i))
        (λ i l. ap₂ (λ (x : Bool) (n : ℕ). cond x n 0) (bit-crosses base i e l) (brings_is (base + i)))

    pub crossing_demand : set_bits brings set ≡ demand p q T
    unfolding set_bits
    crossing_demand =
        ap₂ (λ (a b : ℕ). a + b)
        (ap₂ (λ (a b : ℕ). a + b) (ap₂ (λ (a b : ℕ). a + b) (word_share 0 s.first) (word_share 64 s.second)) (word_share 128 s.third))
        (word_share 192 s.fourth)
        ∙ sym (quarters (share p q T))
        ∙ sym (demand_sum p q T)

    -- and so what the port needs, which has a rate where they bring something
    pub crossing_need : need_by p.guard (rate_of p q) (blocking_of p q) (extra_of p q) (set_bits brings set) ≡ need p q T
    unfolding need
    crossing_need = ap (need_by p.guard (rate_of p q) (blocking_of p q) (extra_of p q)) crossing_demand

    pub crossing_served : valid_plan p ≡ true → 0 < set_bits brings set → 0 < rate_of p q
    crossing_served valid l = busy_rate p valid T q (le_trans l (le_of_eq crossing_demand))
