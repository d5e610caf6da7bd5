-- The numbers of a burst stay small, and its frames case by case.
use Rattle.std.specs.Prelude.{◌≡◌, Bool, true, false, ◌&&◌, ◌⊎◌, [], ◌∷◌, ℕ, suc, ◌+◌, ◌-◌, ◌*◌, ◌/◌, ◌≤◌, ◌<◌}
use Rattle.std.proofs.Math.Path.{refl, sym, ap, ap₂}
use Rattle.std.proofs.Common.{◌∙◌, inl, inr, zero-le, le_trans, mul-le-mul, div-le_self, arith, lt-ltb, le-ltb, leb-true}
use Rattle.std.proofs.Math.Bool.{cond, and-eq-true_iff}
use Rattle.std.proofs.Math.Option.{Option, none, some}
use Rattle.std.proofs.Math.Decide.{dec_lt}
use lib.ListN.{length}
use lib.Dec.{leb, ltb}
use Rattle.cqf.specs.Bounded.{within, elem}
use Rattle.cqf.specs.Limits.{flow_slots, route_stride, port_ok, flow_ok, max_top, max_hops, max_period, max_count}
use Rattle.cqf.specs.Overflow.{most_widened, most_begun}
use Rattle.cqf.specs.Plan.{Plan, period_of, count_of, jitter_of, hops_of, route_of, present, crosses, valid_plan}
use Rattle.cqf.specs.Widened.{widened_by, widened}
use Rattle.cqf.specs.Condition.{frames_by, frames}
use Rattle.emissions.specs.BadEmission.{hop_on, hop, latest_hop, burst_cycle, burst_frames, burst_instant}
use Rattle.cqf.proofs.laws.Bounded.{lowest_le}
use Rattle.cqf.proofs.laws.Bounds.{max_to-least}
use Rattle.cqf.proofs.laws.Lists.{sublist_length}
use Rattle.cqf.proofs.laws.Valid.{Empty, Held, slot_cases, present_held}
use Rattle.cqf.proofs.laws.Begun.{begun_most, widened_most}
use Rattle.cqf.proofs.laws.Demand.{frames_by_lem}
use Rattle.cqf.proofs.laws.Ranges.{top_most, drift_most, timing_most}
use Rattle.answers.specs.Answer.{result, refusal}
use Rattle.answers.specs.Refusals.{bad_duration, no_plan_held, not_crossed, absent_flow}
use Rattle.emissions.specs.Burst.{Burst, burst, burst_answer}
use Rattle.emissions.specs.laws.Hops.{late, latest_of, hop_holds, hop_misses}

pub nominal_most : (k count period : ℕ) → k ≤ max_count * most_begun → period ≤ max_period → k / count * period ≤ max_count * most_begun * max_period
nominal_most k count period few short = mul-le-mul (le_trans (div-le_self k count) few) short

pub start_most : (cycle duration : ℕ) → cycle ≤ max_hops → duration ≤ max_top → cycle * duration ≤ max_hops * max_top
start_most cycle duration early short = mul-le-mul early short

pub at_frame : (k frames : ℕ) {t u : ℕ} → k < frames → t ≡ u → some t ≡ cond (ltb k frames) (some u) none
at_frame k frames {u = u} l e = ap some e ∙ sym (ap (λ (b : Bool). cond b (some u) none) (lt-ltb k frames l))

pub past-frames : (k frames u : ℕ) → frames ≤ k → none ≡ cond (ltb k frames) (some u) none
past-frames k frames u l = sym (ap (λ (b : Bool). cond b (some u) none) (le-ltb k frames l))

-- what stands only where a number is below another
pub here : (a b n : ℕ) → a < b → n ≡ cond (ltb a b) n 0
here a b n l = sym (ap (λ (x : Bool). cond x n 0) (lt-ltb a b l))

pub not_here : (a b n : ℕ) → b ≤ a → 0 ≡ cond (ltb a b) n 0
not_here a b n l = sym (ap (λ (x : Bool). cond x n 0) (le-ltb a b l))

module _ (p : Plan) (valid : valid_plan p ≡ true) where
  -- the ranges that the parts lean on
  pub hops_within : (f : ℕ) → f < flow_slots → hops_of p f ≤ max_hops
  hops_within f l = go (slot_cases p valid f l)
    where
      go : Empty p f ⊎ Held p f → hops_of p f ≤ max_hops
      go (inl e) = omega (arith, e.hops)
      go (inr h) = h.hops_most

  pub over_fits : (T : ℕ) → T ≤ p.top → widened_by p.clock T ≤ most_widened
  over_fits T l = widened_most p.clock T (omega (arith, top_most p valid, l)) (drift_most p valid) (timing_most p valid)

  is_present : (f : ℕ) → f < flow_slots → 0 < period_of p f → present p f ≡ true
  is_present f l there = (and-eq-true_iff _ _).1 (lt-ltb f flow_slots l, lt-ltb 0 (period_of p f) there)

  pub flow_held : (f : ℕ) → f < flow_slots → 0 < period_of p f → Held p f
  flow_held f l there = present_held p valid f (is_present f l there)

  pub frames_few
      : (f over : ℕ)
      → Held p f
      → over ≤ most_widened
      → frames_by (count_of p f) over (jitter_of p f) (period_of p f) ≤ max_count * most_begun
  frames_few f over h fits = mul-le-mul h.count_most (begun_most over (jitter_of p f) fits h.jitter_most h.period_least)

  late_most : (q f : ℕ) → f < flow_slots → late p q f ≤ max_hops
  late_most q f l = go (elem (suc q) (route_of p f))
    where
      go : (b : Bool) → cond b (hop_on (route_of p f) q) 0 ≤ max_hops
      go true = omega (arith, lowest_le (length (route_of p f)) (λ i. lib.Dec.eqb (lib.ListN.get_or (route_of p f) i 0) (suc q)), sublist_length p.routes (f * route_stride) (hops_of p f), hops_within f l)
      go false = zero-le

  pub latest_most : (q : ℕ) → latest_hop p q ≤ max_hops
  latest_most q = rw (latest_of p q) (max_to-least flow_slots (late p q) max_hops (λ f l. late_most q f l))

  module _ (T q f : ℕ) where
    pub cycle_is : {latest at cycle : ℕ} → latest ≡ latest_hop p q → at ≡ hop_on (route_of p f) q → cycle ≡ latest - at → cycle ≡ burst_cycle p q f
    unfolding burst_cycle hop
    cycle_is {latest} {at} {cycle} e d is = is ∙ ap₂ (λ (a b : ℕ). a - b) e d

    pub brought_is
        : {over brought : ℕ}
        → over ≡ widened_by p.clock T
        → brought ≡ frames_by (count_of p f) over (jitter_of p f) (period_of p f)
        → brought ≡ frames p f T
    unfolding widened
    brought_is e d = d ∙ ap (λ (n : ℕ). frames_by (count_of p f) n (jitter_of p f) (period_of p f)) e ∙ sym (frames_by_lem p f T)

    crosses_is : (at : ℕ) → at ≡ hop_on (route_of p f) q → ltb at (hops_of p f) ≡ crosses p f q
    crosses_is at e = go (dec_lt at (hops_of p f))
      where
        long : length (route_of p f) ≡ hops_of p f
        long = sublist_length p.routes (f * route_stride) (hops_of p f)

        go : Dec (at < hops_of p f) → ltb at (hops_of p f) ≡ crosses p f q
        go (yes l) = lt-ltb at (hops_of p f) l ∙ sym (hop_holds (route_of p f) q (omega (arith, e, long)))
        go (no n) = le-ltb at (hops_of p f) (omega arith) ∙ sym (hop_misses (route_of p f) q (λ l. n (omega (arith, e, long, l))))

    pub frames_is
        : f < flow_slots
        → 0 < period_of p f
        → {at brought many : ℕ}
        → at ≡ hop_on (route_of p f) q
        → brought ≡ frames p f T
        → many ≡ cond (ltb at (hops_of p f)) brought 0
        → many ≡ burst_frames p T q f
    unfolding burst_frames
    frames_is l there {at} e d is =
        is
        ∙ ap₂ (λ (b : Bool) (n : ℕ). cond b n 0) (crosses_is at e) d
        ∙ sym (ap (λ (b : Bool). cond (b && crosses p f q) (frames p f T) 0) (is_present f l there))

    pub burst_is
        : (k : ℕ) {cycle many : ℕ} {instant : Option ℕ}
        → cycle ≡ burst_cycle p q f
        → many ≡ burst_frames p T q f
        → instant ≡ cond (ltb k many) (some (cycle * T + (k / count_of p f * period_of p f - jitter_of p f))) none
        → record { cycle = cycle; frames = many; instant = instant } ≡ burst p T q f k
    unfolding burst burst_instant
    burst_is k {cycle} {many} c n i =
        let told : ℕ → ℕ → Option ℕ → Burst = λ a b x. record { cycle = a; frames = b; instant = x } in
        ap (told cycle many) i
        ∙ ap₂ (λ (a b : ℕ). told a b (cond (ltb k b) (some (a * T + (k / count_of p f * period_of p f - jitter_of p f))) none)) c n

-- the answer case by case
module _ (p : Plan) (T port flow k : ℕ) where
  answer_is
      : burst_answer p T port flow k
      ≡ cond (valid_plan p)
      (cond (within 1 p.top T)
      (cond (port_ok port)
      (cond (flow_ok flow && ltb 0 (period_of p (flow - 1)))
      (result (burst p T (port - 1) (flow - 1) k))
      (refusal absent_flow (0 ∷ [])))
      (refusal not_crossed (0 ∷ [])))
      (refusal bad_duration (0 ∷ [])))
      (refusal no_plan_held (0 ∷ []))
  unfolding burst_answer
  answer_is = refl

  pub burst-none : valid_plan p ≡ false → burst_answer p T port flow k ≡ refusal no_plan_held (0 ∷ [])
  burst-none e = answer_is ∙ rw e

  module _ (valid : valid_plan p ≡ true) where
    pub burst_out : within 1 p.top T ≡ false → burst_answer p T port flow k ≡ refusal bad_duration (0 ∷ [])
    burst_out e = answer_is ∙ rw (valid, e)

    module _ (ranged : within 1 p.top T ≡ true) where
      pub burst-port : port_ok port ≡ false → burst_answer p T port flow k ≡ refusal not_crossed (0 ∷ [])
      burst-port e = answer_is ∙ rw (valid, ranged, e)

      module _ (ported : port_ok port ≡ true) where
        pub burst_absent : flow_ok flow && ltb 0 (period_of p (flow - 1)) ≡ false → burst_answer p T port flow k ≡ refusal absent_flow (0 ∷ [])
        burst_absent e = answer_is ∙ rw (valid, ranged, ported, e)

        pub burst-found : flow_ok flow && ltb 0 (period_of p (flow - 1)) ≡ true → burst_answer p T port flow k ≡ result (burst p T (port - 1) (flow - 1) k)
        burst-found e = answer_is ∙ rw (valid, ranged, ported, e)

pub kept_most : (a b n m : ℕ) → n ≤ m → cond (ltb a b) n 0 ≤ m
kept_most a b n m l = go (ltb a b)
  where
    go : (x : Bool) → cond x n 0 ≤ m
    go true = l
    go false = zero-le

pub within_low : (lo hi n : ℕ) → within lo hi n ≡ true → lo ≤ n
within_low lo hi n e = leb-true lo n ((and-eq-true_iff (leb lo n) (leb n hi)).0 e).0

pub within_high : (lo hi n : ℕ) → within lo hi n ≡ true → n ≤ hi
within_high lo hi n e = leb-true n hi ((and-eq-true_iff (leb lo n) (leb n hi)).0 e).1
