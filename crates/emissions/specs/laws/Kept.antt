-- The bad emission is that of the theorem, moved so that its earliest burst is in cycle 0: so it keeps every contract, and its cycles
-- are permitted.
use Rattle.std.specs.Prelude.{◌≡◌, Bool, ◌&&◌, [], ltb}
use Rattle.std.proofs.Math.Path.{refl, sym, ap}
use Rattle.std.proofs.Common.{◌∙◌, add-mul, not-suc-le-zero, arith, ltb-true}
use Rattle.std.proofs.Math.Bool.{true, false, cond, and-eq-true_iff}
use Prim.Native.Nat.{ℕ, suc, ◌+◌, ◌-◌, ◌*◌, ◌/◌, ◌≤◌, ◌<◌, zero-le}
use Rattle.std.proofs.Math.Nat.{add_assoc}
use Rattle.std.proofs.Math.ListN.{length, get_or, length-map}
use Rattle.cqf.specs.Bounded.{tabulate}
use Rattle.cqf.specs.Limits.{flow_slots, max_hops, route_stride}
use Rattle.cqf.specs.Plan.{Plan, period_of, count_of, jitter_of, hops_of, route_of, present, crosses, valid_plan}
use Rattle.cqf.specs.Condition.{begun, frames}
use Rattle.cqf.specs.Emission.{Keeps}
use Rattle.cqf.specs.Cycles.{Permitted}
use Rattle.cqf.proofs.laws.Bounded.{cond_some}
use Rattle.cqf.proofs.laws.Bounds.{max_to_most, max_to-least}
use Rattle.cqf.proofs.laws.Lists.{sublist_length}
use Rattle.cqf.proofs.laws.Tabulate.{tabulate_length, tabulate-at}
use Rattle.cqf.proofs.laws.Valid.{crosses_held}
use Rattle.cqf.proofs.laws.Burst.{burst, all_in, burst_length, burst-at}
use Rattle.cqf.proofs.laws.Worst as Worst
use Rattle.cqf.proofs.laws.Worst.{worst, chosen, worst_keeps, chosen_permitted}
use Rattle.emissions.specs.BadEmission.{hop, latest_hop, burst_cycle, burst_frames, burst_instant, bad_emission, bad_cycles}
use Rattle.emissions.specs.laws.Moved.{Later, moved_keeps, moved_permitted}

-- where the port stands on a route that has it
pub hop-at
    : (p : Plan) (q f : ℕ)
    → crosses p f q ≡ true
    → (hop p q f < length (route_of p f)) × (get_or (route_of p f) (hop p q f) 0 ≡ suc q)
unfolding hop Worst.hop
hop-at p q f h = Worst.hop-at p q f h

-- it is at most the latest place at which the port stands
pub hop_most : (p : Plan) (q f : ℕ) → f < flow_slots → crosses p f q ≡ true → hop p q f ≤ latest_hop p q
unfolding latest_hop
hop_most p q f l h = rw h at (max_to_most flow_slots (λ f. cond (crosses p f q) (hop p q f) 0) f l)

pub cycle_of_burst : (p : Plan) (q f : ℕ) → burst_cycle p q f ≡ latest_hop p q - hop p q f
unfolding burst_cycle
cycle_of_burst p q f = refl

-- a burst has its frames, all in its cycle
module _ (p : Plan) (T q f : ℕ) where
  pub burst-frames : length (bad_emission p T q f) ≡ burst_frames p T q f
  unfolding bad_emission
  burst-frames = tabulate_length _ _

  pub cycle_frames : length (bad_cycles p T q f) ≡ burst_frames p T q f
  unfolding bad_cycles
  cycle_frames = length-map (bad_emission p T q f) (λ (t : ℕ). burst_cycle p q f) ∙ burst-frames

  instant_at : (k : ℕ) → k < burst_frames p T q f → get_or (bad_emission p T q f) k 0 ≡ burst_instant p T q f k
  unfolding bad_emission
  instant_at k l = tabulate-at _ _ k l

  pub cycle_at : (k : ℕ) → k < burst_frames p T q f → get_or (bad_cycles p T q f) k 0 ≡ burst_cycle p q f
  unfolding bad_cycles
  cycle_at k l = all_in (burst_cycle p q f) (bad_emission p T q f) k (omega (arith, cycle_frames, l))

-- the theorem's emission is later by as many cycles as the latest place is before the longest route's end
module _ (p : Plan) (valid : valid_plan p ≡ true) (T q : ℕ) where
  pub latest_within : latest_hop p q ≤ max_hops
  unfolding latest_hop
  latest_within = max_to-least flow_slots (λ f. cond (crosses p f q) (hop p q f) 0) max_hops (λ f l. go f l (crosses p f q) refl)
    where
      go : (f : ℕ) → f < flow_slots → (b : Bool) → crosses p f q ≡ b → cond b (hop p q f) 0 ≤ max_hops
      go f l true h =
          omega (arith, (hop-at p q f h).0, sublist_length p.routes (f * route_stride) (hops_of p f), (crosses_held p valid f q l h).hops_most)
      go f l false h = zero-le

  worst_length : (f : ℕ) → length (worst p T q f) ≡ burst_frames p T q f
  unfolding worst burst_frames frames
  worst_length f = go (present p f && crosses p f q)
    where
      go
          : (b : Bool)
          → length (cond b (burst ((max_hops - Worst.hop p q f) * T) (begun p f T) (count_of p f) (period_of p f) (jitter_of p f)) [])
          ≡ cond b (count_of p f * begun p f T) 0
      go true = burst_length ((max_hops - Worst.hop p q f) * T) (begun p f T) (count_of p f) (period_of p f) (jitter_of p f)
      go false = refl

  -- a flow with frames crosses the port
  bursts_cross : (f k : ℕ) → k < burst_frames p T q f → (f < flow_slots) × (crosses p f q ≡ true)
  unfolding burst_frames
  bursts_cross f k l =
      let both = (and-eq-true_iff (present p f) (crosses p f q)).0 (cond_some (present p f && crosses p f q) (frames p f T) (omega arith)) in
      (ltb-true f flow_slots ((and-eq-true_iff (ltb f flow_slots) (ltb 0 (period_of p f))).0 both.0).0, both.1)

  same_hop : (f : ℕ) → Worst.hop p q f ≡ hop p q f
  unfolding hop Worst.hop
  same_hop f = refl

  -- its cycle there
  late_cycle : (f k : ℕ) → k < burst_frames p T q f → max_hops - Worst.hop p q f ≡ max_hops - latest_hop p q + burst_cycle p q f
  late_cycle f k l =
      let c = bursts_cross f k l in
      omega (arith, same_hop f, latest_within, hop_most p q f c.0 c.1, cycle_of_burst p q f)

  worst-burst : (f k : ℕ) → k < burst_frames p T q f → get_or (worst p T q f) k 0 ≡ (max_hops - Worst.hop p q f) * T + (k / count_of p f * period_of p f - jitter_of p f)
  unfolding worst
  worst-burst f k l = go (present p f && crosses p f q) (omega (arith, l, worst_length f))
    where
      go
          : (b : Bool)
          → k < length (cond b (burst ((max_hops - Worst.hop p q f) * T) (begun p f T) (count_of p f) (period_of p f) (jitter_of p f)) [])
          → get_or (cond b (burst ((max_hops - Worst.hop p q f) * T) (begun p f T) (count_of p f) (period_of p f) (jitter_of p f)) []) k 0
          ≡ (max_hops - Worst.hop p q f) * T + (k / count_of p f * period_of p f - jitter_of p f)
      go true less = burst-at ((max_hops - Worst.hop p q f) * T) (begun p f T) (count_of p f) (period_of p f) (jitter_of p f) k less
      go false less = absurd (not-suc-le-zero less)

  -- the cycles by which it is later
  abbrev late : ℕ
  late = max_hops - latest_hop p q

  worst-later : Later (late * T) (bad_emission p T q) (worst p T q)
  unfolding burst_instant
  worst-later =
      record {
        each = λ f. worst_length f ∙ sym (burst-frames p T q f);
        at = λ f k l.
            let m : k < burst_frames p T q f = omega (arith, l, burst-frames p T q f) in
            worst-burst f k m
            ∙ ap (λ (c : ℕ). c * T + (k / count_of p f * period_of p f - jitter_of p f)) (late_cycle f k m)
            ∙ ap (λ (t : ℕ). t + (k / count_of p f * period_of p f - jitter_of p f)) (add-mul late (burst_cycle p q f) T)
            ∙ add_assoc (late * T) (burst_cycle p q f * T) (k / count_of p f * period_of p f - jitter_of p f)
            ∙ ap (λ (t : ℕ). late * T + t) (sym (instant_at p T q f k m));
      }

  chosen_length : (f : ℕ) → length (chosen p T q f) ≡ burst_frames p T q f
  unfolding chosen
  chosen_length f = length-map (worst p T q f) (λ (t : ℕ). max_hops - Worst.hop p q f) ∙ worst_length f

  chosen_at : (f k : ℕ) → k < burst_frames p T q f → get_or (chosen p T q f) k 0 ≡ max_hops - Worst.hop p q f
  unfolding chosen
  chosen_at f k l = all_in (max_hops - Worst.hop p q f) (worst p T q f) k (omega (arith, chosen_length f, l))

  chosen-later : Later late (bad_cycles p T q) (chosen p T q)
  chosen-later =
      record {
        each = λ f. chosen_length f ∙ sym (cycle_frames p T q f);
        at = λ f k l.
            let m : k < burst_frames p T q f = omega (arith, l, cycle_frames p T q f) in
            chosen_at f k m ∙ late_cycle f k m ∙ ap (λ (c : ℕ). late + c) (sym (cycle_at p T q f k m));
      }

  bad_absent : (f : ℕ) → present p f ≡ false → bad_emission p T q f ≡ []
  unfolding bad_emission burst_frames tabulate
  bad_absent f h = rw h

  module _ (long : 0 < T) where
    pub bad_keeps : Keeps p (bad_emission p T q)
    bad_keeps = moved_keeps p (late * T) (bad_emission p T q) (worst p T q) worst-later (worst_keeps p valid T long q) bad_absent

    pub bad_permitted : Permitted p T (bad_emission p T q) (bad_cycles p T q)
    bad_permitted =
        moved_permitted p T late long (bad_emission p T q) (worst p T q) (bad_cycles p T q) (chosen p T q) worst-later chosen-later
        (λ f. cycle_frames p T q f ∙ sym (burst-frames p T q f)) (chosen_permitted p valid T long q)
