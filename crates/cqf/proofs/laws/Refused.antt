-- A duration at which a port fails has a counterexample: the emission of that port leaves a frame unsent.
use Rattle.std.specs.Prelude.{◌≡◌, refl, true, false, ℕ, suc, ◌-◌, ◌*◌, ◌≤◌, ◌<◌}
use Rattle.std.proofs.Common.{le_trans, arith}
use Rattle.cqf.specs.Limits.{port_slots, flow_slots, max_hops, route_stride}
use Rattle.cqf.specs.Plan.{Plan, hops_of, crosses, valid_plan}
use Rattle.cqf.specs.Condition.{frames, fails, admissible}
use Rattle.cqf.specs.Emission.{NominalsInOrder}
use Rattle.cqf.specs.Run.{Places, Network, running, stopped, run, overrun, overrun_at, queued_bits, Overruns}
use Rattle.cqf.specs.LargeEnough.{Counterexample}
use Rattle.cqf.proofs.laws.Bounded.{any_to_some}
use Rattle.cqf.proofs.laws.Lists.{sublist_length}
use Rattle.cqf.proofs.laws.Valid.{crosses_held}
use Rattle.cqf.proofs.laws.Condition.{some_fails, overrun-at}
use Rattle.cqf.proofs.laws.Places.{run-stops}
use Rattle.cqf.proofs.laws.Sending.{queued_of, emitted_queued, bits_least}
use Rattle.cqf.proofs.laws.Worst.{hop, hop-at, worst, chosen, worst_keeps, worst_ordered, chosen_permitted, worst_emitted}

module _ (p : Plan) (valid : valid_plan p ≡ true) (T : ℕ) (long : 0 < T) (q : ℕ) where
  -- so where the run gets to the cycle after the longest route, each of those flows has its frames queued at the port
  worst_queued
      : (places : Places)
      → run p T (chosen p T q) (suc max_hops) ≡ running places
      → (f : ℕ)
      → f < flow_slots
      → crosses p f q ≡ true
      → frames p f T ≤ queued_of (chosen p T q) places f q
  worst_queued places goes f l h =
      let at = hop-at p q f h in
      let flow = crosses_held p valid f q l h in
      le_trans
      (worst_emitted p valid T long q f l h)
      (emitted_queued
      p
      T
      (chosen p T q)
      (suc max_hops)
      places
      goes
      f
      q
      (hop p q f)
      (max_hops - hop p q f)
      at.0
      at.1
      (omega (arith, at.0, sublist_length p.routes (f * route_stride) (hops_of p f), flow.hops_most)))

  module _ (slot : q < port_slots) (failed : fails p T q ≡ true) where
    -- and the port leaves a frame unsent
    worst-overrun
        : (places : Places)
        → run p T (chosen p T q) (suc max_hops) ≡ running places
        → overrun p T (chosen p T q) places ≡ true
    unfolding overrun
    worst-overrun places goes =
        let bits = bits_least p T (chosen p T q) (suc max_hops) places goes q (worst_queued places goes) in
        any_to_some
        port_slots
        (λ s. overrun_at p T (queued_bits p (chosen p T q) places s) s)
        q
        slot
        (overrun-at p q T valid long _ failed bits)

    -- there, unless the run has stopped before
    worst_overruns : Overruns p T (chosen p T q)
    worst_overruns = go (run p T (chosen p T q) (suc max_hops)) refl
      where
        go : (n : Network) → run p T (chosen p T q) (suc max_hops) ≡ n → Overruns p T (chosen p T q)
        go stopped e = record { cycle = suc max_hops; unsent = e }
        go (running places) e =
            record {
              cycle = suc (suc max_hops);
              unsent = run-stops p T (chosen p T q) (suc max_hops) places e (worst-overrun places e);
            }

-- a duration that is not admissible has its counterexample, in which the nominal instants never fall either
module _ (p : Plan) (valid : valid_plan p ≡ true) (T : ℕ) (long : 0 < T) (bad : admissible p T ≡ false) where
  pub counterexample : Counterexample p T
  counterexample =
      let s = some_fails p T bad in
      record {
        emission = worst p T s.0;
        keeps = worst_keeps p valid T long s.0;
        cycles = chosen p T s.0;
        permitted = chosen_permitted p valid T long s.0;
        overruns = worst_overruns p valid T long s.0 s.1 s.2;
      }

  pub counterexample_ordered : NominalsInOrder counterexample.keeps
  unfolding counterexample
  counterexample_ordered = worst_ordered p valid T long (some_fails p T bad).0
