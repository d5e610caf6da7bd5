-- Plan K of document 01 as tables, its numbers worked out, and an emission on each side of the theorem.
use Rattle.std.specs.Prelude.{◌≡◌, refl, [], ◌∷◌, map, Bool, true, false, ℕ, zero, suc, ◌+◌, ◌≤◌, ◌<◌, set, length, get_or, eqb}
use Rattle.std.proofs.Common.{ap, true≢false, arith, lit≤}
use Rattle.cqf.specs.Bounded.{sum_to, count_to, any_to, all_to, elem, distinct, every, sublist}
use Rattle.cqf.specs.Limits.{route_stride}
use Rattle.cqf.specs.Plan.{Plan, no_plan, route_of, present, period_of, count_of, valid_plan, valid_port, valid_flow}
use Rattle.cqf.specs.Ceil.{ceil_div}
use Rattle.cqf.specs.Port.{wire_bits, window, capacity, workload}
use Rattle.cqf.specs.Widened.{widened}
use Rattle.cqf.specs.Condition.{begun, frames, demand, failing}
use Rattle.cqf.specs.Emission.{Emission, Keeps}
use Rattle.cqf.specs.Cycles.{cycles_of, aligned}
use Rattle.cqf.specs.Run.{Places, source, advance, Network, running, stopped, run, overrun_at, Leaves}
use Rattle.cqf.specs.LargeEnough.{Counterexample}
use Rattle.cqf.proofs.laws.Prefix.{blank_from}
use Rattle.cqf.proofs.laws.Few.{Few, few, few_of, demand_in, fails_in, failing_in, demand-few, failing-few}
use Rattle.cqf.proofs.laws.FewValid.{valid_in, valid_few}
use Rattle.cqf.proofs.laws.FewRun.{queued_in, overrun_in, run_in, run-few}

unfoldable pub plan_k : Plan
unfolding no_plan
plan_k =
    record {
      guard = 1000;
      top = 1000000;
      clock = no_plan.clock;
      rates = set no_plan.rates 0 100;
      blockings = no_plan.blockings;
      extras = no_plan.extras;
      periods = set (set no_plan.periods 0 100000) 1 110000;
      counts = set (set no_plan.counts 0 1) 1 1;
      lengths = set (set no_plan.lengths 0 230) 1 605;
      jitters = no_plan.jitters;
      hops = set (set no_plan.hops 0 1) 1 1;
      routes = set (set no_plan.routes 0 1) route_stride 1;
    }

-- K with port 2 added: rate 1, blocking frame of 2,000 bytes, crossed by no flow
plan_k2 : Plan
unfolding plan_k
plan_k2 =
    record {
      guard = plan_k.guard;
      top = plan_k.top;
      clock = plan_k.clock;
      rates = set plan_k.rates 1 1;
      blockings = set plan_k.blockings 1 2000;
      extras = plan_k.extras;
      periods = plan_k.periods;
      counts = plan_k.counts;
      lengths = plan_k.lengths;
      jitters = plan_k.jitters;
      hops = plan_k.hops;
      routes = plan_k.routes;
    }

-- one port and two flows, in the first slots
pub few_k : Few 1 2 plan_k
unfolding plan_k no_plan few all_to every sublist blank_from
few_k = few_of 1 2 plan_k refl

-- the rules accept K
valid_k : valid_plan plan_k ≡ true
unfolding plan_k no_plan valid_in valid_port valid_flow all_to any_to every distinct elem sublist
valid_k = valid_few few_k

-- wire bits 2,000 and 5,000
bits : map (λ (f : ℕ). wire_bits plan_k f 0) (0 ∷ 1 ∷ []) ≡ 2000 ∷ 5000 ∷ []
unfolding plan_k no_plan wire_bits
bits = refl

-- one frame of each flow at 100,000; two of the first at 100,001 and at 110,000; two of each at 110,001
brought : map (λ (T : ℕ). demand plan_k 0 T) (100000 ∷ 100001 ∷ 110000 ∷ 110001 ∷ []) ≡ 7000 ∷ 9000 ∷ 9000 ∷ 14000 ∷ []
unfolding plan_k no_plan demand_in sum_to elem sublist frames begun widened ceil_div wire_bits
brought = simp (demand-few few_k)

-- two guard bands, and no window below them
windows : map (λ (T : ℕ). window plan_k T) (1000 ∷ 2000 ∷ 72000 ∷ []) ≡ 0 ∷ 0 ∷ 70000 ∷ []
unfolding plan_k window
windows = refl

-- a port more
few_k2 : Few 2 2 plan_k2
unfolding plan_k2 plan_k no_plan few all_to every sublist blank_from
few_k2 = few_of 2 2 plan_k2 refl

-- how many ports fail, without and with the port that no flow crosses
failures
    : (map (λ (T : ℕ). failing plan_k T) (71999 ∷ 72000 ∷ 110001 ∷ 142000 ∷ []) ≡ 1 ∷ 0 ∷ 1 ∷ 0 ∷ [])
    × (map (λ (T : ℕ). failing plan_k2 T) (71999 ∷ 72000 ∷ 110001 ∷ 142000 ∷ []) ≡ 1 ∷ 0 ∷ 1 ∷ 0 ∷ [])
unfolding plan_k2 plan_k no_plan failing_in count_to fails_in any_to elem sublist capacity window workload demand_in sum_to frames begun widened ceil_div wire_bits
failures = (simp (failing-few few_k), simp (failing-few few_k2))

-- both flows of K emit at the cycle's start and once more as soon as they may
unfoldable pub early : Emission
early zero = 0 ∷ 100000 ∷ []
early (suc zero) = 0 ∷ 110000 ∷ []
early (suc (suc f)) = []

pub early_absent : (f : ℕ) → present plan_k f ≡ false → early f ≡ []
unfolding plan_k no_plan early
early_absent zero h = absurd (true≢false h)
early_absent (suc zero) h = absurd (true≢false h)
early_absent (suc (suc f)) h = refl

-- the other slots emit nothing
pub early-few : (T f : ℕ) → 2 ≤ f → length (cycles_of T early f) ≡ 0
unfolding early
early-few T zero l = absurd (omega arith)
early-few T (suc zero) l = absurd (omega arith)
early-few T (suc (suc f)) l = refl

pub early-rising : (f k : ℕ) → suc k < length (early f) → get_or (early f) k 0 ≤ get_or (early f) (suc k) 0
unfolding early
early-rising zero zero h = lit≤ tt
early-rising zero (suc k) h = absurd (omega arith)
early-rising (suc zero) zero h = lit≤ tt
early-rising (suc zero) (suc k) h = absurd (omega arith)
early-rising (suc (suc f)) k h = absurd (omega arith)

pub early-spaced
    : (f k : ℕ)
    → k + count_of plan_k f < length (early f)
    → get_or (early f) k 0 + period_of plan_k f ≤ get_or (early f) (k + count_of plan_k f) 0
unfolding plan_k no_plan early
early-spaced zero zero h = lit≤ tt
early-spaced zero (suc k) h = absurd (omega arith)
early-spaced (suc zero) zero h = lit≤ tt
early-spaced (suc zero) (suc k) h = absurd (omega arith)
early-spaced (suc (suc f)) k h = absurd (omega arith)

early_keeps : Keeps plan_k early
early_keeps =
    record {
      absent = early_absent;
      rising = early-rising;
      nominal = λ f k. get_or (early f) k 0;
      released = λ f k _. (omega arith, omega arith);
      spaced = early-spaced;
    }

-- a run of it, by the two flows that there are
runs : (T c : ℕ) → run plan_k T (cycles_of T early) c ≡ run_in 2 plan_k T (cycles_of T early) c
runs T = run-few plan_k T (cycles_of T early) (lit≤ tt) (early-few T)

-- at 120,000 all four frames fall into cycle 0, and port 1 cannot send them in cycle 1
broken : Counterexample plan_k 120000
unfolding plan_k no_plan early run_in overrun_in queued_in overrun_at any_to sum_to count_to sublist window wire_bits
broken =
    record {
      emission = early;
      keeps = early_keeps;
      cycles = cycles_of 120000 early;
      permitted = aligned refl (λ f. refl);
      overruns = record { cycle = 2; unsent = runs 120000 2 };
    }

-- at 72,000, where the slack is 0, port 1 sends just as much as it can in cycles 1 and 2
is_running : Network → Bool
is_running (running places) = true
is_running stopped = false

filled-window : is_running (run plan_k 72000 (cycles_of 72000 early) 3) ≡ true
unfolding is_running plan_k no_plan early run_in overrun_in queued_in overrun_at any_to sum_to count_to sublist window wire_bits
filled-window = ap is_running (runs 72000 3)

-- where the frames are when cycle c of 100,000 starts
places_at : ℕ → Places
places_at zero f k = source
places_at (suc c) f k = advance (eqb (get_or (cycles_of 100000 early f) k 0) c) (route_of plan_k f) (places_at c f k)

abbrev GoesOn : ℕ → Type 0
GoesOn c = run plan_k 100000 (cycles_of 100000 early) c ≡ running (places_at c)

goes_on_K : GoesOn 1 × GoesOn 2 × GoesOn 3
unfolding places_at plan_k no_plan early run_in overrun_in queued_in overrun_at any_to sum_to count_to sublist window wire_bits
goes_on_K = (runs 100000 1, runs 100000 2, runs 100000 3)

-- at 100,000 the same frames fall into cycles 0 and 1, and each leaves port 1 in the cycle after its own
leaving : (f k c : ℕ) → Type 0
leaving f k c = Leaves plan_k 100000 (cycles_of 100000 early) f k c

kept : leaving 0 0 1 × leaving 1 0 1 × leaving 0 1 2 × leaving 1 1 2
unfolding leaving places_at plan_k no_plan early sublist
kept = (
  record { before = places_at 1; after = places_at 2; starts = goes_on_K.0; ends = goes_on_K.1; there = refl; left = refl },
  record { before = places_at 1; after = places_at 2; starts = goes_on_K.0; ends = goes_on_K.1; there = refl; left = refl },
  record { before = places_at 2; after = places_at 3; starts = goes_on_K.1; ends = goes_on_K.2; there = refl; left = refl },
  record { before = places_at 2; after = places_at 3; starts = goes_on_K.1; ends = goes_on_K.2; there = refl; left = refl },
)
