-- Plan K with numbers for its clocks: what is counted over the longer stretch, and an emission that leaves a frame unsent in one
-- partition and not in the aligned cycles.
use Rattle.std.specs.Prelude.{◌≡◌, refl, [], ◌∷◌, map, Bool, true, false, ◌&&◌, ℕ, zero, suc, ◌≤◌, ◌<◌, set, length, get_or}
use Rattle.std.proofs.Common.{ap, arith, lit≤}
use Rattle.cqf.specs.Bounded.{sum_to, count_to, any_to, all_to, elem, distinct, every, sublist}
use Rattle.cqf.specs.Plan.{Plan, no_plan, valid_plan, valid_port, valid_flow}
use Rattle.cqf.specs.Ceil.{ceil_div}
use Rattle.cqf.specs.Port.{wire_bits, window, capacity, workload}
use Rattle.cqf.specs.Widened.{widened}
use Rattle.cqf.specs.Condition.{begun, frames, failing}
use Rattle.cqf.specs.Emission.{Keeps}
use Rattle.cqf.specs.Cycles.{Cycles, cycles_of, Partition, parted}
use Rattle.cqf.specs.Run.{is_gone, Network, running, stopped, run, overrun_at}
use Rattle.cqf.specs.LargeEnough.{Counterexample}
use Rattle.cqf.proofs.laws.Prefix.{blank_from}
use Rattle.cqf.proofs.laws.Few.{Few, few, few_of, demand_in, fails_in, failing_in, failing-few}
use Rattle.cqf.proofs.laws.FewValid.{valid_in, valid_few}
use Rattle.cqf.proofs.laws.FewRun.{queued_in, overrun_in, run_in, run-few}
use Rattle.cqf.proofs.worked.K.{plan_k, early, early-few, early_absent, early-rising, early-spaced}

-- a plan with these three numbers, extra bytes at port 1 and jitter of flow 1 otherwise as K
unfoldable pub plan_kc : (drift timing_jitter_of sync_error_of extra jitter : ℕ) → Plan
unfolding plan_k
plan_kc drift timing sync extra jitter =
    record {
      guard = plan_k.guard;
      top = plan_k.top;
      clock = record { drift = drift; timing_jitter_of = timing; sync_error_of = sync };
      rates = plan_k.rates;
      blockings = plan_k.blockings;
      extras = set plan_k.extras 0 extra;
      periods = plan_k.periods;
      counts = plan_k.counts;
      lengths = plan_k.lengths;
      jitters = set plan_k.jitters 0 jitter;
      hops = plan_k.hops;
      routes = plan_k.routes;
    }

-- its port and its flows stand where K has them
pub few_kc : (drift timing sync extra jitter : ℕ) → Few 1 2 (plan_kc drift timing sync extra jitter)
unfolding plan_kc plan_k no_plan few all_to every sublist blank_from
few_kc drift timing sync extra jitter = few_of 1 2 (plan_kc drift timing sync extra jitter) refl

-- the rules accept it
valid_kc : valid_plan (plan_kc 1000 1000 1000000 0 0) ≡ true
unfolding plan_kc plan_k no_plan valid_in valid_port valid_flow all_to any_to every distinct elem sublist
valid_kc = valid_few (few_kc 1000 1000 1000000 0 0)

-- drift rounded up and timing jitter, or twice the synchronization error
pub widened_lengths
    : (map (widened (plan_kc 100 2 1000 0 0)) (0 ∷ 109987 ∷ 109988 ∷ []) ≡ 2 ∷ 110000 ∷ 110001 ∷ [])
    × (widened (plan_kc 1000 1000 5000 0 0) 109000 ≡ 110109)
    × (widened (plan_kc 1000 1000 40 0 0) 109000 ≡ 109080)
    × (widened (plan_kc 0 0 5000 0 0) 109000 ≡ 109000)
    × (widened (plan_kc 1000 1000 0 0 0) 109000 ≡ 109000)
unfolding plan_kc plan_k no_plan widened ceil_div
widened_lengths = (refl, refl, refl, refl, refl)

-- the window is not widened
windows : window (plan_kc 1000 1000 5000 0 0) 109000 ≡ 107000
unfolding plan_kc plan_k window widened ceil_div
windows = refl

-- how many ports fail
failures
    : map (λ (T : ℕ). failing (plan_kc 100 2 1000 0 0) T) (71999 ∷ 72000 ∷ 109987 ∷ 109988 ∷ 141999 ∷ 142000 ∷ []) ≡ 1 ∷ 0 ∷ 0 ∷ 1 ∷ 1 ∷ 0 ∷ []
unfolding plan_kc plan_k no_plan failing_in count_to fails_in any_to elem sublist capacity window workload demand_in sum_to frames begun widened ceil_div wire_bits
failures = simp (failing-few (few_kc 100 2 1000 0 0))

failures_mixed
    : map (λ (T : ℕ). failing (plan_kc 100 2 1000 32 30000) T)
    (99679 ∷ 99680 ∷ 109987 ∷ 109988 ∷ 152239 ∷ 152240 ∷ 169981 ∷ 169982 ∷ 174799 ∷ 174800 ∷ 219976 ∷ 219977 ∷ 227359 ∷ 227360 ∷ [])
    ≡ 1 ∷ 0 ∷ 0 ∷ 1 ∷ 1 ∷ 0 ∷ 0 ∷ 1 ∷ 1 ∷ 0 ∷ 0 ∷ 1 ∷ 1 ∷ 0 ∷ []
unfolding plan_kc plan_k no_plan failing_in count_to fails_in any_to elem sublist capacity window workload demand_in sum_to frames begun widened ceil_div wire_bits
failures_mixed = simp (failing-few (few_kc 100 2 1000 32 30000))

-- the emission of both flows at the start and once more as soon as they may keeps the contract here too
early_keeps : (drift timing sync : ℕ) → Keeps (plan_kc drift timing sync 0 0) early
unfolding plan_kc plan_k no_plan
early_keeps drift timing sync =
    record {
      absent = early_absent;
      rising = early-rising;
      nominal = λ f k. get_or (early f) k 0;
      released = λ f k _. (omega arith, omega arith);
      spaced = early-spaced;
    }

-- with all four frames in one cycle of 109,000, port 1 cannot send them in the next
together : Cycles
together f = map (λ (t : ℕ). 0) (early f)

together_each : (f : ℕ) → length (together f) ≡ length (early f)
unfolding together early
together_each zero = refl
together_each (suc zero) = refl
together_each (suc (suc f)) = refl

-- of the two flows of K alone
together_few : (f : ℕ) → 2 ≤ f → length (together f) ≡ 0
unfolding together early
together_few zero l = absurd (omega arith)
together_few (suc zero) l = absurd (omega arith)
together_few (suc (suc f)) l = refl

together_rising : (f k : ℕ) → suc k < length (early f) → get_or (together f) k 0 ≤ get_or (together f) (suc k) 0
unfolding together early
together_rising zero zero h = lit≤ tt
together_rising zero (suc k) h = absurd (omega arith)
together_rising (suc zero) zero h = lit≤ tt
together_rising (suc zero) (suc k) h = absurd (omega arith)
together_rising (suc (suc f)) k h = absurd (omega arith)

within_110109 : (f j : ℕ) → j < length (early f) → get_or (early f) j 0 < 110109
unfolding early
within_110109 zero zero h = lit≤ tt
within_110109 zero (suc zero) h = lit≤ tt
within_110109 zero (suc (suc j)) h = absurd (omega arith)
within_110109 (suc zero) zero h = lit≤ tt
within_110109 (suc zero) (suc zero) h = lit≤ tt
within_110109 (suc zero) (suc (suc j)) h = absurd (omega arith)
within_110109 (suc (suc f)) j h = absurd (omega arith)

together_partition : Partition (plan_kc 1000 1000 5000 0 0) 109000 early together
together_partition =
    record {
      each = together_each;
      rising = together_rising;
      near = λ f i j _ l _. omega (arith, within_110109 f j l, widened_lengths.1);
    }

broken : Counterexample (plan_kc 1000 1000 5000 0 0) 109000
unfolding together plan_kc plan_k no_plan early run_in overrun_in queued_in overrun_at any_to sum_to count_to sublist window wire_bits
broken =
    record {
      emission = early;
      keeps = early_keeps 1000 1000 5000;
      cycles = together;
      permitted = parted refl together_partition;
      overruns = record { cycle = 2; unsent = run-few (plan_kc 1000 1000 5000 0 0) 109000 together (lit≤ tt) together_few 2 };
    }

-- in aligned cycles the same frames have all left port 1 when cycle 3 starts
finished : Network → Bool
finished (running places) = is_gone (places 0 0) && is_gone (places 0 1) && is_gone (places 1 0) && is_gone (places 1 1)
finished stopped = false

aligned_sent : finished (run (plan_kc 1000 1000 5000 0 0) 109000 (cycles_of 109000 early) 3) ≡ true
unfolding finished plan_kc plan_k no_plan early run_in overrun_in queued_in overrun_at any_to sum_to count_to sublist window wire_bits
aligned_sent = ap finished (run-few (plan_kc 1000 1000 5000 0 0) 109000 (cycles_of 109000 early) (lit≤ tt) (early-few 109000) 3)
