-- Plan K with a jitter of 38,000 ns for its second flow, and an emission that keeps the contract only because a nominal instant may
-- lie before 0.
use Rattle.std.specs.Prelude.{◌≡◌, refl, [], ◌∷◌, map, true, false, ℕ, zero, suc, ◌+◌, ◌≤◌, ◌<◌, set, length, get_or}
use Rattle.std.proofs.Common.{true≢false, arith, lit≤}
use Rattle.cqf.specs.Bounded.{sum_to, count_to, any_to, all_to, elem, distinct, every, sublist}
use Rattle.cqf.specs.Plan.{Plan, no_plan, present, period_of, count_of, jitter_of, valid_plan, valid_port, valid_flow}
use Rattle.cqf.specs.Ceil.{ceil_div}
use Rattle.cqf.specs.Port.{wire_bits, window, capacity, workload}
use Rattle.cqf.specs.Widened.{widened}
use Rattle.cqf.specs.Condition.{begun, frames, failing}
use Rattle.cqf.specs.Emission.{Emission, Released, Keeps}
use Rattle.cqf.specs.Cycles.{cycles_of, aligned}
use Rattle.cqf.specs.Run.{overrun_at}
use Rattle.cqf.specs.LargeEnough.{Counterexample}
use Rattle.cqf.proofs.laws.Prefix.{blank_from}
use Rattle.cqf.proofs.laws.Few.{Few, few, few_of, demand_in, fails_in, failing_in, failing-few}
use Rattle.cqf.proofs.laws.FewValid.{valid_in, valid_few}
use Rattle.cqf.proofs.laws.FewRun.{queued_in, overrun_in, run_in, run-few}
use Rattle.cqf.proofs.worked.K.{plan_k}

unfoldable pub plan_kj : Plan
unfolding plan_k
plan_kj =
    record {
      guard = plan_k.guard;
      top = plan_k.top;
      clock = plan_k.clock;
      rates = plan_k.rates;
      blockings = plan_k.blockings;
      extras = plan_k.extras;
      periods = plan_k.periods;
      counts = plan_k.counts;
      lengths = plan_k.lengths;
      jitters = set plan_k.jitters 1 38000;
      hops = plan_k.hops;
      routes = plan_k.routes;
    }

-- its port and its flows stand where K has them
few_kj : Few 1 2 plan_kj
unfolding plan_kj plan_k no_plan few all_to every sublist blank_from
few_kj = few_of 1 2 plan_kj refl

-- the rules accept it
valid_kj : valid_plan plan_kj ≡ true
unfolding plan_kj plan_k no_plan valid_in valid_port valid_flow all_to any_to every distinct elem sublist
valid_kj = valid_few few_kj

-- the second flow brings two frames as soon as T and its jitter pass its period, and three past twice its period
brought : map (λ (T : ℕ). frames plan_kj 1 T) (72000 ∷ 72001 ∷ 182000 ∷ 182001 ∷ []) ≡ 1 ∷ 2 ∷ 2 ∷ 3 ∷ []
unfolding plan_kj plan_k no_plan frames begun widened ceil_div
brought = refl

-- how many ports fail
failures : map (λ (T : ℕ). failing plan_kj T) (71999 ∷ 72000 ∷ 72001 ∷ 182000 ∷ 182001 ∷ 191999 ∷ 192000 ∷ 211999 ∷ 212000 ∷ []) ≡ 1 ∷ 0 ∷ 1 ∷ 0 ∷ 1 ∷ 1 ∷ 0 ∷ 1 ∷ 0 ∷ []
unfolding plan_kj plan_k no_plan failing_in count_to fails_in any_to elem sublist capacity window workload demand_in sum_to frames begun widened ceil_div wire_bits
failures = simp (failing-few few_kj)

-- the first flow emits at 0, the second at 0 and at 72,000
close : Emission
close zero = 0 ∷ []
close (suc zero) = 0 ∷ 72000 ∷ []
close (suc (suc f)) = []

-- the nominal instants of the second flow, with its jitter added: -38,000 and 72,000
nominals : ℕ → ℕ → ℕ
nominals (suc zero) (suc k) = 110000
nominals (suc zero) zero = 0
nominals zero k = 0
nominals (suc (suc f)) k = 0

close_absent : (f : ℕ) → present plan_kj f ≡ false → close f ≡ []
unfolding plan_kj plan_k no_plan close
close_absent zero h = absurd (true≢false h)
close_absent (suc zero) h = absurd (true≢false h)
close_absent (suc (suc f)) h = refl

-- the other slots emit nothing
close_few : (T f : ℕ) → 2 ≤ f → length (cycles_of T close f) ≡ 0
unfolding close
close_few T zero l = absurd (omega arith)
close_few T (suc zero) l = absurd (omega arith)
close_few T (suc (suc f)) l = refl

close_rising : (f k : ℕ) → suc k < length (close f) → get_or (close f) k 0 ≤ get_or (close f) (suc k) 0
unfolding close
close_rising zero k h = absurd (omega arith)
close_rising (suc zero) zero h = lit≤ tt
close_rising (suc zero) (suc k) h = absurd (omega arith)
close_rising (suc (suc f)) k h = absurd (omega arith)

close_released : (f k : ℕ) → k < length (close f) → Released (jitter_of plan_kj f) (nominals f k) (get_or (close f) k 0)
unfolding plan_kj plan_k no_plan close nominals
close_released zero zero h = (lit≤ tt, lit≤ tt)
close_released zero (suc k) h = absurd (omega arith)
close_released (suc zero) zero h = (lit≤ tt, lit≤ tt)
close_released (suc zero) (suc zero) h = (lit≤ tt, lit≤ tt)
close_released (suc zero) (suc (suc k)) h = absurd (omega arith)
close_released (suc (suc f)) k h = absurd (omega arith)

close_spaced : (f k : ℕ) → k + count_of plan_kj f < length (close f) → nominals f k + period_of plan_kj f ≤ nominals f (k + count_of plan_kj f)
unfolding plan_kj plan_k no_plan close nominals
close_spaced zero k h = absurd (omega arith)
close_spaced (suc zero) zero h = lit≤ tt
close_spaced (suc zero) (suc k) h = absurd (omega arith)
close_spaced (suc (suc f)) k h = absurd (omega arith)

close_keeps : Keeps plan_kj close
close_keeps =
    record {
      absent = close_absent;
      rising = close_rising;
      nominal = nominals;
      released = close_released;
      spaced = close_spaced;
    }

-- no other nominal instants keep the contract: those of the second flow can only be 38,000 before 0 and 72,000
only : (keeps : Keeps plan_kj close) → (keeps.nominal 1 0 ≡ 0) × (keeps.nominal 1 1 ≡ 72000 + jitter_of plan_kj 1)
unfolding plan_kj plan_k no_plan close
only keeps =
    let first = keeps.spaced 1 0 (omega arith) in
    let last = (keeps.released 1 1 (omega arith)).0 in
    (omega arith, omega arith)

-- at 72,001 all three frames fall into cycle 0, and port 1 cannot send them in cycle 1
broken : Counterexample plan_kj 72001
unfolding plan_kj plan_k no_plan close run_in overrun_in queued_in overrun_at any_to sum_to count_to sublist window wire_bits
broken =
    record {
      emission = close;
      keeps = close_keeps;
      cycles = cycles_of 72001 close;
      permitted = aligned refl (λ f. refl);
      overruns = record { cycle = 2; unsent = run-few plan_kj 72001 (cycles_of 72001 close) (lit≤ tt) (close_few 72001) 2 };
    }
