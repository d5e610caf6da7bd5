-- Plan K loaded in every respect, and a plan that is lighter in every respect at once.
use Rattle.std.specs.Prelude.{◌≡◌, refl, [], ◌∷◌, map, true, ℕ, zero, suc, set}
use Rattle.std.proofs.Common.{le_refl, le_of_suc-le-suc, arith, lit≤}
use Rattle.std.proofs.lemmas.List.{get_or-replicate}
use Rattle.cqf.specs.Bounded.{sum_to, max_to, count_to, any_to, all_to, elem, distinct, every, sublist}
use Rattle.cqf.specs.Plan.{Plan, no_plan, present, valid_plan, valid_port, valid_flow}
use Rattle.cqf.specs.Ceil.{ceil_div}
use Rattle.cqf.specs.Port.{wire_bits, window, capacity, workload}
use Rattle.cqf.specs.Widened.{widened}
use Rattle.cqf.specs.Condition.{begun, frames, failing, least, margin_safe}
use Rattle.cqf.specs.Lighter.{LighterPort, LighterFlow, Lighter}
use Rattle.cqf.specs.NoWorse.{NoWorse}
use Rattle.cqf.proofs.laws.Valid.{present_period, present_slot}
use Rattle.cqf.proofs.laws.Search.{ascent_start, descent_start}
use Rattle.cqf.proofs.laws.Prefix.{blank_from}
use Rattle.cqf.proofs.laws.Few.{Few, few, few_of, demand_in, fails_in, failing_in, largest_need_in, failing-few}
use Rattle.cqf.proofs.laws.FewValid.{valid_in, valid_few}
use Rattle.cqf.proofs.laws.FewSteps.{up_few, least-few, down_few, stop_few}
use Rattle.cqf.proofs.results.LighterTheorem.{no_worse}
use Rattle.cqf.proofs.worked.K.{plan_k}

-- K with rate 200, a blocking frame of 100 bytes and 32 extra bytes at its port, two frames a period and jitter 30,000 for its first
-- flow, and clocks that differ
unfoldable pub plan_heavy : Plan
unfolding plan_k
plan_heavy =
    record {
      guard = plan_k.guard;
      top = plan_k.top;
      clock = record { drift = 100; timing_jitter_of = 2; sync_error_of = 1000 };
      rates = set plan_k.rates 0 200;
      blockings = set plan_k.blockings 0 100;
      extras = set plan_k.extras 0 32;
      periods = plan_k.periods;
      counts = set plan_k.counts 0 2;
      lengths = plan_k.lengths;
      jitters = set plan_k.jitters 0 30000;
      hops = plan_k.hops;
      routes = plan_k.routes;
    }

-- its first flow alone, and every number easier
unfoldable pub plan_light : Plan
unfolding no_plan
plan_light =
    record {
      guard = 900;
      top = 1000000;
      clock = record { drift = 50; timing_jitter_of = 1; sync_error_of = 500 };
      rates = set no_plan.rates 0 220;
      blockings = set no_plan.blockings 0 64;
      extras = set no_plan.extras 0 16;
      periods = set no_plan.periods 0 110000;
      counts = set no_plan.counts 0 1;
      lengths = set no_plan.lengths 0 200;
      jitters = set no_plan.jitters 0 20000;
      hops = set no_plan.hops 0 1;
      routes = set no_plan.routes 0 1;
    }

-- where their ports and flows stand
few_heavy : Few 1 2 plan_heavy
unfolding plan_heavy plan_k no_plan few all_to every sublist blank_from
few_heavy = few_of 1 2 plan_heavy refl

few_light : Few 1 1 plan_light
unfolding plan_light no_plan few all_to every sublist blank_from
few_light = few_of 1 1 plan_light refl

-- the rules accept both
pub valid_heavy : valid_plan plan_heavy ≡ true
unfolding plan_heavy plan_k no_plan valid_in valid_port valid_flow all_to any_to every distinct elem sublist
valid_heavy = valid_few few_heavy

pub valid_light : valid_plan plan_light ≡ true
unfolding plan_light no_plan valid_in valid_port valid_flow all_to any_to every distinct elem sublist
valid_light = valid_few few_light

-- port 1, and no other port in either
ports_light : (q : ℕ) → LighterPort plan_light plan_heavy q
unfolding plan_light plan_heavy plan_k no_plan
ports_light zero = record { held = refl; rate = lit≤ tt; blocking = lit≤ tt; extra = lit≤ tt }
ports_light (suc q) = record { held = refl; rate = le_refl _; blocking = le_refl _; extra = le_refl _ }

-- flow 1, and no other flow in the lighter plan
none_light : (f : ℕ) → present plan_light (suc f) ≡ true → ⊥
unfolding plan_light no_plan
none_light f there =
    let l = present_slot plan_light valid_light (suc f) there in
    omega (arith, present_period plan_light (suc f) there, get_or-replicate {A = ℕ} 255 f 0 0 (le_of_suc-le-suc l))

flows_light : (f : ℕ) → present plan_light f ≡ true → LighterFlow plan_light plan_heavy f
unfolding plan_light plan_heavy plan_k no_plan sublist
flows_light zero there =
    record { held = refl; route = refl; bytes = lit≤ tt; count = lit≤ tt; period = lit≤ tt; jitter = lit≤ tt }
flows_light (suc f) there = absurd (none_light f there)

pub lighter_K : Lighter plan_light plan_heavy
unfolding plan_light plan_heavy plan_k
lighter_K =
    record {
      top = refl;
      guard = lit≤ tt;
      drift = lit≤ tt;
      timing_jitter_of = lit≤ tt;
      sync_error_of = lit≤ tt;
      ports = λ q _. ports_light q;
      flows = flows_light;
    }

-- so it is no worse
no_worse_K : NoWorse plan_light plan_heavy
no_worse_K = no_worse plan_light plan_heavy valid_light lighter_K

-- how many ports fail
failures
    : (map (λ (T : ℕ). failing plan_heavy T) (56919 ∷ 56920 ∷ 79479 ∷ 79480 ∷ []) ≡ 1 ∷ 0 ∷ 1 ∷ 0 ∷ [])
    × (map (λ (T : ℕ). failing plan_light T) (14018 ∷ 14019 ∷ 56920 ∷ 79479 ∷ 79480 ∷ []) ≡ 1 ∷ 0 ∷ 0 ∷ 0 ∷ 0 ∷ [])
unfolding plan_light plan_heavy plan_k no_plan failing_in count_to fails_in any_to elem sublist capacity window workload demand_in sum_to frames begun widened ceil_div wire_bits
failures = (simp (failing-few few_heavy), simp (failing-few few_light))

-- the least durations: up by what the port needs at 1 ns
pub least_heavy : least plan_heavy ≡ 56920
unfolding plan_heavy plan_k no_plan largest_need_in max_to failing_in count_to fails_in any_to elem sublist capacity window workload demand_in sum_to frames begun widened ceil_div wire_bits
least_heavy =
    least-few few_heavy valid_heavy
    (up_few few_heavy valid_heavy (ascent_start plan_heavy valid_heavy 1 (lit≤ tt) (lit≤ tt)) (lit≤ tt) (lit≤ tt))
    refl

pub least_light : least plan_light ≡ 14019
unfolding plan_light no_plan largest_need_in max_to failing_in count_to fails_in any_to elem sublist capacity window workload demand_in sum_to frames begun widened ceil_div wire_bits
least_light =
    least-few few_light valid_light
    (up_few few_light valid_light (ascent_start plan_light valid_light 1 (lit≤ tt) (lit≤ tt)) (lit≤ tt) (lit≤ tt))
    refl

-- the margin-safe durations: down from top by what the port needs one below
pub margin_safe_heavy : margin_safe plan_heavy ≡ 79480
unfolding plan_heavy plan_k no_plan largest_need_in max_to elem sublist demand_in sum_to frames begun widened ceil_div wire_bits
margin_safe_heavy =
    let down = down_few few_heavy valid_heavy in
    let at519040 = down 1000000 519040 (descent_start plan_heavy valid_heavy) (lit≤ tt) (lit≤ tt) (lit≤ tt) in
    let at274840 = down 519039 274840 at519040 (lit≤ tt) (lit≤ tt) (lit≤ tt) in
    let at177160 = down 274839 177160 at274840 (lit≤ tt) (lit≤ tt) (lit≤ tt) in
    let at128320 = down 177159 128320 at177160 (lit≤ tt) (lit≤ tt) (lit≤ tt) in
    let at105760 = down 128319 105760 at128320 (lit≤ tt) (lit≤ tt) (lit≤ tt) in
    let at79480 = down 105759 79480 at105760 (lit≤ tt) (lit≤ tt) (lit≤ tt) in
    stop_few few_heavy valid_heavy 79479 (lit≤ tt) at79480 (lit≤ tt)

pub margin_safe_light : margin_safe plan_light ≡ 14019
unfolding plan_light no_plan largest_need_in max_to elem sublist demand_in sum_to frames begun widened ceil_div wire_bits
margin_safe_light =
    let down = down_few few_light valid_light in
    let at91255 = down 1000000 91255 (descent_start plan_light valid_light) (lit≤ tt) (lit≤ tt) (lit≤ tt) in
    let at22600 = down 91254 22600 at91255 (lit≤ tt) (lit≤ tt) (lit≤ tt) in
    let at14019 = down 22599 14019 at22600 (lit≤ tt) (lit≤ tt) (lit≤ tt) in
    stop_few few_light valid_light 14018 (lit≤ tt) at14019 (lit≤ tt)
