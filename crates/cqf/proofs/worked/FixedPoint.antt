-- The fixed-point iteration worked out: plan K, and plans for which it takes just as many steps as the bound allows.
use Rattle.std.specs.Prelude.{◌≡◌, refl, [], ◌∷◌, map, true, ℕ, set}
use Rattle.std.proofs.Common.{sym, ◌∙◌}
use Rattle.cqf.specs.Bounded.{sum_to, max_to, any_to, all_to, elem, distinct, every, sublist}
use Rattle.cqf.specs.Plan.{Plan, no_plan, valid_plan, valid_port, valid_flow}
use Rattle.cqf.specs.Ceil.{ceil_div}
use Rattle.cqf.specs.Port.{wire_bits}
use Rattle.cqf.specs.Widened.{widened}
use Rattle.cqf.specs.Condition.{begun, frames}
use Rattle.cqf.specs.FixedPoint.{visited, steps_from, found, none, unfinished, iterate, later, most_steps}
use Rattle.cqf.proofs.laws.Prefix.{blank_from}
use Rattle.cqf.proofs.laws.Few.{Few, few, few_of, demand_in, largest_need_in}
use Rattle.cqf.proofs.laws.FewValid.{valid_in, valid_few}
use Rattle.cqf.proofs.laws.FewSteps.{visited_by, iterate_by, visited-few, steps_few, iterate-few, most_steps_few}
use Rattle.cqf.proofs.worked.K.{plan_k, few_k}

-- K from 1 ns: two steps, and the second finds 72,000
visited_k : visited plan_k 1 ≡ 1 ∷ 72000 ∷ []
unfolding plan_k no_plan visited_by largest_need_in max_to demand_in sum_to elem sublist frames begun widened ceil_div wire_bits
visited_k = visited-few few_k 1

-- no step, one, two and the most that 64 bits can say; and from 72,001, 110,001 and top
iterated_k
    : (map (iterate plan_k 1) (0 ∷ 1 ∷ 2 ∷ 18446744073709551615 ∷ []) ≡ unfinished 1 ∷ unfinished 72000 ∷ found 72000 2 ∷ found 72000 2 ∷ [])
    × (map (λ (t : ℕ). iterate plan_k t 2) (72001 ∷ 110001 ∷ 1000000 ∷ []) ≡ found 72001 1 ∷ found 142000 2 ∷ found 1000000 1 ∷ [])
unfolding plan_k no_plan iterate_by largest_need_in max_to demand_in sum_to elem sublist frames begun widened ceil_div wire_bits
iterated_k = (simp (iterate-few few_k), simp (iterate-few few_k))

-- K with another top and a jitter of its first flow
unfoldable pub plan_kf : (top jitter : ℕ) → Plan
unfolding plan_k
plan_kf top jitter =
    record {
      guard = plan_k.guard;
      top = top;
      clock = plan_k.clock;
      rates = plan_k.rates;
      blockings = plan_k.blockings;
      extras = plan_k.extras;
      periods = plan_k.periods;
      counts = plan_k.counts;
      lengths = plan_k.lengths;
      jitters = set plan_k.jitters 0 jitter;
      hops = plan_k.hops;
      routes = plan_k.routes;
    }

-- one port of rate 1,000 and one flow of short frames, for clocks that differ
unfoldable pub plan_f : Plan
unfolding plan_k no_plan
plan_f =
    record {
      guard = 49164;
      top = 100000;
      clock = record { drift = 1000; timing_jitter_of = 1000; sync_error_of = 1000000 };
      rates = set no_plan.rates 0 1000;
      blockings = no_plan.blockings;
      extras = no_plan.extras;
      periods = set no_plan.periods 0 100000;
      counts = set no_plan.counts 0 1;
      lengths = set no_plan.lengths 0 64;
      jitters = no_plan.jitters;
      hops = set no_plan.hops 0 1;
      routes = set no_plan.routes 0 1;
    }

-- where their ports and flows stand
few_kf : (top jitter : ℕ) → Few 1 2 (plan_kf top jitter)
unfolding plan_kf plan_k no_plan few all_to every sublist blank_from
few_kf top jitter = few_of 1 2 (plan_kf top jitter) refl

few_f : Few 1 1 plan_f
unfolding plan_f plan_k no_plan few all_to every sublist blank_from
few_f = few_of 1 1 plan_f refl

-- the rules accept them
valid_bounds : map valid_plan (plan_kf 100000 0 ∷ plan_kf 100000 50000 ∷ plan_f ∷ []) ≡ true ∷ true ∷ true ∷ []
unfolding plan_kf plan_f plan_k no_plan valid_in valid_port valid_flow all_to any_to every distinct elem sublist
valid_bounds = simp (valid_few (few_kf 100000 0), valid_few (few_kf 100000 50000), valid_few few_f)

-- their bounds, and K's
bounds : map most_steps (plan_k ∷ plan_kf 100000 0 ∷ plan_kf 100000 50000 ∷ plan_f ∷ []) ≡ 20 ∷ 2 ∷ 3 ∷ 3 ∷ []
unfolding plan_kf plan_f plan_k no_plan later sum_to widened ceil_div
bounds = simp (most_steps_few few_k, most_steps_few (few_kf 100000 0), most_steps_few (few_kf 100000 50000), most_steps_few few_f)

-- Up to 100,000 no flow of K begins a second period, and two steps are what it takes.
two
    : (visited (plan_kf 100000 0) 1 ≡ 1 ∷ 72000 ∷ [])
    × (steps_from (plan_kf 100000 0) 1 ≡ most_steps (plan_kf 100000 0))
unfolding plan_kf plan_k no_plan visited_by later largest_need_in max_to demand_in sum_to elem sublist frames begun widened ceil_div wire_bits
two = (visited-few (few_kf 100000 0) 1, steps_few (few_kf 100000 0) 1 ∙ sym (most_steps_few (few_kf 100000 0)))

-- With a jitter of 50,000 the first flow begins one, and it takes three.
three_by_jitter
    : (visited (plan_kf 100000 50000) 1 ≡ 1 ∷ 72000 ∷ 92000 ∷ [])
    × (steps_from (plan_kf 100000 50000) 1 ≡ most_steps (plan_kf 100000 50000))
unfolding plan_kf plan_k no_plan visited_by later largest_need_in max_to demand_in sum_to elem sublist frames begun widened ceil_div wire_bits
three_by_jitter = (visited-few (few_kf 100000 50000) 1, steps_few (few_kf 100000 50000) 1 ∙ sym (most_steps_few (few_kf 100000 50000)))

-- So it does where clocks widen what is counted at top past a period.
three_by_clocks
    : (visited plan_f 1 ≡ 1 ∷ 99000 ∷ 99672 ∷ [])
    × (steps_from plan_f 1 ≡ most_steps plan_f)
unfolding plan_f no_plan visited_by later largest_need_in max_to demand_in sum_to elem sublist frames begun widened ceil_div wire_bits
three_by_clocks = (visited-few few_f 1, steps_few few_f 1 ∙ sym (most_steps_few few_f))

-- a need above top ends it, and a need of just top does not
at_top
    : (map (iterate (plan_kf 71999 0) 1) (0 ∷ 1 ∷ 2 ∷ []) ≡ unfinished 1 ∷ none 1 ∷ none 1 ∷ [])
    × (map (iterate (plan_kf 72000 0) 1) (0 ∷ 1 ∷ 2 ∷ []) ≡ unfinished 1 ∷ unfinished 72000 ∷ found 72000 2 ∷ [])
unfolding plan_kf plan_k no_plan iterate_by largest_need_in max_to demand_in sum_to elem sublist frames begun widened ceil_div wire_bits
at_top = (simp (iterate-few (few_kf 71999 0)), simp (iterate-few (few_kf 72000 0)))
