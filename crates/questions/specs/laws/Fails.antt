-- The test of a port from its numbers is the condition's, and so is the set of failing ports.
use Rattle.std.specs.Prelude.{◌≡◌, refl, Bool, true, false, ◌&&◌, ltb}
use Rattle.std.proofs.Common.{sym, ap₂, ◌∙◌, true≢false, lt_of_not-le, arith, lt-ltb, le-ltb}
use Rattle.std.proofs.Math.Path.{ap}
use Prim.Native.Nat.{ℕ, suc, ◌-◌, ◌*◌, ◌<◌}
use Rattle.std.proofs.Math.IntN.{sub_ℕ}
use Rattle.std.specs.Int.Count.{ones, count_trailing_zeros}
use Rattle.cqf.specs.Limits.{port_slots}
use Rattle.cqf.specs.Plan.{Plan, rate_of, blocking_of, extra_of, valid_plan}
use Rattle.cqf.specs.Port.{workload_of, fails_by_of, capacity, workload}
use Rattle.cqf.specs.Condition.{demand, crossed, slack, fails, failing, lowest_failing}
use Rattle.cqf.proofs.laws.Condition.{demand_pos, demand-crossed}
use Rattle.questions.specs.Failing.{set_to}
use Rattle.questions.specs.laws.Sets.{set_lowest, set_ones}

-- what a port can send and must be able to send, by its numbers
capacity_is : (p : Plan) (q T : ℕ) → capacity p q T ≡ rate_of p q * (T - 2 * p.guard)
unfolding capacity
capacity_is p q T = refl

workload_is : (p : Plan) (q bits : ℕ) → workload p q bits ≡ workload_of (blocking_of p q) (extra_of p q) bits
unfolding workload
workload_is p q bits = refl

pub slack_is : (p : Plan) (q T : ℕ) → slack p q T ≡ sub_ℕ (rate_of p q * (T - 2 * p.guard)) (workload_of (blocking_of p q) (extra_of p q) (demand p q T))
unfolding slack
slack_is p q T = refl

fails_is : (p : Plan) (T q : ℕ) → fails p T q ≡ crossed p q && ltb (capacity p q T) (workload p q (demand p q T))
unfolding fails
fails_is p T q = refl

module _ (p : Plan) (valid : valid_plan p ≡ true) (T : ℕ) (long : 0 < T) where
  -- a port is crossed exactly when it has a demand
  pub crossed-demand : (q : ℕ) → crossed p q ≡ ltb 0 (demand p q T)
  crossed-demand q = go (crossed p q) refl
    where
      go : (x : Bool) → crossed p q ≡ x → x ≡ ltb 0 (demand p q T)
      go true e = sym (lt-ltb 0 (demand p q T) (demand_pos p q T valid long e))
      go false e =
          let none : demand p q T < 1 = lt_of_not-le (λ l. true≢false (sym (demand-crossed p q T l) ∙ e)) in
          sym (le-ltb 0 (demand p q T) (omega arith))

  pub fails_by : (q : ℕ) → fails p T q ≡ fails_by_of (rate_of p q) (blocking_of p q) (extra_of p q) (T - 2 * p.guard) (demand p q T)
  fails_by q =
      fails_is p T q
      ∙ ap₂ (λ (x y : Bool). x && y) (crossed-demand q)
      (ap₂ ltb (capacity_is p q T) (workload_is p q (demand p q T)))

-- the lowest port of the set, and how many it has
module _ (p : Plan) (T : ℕ) {s : ℕ} (is : s ≡ set_to port_slots (fails p T)) where
  pub set_lowest_failing : suc (count_trailing_zeros 64 s) ≡ lowest_failing p T
  unfolding lowest_failing
  set_lowest_failing = ap (λ (n : ℕ). suc (count_trailing_zeros 64 n)) is ∙ ap suc (set_lowest port_slots (fails p T))

  pub set_failing : ones s ≡ failing p T
  unfolding failing
  set_failing = ap ones is ∙ set_ones port_slots (fails p T)
