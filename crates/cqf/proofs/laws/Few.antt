-- A plan with ports in its first m slots alone and flows in its first n: what is summed, tried or counted over all slots is so over
-- those alone.
use Rattle.std.specs.Prelude.{◌≡◌, refl, Bool, true, false, ◌&&◌, List, [], ◌∷◌, leb}
use Rattle.std.proofs.Math.Path.{ap, ap₂, fun_ext}
use Rattle.std.proofs.Common.{◌∙◌, arith, get_or-set_other, leb-true, ne_eqb}
use Rattle.std.proofs.Math.Bool.{and-eq-true_iff}
use Prim.Native.Nat.{ℕ, suc, ◌≤◌, ◌<◌, zero-le}
use Rattle.std.proofs.Math.Decide.{dec_lt}
use Rattle.std.proofs.Math.Dec.{eqb}
use Rattle.std.proofs.Math.IntN.{sub_ℕ}
use Rattle.cqf.specs.Bounded.{sum_to, max_to, count_to, any_to, all_to, lowest, elem, every, sublist}
use Rattle.cqf.specs.Limits.{port_slots, flow_slots}
use Rattle.cqf.specs.Plan.{Plan, rate_of, blocking_of, extra_of, period_of, count_of, length_of, jitter_of, hops_of, route_of, crosses}
use Rattle.cqf.specs.Port.{capacity, workload, exceeds}
use Rattle.cqf.specs.Condition.{demand, slack, crossed, fails, failing, lowest_failing, admissible}
use Rattle.cqf.specs.Need.{need_by, need, largest_need}
use Rattle.cqf.specs.Reprice.{with_length}
use Rattle.cqf.proofs.laws.Bounded.{any_to-none, all_to-at}
use Rattle.cqf.proofs.laws.Demand.{share, demand_sum, share-none}
use Rattle.cqf.proofs.laws.Prefix.{sum_to_prefix, max_to_prefix, count_to_prefix, any_to_prefix, blank_from, blank-at}

-- every other slot is empty, and no flow crosses a port of another slot
pub record Few (m n : ℕ) (p : Plan) : Type 0 where
  pub ports : m ≤ port_slots
  pub flows : n ≤ flow_slots
  pub port : (q : ℕ) → m ≤ q → (rate_of p q ≡ 0) × (blocking_of p q ≡ 0) × (extra_of p q ≡ 0)
  pub flow : (f : ℕ) → n ≤ f → (period_of p f ≡ 0) × (count_of p f ≡ 0) × (length_of p f ≡ 0) × (jitter_of p f ≡ 0) × (hops_of p f ≡ 0)
  pub routes : (f q : ℕ) → m ≤ q → crosses p f q ≡ false

-- the same as a test that reads each column once
unfoldable pub few : (m n : ℕ) → Plan → Bool
unfolding blank_from
few m n p =
    (leb m port_slots && leb n flow_slots)
    && (blank_from m p.rates && blank_from m p.blockings && blank_from m p.extras)
    && (blank_from n p.periods && blank_from n p.counts && blank_from n p.lengths && blank_from n p.jitters && blank_from n p.hops)
    && all_to n (λ f. every (λ k. leb k m) (route_of p f))

-- a number above all of a list does not stand in it
elem_above : (m k : ℕ) (l : List ℕ) → every (λ i. leb i m) l ≡ true → m < k → elem k l ≡ false
unfolding elem every
elem_above m k [] e less = refl
elem_above m k (x ∷ xs) e less =
    let t = (and-eq-true_iff (leb x m) (every (λ i. leb i m) xs)).0 e in
    rw (ne_eqb k x (λ d. omega (arith, leb-true x m t.0)), elem_above m k xs t.1 less)

crosses-none : (p : Plan) (f q : ℕ) → hops_of p f ≡ 0 → crosses p f q ≡ false
unfolding elem sublist
crosses-none p f q e = rw e

routes_below
    : (m n : ℕ) (p : Plan)
    → all_to n (λ f. every (λ k. leb k m) (route_of p f)) ≡ true
    → ((f : ℕ) → n ≤ f → hops_of p f ≡ 0)
    → (f q : ℕ)
    → m ≤ q
    → crosses p f q ≡ false
routes_below m n p within none f q l = go (dec_lt f n)
  where
    go : Dec (f < n) → crosses p f q ≡ false
    go (yes less) = elem_above m (suc q) (route_of p f) (all_to-at n _ within f less) (omega arith)
    go (no more) = crosses-none p f q (none f (omega arith))

pub few_of : (m n : ℕ) (p : Plan) → few m n p ≡ true → Few m n p
unfolding few
few_of m n p e =
    let t = simp and-eq-true_iff at e in
    let none = blank-at n p.hops t.0.1.1 in
    record {
      ports = leb-true m port_slots t.0.0.0.0;
      flows = leb-true n flow_slots t.0.0.0.1;
      port = λ q l. (
        blank-at m p.rates t.0.0.1.0.0 q l,
        blank-at m p.blockings t.0.0.1.0.1 q l,
        blank-at m p.extras t.0.0.1.1 q l,
      );
      flow = λ f l. (
        blank-at n p.periods t.0.1.0.0.0.0 f l,
        blank-at n p.counts t.0.1.0.0.0.1 f l,
        blank-at n p.lengths t.0.1.0.0.1 f l,
        blank-at n p.jitters t.0.1.0.1 f l,
        none f l,
      );
      routes = routes_below m n p t.1 none;
    }

-- another frame length leaves it so
pub few_length : {m n : ℕ} {p : Plan} → Few m n p → (f bytes : ℕ) → f < n → Few m n (with_length p f bytes)
unfolding with_length
few_length {p} small f bytes less =
    record {
      ports = small.ports;
      flows = small.flows;
      port = small.port;
      flow = λ g l. let e = small.flow g l in (e.0, e.1, get_or-set_other p.lengths f g bytes 0 (λ d. omega arith) ∙ e.2, e.3, e.4);
      routes = small.routes;
    }

-- of the first n flows alone, and of the first m ports
unfoldable pub demand_in : (n : ℕ) → Plan → ℕ → ℕ → ℕ
unfolding sum_to
demand_in n p q T = sum_to n (share p q T)

unfoldable pub fails_in : (n : ℕ) → Plan → ℕ → ℕ → Bool
unfolding any_to capacity workload demand_in
fails_in n p T q = any_to n (λ f. crosses p f q) && exceeds (workload p q (demand_in n p q T)) (capacity p q T)

unfoldable pub failing_in : (m n : ℕ) → Plan → ℕ → ℕ
unfolding count_to fails_in
failing_in m n p T = count_to m (fails_in n p T)

unfoldable pub largest_need_in : (m n : ℕ) → Plan → ℕ → ℕ
unfolding max_to demand_in
largest_need_in m n p T = max_to m (λ q. need_by p.guard (rate_of p q) (blocking_of p q) (extra_of p q) (demand_in n p q T))

module _ {m n : ℕ} {p : Plan} (small : Few m n p) where
  pub demand-few : (q T : ℕ) → demand p q T ≡ demand_in n p q T
  unfolding demand_in
  demand-few q T = demand_sum p q T ∙ sum_to_prefix small.flows (share p q T) (λ f l. share-none p q T f (small.flow f l).4)

  -- a port behind the first m is not crossed
  demand-none : (q T : ℕ) → m ≤ q → demand p q T ≡ 0
  unfolding sum_to
  demand-none q T l = demand_sum p q T ∙ sum_to_prefix {k = flow_slots} zero-le (share p q T) (λ f _. rw (small.routes f q l))

  pub slack-few : (q T : ℕ) → slack p q T ≡ sub_ℕ (capacity p q T) (workload p q (demand_in n p q T))
  unfolding slack
  slack-few q T = ap (λ bits. sub_ℕ (capacity p q T) (workload p q bits)) (demand-few q T)

  pub crossed-few : (q : ℕ) → crossed p q ≡ any_to n (λ f. crosses p f q)
  unfolding crossed
  crossed-few q = any_to_prefix small.flows (λ f. crosses p f q) (λ f l. crosses-none p f q (small.flow f l).4)

  pub fails-few : (T q : ℕ) → fails p T q ≡ fails_in n p T q
  unfolding fails fails_in
  fails-few T q = ap₂ (λ c d. c && exceeds (workload p q d) (capacity p q T)) (crossed-few q) (demand-few q T)

  fails-none : (T q : ℕ) → m ≤ q → fails p T q ≡ false
  unfolding fails crossed
  fails-none T q l = rw (any_to-none flow_slots (λ f. crosses p f q) (λ f _. small.routes f q l))

  pub failing-few : (T : ℕ) → failing p T ≡ failing_in m n p T
  unfolding failing failing_in
  failing-few T = count_to_prefix small.ports (fails p T) (fails-none T) ∙ ap (count_to m) (fun_ext (fails-few T))

  pub admissible-few : (T : ℕ) → admissible p T ≡ eqb (failing_in m n p T) 0
  unfolding admissible
  admissible-few T = ap (λ k. eqb k 0) (failing-few T)

  pub lowest-few : (T : ℕ) → lowest_failing p T ≡ suc (lowest port_slots (fails_in n p T))
  unfolding lowest_failing
  lowest-few T = ap (λ b. suc (lowest port_slots b)) (fun_ext (fails-few T))

  pub largest-few : (T : ℕ) → largest_need p T ≡ largest_need_in m n p T
  unfolding largest_need need largest_need_in
  largest-few T =
      max_to_prefix small.ports (λ q. need p q T) (λ q l. rw (demand-none q T l))
      ∙ ap (max_to m) (fun_ext (λ q. ap (need_by p.guard (rate_of p q) (blocking_of p q) (extra_of p q)) (demand-few q T)))
