-- The tables keep their sizes, and a stored field stands in its own slot and changes no other.
use Rattle.std.specs.Prelude.{◌≡◌, ◌≢◌, List, [], ◌∷◌, ℕ, ◌+◌, ◌-◌, ◌*◌, ◌≤◌, ◌<◌, length}
use Rattle.std.proofs.Common.{◌∙◌}
use Rattle.std.proofs.Math.Logic.{inl, inr}
use native.Mathlib.Omega.{arith}
use Rattle.std.proofs.Math.Decide.{dec_lt}
use Rattle.std.proofs.lemmas.List.{length-replicate}
use Rattle.std.proofs.lemmas.List.Edits.{sets}
use Rattle.std.proofs.Math.Seq.{get_or-set_same, get_or-set_other}
use Rattle.cqf.specs.Limits.{port_slots, flow_slots, max_hops, route_stride}
use Rattle.cqf.specs.Plan.{Plan, no_plan, period_of, count_of, length_of, hops_of, route_of}
use Rattle.plan_reading.specs.Part.{Part, flow}
use Rattle.plan_reading.specs.Store.{puts_rate, puts_blocking, puts_extra, puts_period, puts_count, puts_length, puts_jitter, puts_hops, puts_route, store, store_all}
use Rattle.plan_reading.specs.Sized.{Sized}
use Rattle.plan_reading.specs.laws.stores.Puts.{put_length}
use Rattle.plan_reading.specs.laws.stores.Stores.{Outside, sets_outside, sublist_sets, sublist_same}

pub sized_none : Sized no_plan
unfolding no_plan
sized_none =
    record {
      rates = length-replicate {A = ℕ} port_slots 0;
      blockings = length-replicate {A = ℕ} port_slots 0;
      extras = length-replicate {A = ℕ} port_slots 0;
      periods = length-replicate {A = ℕ} flow_slots 0;
      counts = length-replicate {A = ℕ} flow_slots 0;
      lengths = length-replicate {A = ℕ} flow_slots 0;
      jitters = length-replicate {A = ℕ} flow_slots 0;
      hops = length-replicate {A = ℕ} flow_slots 0;
      routes = length-replicate {A = ℕ} (flow_slots * route_stride) 0;
    }

pub sized_store : (p : Plan) (x : Part) → Sized p → Sized (store p x)
unfolding store
sized_store p x h =
    record {
      rates = put_length p.rates (puts_rate x) ∙ h.rates;
      blockings = put_length p.blockings (puts_blocking x) ∙ h.blockings;
      extras = put_length p.extras (puts_extra x) ∙ h.extras;
      periods = put_length p.periods (puts_period x) ∙ h.periods;
      counts = put_length p.counts (puts_count x) ∙ h.counts;
      lengths = put_length p.lengths (puts_length x) ∙ h.lengths;
      jitters = put_length p.jitters (puts_jitter x) ∙ h.jitters;
      hops = put_length p.hops (puts_hops x) ∙ h.hops;
      routes = put_length p.routes (puts_route x) ∙ h.routes;
    }

pub sized_all : (p : Plan) (xs : List Part) → Sized p → Sized (store_all p xs)
unfolding store_all
sized_all p [] h = h
sized_all p (x ∷ xs) h = sized_all (store p x) xs (sized_store p x h)

-- the slot of the stored flow
module _ (p : Plan) (sized : Sized p) (n t c l : ℕ) (r : List ℕ) (fits : n - 1 < flow_slots) where
  pub stored_period : period_of (store p (flow n t c l r)) (n - 1) ≡ t
  unfolding store
  stored_period = get_or-set_same p.periods (n - 1) t 0 (rw sized.periods fits)

  pub stored_count : count_of (store p (flow n t c l r)) (n - 1) ≡ c
  unfolding store
  stored_count = get_or-set_same p.counts (n - 1) c 0 (rw sized.counts fits)

  pub stored_bytes : length_of (store p (flow n t c l r)) (n - 1) ≡ l
  unfolding store
  stored_bytes = get_or-set_same p.lengths (n - 1) l 0 (rw sized.lengths fits)

  pub stored_hops : hops_of (store p (flow n t c l r)) (n - 1) ≡ length r
  unfolding store
  stored_hops = get_or-set_same p.hops (n - 1) (length r) 0 (rw sized.hops fits)

  pub stored_route
      : length r ≤ max_hops
      → route_of (store p (flow n t c l r)) (n - 1) ≡ r
  unfolding store
  stored_route k =
      rw stored_hops (sublist_sets p.routes ((n - 1) * route_stride) r (omega (arith, sized.routes)))

-- any other slot
module _ (p : Plan) (n t c l : ℕ) (r : List ℕ) (f : ℕ) (other : f ≢ n - 1) where
  pub kept_period : period_of (store p (flow n t c l r)) f ≡ period_of p f
  unfolding store
  kept_period = get_or-set_other p.periods (n - 1) f t 0 other

  pub kept_count : count_of (store p (flow n t c l r)) f ≡ count_of p f
  unfolding store
  kept_count = get_or-set_other p.counts (n - 1) f c 0 other

  pub kept_bytes : length_of (store p (flow n t c l r)) f ≡ length_of p f
  unfolding store
  kept_bytes = get_or-set_other p.lengths (n - 1) f l 0 other

  pub kept_hops : hops_of (store p (flow n t c l r)) f ≡ hops_of p f
  unfolding store
  kept_hops = get_or-set_other p.hops (n - 1) f (length r) 0 other

  pub kept_route
      : length r ≤ max_hops
      → hops_of p f ≤ max_hops
      → route_of (store p (flow n t c l r)) f ≡ route_of p f
  unfolding store
  kept_route k short =
      rw kept_hops
      (sublist_same (sets p.routes ((n - 1) * route_stride) r) p.routes (f * route_stride) (hops_of p f)
      (λ j a b. sets_outside p.routes ((n - 1) * route_stride) r j (outside j a b)))
    where
      outside : (j : ℕ) → f * route_stride ≤ j → j < f * route_stride + hops_of p f → Outside j ((n - 1) * route_stride) (length r)
      outside j a b = go (dec_lt f (n - 1))
        where
          go : Dec (f < n - 1) → Outside j ((n - 1) * route_stride) (length r)
          go (yes less) = inl (omega arith)
          go (no more) =
              let less : n - 1 < f = omega arith in
              inr (omega arith)
