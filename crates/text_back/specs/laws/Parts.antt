-- The parts that the lines of a plan's text say, and that none has the key of another.
use Rattle.std.specs.Prelude.{ℕ, suc, ◌+◌, ◌-◌, ◌<◌, ◌≡◌, refl, ◌⊎◌, ◌≢◌, List, [], ◌∷◌, ◌++◌, Bool, true, false, not, ltb}
use Rattle.std.proofs.Common.{inl, inr, arith}
use Rattle.cqf.specs.Limits.{port_slots, flow_slots}
use Rattle.cqf.specs.Plan.{Plan, clocks_equal, rate_of, period_of}
use Rattle.plan_reading.specs.Key.{header_key, clock_key}
use Rattle.plan_reading.specs.Part.{Part, header, port, flow}
use Rattle.plan_reading.specs.Saved.{when, collect, header_part, port_part, flow_part, extra_part, jitter_part, clock_part, clock_parts}
use Rattle.plan_reading.specs.laws.fields.Ranged.{All, all_append, all_map}
use Rattle.plan_reading.specs.laws.fields.ByPart.{part_key, Apart, Separate}
use Rattle.plan_reading.specs.laws.validity.Held.{parts}
use Rattle.text_back.specs.laws.Collect.{pair, pair_all, pair_separate, collect_all, apart_all, separate_append, collect_separate}

-- the keys of the slot of a port, and of a flow
abbrev OfPort : ℕ → Part → Type 0
OfPort q x = (q < port_slots) × ((part_key x ≡ suc q) ⊎ (part_key x ≡ port_slots + flow_slots + suc q))

abbrev OfFlow : ℕ → Part → Type 0
OfFlow f x = (f < flow_slots) × ((part_key x ≡ port_slots + suc f) ⊎ (part_key x ≡ port_slots + flow_slots + port_slots + suc f))

ports_apart : (i j : ℕ) (x y : Part) → i < j → OfPort i x → OfPort j y → part_key x ≢ part_key y
ports_apart i j x y l (m, inl a) (k, inl b) e = omega arith
ports_apart i j x y l (m, inl a) (k, inr b) e = omega arith
ports_apart i j x y l (m, inr a) (k, inl b) e = omega arith
ports_apart i j x y l (m, inr a) (k, inr b) e = omega arith

flows_apart : (i j : ℕ) (x y : Part) → i < j → OfFlow i x → OfFlow j y → part_key x ≢ part_key y
flows_apart i j x y l (m, inl a) (k, inl b) e = omega arith
flows_apart i j x y l (m, inl a) (k, inr b) e = omega arith
flows_apart i j x y l (m, inr a) (k, inl b) e = omega arith
flows_apart i j x y l (m, inr a) (k, inr b) e = omega arith

-- of some slot; of the clocks; of the header
abbrev InPorts : Part → Type 0
InPorts x = (q : ℕ) × OfPort q x

abbrev InFlows : Part → Type 0
InFlows x = (f : ℕ) × OfFlow f x

ports_flows : (x y : Part) → InPorts x → InFlows y → part_key x ≢ part_key y
ports_flows x y (i, (m, inl a)) (j, (k, inl b)) e = omega arith
ports_flows x y (i, (m, inl a)) (j, (k, inr b)) e = omega arith
ports_flows x y (i, (m, inr a)) (j, (k, inl b)) e = omega arith
ports_flows x y (i, (m, inr a)) (j, (k, inr b)) e = omega arith

abbrev Between : Part → Type 0
Between x = (header_key < part_key x) × (part_key x < clock_key)

port_between : (x : Part) → InPorts x → Between x
port_between x (i, (m, inl a)) = (omega arith, omega arith)
port_between x (i, (m, inr a)) = (omega arith, omega arith)

flow_between : (x : Part) → InFlows x → Between x
flow_between x (i, (m, inl a)) = (omega arith, omega arith)
flow_between x (i, (m, inr a)) = (omega arith, omega arith)

module _ (p : Plan) where
  -- what the line of the port in slot q says, that of the flow in slot f, and all lines
  abbrev pub port_says_lem : ℕ → List Part
  port_says_lem q = pair (ltb 0 (rate_of p q)) (port_part p q) (extra_part p q)

  abbrev pub flow_says_lem : ℕ → List Part
  flow_says_lem f = pair (ltb 0 (period_of p f)) (flow_part p f) (jitter_part p f)

  abbrev pub text_parts : List Part
  text_parts = header_part p ∷ (collect port_slots port_says_lem ++ (collect flow_slots flow_says_lem ++ clock_parts p))

  -- what holds of each
  pub parts_all
      : (P : Part → Type 0)
      → P (header_part p)
      → ((q : ℕ) → q < port_slots → ltb 0 (rate_of p q) ≡ true → P (port_part p q) × P (extra_part p q))
      → ((f : ℕ) → f < flow_slots → ltb 0 (period_of p f) ≡ true → P (flow_part p f) × P (jitter_part p f))
      → P (clock_part p)
      → All P text_parts
  parts_all P head ports flows clocks = (
    head,
    all_append P (collect port_slots port_says_lem) (collect flow_slots flow_says_lem ++ clock_parts p)
        (collect_all P port_slots port_says_lem (λ q l. pair_all P (ltb 0 (rate_of p q)) (port_part p q) (extra_part p q) (ports q l)))
        (all_append P (collect flow_slots flow_says_lem) (clock_parts p)
        (collect_all P flow_slots flow_says_lem (λ f l. pair_all P (ltb 0 (period_of p f)) (flow_part p f) (jitter_part p f) (flows f l)))
        (when_all (not (clocks_equal p)))),
  )
    where
      when_all : (test : Bool) → All P (when test (clock_part p))
      when_all true = (clocks, tt)
      when_all false = tt

  -- none has the key of another
  port_keys : (q : ℕ) → q < port_slots → Separate (port_says_lem q) × All (OfPort q) (port_says_lem q)
  port_keys q l = (
    pair_separate (ltb 0 (rate_of p q)) (port_part p q) (extra_part p q) (λ e. omega arith),
    pair_all (OfPort q) (ltb 0 (rate_of p q)) (port_part p q) (extra_part p q) (λ h. ((l, inl (omega arith)), (l, inr (omega arith)))),
  )

  flow_keys : (f : ℕ) → f < flow_slots → Separate (flow_says_lem f) × All (OfFlow f) (flow_says_lem f)
  flow_keys f l = (
    pair_separate (ltb 0 (period_of p f)) (flow_part p f) (jitter_part p f) (λ e. omega arith),
    pair_all (OfFlow f) (ltb 0 (period_of p f)) (flow_part p f) (jitter_part p f) (λ h. ((l, inl (omega arith)), (l, inr (omega arith)))),
  )

  port_slots_lem : All InPorts (collect port_slots port_says_lem)
  port_slots_lem = collect_all InPorts port_slots port_says_lem (λ q l. all_map (OfPort q) InPorts (port_says_lem q) (λ x k. (q, k)) (port_keys q l).1)

  flow_slots_lem : All InFlows (collect flow_slots flow_says_lem)
  flow_slots_lem = collect_all InFlows flow_slots flow_says_lem (λ f l. all_map (OfFlow f) InFlows (flow_says_lem f) (λ x k. (f, k)) (flow_keys f l).1)

  abbrev IsLast : Part → Type 0
  IsLast x = part_key x ≡ clock_key

  clock_last : (test : Bool) → All IsLast (when test (clock_part p)) × Separate (when test (clock_part p))
  clock_last true = ((refl, tt), (tt, tt))
  clock_last false = (tt, tt)

  before_last : (x y : Part) → Between x → IsLast y → part_key x ≢ part_key y
  before_last x y a b e = omega (arith, a.1, b, e)

  pub text_separate : Separate text_parts
  text_separate =
      let ports = collect port_slots port_says_lem in
      let flows = collect flow_slots flow_says_lem in
      let clocks = clock_parts p in
      let last = clock_last (not (clocks_equal p)) in
      let behind : Separate (flows ++ clocks) =
      separate_append flows clocks (collect_separate OfFlow flows_apart flow_slots flow_says_lem flow_keys) last.1
      (apart_all Between IsLast before_last flows clocks (all_map InFlows Between flows flow_between flow_slots_lem) last.0) in
      let all : Separate (ports ++ (flows ++ clocks)) =
      separate_append ports (flows ++ clocks) (collect_separate OfPort ports_apart port_slots port_says_lem port_keys) behind
      (apart_both ports flows clocks
      (apart_all InPorts InFlows ports_flows ports flows port_slots_lem flow_slots_lem)
      (apart_all Between IsLast before_last ports clocks (all_map InPorts Between ports port_between port_slots_lem) last.0)) in (
        all_append (λ y. header_key ≢ part_key y) ports (flows ++ clocks)
            (all_map InPorts (λ y. header_key ≢ part_key y) ports (λ y k e. omega (arith, (port_between y k).0)) port_slots_lem)
            (all_append (λ y. header_key ≢ part_key y) flows clocks
            (all_map InFlows (λ y. header_key ≢ part_key y) flows (λ y k e. omega (arith, (flow_between y k).0)) flow_slots_lem)
            (all_map IsLast (λ y. header_key ≢ part_key y) clocks (λ y k e. omega (arith, k, e)) last.0)),
        all,
      )
    where
      apart_both : (xs ys zs : List Part) → All (λ x. Apart x ys) xs → All (λ x. Apart x zs) xs → All (λ x. Apart x (ys ++ zs)) xs
      apart_both [] ys zs a b = tt
      apart_both (x ∷ xs) ys zs a b = (all_append (λ y. part_key x ≢ part_key y) ys zs a.0 b.0, apart_both xs ys zs a.1 b.1)
