-- The tables that a row of parts leaves, slot by slot, where all parts that a plan says are in the row and all of the row stand in
-- the plan's tables.
use Rattle.std.specs.Prelude.{ℕ, suc, ◌-◌, ◌*◌, ◌<◌, ◌≡◌, refl, ◌⊎◌, Bool, true, false, ltb, get_or}
use Rattle.std.proofs.Math.Path.{sym, ap}
use Rattle.std.proofs.Common.{◌∙◌, subst, inl, inr, arith, lt-ltb, ltb-false}
use mathlib.Core.List.{List, Memᴰ}
use Rattle.std.proofs.Math.Decide.{dec_lt}
use Rattle.std.proofs.Math.ListN.{length}
use Rattle.cqf.specs.Bounded.{sublist}
use Rattle.cqf.specs.Limits.{port_slots, flow_slots, route_stride}
use Rattle.cqf.specs.Plan.{Plan, no_plan, rate_of, blocking_of, extra_of, period_of, count_of, length_of, jitter_of, hops_of, route_of, valid_plan}
use Rattle.cqf.proofs.laws.Lists.{sublist_length}
use Rattle.cqf.proofs.laws.Valid.{Empty, Held, slot_cases, held_period}
use Rattle.plan_reading.specs.Part.{Part, port, flow, extra, jitter}
use Rattle.plan_reading.specs.Put.{Put}
use Rattle.plan_reading.specs.Store.{port_number, flow_number}
use Rattle.plan_reading.specs.Ranges.{PartOk}
use Rattle.plan_reading.specs.Saved.{port_part, flow_part, extra_part, jitter_part}
use Rattle.plan_reading.specs.Sized.{Sized}
use Rattle.plan_reading.specs.laws.fields.Within.{within_low}
use Rattle.plan_reading.specs.laws.fields.Ranged.{all_at}
use Rattle.plan_reading.specs.laws.validity.Held.{port_empty}
use Rattle.plan_reading.specs.laws.stores.Tables.{sized_none, sized_all}
use Rattle.plan_reading.specs.laws.stores.Sources.{Column, Touches, tables_of, source}
use Rattle.plan_reading.specs.laws.stores.Columns
use Rattle.plan_reading.specs.laws.stores.Fresh.{Fresh, fresh_stands}
use Rattle.plan_reading.specs.laws.saved.Entries.{Stands, Says}
use Rattle.plan_reading.specs.laws.saved.Says.{port_says, flow_says, extra_says, jitter_says}

-- the row says what the plan says
pub record RowOf (p : Plan) (xs : List Part) : Type 0 where
  pub fresh : Fresh xs
  pub stand : {x : Part} → Memᴰ x xs → Stands p x
  pub said : (x : Part) → Says p x → Memᴰ x xs

-- the slot of a number from 1 on
back : (i : ℕ) → i ≡ suc i - 1
back i = omega arith

module _ (p : Plan) (valid : valid_plan p ≡ true) (xs : List Part) (row : RowOf p xs) where
  -- what the row leaves
  abbrev q : Plan
  q = tables_of xs

  pub left_sized : Sized q
  left_sized = sized_all no_plan xs sized_none

  -- all that the plan says stands there
  pub left_stands : (x : Part) → Says p x → Stands q x
  left_stands x h = fresh_stands row.fresh (row.said x h)

  -- and 0 stands where each part of the row that puts a number there puts 0
  pub left_none
      : {column : Plan → List ℕ} {puts : Part → Put}
      → Column column puts
      → (i : ℕ)
      → ((x : Part) → Memᴰ x xs → Touches i (puts x) → get_or (column q) i 0 ≡ 0)
      → get_or (column q) i 0 ≡ 0
  left_none {column} c i never = go (dec_lt 0 (get_or (column q) i 0))
    where
      go : Dec (0 < get_or (column q) i 0) → get_or (column q) i 0 ≡ 0
      go (no none) = omega arith
      go (yes there) = let s = source c xs i there in never s.0 s.1 s.2

  -- a part of the row by its kind
  there : {x : Part} (y : Part) → x ≡ y → Memᴰ x xs → PartOk y × Stands p y × Stands q y
  there y same m = (
    subst PartOk same (all_at PartOk xs row.fresh.ok m),
    subst (Stands p) same (row.stand m),
    subst (Stands q) same (fresh_stands row.fresh m),
  )

  port-none
      : {column : Plan → List ℕ} (which : (number rate blocking : ℕ) → ℕ)
      → Column column (port_number which)
      → (i : ℕ)
      → rate_of p i ≡ 0
      → get_or (column q) i 0 ≡ 0
  port-none which c i absent = left_none c i λ x m t.
      let u = Columns.touched_port which x i t in
      let s = there (port u.0 u.1 u.2) u.3 m in
      absurd (omega (arith, within_low _ _ u.1 s.0.rate, sym s.1.1 ∙ ap (rate_of p) u.4))

  flow_none
      : {column : Plan → List ℕ} (which : (number period count bytes : ℕ) (route : List ℕ) → ℕ)
      → Column column (flow_number which)
      → (i : ℕ)
      → period_of p i ≡ 0
      → get_or (column q) i 0 ≡ 0
  flow_none which c i absent = left_none c i λ x m t.
      let u = Columns.touched_flow which x i t in
      let s = there (flow u.0 u.1 u.2 u.3 u.4) u.5 m in
      absurd (omega (arith, within_low _ _ u.1 s.0.period, sym s.1.1 ∙ ap (period_of p) u.6))

  -- the numbers of a port
  pub same_port : (i : ℕ) → i < port_slots → (rate_of q i ≡ rate_of p i) × (blocking_of q i ≡ blocking_of p i)
  same_port i l = go (ltb 0 (rate_of p i)) refl
    where
      go : (b : Bool) → ltb 0 (rate_of p i) ≡ b → (rate_of q i ≡ rate_of p i) × (blocking_of q i ≡ blocking_of p i)
      go true there =
          let h = left_stands (port_part p i) (port_says p i l there) in
          (ap (rate_of q) (back i) ∙ h.1, ap (blocking_of q) (back i) ∙ h.2)
      go false absent =
          let none : rate_of p i ≡ 0 = omega (arith, ltb-false 0 (rate_of p i) absent) in (
            port-none (λ n v b. v) Columns.rate_column i none ∙ sym none,
            port-none (λ n v b. b) Columns.blocking_column i none ∙ sym (port_empty p valid i l none),
          )

  pub same_extra : (i : ℕ) → i < port_slots → extra_of q i ≡ extra_of p i
  same_extra i l = go (ltb 0 (extra_of p i)) refl
    where
      go : (b : Bool) → ltb 0 (extra_of p i) ≡ b → extra_of q i ≡ extra_of p i
      go true there = ap (extra_of q) (back i) ∙ (left_stands (extra_part p i) (extra_says p i l there)).1
      go false absent =
          let none : extra_of p i ≡ 0 = omega (arith, ltb-false 0 (extra_of p i) absent) in
          left_none Columns.extra_column i (λ x m t.
          let u = Columns.touched_extra x i t in
          let s = there (extra u.0 u.1) u.2 m in
          omega (arith, sym s.1.1 ∙ ap (extra_of p) u.3, sym s.2.1 ∙ ap (extra_of q) u.3))
          ∙ sym none

  pub same_jitter : (i : ℕ) → i < flow_slots → jitter_of q i ≡ jitter_of p i
  same_jitter i l = go (ltb 0 (jitter_of p i)) refl
    where
      go : (b : Bool) → ltb 0 (jitter_of p i) ≡ b → jitter_of q i ≡ jitter_of p i
      go true there = ap (jitter_of q) (back i) ∙ (left_stands (jitter_part p i) (jitter_says p i l there)).1
      go false absent =
          let none : jitter_of p i ≡ 0 = omega (arith, ltb-false 0 (jitter_of p i) absent) in
          left_none Columns.jitter_column i (λ x m t.
          let u = Columns.touched_jitter x i t in
          let s = there (jitter u.0 u.1) u.2 m in
          omega (arith, sym s.1.1 ∙ ap (jitter_of p) u.3, sym s.2.1 ∙ ap (jitter_of q) u.3))
          ∙ sym none

  -- those of a flow
  pub record SameFlow (i : ℕ) : Type 0 where
    pub period : period_of q i ≡ period_of p i
    pub count : count_of q i ≡ count_of p i
    pub bytes : length_of q i ≡ length_of p i
    pub hops : hops_of q i ≡ hops_of p i
    pub route : route_of q i ≡ route_of p i

  pub same_flow : (i : ℕ) → i < flow_slots → SameFlow i
  unfolding sublist
  same_flow i l = go (slot_cases p valid i l)
    where
      go : Empty p i ⊎ Held p i → SameFlow i
      go (inr held) =
          let h = left_stands (flow_part p i) (flow_says p i l (lt-ltb 0 (period_of p i) (held_period p i held))) in
          let route : route_of q i ≡ route_of p i = ap (route_of q) (back i) ∙ h.4 in
          record {
            period = ap (period_of q) (back i) ∙ h.1;
            count = ap (count_of q) (back i) ∙ h.2;
            bytes = ap (length_of q) (back i) ∙ h.3;
            hops =
                sym (sublist_length q.routes (i * route_stride) (hops_of q i))
                ∙ ap length route
                ∙ sublist_length p.routes (i * route_stride) (hops_of p i);
            route = route;
          }
      go (inl none) =
          let hops : hops_of q i ≡ 0 = flow_none (λ n t c l r. length r) Columns.hops_column i none.period in
          record {
            period = flow_none (λ n t c l r. t) Columns.period_column i none.period ∙ sym none.period;
            count = flow_none (λ n t c l r. c) Columns.count_column i none.period ∙ sym none.count;
            bytes = flow_none (λ n t c l r. l) Columns.length_column i none.period ∙ sym none.bytes;
            hops = hops ∙ sym none.hops;
            route = rw (hops, none.hops);
          }
