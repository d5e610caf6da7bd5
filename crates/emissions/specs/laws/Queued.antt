-- The bits that each port must send in a cycle of the bad emission, summed up flow by flow.
use Rattle.std.specs.Prelude.{◌≡◌, refl, Bool, true, false, ◌&&◌, List, length, get_or, set, eqb, ltb}
use Rattle.std.proofs.Common.{sym, ◌∙◌, add-zero, zero-mul, le_trans, mul-le-mul_right, add-one, arith, get_or-set_same, get_or-set_other, eq-eqb, ne_eqb}
use Rattle.std.proofs.Math.Path.{ap, ap₂}
use Rattle.std.proofs.Math.Bool.{cond, and-false, and-eq-true_iff}
use Prim.Native.Nat.{ℕ, suc, ◌+◌, ◌-◌, ◌*◌, ◌≤◌, ◌<◌, zero-le}
use Rattle.std.proofs.Math.Nat.{le_antisymm, le_of_eq}
use Rattle.std.proofs.Math.Decide.{ℕ_discrete}
use Rattle.cqf.specs.Bounded.{sum_to}
use Rattle.cqf.specs.Limits.{port_slots, flow_slots, port_ok}
use Rattle.cqf.specs.Overflow.{most_widened, most_bits, most_demand}
use Rattle.cqf.specs.Plan.{Plan, route_of, present, crosses, valid_plan}
use Rattle.cqf.specs.Port.{wire_bits}
use Rattle.cqf.specs.Widened.{widened, widened_by}
use Rattle.cqf.specs.Condition.{frames}
use Rattle.cqf.proofs.laws.Bounded.{sum_to_le, cond_some}
use Rattle.cqf.proofs.laws.Bounds.{sum_to_most}
use Rattle.cqf.proofs.laws.Demand.{frames_by_lem, flow_bits_most}
use Rattle.cqf.proofs.laws.Lists.{every-at}
use Rattle.cqf.proofs.laws.Ranges.{extra_most}
use Rattle.cqf.proofs.laws.Valid.{Held, crosses_held, held_present}
use Rattle.emissions.specs.BadEmission.{hop_on, hop, latest_hop, burst_cycle, burst_frames, burst_at, burst_bits}
use Rattle.emissions.specs.Queued.{queued_port, flow_bits, queued_flow}
use Rattle.emissions.specs.laws.Track.{within_list}
use Rattle.emissions.specs.laws.Burst.{within_high}

-- the sums by the flows before f
module _ (p : Plan) (over q latest c : ℕ) where
  flow_here : (r f : ℕ) → queued_port (route_of p f) q latest c ≡ suc r → queued_flow p over q latest c r f ≡ flow_bits p over f r
  flow_here r f e = ap (λ (b : Bool). cond b (flow_bits p over f r) 0) (eq-eqb _ _ e)

  flow_else : (r f : ℕ) → (queued_port (route_of p f) q latest c ≡ suc r → ⊥) → queued_flow p over q latest c r f ≡ 0
  flow_else r f ne = ap (λ (b : Bool). cond b (flow_bits p over f r) 0) (ne_eqb _ _ ne)

  abbrev pub Sums : ℕ → List ℕ → Type 0
  Sums f bits = (r : ℕ) → r < port_slots → get_or bits r 0 ≡ sum_to f (queued_flow p over q latest c r)

  sum_next : (f r : ℕ) → sum_to (f + 1) (queued_flow p over q latest c r) ≡ sum_to f (queued_flow p over q latest c r) + queued_flow p over q latest c r f
  unfolding sum_to
  sum_next f r = ap (λ (n : ℕ). sum_to n (queued_flow p over q latest c r)) (add-one f)

  sum_same
      : (f r : ℕ) → (queued_port (route_of p f) q latest c ≡ suc r → ⊥) → sum_to f (queued_flow p over q latest c r) ≡ sum_to (f + 1) (queued_flow p over q latest c r)
  sum_same f r ne = sym (sum_next f r ∙ ap (λ (n : ℕ). sum_to f (queued_flow p over q latest c r) + n) (flow_else r f ne) ∙ add-zero _)

  pub sums_none : (bits : List ℕ) → ((r : ℕ) → r < port_slots → get_or bits r 0 ≡ 0) → Sums 0 bits
  unfolding sum_to
  sums_none bits zeros = zeros

  pub sums_skip : (f : ℕ) (bits : List ℕ) → queued_port (route_of p f) q latest c ≡ 0 → Sums f bits → Sums (f + 1) bits
  sums_skip f bits none sums r slot = sums r slot ∙ sum_same f r (λ e. omega (arith, e, none))

  pub sums_add
      : (f : ℕ) (bits : List ℕ) (s more : ℕ)
      → s < length bits
      → s < port_slots
      → queued_port (route_of p f) q latest c ≡ suc s
      → more ≡ flow_bits p over f s
      → Sums f bits
      → Sums (f + 1) (set bits s (get_or bits s 0 + more))
  sums_add f bits s more in-bits low e is sums r slot = go (ℕ_discrete s r)
    where
      here : get_or (set bits s (get_or bits s 0 + more)) s 0 ≡ sum_to (f + 1) (queued_flow p over q latest c s)
      here =
          get_or-set_same bits s (get_or bits s 0 + more) 0 in-bits
          ∙ ap₂ (λ (a b : ℕ). a + b) (sums s low) (is ∙ sym (flow_here s f e))
          ∙ sym (sum_next f s)

      go : Dec (s ≡ r) → get_or (set bits s (get_or bits s 0 + more)) r 0 ≡ sum_to (f + 1) (queued_flow p over q latest c r)
      go (yes same) = rw (sym same) here
      go (no other) =
          get_or-set_other bits s r (get_or bits s 0 + more) 0 (λ h. other (sym h)) ∙ sums r slot ∙ sum_same f r (λ h. other (omega (arith, h, e)))

module _ (p : Plan) (valid : valid_plan p ≡ true) (q latest c : ℕ) where
  -- where a burst is queued at a port, its flow crosses the port in slot q
  pub port_held : (f : ℕ) → f < flow_slots → 0 < queued_port (route_of p f) q latest c → Held p f
  port_held f l some =
      crosses_held p valid f q l
      ((and-eq-true_iff (crosses p f q) (ltb (latest - hop_on (route_of p f) q) c)).0
      (cond_some (crosses p f q && ltb (latest - hop_on (route_of p f) q) c) (get_or (route_of p f) (c - suc (latest - hop_on (route_of p f) q)) 0) some)).0

  pub port-within : (f : ℕ) → f < flow_slots → queued_port (route_of p f) q latest c ≤ port_slots
  port-within f l = go (ℕ_discrete (queued_port (route_of p f) q latest c) 0)
    where
      here : (b : Bool) (i : ℕ) → Held p f → 0 < cond b (get_or (route_of p f) i 0) 0 → cond b (get_or (route_of p f) i 0) 0 ≤ port_slots
      here true i flow some =
          let less = within_list (route_of p f) i (get_or (route_of p f) i 0 - 1) (omega arith) in
          within_high 1 port_slots (get_or (route_of p f) i 0)
          ((and-eq-true_iff (port_ok (get_or (route_of p f) i 0)) _).0 (every-at _ (route_of p f) flow.in_plan i less)).0
      here false i flow some = zero-le

      go : Dec (queued_port (route_of p f) q latest c ≡ 0) → queued_port (route_of p f) q latest c ≤ port_slots
      go (yes e) = omega (arith, e)
      go (no ne) =
          here (crosses p f q && ltb (latest - hop_on (route_of p f) q) c) (c - suc (latest - hop_on (route_of p f) q)) (port_held f l (omega arith)) (omega arith)

  -- no sum is more than the largest demand
  module _ (over : ℕ) (fits : over ≤ most_widened) (r : ℕ) (slot : r < port_slots) where
    flow_most : (f : ℕ) → f < flow_slots → queued_flow p over q latest c r f ≤ most_bits
    flow_most f l = go (ℕ_discrete (queued_port (route_of p f) q latest c) (suc r))
      where
        go : Dec (queued_port (route_of p f) q latest c ≡ suc r) → queued_flow p over q latest c r f ≤ most_bits
        go (yes e) =
            let flow = port_held f l (omega (arith, e)) in
            omega
            (arith, flow_here p over q latest c r f e, flow_bits_most over fits flow.period_least flow.count_most flow.bytes_most flow.jitter_most (extra_most p valid r slot))
        go (no ne) = omega (arith, flow_else p over q latest c r f ne)

    pub sum_most : (f : ℕ) → f ≤ flow_slots → sum_to f (queued_flow p over q latest c r) ≤ most_demand
    sum_most f l =
        le_trans (sum_to_most f (queued_flow p over q latest c r) most_bits (λ i h. flow_most i (omega arith))) (mul-le-mul_right most_bits l)

    -- so its bits can be added there
    pub next_most : (f : ℕ) → f < flow_slots → queued_port (route_of p f) q latest c ≡ suc r → sum_to f (queued_flow p over q latest c r) + flow_bits p over f r ≤ most_demand
    next_most f l e =
        omega (arith, sum_most (f + 1) (omega arith), sum_next p over q latest c f r, flow_here p over q latest c r f e)

-- a burst that crosses the port and is on its way is queued at one port
part_cases
    : (crossing early : Bool) (x r n w : ℕ)
    → cond (early && eqb x (suc r)) (cond crossing n 0) 0 * w ≡ cond (eqb (cond (crossing && early) x 0) (suc r)) (n * w) 0
part_cases crossing early x r n w = go crossing early
  where
    none : 0 * w ≡ cond (eqb 0 (suc r)) (n * w) 0
    none = zero-mul w ∙ sym (ap (λ (b : Bool). cond b (n * w) 0) (ne_eqb 0 (suc r) (λ e. omega arith)))

    both : (b : Bool) → cond b n 0 * w ≡ cond b (n * w) 0
    both true = refl
    both false = zero-mul w

    nothing : (b : Bool) → cond {A = ℕ} b 0 0 ≡ 0
    nothing true = refl
    nothing false = refl

    go : (a e : Bool) → cond (e && eqb x (suc r)) (cond a n 0) 0 * w ≡ cond (eqb (cond (a && e) x 0) (suc r)) (n * w) 0
    go true true = both (eqb x (suc r))
    go true false = none
    go false e = ap (λ (m : ℕ). m * w) (nothing (e && eqb x (suc r))) ∙ none

-- after the last flow each sum is the bits that the port must send
module _ (p : Plan) (valid : valid_plan p ≡ true) (T q c : ℕ) where
  crossing_is : (f : ℕ) → f < flow_slots → present p f && crosses p f q ≡ crosses p f q
  crossing_is f l = go (crosses p f q) refl
    where
      go : (b : Bool) → crosses p f q ≡ b → present p f && b ≡ b
      go true h = ap (λ (a : Bool). a && true) (held_present p f l (crosses_held p valid f q l h))
      go false h = and-false (present p f)

  pub flow_is : (r f : ℕ) → f < flow_slots → cond (burst_at p q f c r) (burst_frames p T q f) 0 * wire_bits p f r ≡ queued_flow p (widened p T) q (latest_hop p q) c r f
  unfolding burst_at burst_frames burst_cycle hop wire_bits
  flow_is r f l =
      ap (λ (b : Bool). cond (burst_at p q f c r) (cond b (frames p f T) 0) 0 * wire_bits p f r) (crossing_is f l)
      ∙ part_cases (crosses p f q) (ltb (burst_cycle p q f) c) (get_or (route_of p f) (c - suc (burst_cycle p q f)) 0) r (frames p f T) (wire_bits p f r)
      ∙ ap (λ (n : ℕ). cond (eqb (queued_port (route_of p f) q (latest_hop p q) c) (suc r)) (n * wire_bits p f r) 0) (frames_by_lem p f T)

  pub sums_all
      : (bits : List ℕ) {over latest : ℕ}
      → over ≡ widened_by p.clock T
      → latest ≡ latest_hop p q
      → Sums p over q latest c flow_slots bits
      → (r : ℕ)
      → r < port_slots
      → get_or bits r 0 ≡ burst_bits p T q c r
  unfolding burst_bits widened
  sums_all bits e d sums r slot =
      sums r slot
      ∙ ap₂ (λ (o l : ℕ). sum_to flow_slots (queued_flow p o q l c r)) e d
      ∙ le_antisymm
      (sum_to_le flow_slots _ _ (λ f l. le_of_eq (sym (flow_is r f l))))
      (sum_to_le flow_slots _ _ (λ f l. le_of_eq (flow_is r f l)))
