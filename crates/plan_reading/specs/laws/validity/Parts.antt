-- Tables stay valid with each part that is stored into them.
use Rattle.std.specs.Prelude.{◌≡◌, refl, true, ℕ, suc, ◌-◌, ◌≤◌, ◌<◌, length}
use Rattle.std.proofs.Common.{ap, ◌∙◌, arith, get_or-set_same, get_or-set_other}
use mathlib.Core.List.{List, [], ◌∷◌}
use Rattle.std.proofs.Math.Decide.{ℕ_discrete}
use Rattle.std.proofs.lemmas.List.{get_or-replicate}
use Rattle.cqf.specs.Bounded.{every, distinct}
use Rattle.cqf.specs.Limits.{port_slots, flow_slots, max_hops, guard_ok}
use Rattle.cqf.specs.Plan.{Clock, Plan, no_plan, clock_ok, route_of, port_in}
use Rattle.plan_reading.specs.Part.{Part, header, port, flow, extra, jitter, clock}
use Rattle.plan_reading.specs.Store.{store, store_all}
use Rattle.plan_reading.specs.Reading.{has_flow}
use Rattle.plan_reading.specs.Ranges.{HeaderOk, PortOk, FlowOk, ExtraOk, JitterOk, PartOk}
use Rattle.plan_reading.specs.Sized.{Sized}
use Rattle.plan_reading.specs.laws.fields.Within.{within_low, within_high, slot_below}
use Rattle.plan_reading.specs.laws.fields.Ranged.{All}
use Rattle.plan_reading.specs.laws.fields.ByPart.{Once}
use Rattle.plan_reading.specs.laws.validity.Slots.{valid_rate, valid_extra, valid_in, valid_jitter, valid_hops, rate_kept, extra_kept, jitter_kept, flow_kept, rate_filled, extra-filled, jitter-filled, flow_filled}
use Rattle.plan_reading.specs.laws.stores.Tables
use Rattle.plan_reading.specs.laws.stores.Tables.{sized_none, sized_store}
use Rattle.plan_reading.specs.laws.reading.Absent.{NamesPresent}

-- the tables are valid, but for the top, and for the ports that routes and extra bytes name and the flows that jitters name: those
-- are in the plan of these rates and periods
pub record ValidTables (rates periods : List ℕ) (p : Plan) : Type 0 where
  pub sized : Sized p
  pub guard : guard_ok p.guard ≡ true
  pub clock : clock_ok p.clock ≡ true
  pub ports : (q : ℕ) → q < port_slots → valid_rate p q ≡ true
  pub extras : (q : ℕ) → q < port_slots → valid_extra rates p q ≡ true
  pub flows : (f : ℕ) → f < flow_slots → valid_in rates p f ≡ true
  pub jitters : (f : ℕ) → f < flow_slots → valid_jitter periods p f ≡ true

pub none_valid : (rates periods : List ℕ) → ValidTables rates periods no_plan
unfolding no_plan valid_rate valid_extra valid_in valid_jitter
none_valid rates periods =
    record {
      sized = sized_none;
      guard = refl;
      clock = refl;
      ports = λ q l. rw (get_or-replicate {A = ℕ} port_slots q 0 0 l);
      extras = λ q l. rw (get_or-replicate {A = ℕ} port_slots q 0 0 l);
      flows = λ f l. rw (get_or-replicate {A = ℕ} flow_slots f 0 0 l);
      jitters = λ f l. rw (get_or-replicate {A = ℕ} flow_slots f 0 0 l);
    }

-- a part more keeps the tables valid
module _ (rates periods : List ℕ) (p : Plan) (s : ValidTables rates periods p) where
  header_valid : (g t : ℕ) → HeaderOk g t → ValidTables rates periods (store p (header g t))
  unfolding store valid_rate valid_extra valid_in valid_jitter
  header_valid g t ok =
      record { sized = sized_store p (header g t) s.sized; guard = ok.guard; clock = s.clock; ports = s.ports; extras = s.extras; flows = s.flows; jitters = s.jitters }

  port_valid : (n rate b : ℕ) → PortOk n rate b → ValidTables rates periods (store p (port n rate b))
  unfolding store valid_extra valid_in valid_jitter
  port_valid n rate b ok =
      record { sized = sized_store p (port n rate b) s.sized; guard = s.guard; clock = s.clock; ports = λ q l. slot q l (ℕ_discrete q (n - 1)); extras = s.extras; flows = s.flows; jitters = s.jitters }
    where
      fits : n - 1 < port_slots
      fits = slot_below port_slots n ok.number

      slot : (q : ℕ) → q < port_slots → Dec (q ≡ n - 1) → valid_rate (store p (port n rate b)) q ≡ true
      slot q l (yes e) =
          rate_filled (store p (port n rate b)) q
          (rw (e, get_or-set_same p.rates (n - 1) rate 0 (rw s.sized.rates fits)) ok.rate)
          (rw (e, get_or-set_same p.blockings (n - 1) b 0 (rw s.sized.blockings fits)) ok.blocking)
      slot q l (no ne) =
          rate_kept p (store p (port n rate b)) q
          (get_or-set_other p.rates (n - 1) q rate 0 ne)
          (get_or-set_other p.blockings (n - 1) q b 0 ne)
          (s.ports q l)

  -- a flow over distinct ports of the plan
  flow_valid
      : (n t c l : ℕ) (r : List ℕ)
      → FlowOk n t c l (length r)
      → distinct r ≡ true
      → every (port_in rates) r ≡ true
      → ValidTables rates periods (store p (flow n t c l r))
  unfolding store valid_rate valid_extra valid_jitter
  flow_valid n t c l r ok once named =
      record { sized = sized_store p (flow n t c l r) s.sized; guard = s.guard; clock = s.clock; ports = s.ports; extras = s.extras; flows = λ f less. slot f less (ℕ_discrete f (n - 1)); jitters = s.jitters }
    where
      o : Plan
      o = store p (flow n t c l r)

      fits : n - 1 < flow_slots
      fits = slot_below flow_slots n ok.number

      short : length r ≤ max_hops
      short = within_high _ _ (length r) ok.hops

      route : route_of o (n - 1) ≡ r
      route = Tables.stored_route p s.sized n t c l r fits short

      new : valid_in rates o (n - 1) ≡ true
      new =
          flow_filled rates o (n - 1)
          (rw (Tables.stored_period p s.sized n t c l r fits) ok.period)
          (rw (Tables.stored_count p s.sized n t c l r fits) ok.count)
          (rw (Tables.stored_bytes p s.sized n t c l r fits) ok.length)
          (rw (Tables.stored_hops p s.sized n t c l r fits) ok.hops)
          (rw route named)
          (rw route once)

      slot : (f : ℕ) → f < flow_slots → Dec (f ≡ n - 1) → valid_in rates o f ≡ true
      slot f less (yes e) = rw e new
      slot f less (no ne) =
          flow_kept rates p o f
          (Tables.kept_period p n t c l r f ne)
          (Tables.kept_count p n t c l r f ne)
          (Tables.kept_bytes p n t c l r f ne)
          (Tables.kept_hops p n t c l r f ne)
          (Tables.kept_route p n t c l r f ne short (valid_hops rates p f (s.flows f less)))
          (s.flows f less)

  -- extra bytes of a port of the plan
  extra_valid : (n b : ℕ) → ExtraOk n b → port_in rates n ≡ true → ValidTables rates periods (store p (extra n b))
  unfolding store valid_rate valid_in valid_jitter
  extra_valid n b ok named =
      record { sized = sized_store p (extra n b) s.sized; guard = s.guard; clock = s.clock; ports = s.ports; extras = λ q l. slot q l (ℕ_discrete q (n - 1)); flows = s.flows; jitters = s.jitters }
    where
      o : Plan
      o = store p (extra n b)

      new : valid_extra rates o (n - 1) ≡ true
      new =
          let fits : n - 1 < port_slots = slot_below port_slots n ok.number in
          let own : suc (n - 1) ≡ n = omega (arith, within_low 1 port_slots n ok.number) in
          extra-filled rates o (n - 1)
          (rw (get_or-set_same p.extras (n - 1) b 0 (rw s.sized.extras fits)) ok.bytes)
          (ap (port_in rates) own ∙ named)

      slot : (q : ℕ) → q < port_slots → Dec (q ≡ n - 1) → valid_extra rates o q ≡ true
      slot q l (yes e) = rw e new
      slot q l (no ne) = extra_kept rates p o q (get_or-set_other p.extras (n - 1) q b 0 ne) (s.extras q l)

  -- the jitter of a flow of the plan
  jitter_valid : (n j : ℕ) → JitterOk n j → has_flow periods n ≡ true → ValidTables rates periods (store p (jitter n j))
  unfolding store valid_rate valid_extra valid_in
  jitter_valid n j ok named =
      record { sized = sized_store p (jitter n j) s.sized; guard = s.guard; clock = s.clock; ports = s.ports; extras = s.extras; flows = s.flows; jitters = λ f l. slot f l (ℕ_discrete f (n - 1)) }
    where
      o : Plan
      o = store p (jitter n j)

      new : valid_jitter periods o (n - 1) ≡ true
      new =
          let fits : n - 1 < flow_slots = slot_below flow_slots n ok.number in
          let own : suc (n - 1) ≡ n = omega (arith, within_low 1 flow_slots n ok.number) in
          jitter-filled periods o (n - 1)
          (rw (get_or-set_same p.jitters (n - 1) j 0 (rw s.sized.jitters fits)) ok.ns)
          (ap (has_flow periods) own ∙ named)

      slot : (f : ℕ) → f < flow_slots → Dec (f ≡ n - 1) → valid_jitter periods o f ≡ true
      slot f l (yes e) = rw e new
      slot f l (no ne) = jitter_kept periods p o f (get_or-set_other p.jitters (n - 1) f j 0 ne) (s.jitters f l)

  clock_valid : (k : Clock) → clock_ok k ≡ true → ValidTables rates periods (store p (clock k))
  unfolding store valid_rate valid_extra valid_in valid_jitter
  clock_valid k ok =
      record { sized = sized_store p (clock k) s.sized; guard = s.guard; clock = ok; ports = s.ports; extras = s.extras; flows = s.flows; jitters = s.jitters }

-- each part, and so several
module _ (rates periods : List ℕ) where
  part_valid : (p : Plan) (x : Part) → PartOk x → Once x → NamesPresent rates periods x → ValidTables rates periods p → ValidTables rates periods (store p x)
  part_valid p (header g t) ok once named h = header_valid rates periods p h g t ok
  part_valid p (port n r b) ok once named h = port_valid rates periods p h n r b ok
  part_valid p (flow n t c l r) ok once named h = flow_valid rates periods p h n t c l r ok once named
  part_valid p (extra n b) ok once named h = extra_valid rates periods p h n b ok named
  part_valid p (jitter n j) ok once named h = jitter_valid rates periods p h n j ok named
  part_valid p (clock k) ok once named h = clock_valid rates periods p h k ok

  pub parts_valid
      : (p : Plan) (xs : List Part)
      → All PartOk xs
      → All Once xs
      → All (NamesPresent rates periods) xs
      → ValidTables rates periods p
      → ValidTables rates periods (store_all p xs)
  unfolding store_all
  parts_valid p [] ok once named h = h
  parts_valid p (x ∷ xs) ok once named h =
      parts_valid (store p x) xs ok.1 once.1 named.1 (part_valid p x ok.0 once.0 named.0 h)
