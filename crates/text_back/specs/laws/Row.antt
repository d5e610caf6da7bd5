-- The lines of a plan's text say what the plan says, so that they leave the plan.
use Rattle.std.specs.Prelude.{ℕ, suc, ◌+◌, ◌-◌, ◌*◌, ◌<◌, ◌≡◌, refl, Bool, true, false, ltb, length}
use Rattle.std.proofs.Common.{sym, ap, ◌∙◌, subst, inl, inr, true≢false, arith, lt-ltb, ltb-true}
use mathlib.Core.List.Memᴰ
use mathlib.Core.List.{List, ◌++◌, Memᴰ}
use Rattle.cqf.specs.Limits.{port_slots, flow_slots, route_stride, hops_ok}
use Rattle.cqf.specs.Plan.{Plan, rate_of, blocking_of, extra_of, period_of, count_of, length_of, jitter_of, hops_of, route_of, valid_plan}
use Rattle.cqf.proofs.laws.Lists.{sublist_length}
use Rattle.plan_reading.specs.Part.{Part, header, port, flow, extra, jitter, clock}
use Rattle.plan_reading.specs.Ranges.{PartOk, PortOk, FlowOk, ExtraOk, JitterOk}
use Rattle.plan_reading.specs.Saved.{collect, port_part, flow_part, extra_part, jitter_part, clock_parts}
use Rattle.plan_reading.specs.Sized.{Sized}
use Rattle.plan_reading.specs.Tidy.{tidied}
use Rattle.plan_reading.specs.laws.fields.Within.{within_low, slot_below}
use Rattle.plan_reading.specs.laws.fields.Ranged.{all_at}
use Rattle.plan_reading.specs.laws.stores.Fresh.{Fresh}
use Rattle.plan_reading.specs.laws.stores.Sources.{tables_of}
use Rattle.plan_reading.specs.laws.validity.Held.{PortHeld, FlowHeld, parts, port_held, flow_held}
use Rattle.plan_reading.specs.laws.saved.Entries.{Stands, Says, slot_collect, when_there, differ_clocks}
use Rattle.plan_reading.specs.laws.saved.Says.{numbered, back, stands_at, header_says, port_says, flow_says}
use Rattle.plan_reading.specs.laws.saved.SavedTables.{left_tables}
use Rattle.text_back.specs.laws.Collect.{pair}
use Rattle.text_back.specs.laws.Parts.{port_says_lem, flow_says_lem, text_parts, parts_all, text_separate}

-- one of a pair
pair_first : {x y : Part} (test : Bool) (z : Part) → test ≡ true → x ≡ y → Memᴰ x (pair test y z)
pair_first true z h same = Memᴰ.head same
pair_first false z h same = absurd (true≢false (sym h))

pair_second : {x z : Part} (test : Bool) (y : Part) → test ≡ true → x ≡ z → Memᴰ x (pair test y z)
pair_second true y h same = Memᴰ.tail (Memᴰ.head same)
pair_second false y h same = absurd (true≢false (sym h))

module _ (p : Plan) (valid : valid_plan p ≡ true) where
  -- the numbers of a slot are in range
  module _ (q : ℕ) (l : q < port_slots) (there : ltb 0 (rate_of p q) ≡ true) where
    held_port : PortHeld p q
    held_port = port_held p valid q l (inl (ltb-true 0 (rate_of p q) there))

    pub port_ok_lem : PortOk (suc q) (rate_of p q) (blocking_of p q)
    port_ok_lem = record { number = numbered port_slots q l; rate = held_port.rate; blocking = held_port.blocking }

    pub extra_ok : ExtraOk (suc q) (extra_of p q)
    extra_ok = record { number = numbered port_slots q l; bytes = held_port.extra }

  module _ (f : ℕ) (l : f < flow_slots) (there : ltb 0 (period_of p f) ≡ true) where
    pub held_flow : FlowHeld p f
    held_flow = flow_held p valid f l (inl (ltb-true 0 (period_of p f) there))

    pub flow_ok_lem : FlowOk (suc f) (period_of p f) (count_of p f) (length_of p f) (length (route_of p f))
    flow_ok_lem =
        record {
          number = numbered flow_slots f l;
          period = held_flow.period;
          count = held_flow.count;
          length = held_flow.bytes;
          hops = subst (λ (n : ℕ). hops_ok n ≡ true) (sym (sublist_length p.routes (f * route_stride) (hops_of p f))) held_flow.hops;
        }

    pub jitter_ok : JitterOk (suc f) (jitter_of p f)
    jitter_ok = record { number = numbered flow_slots f l; ns = held_flow.jitter }

  text_fresh : Fresh (text_parts p)
  text_fresh =
      record {
        ok =
            parts_all p PartOk (record { guard = (parts p valid).guard; top = (parts p valid).top })
            (λ q l h. (port_ok_lem q l h, extra_ok q l h))
            (λ f l h. (flow_ok_lem f l h, jitter_ok f l h))
            (parts p valid).clock;
        separate = text_separate p;
      }

  -- each stands in the plan
  text_stands : {x : Part} → Memᴰ x (text_parts p) → Stands p x
  text_stands m =
      all_at (Stands p) (text_parts p)
      (parts_all p (Stands p) (header_says p).stands
      (λ q l h. ((port_says p q l h).stands, (numbered port_slots q l, ap (extra_of p) (back q))))
      (λ f l h. ((flow_says p f l h).stands, (numbered flow_slots f l, ap (jitter_of p) (back f))))
      refl)
      m

  -- and each that the plan says is among them: in its slot
  abbrev flows_on : List Part
  flows_on = collect flow_slots (flow_says_lem p) ++ clock_parts p

  in_port : {x : Part} (q : ℕ) → q < port_slots → Memᴰ x (port_says_lem p q) → Memᴰ x (text_parts p)
  in_port q l m = Memᴰ.tail (Memᴰ.append_left flows_on (slot_collect port_slots (port_says_lem p) q l m))

  in_flow : {x : Part} (f : ℕ) → f < flow_slots → Memᴰ x (flow_says_lem p f) → Memᴰ x (text_parts p)
  in_flow f l m =
      Memᴰ.tail (Memᴰ.append_right (collect port_slots (port_says_lem p)) (Memᴰ.append_left (clock_parts p) (slot_collect flow_slots (flow_says_lem p) f l m)))

  text_said : (x : Part) → Says p x → Memᴰ x (text_parts p)
  text_said (header g t) h = Memᴰ.head (stands_at p (header g t) h.stands)
  text_said (clock k) h =
      Memᴰ.tail
      (Memᴰ.append_right (collect port_slots (port_says_lem p))
      (Memᴰ.append_right (collect flow_slots (flow_says_lem p))
      (when_there _ (differ_clocks p (λ e. h.tells (sym h.stands ∙ e))) (stands_at p (clock k) h.stands))))
  text_said (port n v b) h =
      let there : 0 < rate_of p (n - 1) = omega (arith, h.tells, h.stands.1) in
      in_port (n - 1) (slot_below port_slots n h.stands.0)
      (pair_first _ (extra_part p (n - 1)) (lt-ltb 0 (rate_of p (n - 1)) there) (stands_at p (port n v b) h.stands))
  text_said (flow n t c l r) h =
      let there : 0 < period_of p (n - 1) = omega (arith, h.tells, h.stands.1) in
      in_flow (n - 1) (slot_below flow_slots n h.stands.0)
      (pair_first _ (jitter_part p (n - 1)) (lt-ltb 0 (period_of p (n - 1)) there) (stands_at p (flow n t c l r) h.stands))
  text_said (extra n b) h =
      let l = slot_below port_slots n h.stands.0 in
      let k = port_held p valid (n - 1) l (inr (omega (arith, h.tells, h.stands.1))) in
      in_port (n - 1) l
      (pair_second _ (port_part p (n - 1)) (lt-ltb 0 (rate_of p (n - 1)) (within_low 1 _ (rate_of p (n - 1)) k.rate)) (stands_at p (extra n b) h.stands))
  text_said (jitter n j) h =
      let l = slot_below flow_slots n h.stands.0 in
      let k = flow_held p valid (n - 1) l (inr (omega (arith, h.tells, h.stands.1))) in
      let there : 0 < period_of p (n - 1) = omega (arith, within_low _ _ (period_of p (n - 1)) k.period) in
      in_flow (n - 1) l (pair_second _ (flow_part p (n - 1)) (lt-ltb 0 (period_of p (n - 1)) there) (stands_at p (jitter n j) h.stands))

  -- so they leave the plan, with 0 in each place past its routes
  pub text_tables : Sized p → tables_of (text_parts p) ≡ tidied p
  text_tables sized = left_tables p valid (text_parts p) (record { fresh = text_fresh; stand = text_stands; said = text_said }) sized
