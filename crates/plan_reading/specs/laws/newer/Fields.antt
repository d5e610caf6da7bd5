-- The fields as which a plan is saved in the newer form: which they are, each in range, and what they name in the plan.
use Rattle.std.specs.Prelude.{ℕ, zero, suc, ◌-◌, ◌*◌, ◌<◌, ◌≡◌, refl, ◌⊎◌, Bool, true, false, not, ltb, length}
use Rattle.std.proofs.Common.{sym, ap, ◌∙◌, subst, inl, inr, true≢false, not-suc-le-zero, arith, ltb-true}
use mathlib.Core.List.Memᴰ
use mathlib.Core.List.{List, [], ◌∷◌, ◌++◌, Memᴰ}
use Rattle.std.proofs.Math.Decide.{ℕ_discrete}
use Rattle.cqf.specs.Form.{newer}
use Rattle.cqf.specs.Limits.{port_slots, flow_slots, route_stride, drift_ok, timing_jitter_ok, sync_error_ok, hops_ok}
use Rattle.cqf.specs.Plan.{Plan, rate_of, period_of, hops_of, route_of, valid_plan}
use Rattle.cqf.proofs.laws.Lists.{sublist_length}
use Rattle.cqf.proofs.laws.Route.{port_in_there}
use Rattle.plan.specs.Layout.{Kind}
use Rattle.plan_reading.specs.Strict.{Entry}
use Rattle.plan_reading.specs.Saved.{header2_field, port2_field, flow2_field, field_when, collect_fields, port2_fields, flow2_fields, newer_fields}
use Rattle.plan_reading.specs.laws.fields.Passes.{and_three}
use Rattle.plan_reading.specs.laws.validity.Held.{parts, port_held, flow_held}
use Rattle.plan_reading.specs.laws.reading.Absent.{flow_there}
use Rattle.plan_reading.specs.laws.rows.SavedRow.{EntryOk, AllOk, none, more}
use Rattle.plan_reading.specs.laws.rows.RowAbsent.{AllPresent, none, more}
use Rattle.plan_reading.specs.laws.rows.Spelled.{plain_ok}
use Rattle.plan_reading.specs.laws.saved.Says.{numbered, back}
use Rattle.plan_reading.specs.laws.saved.SavedOk.{ports_numbered}

-- a field of a collection is one of a slot
collected : {e : Entry} (n : ℕ) (at : ℕ → List Entry) → Memᴰ e (collect_fields n at) → (i : ℕ) × (i < n) × Memᴰ e (at i)
unfolding collect_fields
collected zero at m = absurd (Memᴰ.not-nil m)
collected {e} (suc n) at m = go (collected n at) (Memᴰ.append_cases (collect_fields n at) m)
  where
    go
        : (Memᴰ e (collect_fields n at) → (i : ℕ) × (i < n) × Memᴰ e (at i))
        → Memᴰ e (collect_fields n at) ⊎ Memᴰ e (at n)
        → (i : ℕ) × (i < suc n) × Memᴰ e (at i)
    go rest (inl k) = let t = rest k in (t.0, omega (arith, t.1), t.2)
    go rest (inr k) = (n, omega arith, k)

in_collection : {e : Entry} (n : ℕ) (at : ℕ → List Entry) (i : ℕ) → i < n → Memᴰ e (at i) → Memᴰ e (collect_fields n at)
unfolding collect_fields
in_collection zero at i l m = absurd (not-suc-le-zero l)
in_collection {e} (suc n) at i l m = go (in_collection n at i) (ℕ_discrete i n)
  where
    go : (i < n → Memᴰ e (at i) → Memᴰ e (collect_fields n at)) → Dec (i ≡ n) → Memᴰ e (collect_fields n at ++ at n)
    go rest (yes same) = Memᴰ.append_right (collect_fields n at) (subst (λ (j : ℕ). Memᴰ e (at j)) same m)
    go rest (no apart) = Memᴰ.append_left (at n) (rest (omega arith) m)

only_when : {e f : Entry} (test : Bool) → Memᴰ e (field_when test f) → (test ≡ true) × (e ≡ f)
only_when true m = (refl, Memᴰ.eq_of_singleton m)
only_when false m = absurd (Memᴰ.not-nil m)

there_when : {e f : Entry} (test : Bool) → test ≡ true → e ≡ f → Memᴰ e (field_when test f)
there_when true h same = Memᴰ.head same
there_when false h same = absurd (true≢false (sym h))

-- the header, the field of a slot with a port, or that of a slot with a flow
pub data NewerField (p : Plan) (e : Entry) : Type 0 where
  of_header_lem : e ≡ header2_field p → NewerField p e
  of_port_lem : (q : ℕ) → q < port_slots → ltb 0 (rate_of p q) ≡ true → e ≡ port2_field p q → NewerField p e
  of_flow_lem : (f : ℕ) → f < flow_slots → ltb 0 (period_of p f) ≡ true → e ≡ flow2_field p f → NewerField p e

module _ (p : Plan) where
  pub newer_cases : {e : Entry} → Memᴰ e (newer_fields p) → NewerField p e
  unfolding newer_fields
  newer_cases {e} m = first (Memᴰ.cases_cons m)
    where
      slots : Memᴰ e (collect_fields port_slots (port2_fields p)) ⊎ Memᴰ e (collect_fields flow_slots (flow2_fields p)) → NewerField p e
      slots (inl k) =
          let s = collected port_slots (port2_fields p) k in
          let t = only_when (ltb 0 (rate_of p s.0)) s.2 in
          of_port_lem s.0 s.1 t.0 t.1
      slots (inr k) =
          let s = collected flow_slots (flow2_fields p) k in
          let t = only_when (ltb 0 (period_of p s.0)) s.2 in
          of_flow_lem s.0 s.1 t.0 t.1

      first : (e ≡ header2_field p) ⊎ Memᴰ e (collect_fields port_slots (port2_fields p) ++ collect_fields flow_slots (flow2_fields p)) → NewerField p e
      first (inl same) = of_header_lem same
      first (inr k) = slots (Memᴰ.append_cases (collect_fields port_slots (port2_fields p)) k)

  pub newer_there : {e : Entry} → NewerField p e → Memᴰ e (newer_fields p)
  unfolding newer_fields
  newer_there (of_header_lem same) = Memᴰ.head same
  newer_there (of_port_lem q l h same) =
      Memᴰ.tail
      (Memᴰ.append_left (collect_fields flow_slots (flow2_fields p))
      (in_collection port_slots (port2_fields p) q l (there_when (ltb 0 (rate_of p q)) h same)))
  newer_there (of_flow_lem f l h same) =
      Memᴰ.tail
      (Memᴰ.append_right (collect_fields port_slots (port2_fields p))
      (in_collection flow_slots (flow2_fields p) f l (there_when (ltb 0 (period_of p f)) h same)))

-- of a valid plan each is in range
module _ (p : Plan) (valid : valid_plan p ≡ true) where
  header2_ok : EntryOk newer (header2_field p)
  header2_ok =
      let c = p.clock in
      let t = and_three (drift_ok c.drift) (timing_jitter_ok c.timing_jitter_of) (sync_error_ok c.sync_error_of) (parts p valid).clock in
      plain_ok Kind.header2 _ (rw ((parts p valid).guard, (parts p valid).top, t.0, t.1, t.2)) refl

  port2_ok : (q : ℕ) → q < port_slots → ltb 0 (rate_of p q) ≡ true → EntryOk newer (port2_field p q)
  port2_ok q l h =
      let k = port_held p valid q l (inl (ltb-true 0 (rate_of p q) h)) in
      plain_ok Kind.port2 _ (rw (numbered port_slots q l, k.rate, k.blocking, k.extra)) refl

  flow2_ok : (f : ℕ) → f < flow_slots → ltb 0 (period_of p f) ≡ true → EntryOk newer (flow2_field p f)
  flow2_ok f l h =
      let k = flow_held p valid f l (inl (ltb-true 0 (period_of p f) h)) in
      let long : length (route_of p f) ≡ hops_of p f = sublist_length p.routes (f * route_stride) (hops_of p f) in
      record {
        numbers =
            record {
              kind = refl;
              ranges = rw (numbered flow_slots f l, k.period, k.count, k.bytes, k.jitter);
              hops = ap hops_ok long ∙ k.hops;
            };
        fits = record { hops = refl; ports = ports_numbered p.rates (route_of p f) k.in_plan };
        no_repeat = ap not k.once;
      }

  pub newer_ok : {e : Entry} → NewerField p e → EntryOk newer e
  newer_ok (of_header_lem same) = subst (EntryOk newer) (sym same) header2_ok
  newer_ok (of_port_lem q l h same) = subst (EntryOk newer) (sym same) (port2_ok q l h)
  newer_ok (of_flow_lem f l h same) = subst (EntryOk newer) (sym same) (flow2_ok f l h)

  pub newer_all : AllOk newer (newer_fields p)
  newer_all = go (newer_fields p) (λ e m. newer_cases p m)
    where
      go : (es : List Entry) → ((e : Entry) → Memᴰ e es → NewerField p e) → AllOk newer es
      go [] all = none
      go (e ∷ es) all = more (newer_ok (all e (Memᴰ.head refl))) (go es (λ f m. all f (Memᴰ.tail m)))

  -- and names what is in the plan
  pub newer_present : AllPresent p.rates p.periods (newer_fields p)
  newer_present = go (newer_fields p) (λ e m. newer_cases p m)
    where
      one : (e : Entry) (es : List Entry) → NewerField p e → AllPresent p.rates p.periods es → AllPresent p.rates p.periods (e ∷ es)
      one e es (of_header_lem same) rest = rw same (more {e = header2_field p} (tt, (tt, tt)) rest)
      one e es (of_port_lem q l h same) rest =
          let there = ltb-true 0 (rate_of p q) h in
          let here : rate_of p (suc q - 1) ≡ rate_of p q = ap (rate_of p) (back q) in
          rw same (more {e = port2_field p q} (tt, (port_in_there p.rates (suc q) (omega arith) (omega arith) (λ e. omega arith), tt)) rest)
      one e es (of_flow_lem f l h same) rest =
          let k = flow_held p valid f l (inl (ltb-true 0 (period_of p f) h)) in
          let there = ltb-true 0 (period_of p f) h in
          let here : period_of p (suc f - 1) ≡ period_of p f = ap (period_of p) (back f) in
          rw same (more {e = flow2_field p f} (k.in_plan, (flow_there p.periods (suc f) (numbered flow_slots f l) (omega arith), tt)) rest)

      go : (es : List Entry) → ((e : Entry) → Memᴰ e es → NewerField p e) → AllPresent p.rates p.periods es
      go [] all = none
      go (e ∷ es) all = one e es (all e (Memᴰ.head refl)) (go es (λ f m. all f (Memᴰ.tail m)))
