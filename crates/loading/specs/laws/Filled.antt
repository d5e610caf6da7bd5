-- A port or a flow whose key is marked is in the tables that were read.
use Rattle.std.specs.Prelude.{ℕ, ◌+◌, ◌-◌, ◌<◌, ◌≡◌, List, ◌⊎◌, length, get_or, set, replicate}
use Rattle.std.proofs.Math.Path.{refl}
use Rattle.std.proofs.Common.{subst, arith, get_or-set_same, get_or-set_other}
use Rattle.std.proofs.Math.Logic.{inl, inr, ⊎_elim}
use Rattle.std.proofs.Math.Decide.{ℕ_discrete}
use Rattle.cqf.specs.Form.{Form}
use Rattle.cqf.specs.Limits.{port_slots, flow_slots}
use Rattle.cqf.specs.Plan.{Plan}
use Rattle.plan.specs.Layout.{Kind, layout}
use Rattle.plan.specs.Field.{Field}
use Rattle.plan_reading.specs.Part.{parts_by, parts_of}
use Rattle.plan_reading.specs.Store.{store, store_all}
use Rattle.plan_reading.specs.Sized.{Sized}
use Rattle.plan_reading.specs.Key.{port_keys, flow_keys, key_of}
use Rattle.plan_reading.specs.Draft.{Draft, added}
use Rattle.plan_reading.specs.Reading.{Mode, more, step_at, route_at}
use Rattle.plan_reading.specs.laws.fields.Kinds.{key_below}
use Rattle.plan_reading.specs.laws.fields.Found.{found-numbers}
use Rattle.plan_reading.specs.laws.fields.Ranged.{InRange, in_range}
use Rattle.plan_reading.specs.laws.fields.Within.{within_low, within_high, slot_below}
use Rattle.plan_reading.specs.laws.reading.Steps.{step_more}
use Rattle.plan_reading.specs.laws.stores.Stored.{Flagged}
use Rattle.plan_reading.specs.laws.stores.Tables.{sized_all}
use Rattle.loading.specs.Loading.{Covers, marks_of}
use Rattle.loading.specs.laws.Covers.{covers_set, covers_marks, covers_mark, marks_blank, mark_inside}

pub record Filled (d : Draft) : Type 0 where
  pub sized : Sized d.tables
  pub ports : Covers (marks_of d.seen port_keys port_slots) d.tables.rates
  pub flows : Covers (marks_of d.seen flow_keys flow_slots) d.tables.periods
  pub ports_only : Covers d.tables.rates (marks_of d.seen port_keys port_slots)
  pub flows_only : Covers d.tables.periods (marks_of d.seen flow_keys flow_slots)

-- what a field of this kind stores: it takes no port and no flow away, and brings the one of its key
module _ (p : Plan) (sized : Sized p) (ns r : List ℕ) where
  abbrev after : Kind → Plan
  after k = store_all p (parts_by k ns r)

  abbrev key : Kind → ℕ
  key k = key_of (record { kind = k; numbers = ns; hops = 0 })

  pub record Brings (k : Kind) : Type 0 where
    pub rates : Covers p.rates (after k).rates
    pub periods : Covers p.periods (after k).periods
    pub port : (q : ℕ) → q < port_slots → port_keys + q ≡ key k → 0 < get_or (after k).rates q 0
    pub flow : (f : ℕ) → f < flow_slots → flow_keys + f ≡ key k → 0 < get_or (after k).periods f 0
    pub rates_only : (q : ℕ) → 0 < get_or (after k).rates q 0 → (0 < get_or p.rates q 0) ⊎ (q < port_slots) × (port_keys + q ≡ key k)
    pub periods_only : (f : ℕ) → 0 < get_or (after k).periods f 0 → (0 < get_or p.periods f 0) ⊎ (f < flow_slots) × (flow_keys + f ≡ key k)

  stored : (l : List ℕ) (n v q : ℕ) → n ≡ q + 1 → n - 1 < length l → 0 < v → 0 < get_or (set l (n - 1) v) q 0
  stored l n v q is fits some =
      let here : q ≡ n - 1 = omega arith in
      rw here (omega (arith, get_or-set_same l (n - 1) v 0 fits, some))

  -- what stands there after a number is stored stood there before, or is that number
  source : (l : List ℕ) (n v q : ℕ) → 0 < get_or (set l (n - 1) v) q 0 → (0 < get_or l q 0) ⊎ (q ≡ n - 1)
  source l n v q h = go (ℕ_discrete q (n - 1))
    where
      go : Dec (q ≡ n - 1) → (0 < get_or l q 0) ⊎ (q ≡ n - 1)
      go (yes same) = inr same
      go (no apart) = inl (omega (arith, get_or-set_other l (n - 1) q v 0 apart))

  -- a field of any other kind
  other
      : (k : Kind)
      → (after k).rates ≡ p.rates
      → (after k).periods ≡ p.periods
      → ((q : ℕ) → q < port_slots → port_keys + q ≡ key k → ⊥)
      → ((f : ℕ) → f < flow_slots → flow_keys + f ≡ key k → ⊥)
      → Brings k
  other k a b x y =
      record {
        rates = λ q h. rw a h;
        periods = λ q h. rw b h;
        port = λ q l e. absurd (x q l e);
        flow = λ f l e. absurd (y f l e);
        rates_only = λ q h. inl (rw a at h);
        periods_only = λ f h. inl (rw b at h);
      }

  pub brings : (k : Kind) → InRange (layout k).numbers 0 ns → Brings k
  unfolding store_all store
  brings Kind.header t = other Kind.header refl refl (λ q l e. omega arith) (λ f l e. omega arith)
  brings Kind.port t =
      record {
        rates = covers_set p.rates (get_or ns 0 0 - 1) (get_or ns 1 0) (within_low 1 _ (get_or ns 1 0) t.1.0);
        periods = λ f h. h;
        port = λ q l e.
            stored p.rates (get_or ns 0 0) (get_or ns 1 0) q (omega arith) (rw sized.rates (slot_below port_slots (get_or ns 0 0) t.0))
            (within_low 1 _ (get_or ns 1 0) t.1.0);
        flow = λ f l e. absurd (omega (arith, within_high 1 port_slots (get_or ns 0 0) t.0));
        rates_only = λ q h.
            ⊎_elim inl
            (λ e. inr (omega (arith, e, slot_below port_slots (get_or ns 0 0) t.0), omega (arith, e, within_low 1 port_slots (get_or ns 0 0) t.0)))
            (source p.rates (get_or ns 0 0) (get_or ns 1 0) q h);
        periods_only = λ f h. inl h;
      }
  brings Kind.flow t =
      record {
        rates = λ q h. h;
        periods = covers_set p.periods (get_or ns 0 0 - 1) (get_or ns 1 0) (omega (arith, within_low _ _ (get_or ns 1 0) t.1.0));
        port = λ q l e. absurd (omega (arith, within_low 1 flow_slots (get_or ns 0 0) t.0));
        flow = λ f l e.
            stored p.periods (get_or ns 0 0) (get_or ns 1 0) f (omega arith) (rw sized.periods (slot_below flow_slots (get_or ns 0 0) t.0))
            (omega (arith, within_low _ _ (get_or ns 1 0) t.1.0));
        rates_only = λ q h. inl h;
        periods_only = λ f h.
            ⊎_elim inl
            (λ e. inr (omega (arith, e, slot_below flow_slots (get_or ns 0 0) t.0), omega (arith, e, within_low 1 flow_slots (get_or ns 0 0) t.0)))
            (source p.periods (get_or ns 0 0) (get_or ns 1 0) f h);
      }
  brings Kind.extra t = other Kind.extra refl refl (λ q l e. omega (arith, within_low 1 port_slots (get_or ns 0 0) t.0)) (λ f l e. omega (arith, within_low 1 port_slots (get_or ns 0 0) t.0))
  brings Kind.jitter t = other Kind.jitter refl refl (λ q l e. omega (arith, within_low 1 flow_slots (get_or ns 0 0) t.0)) (λ f l e. omega (arith, within_low 1 flow_slots (get_or ns 0 0) t.0))
  brings Kind.clock t = other Kind.clock refl refl (λ q l e. omega arith) (λ f l e. omega arith)
  brings Kind.header2 t = other Kind.header2 refl refl (λ q l e. omega arith) (λ f l e. omega arith)
  brings Kind.port2 t =
      record {
        rates = covers_set p.rates (get_or ns 0 0 - 1) (get_or ns 1 0) (within_low 1 _ (get_or ns 1 0) t.1.0);
        periods = λ f h. h;
        port = λ q l e.
            stored p.rates (get_or ns 0 0) (get_or ns 1 0) q (omega arith) (rw sized.rates (slot_below port_slots (get_or ns 0 0) t.0))
            (within_low 1 _ (get_or ns 1 0) t.1.0);
        flow = λ f l e. absurd (omega (arith, within_high 1 port_slots (get_or ns 0 0) t.0));
        rates_only = λ q h.
            ⊎_elim inl
            (λ e. inr (omega (arith, e, slot_below port_slots (get_or ns 0 0) t.0), omega (arith, e, within_low 1 port_slots (get_or ns 0 0) t.0)))
            (source p.rates (get_or ns 0 0) (get_or ns 1 0) q h);
        periods_only = λ f h. inl h;
      }
  brings Kind.flow2 t =
      record {
        rates = λ q h. h;
        periods = covers_set p.periods (get_or ns 0 0 - 1) (get_or ns 1 0) (omega (arith, within_low _ _ (get_or ns 1 0) t.1.0));
        port = λ q l e. absurd (omega (arith, within_low 1 flow_slots (get_or ns 0 0) t.0));
        flow = λ f l e.
            stored p.periods (get_or ns 0 0) (get_or ns 1 0) f (omega arith) (rw sized.periods (slot_below flow_slots (get_or ns 0 0) t.0))
            (omega (arith, within_low _ _ (get_or ns 1 0) t.1.0));
        rates_only = λ q h. inl h;
        periods_only = λ f h.
            ⊎_elim inl
            (λ e. inr (omega (arith, e, slot_below flow_slots (get_or ns 0 0) t.0), omega (arith, e, within_low 1 flow_slots (get_or ns 0 0) t.0)))
            (source p.periods (get_or ns 0 0) (get_or ns 1 0) f h);
      }

-- so it is after one field more
marked-own : (seen : List ℕ) (own key keys q : ℕ) → own < length seen → (q < keys) × (key + q ≡ own) → 0 < get_or (marks_of (set seen own 1) key keys) q 0
marked-own seen own key keys q inside k =
    let one : get_or (set seen own 1) (key + q) 0 ≡ 1 = rw k.1 (get_or-set_same seen own 1 0 inside) in
    omega (arith, mark_inside (set seen own 1) key keys q k.0, one)

filled-added
    : (d : Draft) (x : Field) (r : List ℕ)
    → key_of x < length d.seen
    → InRange (layout x.kind).numbers 0 x.numbers
    → Filled d
    → Filled (added d x r)
unfolding added
filled-added d x r inside ok f =
    let b = brings d.tables f.sized x.numbers r x.kind ok in
    record {
      sized = sized_all d.tables (parts_of x r) f.sized;
      ports = covers_mark d.seen (key_of x) port_keys port_slots (store_all d.tables (parts_of x r)).rates (λ q h. b.rates q (f.ports q h)) b.port;
      flows = covers_mark d.seen (key_of x) flow_keys flow_slots (store_all d.tables (parts_of x r)).periods (λ q h. b.periods q (f.flows q h)) b.flow;
      ports_only = λ q h.
          ⊎_elim
          (λ k. covers_marks d.seen (set d.seen (key_of x) 1) port_keys port_slots (covers_set d.seen (key_of x) 1 (omega arith)) q (f.ports_only q k))
          (marked-own d.seen (key_of x) port_keys port_slots q inside)
          (b.rates_only q h);
      flows_only = λ q h.
          ⊎_elim
          (λ k. covers_marks d.seen (set d.seen (key_of x) 1) flow_keys flow_slots (covers_set d.seen (key_of x) 1 (omega arith)) q (f.flows_only q k))
          (marked-own d.seen (key_of x) flow_keys flow_slots q inside)
          (b.periods_only q h);
    }

pub Filled-next
    : (form : Form) (mode : Mode) (s : List ℕ) (at last : ℕ) (d : Draft) (next key : ℕ) (d' : Draft)
    → step_at form mode s at last d ≡ more next key d'
    → Flagged d
    → Filled d
    → Filled d'
Filled-next form mode s at last d next key d' e flagged f =
    let t = step_more form mode s at last d next key d' e in
    let ok = found-numbers form s at t.part next t.stands in
    subst Filled t.adds (filled-added d t.part (route_at t.part.kind s at) (omega (arith, flagged, key_below t.part ok)) (in_range (layout t.part.kind).numbers t.part.numbers ok.ranges) f)

-- at first nothing is marked
pub Filled-none
    : (d : Draft) (m : ℕ)
    → d.seen ≡ replicate m 0
    → Sized d.tables
    → ((q : ℕ) → get_or d.tables.rates q 0 ≡ 0)
    → ((f : ℕ) → get_or d.tables.periods f 0 ≡ 0)
    → Filled d
Filled-none d m e sized no-port no_flow =
    record {
      sized = sized;
      ports = rw e (marks_blank m port_keys port_slots d.tables.rates);
      flows = rw e (marks_blank m flow_keys flow_slots d.tables.periods);
      ports_only = λ q h. absurd (omega (arith, no-port q, h));
      flows_only = λ f h. absurd (omega (arith, no_flow f, h));
    }
