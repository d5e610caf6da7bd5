-- Every plan that a text says is valid, and fits its form: the tables are after each line, but for what the end of a text tests.
use Rattle.std.specs.Prelude.{ℕ, ◌-◌, ◌≤◌, ◌<◌, ◌≡◌, refl, true, List, [], ◌∷◌, set, replicate}
use Rattle.std.proofs.Common.{sym, ap, subst, ◌∙◌, arith, get_or-set_other, take_all}
use Rattle.std.proofs.Math.Bool.{and-eq-true_iff}
use Rattle.std.proofs.lemmas.Bool.{false≢true}
use Rattle.std.proofs.Math.Decide.{ℕ_discrete}
use borrow.Author.Tests.{lt-ltb}
use Rattle.std.proofs.Math.ListN.{length, get_or}
use Rattle.std.proofs.lemmas.List.{get_or-replicate}
use Rattle.std.proofs.Math.Seq.{get_or-set_same}
use Rattle.cqf.specs.Bounded.{every, distinct}
use Rattle.cqf.specs.Form.{Form, most_hops_in}
use Rattle.cqf.specs.Limits.{port_slots, flow_slots, port_ok, flow_ok, guard_ok, top_ok}
use Rattle.cqf.specs.Plan.{Plan, no_plan, rate_of, extra_of, period_of, jitter_of, hops_of, present, port_in}
use Rattle.cqf.proofs.laws.Route.{port_in_there}
use Rattle.plan_reading.specs.Store.{store, store_all}
use Rattle.plan_reading.specs.Reading.{has_flow}
use Rattle.plan_reading.specs.Sized.{Sized}
use Rattle.plan_reading.specs.laws.fields.Within.{within_low, within_high, slot_below}
use Rattle.plan_reading.specs.laws.reading.Absent.{flow_there}
use Rattle.plan_reading.specs.laws.validity.Slots.{valid_rate, valid_extra, valid_in, valid_jitter}
use Rattle.plan_reading.specs.laws.validity.Parts.{ValidTables, none_valid, parts_valid}
use Rattle.plan_text.specs.Kinds.{items}
use Rattle.plan_text.specs.Line.{form_by}
use Rattle.plan_text.specs.Reading.{numbers_by, Fits}
use Rattle.plan_text.specs.Text.{Draft, blank, own, with_guard, with_top, port_parts, flow_parts, clock_parts, added, stored}
use Rattle.plan_text.specs.Drafting.{Goes, idle, takes}
use Rattle.plan_text.specs.laws.Fits.{guard_fits, top_fits, port_fits, extra_fits, flow_fits, jitter_fits, clocks_fit}
use Rattle.plan_text.specs.laws.Ranges.{ports_ok}
use Rattle.plan_text.specs.laws.Says.{most_hops}
use Rattle.plan_text.specs.declared.grammar.Kind.{Kind}

-- rates and periods with which every port and every flow is in the plan
abbrev pub any_rates : List ℕ
any_rates = replicate port_slots 1

abbrev pub any_periods : List ℕ
any_periods = replicate flow_slots 1

any_port : (n : ℕ) → port_ok n ≡ true → port_in any_rates n ≡ true
any_port n ok =
    port_in_there any_rates n (within_low 1 port_slots n ok) (within_high 1 port_slots n ok) (λ e. omega (arith, get_or-replicate {A = ℕ} port_slots (n - 1) 1 0 (slot_below port_slots n ok)))

any_flow : (n : ℕ) → flow_ok n ≡ true → has_flow any_periods n ≡ true
any_flow n ok = flow_there any_periods n ok (omega (arith, get_or-replicate {A = ℕ} flow_slots (n - 1) 1 0 (slot_below flow_slots n ok)))

any_ports : (r : List ℕ) → every port_ok r ≡ true → every (port_in any_rates) r ≡ true
unfolding every
any_ports [] ok = refl
any_ports (n ∷ r) ok = let t = (and-eq-true_iff (port_ok n) (every port_ok r)).0 ok in rw (any_port n t.0) (any_ports r t.1)

-- the tables of a draft are valid, but for ports that routes name; what was said once is in range, and a flow is there where one was said
pub record ValidDraft (d : Draft) : Type 0 where
  pub tables : ValidTables any_rates any_periods d.tables
  pub bare : (q : ℕ) → q < port_slots → rate_of d.tables q ≡ 0 → extra_of d.tables q ≡ 0
  pub steady : (f : ℕ) → f < flow_slots → period_of d.tables f ≡ 0 → jitter_of d.tables f ≡ 0
  pub top : d.topped ≡ true → top_ok d.tables.top ≡ true
  pub some : d.flowing ≡ true → (f : ℕ) × (f < flow_slots) × (present d.tables f ≡ true)
  pub hops : (f : ℕ) → f < flow_slots → hops_of d.tables f ≤ most_hops_in (form_by d.newer)

pub blank_valid : ValidDraft blank
unfolding blank no_plan
blank_valid =
    record {
      tables = none_valid any_rates any_periods;
      bare = λ q l e. get_or-replicate {A = ℕ} port_slots q 0 0 l;
      steady = λ f l e. get_or-replicate {A = ℕ} flow_slots f 0 0 l;
      top = λ e. absurd (false≢true e);
      some = λ e. absurd (false≢true e);
      hops = λ f l. omega (arith, get_or-replicate {A = ℕ} flow_slots f 0 0 l);
    }

-- the guard band and the top
module _ (p : Plan) (v : ValidTables any_rates any_periods p) where
  sized_guard : (n : ℕ) → Sized (with_guard n p)
  sized_guard n =
      let s = v.sized in
      record { rates = s.rates; blockings = s.blockings; extras = s.extras; periods = s.periods; counts = s.counts; lengths = s.lengths; jitters = s.jitters; hops = s.hops; routes = s.routes }

  sized_top : (n : ℕ) → Sized (with_top n p)
  sized_top n =
      let s = v.sized in
      record { rates = s.rates; blockings = s.blockings; extras = s.extras; periods = s.periods; counts = s.counts; lengths = s.lengths; jitters = s.jitters; hops = s.hops; routes = s.routes }

  guard_valid : (n : ℕ) → guard_ok n ≡ true → ValidTables any_rates any_periods (with_guard n p)
  unfolding valid_rate valid_extra valid_in valid_jitter
  guard_valid n ok =
      record { sized = sized_guard n; guard = ok; clock = v.clock; ports = v.ports; extras = v.extras; flows = v.flows; jitters = v.jitters }

  top_valid : (n : ℕ) → ValidTables any_rates any_periods (with_top n p)
  unfolding valid_rate valid_extra valid_in valid_jitter
  top_valid n =
      record { sized = sized_top n; guard = v.guard; clock = v.clock; ports = v.ports; extras = v.extras; flows = v.flows; jitters = v.jitters }

-- a number that goes with another into its slot: where the other is none, so is this
with_slot
    : (l m : List ℕ) (i v w : ℕ)
    → i < length l
    → 0 < v
    → (j : ℕ)
    → (get_or l j 0 ≡ 0 → get_or m j 0 ≡ 0)
    → get_or (set l i v) j 0 ≡ 0
    → get_or (set m i w) j 0 ≡ 0
with_slot l m i v w inside some j h e = go (ℕ_discrete j i)
  where
    go : Dec (j ≡ i) → get_or (set m i w) j 0 ≡ 0
    go (yes same) = absurd (omega (arith, ap (λ (k : ℕ). get_or (set l i v) k 0) (sym same), get_or-set_same l i v 0 inside))
    go (no other) = get_or-set_other m i j w 0 other ∙ h (sym (get_or-set_other l i j v 0 other) ∙ e)

-- a number that is at most so large in each slot
most_slot : (l : List ℕ) (i v most : ℕ) → i < length l → v ≤ most → (j : ℕ) → get_or l j 0 ≤ most → get_or (set l i v) j 0 ≤ most
most_slot l i v most inside small j h = go (ℕ_discrete j i)
  where
    go : Dec (j ≡ i) → get_or (set l i v) j 0 ≤ most
    go (yes same) = omega (arith, ap (λ (k : ℕ). get_or (set l i v) k 0) same, get_or-set_same l i v 0 inside)
    go (no other) = omega (arith, get_or-set_other l i j v 0 other)

-- a line more
module _ (n : ℕ) (ns r : List ℕ) (d : Draft) (h : ValidDraft d) (once : distinct r ≡ true) where
  abbrev form : Form
  form = form_by d.newer

  -- the numbers of a line, as an array that has them in front
  front : (kind : Kind) → Fits form kind ns r → Fits form kind (numbers_by kind ns) r
  front kind fits = subst (λ (l : List ℕ). Fits form kind l r) (sym (take_all (length (items kind)) ns (omega (arith, fits.all)))) fits

  port-added : Fits form Kind.Port ns r → ValidDraft (added Kind.Port n ns r d)
  unfolding added stored store_all store
  port-added fits =
      let ok = port_fits form ns r (front Kind.Port fits) in
      let more = extra_fits form ns r (front Kind.Port fits) in
      let slot = slot_below port_slots (own ns) ok.number in
      record {
        tables = parts_valid any_rates any_periods d.tables (port_parts ns) (ok, (more, tt)) (tt, (tt, tt)) (tt, (any_port (own ns) ok.number, tt)) h.tables;
        bare =
            λ q l. with_slot d.tables.rates d.tables.extras (own ns - 1) (get_or ns 1 0) (get_or ns 3 0)
            (omega (arith, slot, h.tables.sized.rates)) (within_low 1 100000 (get_or ns 1 0) ok.rate) q (h.bare q l);
        steady = h.steady;
        top = h.top;
        some = h.some;
        hops = h.hops;
      }

  flow_added : Fits form Kind.Flow ns r → ValidDraft (added Kind.Flow n ns r d)
  unfolding added stored store_all store
  flow_added fits =
      let ok = flow_fits form ns r (front Kind.Flow fits) in
      let late = jitter_fits form ns r (front Kind.Flow fits) in
      let slot = slot_below flow_slots (own ns) ok.number in
      let inside : own ns - 1 < length d.tables.periods = omega (arith, slot, h.tables.sized.periods) in
      let some : 0 < get_or ns 1 0 = omega (arith, within_low 1000 100000000 (get_or ns 1 0) ok.period) in
      record {
        tables =
            parts_valid any_rates any_periods d.tables (flow_parts ns r) (ok, (late, tt)) (once, (tt, tt)) (any_ports r (ports_ok r fits.ports), (any_flow (own ns) ok.number, tt))
            h.tables;
        bare = h.bare;
        steady = λ f l. with_slot d.tables.periods d.tables.jitters (own ns - 1) (get_or ns 1 0) (get_or ns 4 0) inside some f (h.steady f l);
        top = h.top;
        some =
            λ e. (
              own ns - 1,
              slot,
              rw (lt-ltb (own ns - 1) flow_slots slot, get_or-set_same d.tables.periods (own ns - 1) (get_or ns 1 0) 0 inside, lt-ltb 0 (get_or ns 1 0) some),
            );
        hops =
            λ f l. most_slot d.tables.hops (own ns - 1) (length r) (most_hops_in form) (omega (arith, slot, h.tables.sized.hops)) fits.hops f (h.hops f l);
      }

  clocks_added : Fits form Kind.Clocks ns r → ValidDraft (added Kind.Clocks n ns r d)
  unfolding added stored store_all store
  clocks_added fits =
      record {
        tables = parts_valid any_rates any_periods d.tables (clock_parts ns) (clocks_fit form ns r (front Kind.Clocks fits), tt) (tt, tt) (tt, tt) h.tables;
        bare = h.bare;
        steady = h.steady;
        top = h.top;
        some = h.some;
        hops = h.hops;
      }

  added_valid : (kind : Kind) → Fits form kind ns r → ValidDraft (added kind n ns r d)
  unfolding added stored
  added_valid Kind.Guard fits =
      record { tables = guard_valid d.tables h.tables (own ns) (guard_fits form ns r (front Kind.Guard fits)); bare = h.bare; steady = h.steady; top = h.top; some = h.some; hops = h.hops }
  added_valid Kind.Top fits =
      record { tables = top_valid d.tables h.tables (own ns); bare = h.bare; steady = h.steady; top = λ e. top_fits form ns r (front Kind.Top fits); some = h.some; hops = h.hops }
  added_valid Kind.Port fits = port-added fits
  added_valid Kind.Flow fits = flow_added fits
  added_valid Kind.Clocks fits = clocks_added fits
  added_valid Kind.Format fits =
      record { tables = h.tables; bare = h.bare; steady = h.steady; top = h.top; some = h.some; hops = λ f l. omega (arith, h.hops f l, most_hops form) }
  added_valid Kind.Other fits = record { tables = h.tables; bare = h.bare; steady = h.steady; top = h.top; some = h.some; hops = h.hops }

pub goes_valid : (n : ℕ) (d e : Draft) → Goes n d e → ValidDraft d → ValidDraft e
goes_valid n d e (idle same) h = subst ValidDraft same h
goes_valid n d e (takes kind ns r fits once same) h = subst ValidDraft same (added_valid n ns r d h once kind fits)
