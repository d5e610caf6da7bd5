-- The fields as which a valid plan is saved leave the plan's own tables, with the places past the routes 0.
use Rattle.std.specs.Prelude.{ℕ, ◌+◌, ◌*◌, ◌/◌, ◌%◌, ◌<◌, ◌≤◌, ◌≡◌, ◌⊎◌, List, Bool, true, false, cond, not, ltb, get_or}
use Rattle.std.proofs.Math.Path.{refl, sym, subst}
use Rattle.std.proofs.Common.{ap, ◌∙◌, inl, inr, arith, ltb-true, ltb-false}
use Rattle.std.proofs.Math.Option.{some}
use Rattle.cqf.specs.Bounded.{tabulate}
use Rattle.cqf.specs.Form.{older, most_hops_in}
use Rattle.cqf.specs.Limits.{port_slots, flow_slots, route_stride}
use Rattle.cqf.specs.Plan.{Clock, Plan, no_plan, equal_clocks, clocks_equal, hops_of, valid_plan}
use Rattle.cqf.proofs.laws.Lists.{sublist-at}
use Rattle.cqf.proofs.laws.Tabulate.{tabulate_length, tabulate-at}
use Rattle.plan_reading.specs.Part.{Part, clock}
use Rattle.plan_reading.specs.Store.{puts_clock, store}
use Rattle.plan_reading.specs.Ranges.{PartOk}
use Rattle.plan_reading.specs.Saved.{header_part, clock_part, saved_parts, saved_fields}
use Rattle.plan_reading.specs.Tidy.{tidied_at, tidied}
use Rattle.plan_reading.specs.Sized.{Sized}
use Rattle.plan_reading.specs.laws.fields.Ranged.{all_at}
use Rattle.plan_reading.specs.laws.reading.Walked.{fresh_row}
use Rattle.plan_reading.specs.laws.rows.Spelled.{spelled_parts}
use Rattle.plan_reading.specs.laws.stores.Sources.{Some, tables_of, alone_source}
use Rattle.plan_reading.specs.laws.stores.Columns
use Rattle.plan_reading.specs.laws.stores.Fresh.{fresh_stands}
use Rattle.plan_reading.specs.laws.saved.Entries.{Stands, clocks_equal_lem}
use Rattle.plan_reading.specs.laws.saved.Says.{header_says, clock_says, saved_says, says_saved}
use Rattle.plan_reading.specs.laws.saved.SavedOk.{saved_ok, saved_rising}
use Rattle.plan_reading.specs.laws.saved.Tidy.{route_place}
use Rattle.plan_reading.specs.laws.saved.SavedSlots.{RowOf, left_sized, left_stands, left_none, same_port, same_extra, same_jitter, same_flow}

module _ (p : Plan) (valid : valid_plan p ≡ true) (xs : List Part) (row : RowOf p xs) where
  abbrev q : Plan
  q = tables_of xs

  -- a place of the routes
  same_place
      : (f i : ℕ)
      → f < flow_slots
      → i < route_stride
      → get_or q.routes (f * route_stride + i) 0 ≡ cond (ltb i (hops_of p f)) (get_or p.routes (f * route_stride + i) 0) 0
  same_place f i l less = go (ltb i (hops_of p f)) refl
    where
      go : (b : Bool) → ltb i (hops_of p f) ≡ b → get_or q.routes (f * route_stride + i) 0 ≡ cond b (get_or p.routes (f * route_stride + i) 0) 0
      go true test =
          let inside = ltb-true i (hops_of p f) test in
          let same = same_flow p valid xs row f l in
          sym (sublist-at q.routes (f * route_stride) (hops_of q f) i (omega (arith, same.hops)))
          ∙ ap (λ (r : List ℕ). get_or r i 0) same.route
          ∙ sublist-at p.routes (f * route_stride) (hops_of p f) i inside
      go false test =
          let past = ltb-false i (hops_of p f) test in
          left_none p valid xs row Columns.route_column (f * route_stride + i)
          (λ x m t. absurd (omega (arith, route_place p x f i (all_at PartOk xs row.fresh.ok m) (row.stand m) less t)))

  same_route : (j : ℕ) → j < flow_slots * route_stride → get_or q.routes j 0 ≡ tidied_at p j
  same_route j l =
      let f = j / route_stride in
      let i = j % route_stride in
      let place : f * route_stride + i ≡ j = omega arith in
      ap (λ (k : ℕ). get_or q.routes k 0) (sym place)
      ∙ same_place f i (omega arith) (omega arith)
      ∙ ap (λ (k : ℕ). cond (ltb i (hops_of p f)) (get_or p.routes k 0) 0) place

  same_clock : q.clock ≡ p.clock
  unfolding store no_plan
  same_clock = go (clocks_equal p) refl
    where
      none : p.clock ≡ equal_clocks
          → (q.clock ≡ equal_clocks) ⊎ Some (λ x. (k : Clock) × (puts_clock x ≡ some k)) xs
          → q.clock ≡ p.clock
      none same (inl left) = left ∙ sym same
      none same (inr s) =
          let u = Columns.given-clock s.0 s.2.0 s.2.1 in
          let here : Stands q (clock u.0) = subst (Stands q) u.1 (fresh_stands row.fresh s.1) in
          let held : Stands p (clock u.0) = subst (Stands p) u.1 (row.stand s.1) in
          here ∙ sym held

      go : (b : Bool) → clocks_equal p ≡ b → q.clock ≡ p.clock
      go true e = none (clocks_equal_lem p e) (alone_source (λ r. r.clock) puts_clock (λ r x. refl) no_plan xs)
      go false e = left_stands p valid xs row (clock_part p) (clock_says p (ap not e))

  -- the tables of the row
  pub left_tables : Sized p → tables_of xs ≡ tidied p
  unfolding tidied
  left_tables sized =
      let left = left_sized p valid xs row in
      let head = left_stands p valid xs row (header_part p) (header_says p) in
      let rates = Columns.same_column port_slots q.rates p.rates left.rates sized.rates (λ i l. (same_port p valid xs row i l).0) in
      let blockings = Columns.same_column port_slots q.blockings p.blockings left.blockings sized.blockings (λ i l. (same_port p valid xs row i l).1) in
      let extras = Columns.same_column port_slots q.extras p.extras left.extras sized.extras (same_extra p valid xs row) in
      let periods = Columns.same_column flow_slots q.periods p.periods left.periods sized.periods (λ i l. (same_flow p valid xs row i l).period) in
      let counts = Columns.same_column flow_slots q.counts p.counts left.counts sized.counts (λ i l. (same_flow p valid xs row i l).count) in
      let lengths = Columns.same_column flow_slots q.lengths p.lengths left.lengths sized.lengths (λ i l. (same_flow p valid xs row i l).bytes) in
      let jitters = Columns.same_column flow_slots q.jitters p.jitters left.jitters sized.jitters (same_jitter p valid xs row) in
      let hops = Columns.same_column flow_slots q.hops p.hops left.hops sized.hops (λ i l. (same_flow p valid xs row i l).hops) in
      let places = flow_slots * route_stride in
      let routes =
      Columns.same_column places q.routes (tabulate places (tidied_at p)) left.routes (tabulate_length places (tidied_at p))
      (λ j l. same_route j l ∙ sym (tabulate-at places (tidied_at p) j l)) in
      λ i. record {
        guard = head.0 i;
        top = head.1 i;
        clock = same_clock i;
        rates = rates i;
        blockings = blockings i;
        extras = extras i;
        periods = periods i;
        counts = counts i;
        lengths = lengths i;
        jitters = jitters i;
        hops = hops i;
        routes = routes i;
      }

-- the parts of which a plan is saved are such a row
pub saved_tables
    : (p : Plan)
    → valid_plan p ≡ true
    → ((f : ℕ) → f < flow_slots → hops_of p f ≤ most_hops_in older)
    → Sized p
    → tables_of (saved_parts p) ≡ tidied p
saved_tables p valid few =
    left_tables p valid (saved_parts p)
    (record {
      fresh = rw (spelled_parts (saved_parts p)) at (fresh_row (saved_fields p) (saved_ok p valid few) (saved_rising p valid few));
      stand = λ m. (saved_says p m).stands;
      said = says_saved p;
    })
