-- A plan is saved in the newer form as bytes that either reading accepts, and that hold the same plan.
use Prim.Native.Nat.{ℕ, zero, suc, ◌+◌, ◌-◌, ◌≤◌, ◌<◌}
use Rattle.std.specs.Prelude.{◌≡◌, ◌⊎◌, Bool, true, false, cond, length}
use Rattle.std.proofs.Math.Path.{refl}
use Rattle.std.proofs.Common.{sym, ap, ◌∙◌, subst, inl, inr, lt-ltb}
use mathlib.Core.List.Memᴰ
use mathlib.Core.List.{List, [], ◌∷◌, ◌++◌, Memᴰ}
use Rattle.std.proofs.Math.Bool.{and-eq-true_iff}
use native.Mathlib.Omega.{arith}
use Rattle.std.proofs.Math.Dec.{ltb}
use Rattle.cqf.specs.Bounded.{count_to}
use Rattle.cqf.specs.Form.{newer}
use Rattle.cqf.specs.Limits.{port_slots, flow_slots}
use Rattle.cqf.specs.Plan.{Plan, rate_of, blocking_of, extra_of, period_of, count_of, length_of, jitter_of, route_of, present, valid_plan}
use Rattle.cqf.proofs.laws.Bounded.{any_to_true}
use Rattle.plan_reading.specs.Part.{Part, header, port, flow, extra, jitter, clock, parts_of}
use Rattle.plan_reading.specs.Draft.{blank, added, ports_in, flows_in, sum_of}
use Rattle.plan_reading.specs.Reading.{accepted, Mode, read_as_of, max_bytes}
use Rattle.plan_reading.specs.Strict.{Entry, parts_row}
use Rattle.plan_reading.specs.Saved.{header2_field, port2_field, flow2_field, field_when, collect_fields, port2_fields, flow2_fields, newer_fields, form_bytes}
use Rattle.plan_reading.specs.Sized.{Sized}
use Rattle.plan_reading.specs.Tidy.{Tidy, tidied}
use Rattle.plan_reading.specs.laws.fields.Within.{within_low, slot_below}
use Rattle.plan_reading.specs.laws.reading.Walked.{fresh_row}
use Rattle.plan_reading.specs.laws.rows.SavedRow.{added_all}
use Rattle.plan_reading.specs.laws.rows.RowParts.{row_tables}
use Rattle.plan_reading.specs.laws.rows.RowAccepted.{Row, row_accepted, some_flow}
use Rattle.plan_reading.specs.laws.validity.Held.{parts, port_held, flow_held}
use Rattle.plan_reading.specs.laws.saved.Entries.{Stands, Says}
use Rattle.plan_reading.specs.laws.saved.Says.{numbered, back, stands_at, port_says, flow_says}
use Rattle.plan_reading.specs.laws.saved.Tidy.{tidied_same}
use Rattle.plan_reading.specs.laws.saved.SavedSlots.{RowOf}
use Rattle.plan_reading.specs.laws.saved.SavedTables.{left_tables}
use Rattle.plan_reading.specs.laws.saved.SavedCounts.{sum_append, Sum-added}
use Rattle.plan_reading.specs.laws.newer.Fields.{NewerField, of_header_lem, of_port_lem, of_flow_lem, newer_cases, newer_there, newer_all, newer_present}
use Rattle.plan_reading.specs.laws.newer.Order.{newer_rising}

-- a part of a row is one of a field, and the parts of a field are among those of the row
pub part_of : {x : Part} (es : List Entry) → Memᴰ x (parts_row es) → (e : Entry) × Memᴰ e es × Memᴰ x (parts_of e.field e.route)
part_of [] m = absurd (Memᴰ.not-nil m)
part_of {x} (e ∷ es) m = go (part_of es) (Memᴰ.append_cases (parts_of e.field e.route) m)
  where
    go
        : (Memᴰ x (parts_row es) → (f : Entry) × Memᴰ f es × Memᴰ x (parts_of f.field f.route))
        → Memᴰ x (parts_of e.field e.route) ⊎ Memᴰ x (parts_row es)
        → (f : Entry) × Memᴰ f (e ∷ es) × Memᴰ x (parts_of f.field f.route)
    go rest (inl k) = (e, Memᴰ.head refl, k)
    go rest (inr k) = let t = rest k in (t.0, Memᴰ.tail t.1, t.2)

pub part_in : {x : Part} {e : Entry} (es : List Entry) → Memᴰ e es → Memᴰ x (parts_of e.field e.route) → Memᴰ x (parts_row es)
part_in [] m k = absurd (Memᴰ.not-nil m)
part_in {x} (f ∷ es) (Memᴰ.head same) k =
    Memᴰ.append_left (parts_row es) (subst (λ (e : Entry). Memᴰ x (parts_of e.field e.route)) same k)
part_in (f ∷ es) (Memᴰ.tail m) k = Memᴰ.append_right (parts_of f.field f.route) (part_in es m k)

-- one of two parts
of_two : {x a b : Part} → Memᴰ x (a ∷ b ∷ []) → (x ≡ a) ⊎ (x ≡ b)
of_two m = go (Memᴰ.cases_cons m)
  where
    go : {x a b : Part} → (x ≡ a) ⊎ Memᴰ x (b ∷ []) → (x ≡ a) ⊎ (x ≡ b)
    go (inl e) = inl e
    go (inr (Memᴰ.head e)) = inr e
    go (inr (Memᴰ.tail k)) = absurd (Memᴰ.not-nil k)

module _ (p : Plan) where
  -- what the fields say stands in the plan
  stands_of : {x : Part} {e : Entry} → NewerField p e → Memᴰ x (parts_of e.field e.route) → Stands p x
  stands_of {x} {e} (of_header_lem same) m = go (of_two (subst (λ (f : Entry). Memᴰ x (parts_of f.field f.route)) same m))
    where
      go : (x ≡ header p.guard p.top) ⊎ (x ≡ clock p.clock) → Stands p x
      go (inl is) = subst (Stands p) (sym is) (refl, refl)
      go (inr is) = subst (Stands p) (sym is) refl
  stands_of {x} {e} (of_port_lem q l h same) m = go (of_two (subst (λ (f : Entry). Memᴰ x (parts_of f.field f.route)) same m))
    where
      go : (x ≡ port (suc q) (rate_of p q) (blocking_of p q)) ⊎ (x ≡ extra (suc q) (extra_of p q)) → Stands p x
      go (inl is) = subst (Stands p) (sym is) (port_says p q l h).stands
      go (inr is) = subst (Stands p) (sym is) (numbered port_slots q l, ap (extra_of p) (back q))
  stands_of {x} {e} (of_flow_lem f l h same) m = go (of_two (subst (λ (g : Entry). Memᴰ x (parts_of g.field g.route)) same m))
    where
      go : (x ≡ flow (suc f) (period_of p f) (count_of p f) (length_of p f) (route_of p f)) ⊎ (x ≡ jitter (suc f) (jitter_of p f)) → Stands p x
      go (inl is) = subst (Stands p) (sym is) (flow_says p f l h).stands
      go (inr is) = subst (Stands p) (sym is) (numbered flow_slots f l, ap (jitter_of p) (back f))

  -- and what the plan says is said by them
  in_field : {x : Part} {e : Entry} → NewerField p e → Memᴰ x (parts_of e.field e.route) → Memᴰ x (parts_row (newer_fields p))
  in_field k m = part_in (newer_fields p) (newer_there p k) m

module _ (p : Plan) (valid : valid_plan p ≡ true) where
  said_there : (x : Part) → Says p x → Memᴰ x (parts_row (newer_fields p))
  said_there (header g t) h = in_field p (of_header_lem refl) (Memᴰ.head (stands_at p (header g t) h.stands))
  said_there (clock k) h = in_field p (of_header_lem refl) (Memᴰ.tail (Memᴰ.head (stands_at p (clock k) h.stands)))
  said_there (port n v b) h =
      let there : 0 < rate_of p (n - 1) = omega (arith, h.tells, h.stands.1) in
      in_field p (of_port_lem (n - 1) (slot_below port_slots n h.stands.0) (lt-ltb 0 _ there) refl)
      (Memᴰ.head (stands_at p (port n v b) h.stands))
  said_there (flow n t c l r) h =
      let there : 0 < period_of p (n - 1) = omega (arith, h.tells, h.stands.1) in
      in_field p (of_flow_lem (n - 1) (slot_below flow_slots n h.stands.0) (lt-ltb 0 _ there) refl)
      (Memᴰ.head (stands_at p (flow n t c l r) h.stands))
  said_there (extra n b) h =
      let l = slot_below port_slots n h.stands.0 in
      let k = port_held p valid (n - 1) l (inr (omega (arith, h.tells, h.stands.1))) in
      in_field p (of_port_lem (n - 1) l (lt-ltb 0 _ (within_low 1 _ (rate_of p (n - 1)) k.rate)) refl)
      (Memᴰ.tail (Memᴰ.head (stands_at p (extra n b) h.stands)))
  said_there (jitter n j) h =
      let l = slot_below flow_slots n h.stands.0 in
      let k = flow_held p valid (n - 1) l (inr (omega (arith, h.tells, h.stands.1))) in
      let there : 0 < period_of p (n - 1) = omega (arith, within_low _ _ (period_of p (n - 1)) k.period) in
      in_field p (of_flow_lem (n - 1) l (lt-ltb 0 _ there) refl)
      (Memᴰ.tail (Memᴰ.head (stands_at p (jitter n j) h.stands)))

  newer_row_of : RowOf p (parts_row (newer_fields p))
  newer_row_of =
      record {
        fresh = fresh_row (newer_fields p) (newer_all p valid) (newer_rising p valid);
        stand = λ m. let t = part_of (newer_fields p) m in stands_of p (newer_cases p t.1) t.2;
        said = said_there;
      }

  newer_tables : Sized p → (added_all blank (newer_fields p)).tables ≡ tidied p
  unfolding blank
  newer_tables sized = row_tables blank (newer_fields p) ∙ left_tables p valid (parts_row (newer_fields p)) newer_row_of sized

-- how many ports or flows the fields of slots bring
module _ (g : Part → ℕ) where
  abbrev counts : List Entry → ℕ
  counts es = sum_of g (parts_row es)

  row_append : (es fs : List Entry) → counts (es ++ fs) ≡ counts es + counts fs
  row_append [] fs = omega arith
  row_append (e ∷ es) fs =
      omega (
        arith,
        sum_append g (parts_of e.field e.route) (parts_row (es ++ fs)),
        sum_append g (parts_of e.field e.route) (parts_row es),
        row_append es fs,
      )

  when_counts : (test : Bool) (e : Entry) (n : ℕ) → sum_of g (parts_of e.field e.route) ≡ n → counts (field_when test e) ≡ cond test n 0
  when_counts true e n h = sum_append g (parts_of e.field e.route) [] ∙ omega arith
  when_counts false e n h = refl

  collect_counts : (n : ℕ) (at : ℕ → List Entry) (test : ℕ → Bool) → ((i : ℕ) → counts (at i) ≡ cond (test i) 1 0) → counts (collect_fields n at) ≡ count_to n test
  unfolding collect_fields count_to
  collect_counts zero at test all = refl
  collect_counts (suc n) at test all = omega (arith, row_append (collect_fields n at) (at n), collect_counts n at test all, all n)

  collect-none : (n : ℕ) (at : ℕ → List Entry) → ((i : ℕ) → counts (at i) ≡ 0) → counts (collect_fields n at) ≡ 0
  unfolding collect_fields
  collect-none zero at all = refl
  collect-none (suc n) at all = omega (arith, row_append (collect_fields n at) (at n), collect-none n at all, all n)

  none_counts : (test : Bool) (e : Entry) → sum_of g (parts_of e.field e.route) ≡ 0 → counts (field_when test e) ≡ 0
  none_counts true e h = sum_append g (parts_of e.field e.route) [] ∙ omega arith
  none_counts false e h = refl

  newer_counts
      : (p : Plan)
      → counts (newer_fields p)
      ≡ sum_of g (parts_of (header2_field p).field [])
      + (counts (collect_fields port_slots (port2_fields p))
      + counts (collect_fields flow_slots (flow2_fields p)))
  unfolding newer_fields
  newer_counts p =
      omega (
        arith,
        sum_append g (parts_of (header2_field p).field []) (parts_row (collect_fields port_slots (port2_fields p) ++ collect_fields flow_slots (flow2_fields p))),
        row_append (collect_fields port_slots (port2_fields p)) (collect_fields flow_slots (flow2_fields p)),
      )

module _ (p : Plan) where
  abbrev pub port_count : ℕ
  port_count = count_to port_slots (λ q. ltb 0 (rate_of p q))

  abbrev pub flow_count : ℕ
  flow_count = count_to flow_slots (λ f. ltb 0 (period_of p f))

  newer_ports : (added_all blank (newer_fields p)).ports ≡ port_count
  unfolding added blank
  newer_ports =
      omega (
        arith,
        Sum-added ports_in (λ d. d.ports) (λ d x r. refl) blank (newer_fields p),
        newer_counts ports_in p,
        collect_counts ports_in port_slots (port2_fields p) (λ q. ltb 0 (rate_of p q)) (λ q. when_counts ports_in (ltb 0 (rate_of p q)) (port2_field p q) 1 refl),
        collect-none ports_in flow_slots (flow2_fields p) (λ f. none_counts ports_in (ltb 0 (period_of p f)) (flow2_field p f) refl),
      )

  newer_flows : (added_all blank (newer_fields p)).flows ≡ flow_count
  unfolding added blank
  newer_flows =
      omega (
        arith,
        Sum-added flows_in (λ d. d.flows) (λ d x r. refl) blank (newer_fields p),
        newer_counts flows_in p,
        collect-none flows_in port_slots (port2_fields p) (λ q. none_counts flows_in (ltb 0 (rate_of p q)) (port2_field p q) refl),
        collect_counts flows_in flow_slots (flow2_fields p) (λ f. ltb 0 (period_of p f)) (λ f. when_counts flows_in (ltb 0 (period_of p f)) (flow2_field p f) 1 refl),
      )

-- where the bytes are no more than a plan may have
module _ (p : Plan) (valid : valid_plan p ≡ true) (sized : Sized p) (room : length (form_bytes newer p) ≤ max_bytes) where
  some_flows : 0 < (added_all blank (newer_fields p)).flows
  some_flows =
      let s = any_to_true flow_slots (present p) (parts p valid).some in
      let h = ((and-eq-true_iff (ltb s.0 flow_slots) _).0 s.2).1 in
      some_flow blank (newer_fields p) (flow2_field p s.0) (newer_there p (of_flow_lem s.0 s.1 h refl)) refl

  newer_row : Row newer (newer_fields p)
  unfolding form_bytes tidied newer_fields
  newer_row =
      record {
        ok = newer_all p valid;
        in_order = newer_rising p valid;
        most = room;
        first = header2_field p;
        others = collect_fields port_slots (port2_fields p) ++ collect_fields flow_slots (flow2_fields p);
        begins = refl;
        header = refl;
        with_flow = some_flows;
        present = rw (newer_tables p valid sized) (newer_present p valid);
      }

  -- the plan with the places past its routes 0, and as many ports and flows as it has
  pub newer_read : (mode : Mode) → read_as_of mode (form_bytes newer p) ≡ accepted (tidied p) (port_count p) (flow_count p)
  unfolding form_bytes
  newer_read mode =
      row_accepted mode (newer_fields p) newer_row
      ∙ (λ i. accepted (newer_tables p valid sized i) (newer_ports p i) (newer_flows p i))

  -- the plan itself, where it is tidy
  pub newer_held : Tidy p → (mode : Mode) → read_as_of mode (form_bytes newer p) ≡ accepted p (port_count p) (flow_count p)
  newer_held tidy mode = newer_read mode ∙ (λ i. accepted (tidied_same p sized tidy i) (port_count p) (flow_count p))
