-- Every accepted plan is valid: the tables are valid after each field of the walk.
use Rattle.std.specs.Prelude.{◌≡◌, refl, ◌⊎◌, true, false, ℕ, zero, suc, ◌+◌, ◌-◌, ◌≤◌, ◌<◌, eqb, length}
use Rattle.std.proofs.Common.{sym, ap, ◌∙◌, subst, inl, inr, true≢false, add-zero, arith, get_or-set_other, eq-eqb, lt-ltb}
use mathlib.Core.List.{List, [], ◌∷◌, Memᴰ}
use Rattle.std.proofs.Math.Decide.{ℕ_discrete}
use Rattle.cqf.specs.Bounded.{any_to}
use Rattle.cqf.specs.Limits.{port_slots, flow_slots, top_ok}
use Rattle.cqf.specs.Plan.{Plan, present, valid_port, valid_flow, valid_plan}
use Rattle.cqf.proofs.laws.Bounded.{all_to-every, any_to_some}
use Rattle.cqf.proofs.laws.Route.{port_in_there}
use Rattle.plan.specs.Bytes.{tag_at, value_at}
use Rattle.cqf.specs.Form.{Form}
use Rattle.plan.specs.Layout.{form_by}
use Rattle.plan.specs.Field.{Field}
use Rattle.plan_reading.specs.Part.{Part, header, port, flow, extra, jitter, clock, parts_of}
use Rattle.plan_reading.specs.Key.{header_key, key_of}
use Rattle.plan_reading.specs.Store.{store, store_all}
use Rattle.plan_reading.specs.Draft.{Draft, blank, has_key, field_repeats, flows_in, sum_of, added}
use Rattle.plan_reading.specs.Ranges.{PartOk}
use Rattle.plan_reading.specs.Reading.{accepted, route_at, read_plan}
use Rattle.plan_reading.specs.Strict.{fields_from, parts_row}
use Rattle.plan_reading.specs.laws.fields.Within.{within_low, within_high, slot_below}
use Rattle.plan_reading.specs.laws.fields.Passes.{Passes, field_is_whole, field_passes}
use Rattle.plan_reading.specs.laws.fields.Ranged.{All, all_at, all_split, all_of}
use Rattle.plan_reading.specs.laws.fields.Found.{found_forward}
use Rattle.plan_reading.specs.laws.fields.Kinds.{header_top, parts_ok, parts_once, parts_present}
use Rattle.plan_reading.specs.laws.stores.Tables.{sized_all, stored_period}
use Rattle.plan_reading.specs.Sized.{Sized}
use Rattle.plan_reading.specs.laws.validity.Slots.{port_whole, flow_whole}
use Rattle.plan_reading.specs.laws.validity.Parts.{ValidTables, none_valid, parts_valid}
use Rattle.plan_reading.specs.laws.reading.Walk.{Reads, done, one, accepted_reads, closing_accepted}
use Rattle.plan_reading.specs.laws.reading.Absent.{flow_there, NamedThere, Present, AllThere, all_there, there_front}
use Rattle.plan_reading.specs.laws.reading.Walked.{walk_free}
use Rattle.plan_reading.specs.laws.order.Rows.{row_field}
use Rattle.plan_reading.specs.laws.order.Order.{flagged_blank}
use Rattle.plan_reading.specs.laws.rows.RowParts.{row_tables, free_fresh}
use Rattle.plan_reading.specs.laws.stores.Sources.{tables_of}
use Rattle.plan_reading.specs.laws.stores.Fresh.{Fresh, fresh_stands}
use Rattle.plan_reading.specs.laws.saved.Entries.{Stands}

-- a flow that has been counted is in the tables
abbrev Flowing : ℕ → Plan → Type 0
Flowing counted p = (counted ≡ 0) ⊎ ((f : ℕ) × (f < flow_slots) × (present p f ≡ true))

part_flowing : (counted : ℕ) (p : Plan) (x : Part) → Sized p → PartOk x → Flowing counted p → Flowing (counted + flows_in x) (store p x)
unfolding store
part_flowing n p (header g t) sized ok h = rw add-zero h
part_flowing n p (port m r b) sized ok h = rw add-zero h
part_flowing n p (flow m t c l r) sized ok h =
    let fits = slot_below flow_slots m ok.number in
    let long : 0 < t = omega (arith, within_low _ _ t ok.period) in
    inr (m - 1, fits, rw (lt-ltb (m - 1) flow_slots fits, stored_period p sized m t c l r fits, lt-ltb 0 t long))
part_flowing n p (extra m b) sized ok h = rw add-zero h
part_flowing n p (jitter m j) sized ok h = rw add-zero h
part_flowing n p (clock k) sized ok h = rw add-zero h

parts_flowing : (counted : ℕ) (p : Plan) (xs : List Part) → Sized p → All PartOk xs → Flowing counted p → Flowing (counted + sum_of flows_in xs) (store_all p xs)
unfolding store_all
parts_flowing n p [] sized ok h = rw add-zero h
parts_flowing n p (x ∷ xs) sized ok h =
    let sum : n + (flows_in x + sum_of flows_in xs) ≡ n + flows_in x + sum_of flows_in xs = omega arith in
    rw sum (parts_flowing (n + flows_in x) (store p x) xs (sized_all p (x ∷ []) sized) ok.1 (part_flowing n p x sized ok.0 h))

-- a top in range stays so, and a header brings one
part_top : (p : Plan) (x : Part) → PartOk x → top_ok p.top ≡ true → top_ok (store p x).top ≡ true
unfolding store
part_top p (header g t) ok h = ok.top
part_top p (port n r b) ok h = h
part_top p (flow n t c l r) ok h = h
part_top p (extra n b) ok h = h
part_top p (jitter n j) ok h = h
part_top p (clock k) ok h = h

parts_top : (p : Plan) (xs : List Part) → All PartOk xs → top_ok p.top ≡ true → top_ok (store_all p xs).top ≡ true
unfolding store_all
parts_top p [] ok h = h
parts_top p (x ∷ xs) ok h = parts_top (store p x) xs ok.1 (part_top p x ok.0 h)

-- the draft's tables are valid, with a top where it has a header, and a flow where it counted one
record ValidDraft (rates periods : List ℕ) (d : Draft) : Type 0 where
  tables : ValidTables rates periods d.tables
  top : has_key d header_key ≡ true → top_ok d.tables.top ≡ true
  some : Flowing d.flows d.tables

blank_valid : (rates periods : List ℕ) → ValidDraft rates periods blank
unfolding blank
blank_valid rates periods = record { tables = none_valid rates periods; top = λ e. absurd (true≢false (sym e)); some = inl refl }

-- a field of the walk keeps the draft valid
field_valid
    : {form : Form} (rates periods s : List ℕ) (at : ℕ) (d : Draft) (x : Field)
    → Passes form (tag_at s at) (value_at s at) x
    → field_repeats (route_at x.kind s at) ≡ false
    → NamedThere rates periods s at
    → All (Present rates periods) (parts_of x (route_at x.kind s at))
    → ValidDraft rates periods d
    → ValidDraft rates periods (added d x (route_at x.kind s at))
unfolding added
field_valid rates periods s at d x k once named own h =
    record {
      tables =
          parts_valid rates periods d.tables (parts_of x r) ok (parts_once x r once) (parts_present rates periods s at x k named own) h.tables;
      top = λ e. by_key e (ℕ_discrete (key_of x) header_key);
      some = parts_flowing d.flows d.tables (parts_of x r) h.tables.sized ok h.some;
    }
  where
    r : List ℕ
    r = route_at x.kind s at

    ok : All PartOk (parts_of x r)
    ok = parts_ok x k.ok r k.route

    by_key : has_key (added d x r) header_key ≡ true → Dec (key_of x ≡ header_key) → top_ok (store_all d.tables (parts_of x r)).top ≡ true
    by_key e (yes same) = header_top x k.ok r d.tables same
    by_key e (no apart) =
        parts_top d.tables (parts_of x r) ok
        (h.top (rw (get_or-set_other d.seen (key_of x) header_key 1 0 (λ same. apart (sym same))) at e))

-- so does the whole walk
walk_valid
    : {form : Form} (rates periods s : List ℕ) (n : ℕ) {at : ℕ} {d e : Draft}
    → Reads form s at d e
    → length s ≤ at + n
    → AllThere rates periods s at
    → All (Present rates periods) (parts_row (fields_from form n s at))
    → ValidDraft rates periods d
    → ValidDraft rates periods e
walk_valid rates periods s n (done same end) enough named own h = rw same at h
walk_valid rates periods s zero (one x next less stands fresh no_repeat rest) enough named own h = absurd (omega arith)
walk_valid {form} rates periods s (suc n) {at} {d} (one x next less stands fresh no_repeat rest) enough named own h =
    let f = there_front rates periods s at less (field_is_whole form s at x next stands) named in
    let r = field_passes form s at x next stands in
    let parts = parts_of x (route_at x.kind s at) in
    let split = all_split (Present rates periods) parts (parts_row (fields_from form n s next)) (rw (row_field form n s at x next stands) at own) in
    walk_valid rates periods s n rest (omega (arith, found_forward form s at x next stands)) (rw r.follows f.1) split.1
    (field_valid rates periods s at d x r.passes no_repeat f.0 split.0 h)

-- each port and flow of which a part of the row speaks is in the tables that the row leaves
part-present : (xs : List Part) → Fresh xs → (x : Part) → Memᴰ x xs → Present (tables_of xs).rates (tables_of xs).periods x
part-present xs fresh x m = go x (all_at PartOk xs fresh.ok m) (fresh_stands fresh m)
  where
    go : (x : Part) → PartOk x → Stands (tables_of xs) x → Present (tables_of xs).rates (tables_of xs).periods x
    go (header g t) ok h = tt
    go (port n v b) ok h =
        let there = within_low 1 _ v ok.rate in
        port_in_there (tables_of xs).rates n (within_low 1 port_slots n ok.number) (within_high 1 port_slots n ok.number) (λ e. omega (arith, h.1))
    go (flow n t c l r) ok h = flow_there (tables_of xs).periods n ok.number (omega (arith, h.1, within_low _ _ t ok.period))
    go (extra n b) ok h = tt
    go (jitter n j) ok h = tt
    go (clock k) ok h = tt

-- a valid draft with a header and a flow is a valid plan
draft_valid
    : (d : Draft)
    → ValidDraft d.tables.rates d.tables.periods d
    → has_key d header_key ≡ true
    → eqb d.flows 0 ≡ false
    → valid_plan d.tables ≡ true
unfolding valid_plan
draft_valid d h headed flowing =
    rw (
      h.top headed,
      h.tables.guard,
      h.tables.clock,
      all_to-every port_slots (valid_port p) (λ q l. port_whole p q (h.tables.ports q l) (h.tables.extras q l)),
      all_to-every flow_slots (valid_flow p) (λ f l. flow_whole p f (h.tables.flows f l) (h.tables.jitters f l)),
      some h.some,
    )
  where
    p : Plan
    p = d.tables

    some : (d.flows ≡ 0) ⊎ ((f : ℕ) × (f < flow_slots) × (present p f ≡ true)) → any_to flow_slots (present p) ≡ true
    some (inl e) = absurd (true≢false (sym (eq-eqb _ _ e) ∙ flowing))
    some (inr t) = any_to_some flow_slots (present p) t.0 t.1 t.2

-- every accepted plan is valid
pub accepted_valid
    : (s : List ℕ) (p : Plan) (ports flows : ℕ)
    → read_plan s ≡ accepted p ports flows
    → valid_plan p ≡ true
unfolding blank
accepted_valid s p m k e =
    let a = accepted_reads s p m k e in
    let c = closing_accepted s a.final p m k a.closes in
    let rates = a.final.tables.rates in
    let periods = a.final.tables.periods in
    let t = walk_free (form_by s) s (length s) a.walk (omega arith) in
    let row = parts_row (fields_from (form_by s) (length s) s 0) in
    let fresh = free_fresh blank flagged_blank t.0 in
    let left : tables_of row ≡ a.final.tables =
    sym (row_tables blank (fields_from (form_by s) (length s) s 0)) ∙ ap (λ (d : Draft). d.tables) t.1 in
    let own : All (Present rates periods) row =
    subst (λ (q : Plan). All (Present q.rates q.periods) row) left (all_of (Present (tables_of row).rates (tables_of row).periods) row (part-present row fresh)) in
    let h = walk_valid rates periods s (length s) a.walk (omega arith) (all_there rates periods s c.none_absent) own (blank_valid rates periods) in
    rw c.plan at (draft_valid a.final h c.with_header c.with_flow)
