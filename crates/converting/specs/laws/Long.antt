-- No flow of a plan of the newer form is found that has too many ports for the older one exactly where the plan fits the older form.
use Rattle.std.specs.Prelude.{ℕ, zero, suc, ◌+◌, ◌*◌, ◌≤◌, ◌<◌, ◌≡◌, refl, ◌⊎◌, true, false, ltb, length}
use Rattle.std.proofs.Common.{sym, ◌∙◌, subst, inl, inr, arith, lt-ltb, le-ltb, ltb-false}
use Rattle.std.proofs.Math.Path.{ap}
use mathlib.Core.List.Memᴰ
use mathlib.Core.List.{List, ◌∷◌, Memᴰ}
use Rattle.std.proofs.Math.Decide.{ℕ_discrete}
use Rattle.cqf.specs.Form.{Form, older, newer, most_hops_in}
use Rattle.cqf.specs.Limits.{flow_slots, route_stride}
use Rattle.cqf.specs.Plan.{Plan, period_of, hops_of, route_of, valid_plan}
use Rattle.cqf.proofs.laws.Lists.{sublist_length}
use Rattle.cqf.proofs.laws.Valid.{Empty, Held, slot_cases}
use Rattle.plan.specs.Bytes.{tag_at}
use Rattle.plan.specs.Layout.{Kind, layout, form_by}
use Rattle.plan.specs.Field.{Field, field, field_at}
use Rattle.plan.specs.laws.Tested.{tag_kind}
use Rattle.plan_reading.specs.Draft.{Draft}
use Rattle.plan_reading.specs.Overlong.{overlong}
use Rattle.plan_reading.specs.Rank.{tag_of}
use Rattle.plan_reading.specs.Reading.{accepted, Mode, route_at, read_form, read_as_of}
use Rattle.plan_reading.specs.Strict.{Entry, entry_of, fields_from, fields_in}
use Rattle.plan_reading.specs.Saved.{flow2_field}
use Rattle.plan_reading.specs.laws.fields.Found.{found_forward}
use Rattle.plan_reading.specs.laws.fields.Passes.{field_is_whole, field_passes}
use Rattle.plan_reading.specs.laws.newer.Back.{newer_fields_back}
use Rattle.plan_reading.specs.laws.newer.Fields.{NewerField, of_header_lem, of_port_lem, of_flow_lem, newer_cases, newer_there}
use Rattle.plan_reading.specs.laws.order.Late.{past_end}
use Rattle.plan_reading.specs.laws.order.Rows.{row_refused, row_field}
use Rattle.plan_reading.specs.laws.reading.First.{NoneFrom, none_front}
use Rattle.plan_reading.specs.laws.reading.Fits.{form_told, form_accepted}
use Rattle.plan_reading.specs.laws.reading.Long.{long_other, long_flow2}
use Rattle.plan_reading.specs.laws.reading.Walk.{Reads, done, one, read_as}
use Rattle.plan_reading.specs.laws.rows.RowAbsent.{none_at_end, none_more}
use Rattle.plan_reading.specs.laws.validity.Valid.{accepted_valid}
use Rattle.plan_reading.specs.results.StrictTheorem.{read_loosely}
use Rattle.converting.specs.Convert.{first_long}

-- a field that is no flow of the newer form, or one over few enough ports
abbrev Short : Entry → Type 0
Short e = tag_of e.field ≡ (layout Kind.flow2).tag → length e.route ≤ most_hops_in older

-- the field at this offset, by what the search finds there
module _ (form : Form) (s : List ℕ) (at : ℕ) (x : Field) (next : ℕ) (stands : field_at form s at ≡ field x next) where
  tagged : tag_at s at ≡ tag_of x
  tagged = (field_passes form s at x next stands).passes.kind

  -- its route, where it is such a flow
  as_flow : tag_of x ≡ (layout Kind.flow2).tag → route_at x.kind s at ≡ route_at Kind.flow2 s at
  as_flow is = ap (λ (k : Kind). route_at k s at) (tag_kind x.kind Kind.flow2 is)

  found_short : overlong s at ≡ false → Short (entry_of x (route_at x.kind s at))
  found_short not-long is = rw (as_flow is) (ltb-false _ _ (sym (long_flow2 s at (tagged ∙ is)) ∙ not-long))

  short_found : Short (entry_of x (route_at x.kind s at)) → overlong s at ≡ false
  short_found short = go (ℕ_discrete (tag_of x) (layout Kind.flow2).tag)
    where
      go : Dec (tag_of x ≡ (layout Kind.flow2).tag) → overlong s at ≡ false
      go (yes is) = long_flow2 s at (tagged ∙ is) ∙ le-ltb _ _ (rw (as_flow is) at (short is))
      go (no other) = long_other s at (λ is. other (sym tagged ∙ is))

-- the fields of a walk
module _ (form : Form) (s : List ℕ) where
  none_short
      : (n : ℕ) {at : ℕ} {d e : Draft}
      → Reads form s at d e
      → length s ≤ at + n
      → NoneFrom overlong s at
      → (x : Entry)
      → Memᴰ x (fields_from form n s at)
      → Short x
  none_short n {at} (done same end) enough none x m =
      absurd (Memᴰ.not-nil (rw (row_refused form n s at 2 at (past_end form s at end)) at m))
  none_short zero (one x next less stands fresh no_repeat rest) enough none y m = absurd (omega arith)
  none_short (suc n) {at} (one x next less stands fresh no_repeat rest) enough none y m =
      let w = field_is_whole form s at x next stands in
      let front = none_front overlong s at less w none in
      let follows = (field_passes form s at x next stands).follows in
      go (none_short n rest (omega (arith, found_forward form s at x next stands)) (rw follows front.rest) y) front.front
      (rw (row_field form n s at x next stands) at m)
    where
      go
          : (Memᴰ y (fields_from form n s next) → Short y)
          → overlong s at ≡ false
          → Memᴰ y (entry_of x (route_at x.kind s at) ∷ fields_from form n s next)
          → Short y
      go after front (Memᴰ.head same) = subst Short (sym same) (found_short form s at x next stands front)
      go after front (Memᴰ.tail k) = after k

  Short-none
      : (n : ℕ) {at : ℕ} {d e : Draft}
      → Reads form s at d e
      → length s ≤ at + n
      → ((x : Entry) → Memᴰ x (fields_from form n s at) → Short x)
      → NoneFrom overlong s at
  Short-none n {at} (done same end) enough short = none_at_end overlong s at end
  Short-none zero (one x next less stands fresh no_repeat rest) enough short = absurd (omega arith)
  Short-none (suc n) {at} (one x next less stands fresh no_repeat rest) enough short =
      let w = field_is_whole form s at x next stands in
      let row = row_field form n s at x next stands in
      let here : Short (entry_of x (route_at x.kind s at)) = short (entry_of x (route_at x.kind s at)) (rw row (Memᴰ.head refl)) in
      let after : NoneFrom overlong s next =
      Short-none n rest (omega (arith, found_forward form s at x next stands)) (λ y k. short y (rw row (Memᴰ.tail k))) in
      none_more overlong s at w (short_found form s at x next stands here) (rw (field_passes form s at x next stands).follows at after)

-- an accepted plan of the newer form
module _ (mode : Mode) (s : List ℕ) (p : Plan) (ports flows : ℕ) (e : read_form newer mode s ≡ accepted p ports flows) where
  told : form_by s ≡ newer
  told = form_told newer mode s p ports flows e

  reads : read_as_of mode s ≡ accepted p ports flows
  reads = form_accepted newer mode s p ports flows e

  valid : valid_plan p ≡ true
  valid = accepted_valid s p ports flows (read_loosely mode s p ports flows reads)

  ports_of : (f : ℕ) → length (route_of p f) ≡ hops_of p f
  ports_of f = sublist_length p.routes (f * route_stride) (hops_of p f)

  pub none_fits : length s ≤ first_long s → (f : ℕ) → f < flow_slots → hops_of p f ≤ most_hops_in older
  unfolding fields_in
  none_fits none f l = go (slot_cases p valid f l)
    where
      short : (x : Entry) → Memᴰ x (fields_in s) → Short x
      short = none_short (form_by s) s (length s) (read_as mode s p ports flows reads).walk (omega arith) none

      go : Empty p f ⊎ Held p f → hops_of p f ≤ most_hops_in older
      go (inl empty) = omega (arith, empty.hops)
      go (inr there) =
          let h : ltb 0 (period_of p f) ≡ true = lt-ltb 0 (period_of p f) (omega (arith, there.period_least)) in
          omega (arith, ports_of f, short (flow2_field p f) (rw (sym (newer_fields_back mode s p ports flows reads told)) (newer_there p (of_flow_lem f l h refl))) refl)

  pub fits_none : ((f : ℕ) → f < flow_slots → hops_of p f ≤ most_hops_in older) → length s ≤ first_long s
  unfolding fields_in
  fits_none few = Short-none (form_by s) s (length s) (read_as mode s p ports flows reads).walk (omega arith) (λ x m. by_kind x (newer_cases p (rw (newer_fields_back mode s p ports flows reads told) m)))
    where
      by_kind : (x : Entry) → NewerField p x → Short x
      by_kind x (of_header_lem same) is = absurd (omega (arith, ap (λ (e : Entry). tag_of e.field) same))
      by_kind x (of_port_lem q l h same) is = absurd (omega (arith, ap (λ (e : Entry). tag_of e.field) same))
      by_kind x (of_flow_lem f l h same) is = rw same (omega (arith, ports_of f, few f l))
