-- A plan of the newer form is saved as the very bytes that were read.
use Rattle.std.specs.Prelude.{ℕ, suc, ◌-◌, ◌<◌, ◌≡◌, refl, true, length, get_or}
use Rattle.std.proofs.Math.Path.{sym, ap}
use Rattle.std.proofs.Common.{◌∙◌, subst, arith, lt-ltb}
use mathlib.Core.List.{List, [], ◌∷◌, Memᴰ}
use Rattle.cqf.specs.Form.{Form, newer}
use Rattle.cqf.specs.Limits.{port_slots, flow_slots}
use Rattle.cqf.specs.Plan.{Plan, rate_of, period_of, valid_plan}
use Rattle.cqf.proofs.laws.Ranges.{top_positive}
use Rattle.plan.specs.Bytes.{Octets}
use Rattle.plan.specs.Layout.{Kind, layout, form_by, hops_allowed}
use Rattle.plan.specs.Field.{in_ranges}
use Rattle.plan_reading.specs.Part.{Part, parts_by, parts_of}
use Rattle.plan_reading.specs.Key.{key_of}
use Rattle.plan_reading.specs.Ranges.{RouteOk}
use Rattle.plan_reading.specs.Reading.{accepted, Mode, loose, strict, read_as_of}
use Rattle.plan_reading.specs.Strict.{Entry, entry_of, fields_in, parts_row}
use Rattle.plan_reading.specs.FieldBytes.{row_bytes}
use Rattle.plan_reading.specs.Saved.{header_part, port_part, flow_part, header2_field, port2_field, flow2_field, newer_fields, form_bytes}
use Rattle.plan_reading.specs.laws.fields.Within.{within_low, slot_below}
use Rattle.plan_reading.specs.laws.fields.Ranged.{All, all_of, all_at, in_range}
use Rattle.plan_reading.specs.laws.fields.ByPart.{part_key, owner}
use Rattle.plan_reading.specs.laws.fields.Kinds.{parts_owned}
use Rattle.plan_reading.specs.laws.validity.Valid.{accepted_valid}
use Rattle.plan_reading.specs.laws.reading.Walked.{accepted_row}
use Rattle.plan_reading.specs.laws.order.Rows.{Ascends}
use Rattle.plan_reading.specs.laws.order.InOrder.{ascends_same, ascends_once}
use Rattle.plan_reading.specs.laws.order.OutOfOrder.{newer_modes}
use Rattle.plan_reading.specs.laws.rows.SavedRow.{AllOk}
use Rattle.plan_reading.specs.laws.rows.RowParts.{free_ok}
use Rattle.plan_reading.specs.laws.rows.Spelled.{newer_older, all_listed, no_hops, no_route}
use Rattle.plan_reading.specs.laws.stores.Fresh.{fresh_stands}
use Rattle.plan_reading.specs.results.StrictTheorem.{read_loosely, keys_ascend, accepted_bytes}
use Rattle.plan_reading.specs.laws.saved.Entries.{Stands, Says}
use Rattle.plan_reading.specs.laws.saved.Says.{header_says, port_says, flow_says}
use Rattle.plan_reading.specs.laws.saved.SavedBack.{Headed, part_there, header_there, ok_at}
use Rattle.plan_reading.specs.laws.newer.Fields.{NewerField, of_header_lem, of_port_lem, of_flow_lem, newer_cases, newer_there, newer_ok}
use Rattle.plan_reading.specs.laws.newer.Order.{newer_ascends}
use Rattle.plan_reading.specs.laws.newer.Row.{part_of, part_in}

-- a field of the newer form in range whose parts stand in a plan is one as which the plan is saved
module _ (p : Plan) (ns : List ℕ) (h : ℕ) (r : List ℕ) (on : RouteOk h r) where
  abbrev spelled : Kind → Entry
  spelled k = entry_of (record { kind = k; numbers = ns; hops = h }) r

  one_of_lem
      : (k : Kind)
      → (layout k).form ≡ newer
      → in_ranges (layout k).numbers ns ≡ true
      → hops_allowed (layout k).most_hops h ≡ true
      → All (Stands p) (parts_by k ns r)
      → NewerField p (spelled k)
  one_of_lem Kind.header is e m t = absurd (newer_older (sym is))
  one_of_lem Kind.port is e m t = absurd (newer_older (sym is))
  one_of_lem Kind.flow is e m t = absurd (newer_older (sym is))
  one_of_lem Kind.extra is e m t = absurd (newer_older (sym is))
  one_of_lem Kind.jitter is e m t = absurd (newer_older (sym is))
  one_of_lem Kind.clock is e m t = absurd (newer_older (sym is))
  one_of_lem Kind.header2 is e m t =
      let c : p.clock ≡ record { drift = get_or ns 2 0; timing_jitter_of = get_or ns 3 0; sync_error_of = get_or ns 4 0 } = t.1.0 in
      of_header_lem
      (sym
      ((λ i.
      entry_of
      (record { kind = Kind.header2; numbers = t.0.0 i ∷ t.0.1 i ∷ (c i).drift ∷ (c i).timing_jitter_of ∷ (c i).sync_error_of ∷ []; hops = 0 })
      [])
      ∙ (λ i.
      entry_of (record { kind = Kind.header2; numbers = all_listed (layout Kind.header2).numbers ns e i; hops = no_hops ns h r on m i })
      (no_route ns h r on m i))))
  one_of_lem Kind.port2 is e m t =
      let n = get_or ns 0 0 in
      let s = t.0 in
      let x = t.1.0 in
      let own : suc (n - 1) ≡ n = omega (arith, within_low 1 port_slots n s.0) in
      let range = in_range (layout Kind.port2).numbers ns e in
      let there : 0 < rate_of p (n - 1) = omega (arith, s.1, within_low 1 _ (get_or ns 1 0) range.1.0) in
      of_port_lem (n - 1) (slot_below port_slots n s.0) (lt-ltb 0 _ there)
      (sym
      ((λ i. entry_of (record { kind = Kind.port2; numbers = own i ∷ s.1 i ∷ s.2 i ∷ x.1 i ∷ []; hops = 0 }) [])
      ∙ (λ i.
      entry_of (record { kind = Kind.port2; numbers = all_listed (layout Kind.port2).numbers ns e i; hops = no_hops ns h r on m i })
      (no_route ns h r on m i))))
  one_of_lem Kind.flow2 is e m t =
      let n = get_or ns 0 0 in
      let s = t.0 in
      let x = t.1.0 in
      let own : suc (n - 1) ≡ n = omega (arith, within_low 1 flow_slots n s.0) in
      let range = in_range (layout Kind.flow2).numbers ns e in
      let there : 0 < period_of p (n - 1) = omega (arith, s.1, within_low _ _ (get_or ns 1 0) range.1.0) in
      of_flow_lem (n - 1) (slot_below flow_slots n s.0) (lt-ltb 0 _ there)
      (sym
      ((λ i. entry_of (record { kind = Kind.flow2; numbers = own i ∷ s.1 i ∷ s.2 i ∷ s.3 i ∷ x.1 i ∷ []; hops = length (s.4 i) }) (s.4 i))
      ∙ (λ i. entry_of (record { kind = Kind.flow2; numbers = all_listed (layout Kind.flow2).numbers ns e i; hops = on.hops i }) r)))

-- what either reading accepts of the newer form, the strict one accepts
read_strictly
    : (mode : Mode) (s : List ℕ) (p : Plan) (ports flows : ℕ)
    → form_by s ≡ newer
    → read_as_of mode s ≡ accepted p ports flows
    → read_as_of strict s ≡ accepted p ports flows
read_strictly strict s p m k told e = e
read_strictly loose s p m k told e = sym (newer_modes s told) ∙ e

module _
    (mode : Mode) (s : List ℕ) (p : Plan) (ports flows : ℕ)
    (e : read_as_of mode s ≡ accepted p ports flows) (told : form_by s ≡ newer) where
  valid : valid_plan p ≡ true
  valid = accepted_valid s p ports flows (read_loosely mode s p ports flows e)

  abbrev xs : List Part
  xs = parts_row (fields_in s)

  all_ok : AllOk newer (fields_in s)
  all_ok = subst (λ (f : Form). AllOk f (fields_in s)) told (free_ok (accepted_row mode s p ports flows e).free)

  up : Ascends newer 0 (fields_in s)
  up = subst (λ (f : Form). Ascends f 0 (fields_in s)) told (keys_ascend s p ports flows (read_strictly mode s p ports flows told e))

  -- each field that was read is saved
  read_saved : (f : Entry) → Memᴰ f (fields_in s) → NewerField p f
  read_saved f m =
      let a = accepted_row mode s p ports flows e in
      let ok = ok_at all_ok m in
      let parts = parts_of f.field f.route in
      let stand : All (Stands p) parts =
      all_of (Stands p) parts (λ x k. subst (λ (q : Plan). Stands q x) a.tables (fresh_stands a.fresh (part_in (fields_in s) m k))) in
      one_of_lem p f.field.numbers f.field.hops f.route ok.fits f.field.kind ok.numbers.kind ok.numbers.ranges ok.numbers.hops stand

  -- and each that is saved was read: a part that only it says was said
  by_part : (f : Entry) (x : Part) → NewerField p f → Memᴰ x (parts_of f.field f.route) → Says p x → Memᴰ f (fields_in s)
  by_part f x is m says =
      let a = accepted_row mode s p ports flows e in
      let headed : Headed xs = header_there xs (rw a.tables (top_positive p valid)) in
      let said : Memᴰ x xs = part_there xs a.fresh headed x (subst (λ (q : Plan). Says q x) (sym a.tables) says) in
      let t = part_of (fields_in s) said in
      let g = t.0 in
      let key : key_of g.field ≡ key_of f.field =
      sym (all_at (λ u. owner newer (part_key u) ≡ key_of g.field) (parts_of g.field g.route) (parts_owned g.field (ok_at all_ok t.1).numbers g.route) t.2)
      ∙ all_at (λ u. owner newer (part_key u) ≡ key_of f.field) (parts_of f.field f.route) (parts_owned f.field (newer_ok p valid is).numbers f.route) m in
      let same : g ≡ f = ascends_once (newer_ascends p valid) (newer_there p (read_saved g t.1)) (newer_there p is) key in
      mathlib.Core.List.Memᴰ.cast (sym same) t.1

  saved_read : (f : Entry) → NewerField p f → Memᴰ f (fields_in s)
  saved_read f (of_header_lem same) =
      mathlib.Core.List.Memᴰ.cast same (by_part (header2_field p) (header_part p) (of_header_lem refl) (mathlib.Core.List.Memᴰ.head refl) (header_says p))
  saved_read f (of_port_lem q l h same) =
      mathlib.Core.List.Memᴰ.cast same (by_part (port2_field p q) (port_part p q) (of_port_lem q l h refl) (mathlib.Core.List.Memᴰ.head refl) (port_says p q l h))
  saved_read f (of_flow_lem g l h same) =
      mathlib.Core.List.Memᴰ.cast same (by_part (flow2_field p g) (flow_part p g) (of_flow_lem g l h refl) (mathlib.Core.List.Memᴰ.head refl) (flow_says p g l h))

  pub newer_fields_back : newer_fields p ≡ fields_in s
  newer_fields_back =
      ascends_same (newer_ascends p valid) up (λ f m. saved_read f (newer_cases p m)) (λ f m. newer_there p (read_saved f m))

  pub newer_back : Octets s → form_bytes newer p ≡ s
  unfolding form_bytes
  newer_back octets = ap row_bytes newer_fields_back ∙ sym (accepted_bytes mode s p ports flows octets e)
