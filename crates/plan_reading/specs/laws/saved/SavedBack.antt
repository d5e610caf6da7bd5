-- Saving gives back the bytes: the fields of a plan that the strict reading accepts are those as which it is saved, where none of
-- them says what its absence says.
use Rattle.std.specs.Prelude.{ℕ, ◌-◌, ◌≤◌, ◌≡◌, ◌⊎◌}
use Rattle.std.proofs.Math.Path.{refl, subst}
use Rattle.std.proofs.Common.{sym, ap, ◌∙◌, inl, inr, arith}
use mathlib.Core.List.Memᴰ
use mathlib.Core.List.{List, Memᴰ}
use Rattle.std.proofs.Math.Option.{some}
use Rattle.cqf.specs.Form.{Form, older}
use Rattle.cqf.specs.Limits.{port_slots, flow_slots}
use Rattle.cqf.specs.Plan.{Clock, Plan, no_plan, equal_clocks}
use Rattle.cqf.proofs.laws.Ranges.{top_positive}
use Rattle.plan.specs.Bytes.{Octets}
use Rattle.plan.specs.Layout.{Kind, form_by}
use Rattle.plan_reading.specs.Part.{Part, header, port, flow, extra, jitter, clock}
use Rattle.plan_reading.specs.Rank.{number_of}
use Rattle.plan_reading.specs.Store.{puts_top, puts_clock, store}
use Rattle.plan_reading.specs.FieldOrder.{SaysNothing}
use Rattle.plan_reading.specs.Ranges.{PartOk}
use Rattle.plan_reading.specs.Reading.{accepted, strict, read_as_of}
use Rattle.plan_reading.specs.Strict.{Entry, fields_in, parts_row}
use Rattle.plan_reading.specs.FieldBytes.{row_bytes}
use Rattle.plan_reading.specs.Saved.{spell, spell_all, saved_parts, saved_fields, saved_bytes, NoneSaysNothing}
use Rattle.plan_reading.specs.laws.fields.Within.{within_low}
use Rattle.plan_reading.specs.laws.fields.Ranged.{all_at}
use Rattle.plan_reading.specs.laws.validity.Valid.{accepted_valid}
use Rattle.plan_reading.specs.laws.order.Rows.{Ascends}
use Rattle.plan_reading.specs.laws.order.InOrder.{ascends_same}
use Rattle.plan_reading.specs.laws.rows.SavedRow.{EntryOk, AllOk, none, more}
use Rattle.plan_reading.specs.laws.rows.RowParts.{free_ok}
use Rattle.plan_reading.specs.laws.rows.Spelled.{spell_in, spell_of, row_spelled}
use Rattle.plan_reading.specs.results.StrictTheorem.{read_loosely, keys_ascend, accepted_bytes}
use Rattle.plan_reading.specs.laws.saved.Entries.{Stands, Tells, Says}
use Rattle.plan_reading.specs.laws.saved.Says.{saved_says, says_saved, stands_once}
use Rattle.plan_reading.specs.laws.saved.SavedOrder.{saved_ascends}
use Rattle.plan_reading.specs.laws.stores.Sources.{Some, tables_of, source, alone_source}
use Rattle.plan_reading.specs.laws.stores.Columns
use Rattle.plan_reading.specs.laws.stores.Fresh.{Fresh, fresh_stands}
use Rattle.plan_reading.specs.laws.reading.Walked.{accepted_row}

-- a header is among the parts
abbrev pub Headed : List Part → Type 0
Headed xs = Some (λ x. (guard top : ℕ) × (x ≡ header guard top)) xs

-- kind and number of the field that says a part
abbrev kind_of : Part → Kind
kind_of x = (spell x).field.kind

abbrev own_number : Part → ℕ
own_number x = number_of (spell x).field

module _ (xs : List Part) (fresh : Fresh xs) (headed : Headed xs) where
  abbrev q : Plan
  q = tables_of xs

  stands : {x : Part} → Memᴰ x xs → Stands q x
  stands m = fresh_stands fresh m

  -- a part that stands in the tables is the one of the row with its kind and number
  found : (x y z : Part) → Stands q x → Memᴰ y xs → y ≡ z → kind_of x ≡ kind_of z → own_number x ≡ own_number z → Memᴰ x xs
  found x y z h m is kind number =
      Memᴰ.cast (stands_once q x y h (stands m) (kind ∙ sym (ap kind_of is)) (number ∙ sym (ap own_number is))) m

  -- there is one, since the tables have a number there
  pub part_there : (x : Part) → Says q x → Memᴰ x xs
  unfolding store no_plan
  part_there (header g t) h =
      let u = headed.2 in
      found _ headed.0 (header u.0 u.1) h.stands headed.1 u.2 refl refl
  part_there (port n v b) h =
      let s = source Columns.rate_column xs (n - 1) (omega (arith, h.tells, h.stands.1)) in
      let u = Columns.touched_port (λ n v b. v) s.0 (n - 1) s.2 in
      let y = port u.0 u.1 u.2 in
      let k : Stands q y = subst (Stands q) u.3 (stands s.1) in
      let same : n ≡ u.0 = omega (arith, u.4, within_low 1 port_slots n h.stands.0, within_low 1 port_slots u.0 k.0) in
      found _ s.0 y h.stands s.1 u.3 refl same
  part_there (flow n t c l r) h =
      let s = source Columns.period_column xs (n - 1) (omega (arith, h.tells, h.stands.1)) in
      let u = Columns.touched_flow (λ n t c l r. t) s.0 (n - 1) s.2 in
      let y = flow u.0 u.1 u.2 u.3 u.4 in
      let k : Stands q y = subst (Stands q) u.5 (stands s.1) in
      let same : n ≡ u.0 = omega (arith, u.6, within_low 1 flow_slots n h.stands.0, within_low 1 flow_slots u.0 k.0) in
      found _ s.0 y h.stands s.1 u.5 refl same
  part_there (extra n b) h =
      let s = source Columns.extra_column xs (n - 1) (omega (arith, h.tells, h.stands.1)) in
      let u = Columns.touched_extra s.0 (n - 1) s.2 in
      let y = extra u.0 u.1 in
      let k : Stands q y = subst (Stands q) u.2 (stands s.1) in
      let same : n ≡ u.0 = omega (arith, u.3, within_low 1 port_slots n h.stands.0, within_low 1 port_slots u.0 k.0) in
      found _ s.0 y h.stands s.1 u.2 refl same
  part_there (jitter n j) h =
      let s = source Columns.jitter_column xs (n - 1) (omega (arith, h.tells, h.stands.1)) in
      let u = Columns.touched_jitter s.0 (n - 1) s.2 in
      let y = jitter u.0 u.1 in
      let k : Stands q y = subst (Stands q) u.2 (stands s.1) in
      let same : n ≡ u.0 = omega (arith, u.3, within_low 1 flow_slots n h.stands.0, within_low 1 flow_slots u.0 k.0) in
      found _ s.0 y h.stands s.1 u.2 refl same
  part_there (clock k) h = go (alone_source (λ r. r.clock) puts_clock (λ r x. refl) no_plan xs)
    where
      go : (q.clock ≡ equal_clocks) ⊎ Some (λ x. (k : Clock) × (puts_clock x ≡ some k)) xs → Memᴰ (clock k) xs
      go (inl left) = absurd (h.tells (sym h.stands ∙ left))
      go (inr s) =
          let u = Columns.given-clock s.0 s.2.0 s.2.1 in
          found _ s.0 (clock u.0) h.stands s.1 u.1 refl refl

-- an accepted plan has a header
pub header_there : (xs : List Part) → 1 ≤ (tables_of xs).top → Headed xs
unfolding store no_plan
header_there xs some-top = go (alone_source (λ r. r.top) puts_top (λ r x. refl) no_plan xs)
  where
    go : ((tables_of xs).top ≡ 0) ⊎ Some (λ x. (t : ℕ) × (puts_top x ≡ some t)) xs → Headed xs
    go (inl left) = absurd (omega arith)
    go (inr s) = (s.0, s.1, Columns.given_header (λ g t. t) s.0 s.2.0 s.2.1)

-- a part in range says more than its absence where its field does
tells_spelled : (x : Part) → PartOk x → (SaysNothing (spell x).field → ⊥) → Tells x
tells_spelled (header g t) ok says = tt
tells_spelled (port n v b) ok says = within_low 1 _ v ok.rate
tells_spelled (flow n t c l r) ok says = omega (arith, within_low _ _ t ok.period)
tells_spelled (extra n b) ok says = let some : b ≡ 0 → ⊥ = λ z. says (z, tt) in omega arith
tells_spelled (jitter n j) ok says = let some : j ≡ 0 → ⊥ = λ z. says (z, tt) in omega arith
tells_spelled (clock k) ok says = λ z. says (z, tt)

pub ok_at : {form : Form} {e : Entry} {es : List Entry} → AllOk form es → Memᴰ e es → EntryOk form e
ok_at none m = absurd (Memᴰ.not-nil m)
ok_at (more ok rest) (Memᴰ.head same) = rw same ok
ok_at (more ok rest) (Memᴰ.tail m) = ok_at rest m

-- the plan that a row in strict order leaves is saved as the row
module _ (xs : List Part) (fresh : Fresh xs) (headed : Headed xs) where
  pub row_back
      : AllOk older (spell_all xs)
      → Ascends older 0 (spell_all xs)
      → ((x : Part) → Memᴰ x xs → Tells x)
      → saved_fields (tables_of xs) ≡ spell_all xs
  row_back ok up tells =
      ascends_same (saved_ascends (tables_of xs) (λ x h. (ok_at ok (spell_in xs (part_there xs fresh headed x h))).numbers)) up
      (λ e m.
      let t = spell_of (saved_parts (tables_of xs)) m in
      Memᴰ.cast t.2 (spell_in xs (part_there xs fresh headed t.0 (saved_says (tables_of xs) t.1))))
      (λ e m.
      let t = spell_of xs m in
      let h : Says (tables_of xs) t.0 = record { stands = fresh_stands fresh t.1; tells = tells t.0 t.1 } in
      Memᴰ.cast t.2 (spell_in (saved_parts (tables_of xs)) (says_saved (tables_of xs) t.0 h)))

-- A plan of the older form that the strict reading accepts, and in which no field says what its absence says, is saved as the bytes that were read.
pub saved_back
    : (s : List ℕ) (p : Plan) (ports flows : ℕ)
    → Octets s
    → read_as_of strict s ≡ accepted p ports flows
    → form_by s ≡ older
    → NoneSaysNothing s
    → saved_bytes p ≡ s
unfolding saved_bytes
saved_back s p m k octets e told tells =
    let a = accepted_row strict s p m k e in
    let xs = parts_row (fields_in s) in
    let ok : AllOk older (fields_in s) = subst (λ (f : Form). AllOk f (fields_in s)) told (free_ok a.free) in
    let up : Ascends older 0 (fields_in s) = subst (λ (f : Form). Ascends f 0 (fields_in s)) told (keys_ascend s p m k e) in
    let spelled : spell_all xs ≡ fields_in s = row_spelled ok in
    let valid = accepted_valid s p m k (read_loosely strict s p m k e) in
    let headed = header_there xs (rw a.tables (top_positive p valid)) in
    let own : (x : Part) → Memᴰ x xs → Tells x =
    λ x i.
    tells_spelled x (all_at PartOk xs a.fresh.ok i)
    (tells (spell x) (subst (λ (es : List Entry). Memᴰ (spell x) es) spelled (spell_in xs i))) in
    let row : saved_fields (tables_of xs) ≡ spell_all xs =
    row_back xs a.fresh headed (rw spelled ok) (rw spelled up) own in
    ap (λ (r : Plan). row_bytes (saved_fields r)) (sym a.tables)
    ∙ ap row_bytes (row ∙ spelled)
    ∙ sym (accepted_bytes strict s p m k octets e)
