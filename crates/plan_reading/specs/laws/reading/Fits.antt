-- Bytes that are accepted as a plan of a form tell that form, and the plan fits it: no route has more ports than the form allows.
use Rattle.std.specs.Prelude.{ℕ, zero, suc, ◌-◌, ◌≤◌, ◌<◌, ◌≡◌, refl, List, [], ◌∷◌, true, false, eqb, leb, length, get_or}
use Rattle.std.proofs.Common.{sym, ◌∙◌, subst, true≢false, arith, le-leb, get_or-set_same, get_or-set_other}
use Rattle.std.proofs.Math.Path.{ap}
use Rattle.std.proofs.Math.Bool.{cond}
use Rattle.std.proofs.Math.Decide.{ℕ_discrete}
use Rattle.cqf.specs.Form.{Form, older, newer, form_number, most_hops_in, form_fits}
use Rattle.cqf.specs.Limits.{flow_slots}
use Rattle.cqf.specs.Plan.{Plan, no_plan, hops_of}
use Rattle.cqf.proofs.laws.Bounded.{all_to-every}
use Rattle.plan.specs.Layout.{Kind, layout, form_by, hops_allowed}
use Rattle.plan.specs.Field.{Field, field, field_at}
use Rattle.plan_reading.specs.Part.{Part, header, port, flow, extra, jitter, clock, parts_by, parts_of}
use Rattle.plan_reading.specs.Key.{header_key, key_of}
use Rattle.plan_reading.specs.Rank.{tag_of}
use Rattle.plan_reading.specs.Store.{store, store_all}
use Rattle.plan_reading.specs.Sized.{Sized}
use Rattle.plan_reading.specs.Draft.{Draft, blank, has_key, added}
use Rattle.plan_reading.specs.Ranges.{PartOk}
use Rattle.plan_reading.specs.Reading.{accepted, Mode, route_at, read_form, read_as_of}
use Rattle.plan_reading.specs.Strict.{Entry, entry_of, fields_from, fields_in, parts_row}
use Rattle.plan_reading.specs.laws.fields.Within.{within_low, within_high, slot_below}
use Rattle.plan_reading.specs.laws.fields.Passes.{field_passes}
use Rattle.plan_reading.specs.laws.fields.Ranged.{All, all_append}
use Rattle.plan_reading.specs.laws.fields.Kinds.{header_tells}
use Rattle.plan_reading.specs.laws.stores.Tables.{sized_none, sized_store}
use Rattle.plan_reading.specs.laws.stores.Columns.{zeros}
use Rattle.plan_reading.specs.laws.reading.PlanLength.{sized, form_sized, read_form_lem}
use Rattle.plan_reading.specs.laws.reading.Walk.{Reads, done, one, form_reads, closing_accepted}
use Rattle.plan_reading.specs.laws.reading.Walked.{walk_free, accepted_row}
use Rattle.plan_reading.specs.laws.order.Order.{flagged_blank}
use Rattle.plan_reading.specs.laws.order.Rows.{row_field, Ascends, none, next}
use Rattle.plan_reading.specs.laws.order.InOrder.{strict_ascends}
use Rattle.plan_reading.specs.laws.rows.SavedRow.{AllOk, none, more, added_all}
use Rattle.plan_reading.specs.laws.rows.RowParts.{free_ok}
use Rattle.plan_reading.specs.laws.rows.Spelled.{newer_older}

-- a tag of the older form is not that of the newer one's header
older_tag : (k : Kind) → (layout k).form ≡ older → cond (eqb (layout k).tag (layout Kind.header2).tag) newer older ≡ older
older_tag Kind.header e = refl
older_tag Kind.port e = refl
older_tag Kind.flow e = refl
older_tag Kind.extra e = refl
older_tag Kind.jitter e = refl
older_tag Kind.clock e = refl
older_tag Kind.header2 e = absurd (newer_older e)
older_tag Kind.port2 e = absurd (newer_older e)
older_tag Kind.flow2 e = absurd (newer_older e)

-- a row whose keys are all above the header's does not bring the header's
no_header : {form : Form} (d : Draft) {least : ℕ} {es : List Entry} → Ascends form least es → 0 < least → has_key (added_all d es) header_key ≡ has_key d header_key
unfolding added_all added
no_header d none some = refl
no_header d (next {e = e} k low up) some =
    no_header (added d e.field e.route) up (omega arith)
    ∙ rw (get_or-set_other d.seen (key_of e.field) header_key 1 0 (λ same. absurd (omega arith)))

headless : has_key blank header_key ≡ false
unfolding blank
headless = refl

-- the first field of a plan of the newer form is its header
first_header
    : {least : ℕ} {e : Entry} {es : List Entry}
    → Ascends newer least (e ∷ es)
    → has_key (added_all blank (e ∷ es)) header_key ≡ true
    → key_of e.field ≡ header_key
first_header {e = e} (next k low up) headed = go (ℕ_discrete (key_of e.field) header_key)
  where
    go : Dec (key_of e.field ≡ header_key) → key_of e.field ≡ header_key
    go (yes same) = same
    go (no apart) =
        let above : 1 ≤ key_of e.field = omega arith in
        absurd (true≢false (sym headed ∙ no_header blank (next {least = 1} k above up) (omega arith) ∙ headless))

-- the form that accepted bytes tell
module _ (form : Form) (mode : Mode) (s : List ℕ) (p : Plan) (ports flows : ℕ) (e : read_form form mode s ≡ accepted p ports flows) where
  by_first : (x : Field) (after : ℕ) → field_at form s 0 ≡ field x after → cond (eqb (tag_of x) (layout Kind.header2).tag) newer older ≡ form → form_by s ≡ form
  unfolding form_by
  by_first x after stands tells =
      ap (λ (t : ℕ). cond (eqb t (layout Kind.header2).tag) newer older) (field_passes form s 0 x after stands).passes.kind ∙ tells

pub form_told : (form : Form) (mode : Mode) (s : List ℕ) (p : Plan) (ports flows : ℕ) → read_form form mode s ≡ accepted p ports flows → form_by s ≡ form
form_told older mode s p m k e = go (form_reads older mode s p m k e).walk
  where
    go : {d : Draft} → Reads older s 0 blank d → form_by s ≡ older
    go (done same end) = absurd (omega (arith, within_low 1 _ (length s) (sized older mode s p m k e)))
    go (one x after less stands fresh no_repeat rest) =
        by_first older mode s p m k e x after stands (older_tag x.kind (field_passes older s 0 x after stands).passes.ok.kind)
form_told newer mode s p m k e = go (length s) refl (form_reads newer mode s p m k e).walk
  where
    up : Ascends newer 0 (fields_from newer (length s) s 0)
    up =
        strict_ascends newer (length s) s 0 0 blank 0 p m k flagged_blank (λ x fresh in_time. omega arith)
        (sym (form_sized newer mode s (sized newer mode s p m k e)) ∙ e)

    headed : has_key (added_all blank (fields_from newer (length s) s 0)) header_key ≡ true
    headed =
        ap (λ (d : Draft). has_key d header_key) (walk_free newer s (length s) (form_reads newer mode s p m k e).walk (omega arith)).1
        ∙ (closing_accepted s (form_reads newer mode s p m k e).final p m k (form_reads newer mode s p m k e).closes).with_header

    go : (n : ℕ) → length s ≡ n → {d : Draft} → Reads newer s 0 blank d → form_by s ≡ newer
    go n long (done same end) = absurd (omega (arith, within_low 1 _ (length s) (sized newer mode s p m k e)))
    go zero long (one x after less stands fresh no_repeat rest) = absurd (omega arith)
    go (suc n) long (one x after less stands fresh no_repeat rest) =
        let row : fields_from newer (length s) s 0 ≡ entry_of x (route_at x.kind s 0) ∷ fields_from newer n s after =
        ap (λ (m : ℕ). fields_from newer m s 0) long ∙ row_field newer n s 0 x after stands in
        let key = first_header (subst (Ascends newer 0) row up) (subst (λ (es : List Entry). has_key (added_all blank es) header_key ≡ true) row headed) in
        by_first newer mode s p m k e x after stands (header_tells x (field_passes newer s 0 x after stands).passes.ok key)

-- so such bytes are accepted by the form that they tell
pub form_accepted
    : (form : Form) (mode : Mode) (s : List ℕ) (p : Plan) (ports flows : ℕ)
    → read_form form mode s ≡ accepted p ports flows
    → read_as_of mode s ≡ accepted p ports flows
form_accepted form mode s p m k e =
    read_form_lem mode s ∙ ap (λ (f : Form). read_form f mode s) (form_told form mode s p m k e) ∙ e

-- the routes of a part, and of tables, have at most so many ports
abbrev RouteMost : ℕ → Part → Type 0
RouteMost most (header g t) = Unit {0}
RouteMost most (port n v b) = Unit {0}
RouteMost most (flow n t c l r) = length r ≤ most
RouteMost most (extra n b) = Unit {0}
RouteMost most (jitter n j) = Unit {0}
RouteMost most (clock k) = Unit {0}

abbrev Few : ℕ → Plan → Type 0
Few most p = (f : ℕ) → hops_of p f ≤ most

part-few : (most : ℕ) (p : Plan) (x : Part) → Sized p → PartOk x → RouteMost most x → Few most p → Few most (store p x)
unfolding store
part-few most p (header g t) sized ok short few f = few f
part-few most p (port n v b) sized ok short few f = few f
part-few most p (flow n t c l r) sized ok short few f = go (ℕ_discrete f (n - 1))
  where
    fits : n - 1 < length p.hops
    fits = rw sized.hops (slot_below flow_slots n ok.number)

    go : Dec (f ≡ n - 1) → hops_of (store p (flow n t c l r)) f ≤ most
    go (yes same) = rw (same, get_or-set_same p.hops (n - 1) (length r) 0 fits) short
    go (no apart) = rw (get_or-set_other p.hops (n - 1) f (length r) 0 apart) (few f)
part-few most p (extra n b) sized ok short few f = few f
part-few most p (jitter n j) sized ok short few f = few f
part-few most p (clock k) sized ok short few f = few f

parts_few : (most : ℕ) (p : Plan) (xs : List Part) → Sized p → All PartOk xs → All (RouteMost most) xs → Few most p → Few most (store_all p xs)
unfolding store_all
parts_few most p [] sized ok short few = few
parts_few most p (x ∷ xs) sized ok short few =
    parts_few most (store p x) xs (sized_store p x sized) ok.1 short.1 (part-few most p x sized ok.0 short.0 few)

-- the route of a field is no longer than its form allows
route_most : (k : Kind) (ns r : List ℕ) (h : ℕ) → hops_allowed (layout k).most_hops h ≡ true → length r ≡ h → All (RouteMost (most_hops_in (layout k).form)) (parts_by k ns r)
route_most Kind.header ns r h ok long = (tt, tt)
route_most Kind.port ns r h ok long = (tt, tt)
route_most Kind.flow ns r h ok long = (omega (arith, within_high 1 (most_hops_in older) h ok), tt)
route_most Kind.extra ns r h ok long = (tt, tt)
route_most Kind.jitter ns r h ok long = (tt, tt)
route_most Kind.clock ns r h ok long = (tt, tt)
route_most Kind.header2 ns r h ok long = (tt, (tt, tt))
route_most Kind.port2 ns r h ok long = (tt, (tt, tt))
route_most Kind.flow2 ns r h ok long = (omega (arith, within_high 1 (most_hops_in newer) h ok), (tt, tt))

row_most : {form : Form} {es : List Entry} → AllOk form es → All (RouteMost (most_hops_in form)) (parts_row es)
row_most none = tt
row_most {form} (more {e = e} {es = es} ok rest) =
    all_append (RouteMost (most_hops_in form)) (parts_of e.field e.route) (parts_row es)
    (subst (λ (f : Form). All (RouteMost (most_hops_in f)) (parts_of e.field e.route)) ok.numbers.kind
    (route_most e.field.kind e.field.numbers e.route e.field.hops ok.numbers.hops ok.fits.hops))
    (row_most rest)

-- the plan fits the form that its bytes tell
pub few_fits : (form : Form) (hops : List ℕ) → ((f : ℕ) → f < flow_slots → get_or hops f 0 ≤ most_hops_in form) → form_fits (form_number form) hops ≡ true
unfolding form_fits
few_fits older hops few = all_to-every flow_slots (λ f. leb (get_or hops f 0) (most_hops_in older)) (λ f l. le-leb _ _ (few f l))
few_fits newer hops few = all_to-every flow_slots (λ f. leb (get_or hops f 0) (most_hops_in newer)) (λ f l. le-leb _ _ (few f l))

pub read_fits
    : (mode : Mode) (s : List ℕ) (p : Plan) (ports flows : ℕ)
    → read_as_of mode s ≡ accepted p ports flows
    → form_fits (form_number (form_by s)) p.hops ≡ true
unfolding blank no_plan
read_fits mode s p m k e =
    let a = accepted_row mode s p m k e in
    let xs = parts_row (fields_in s) in
    few_fits (form_by s) p.hops
    (λ f l.
    subst (Few (most_hops_in (form_by s))) a.tables
    (parts_few (most_hops_in (form_by s)) no_plan xs sized_none a.fresh.ok (row_most (free_ok a.free))
    (λ f. omega (arith, zeros flow_slots f))) f)

pub accepted_fits
    : (form : Form) (mode : Mode) (s : List ℕ) (p : Plan) (ports flows : ℕ)
    → read_form form mode s ≡ accepted p ports flows
    → form_fits (form_number form) p.hops ≡ true
accepted_fits form mode s p m k e =
    subst (λ (f : Form). form_fits (form_number f) p.hops ≡ true) (form_told form mode s p m k e)
    (read_fits mode s p m k (form_accepted form mode s p m k e))
