-- The walk over the fields of a plan from the front, as a sequence of fields that each pass the tests 2 to 7.
use Rattle.std.specs.Prelude.{◌≡◌, refl, List, Bool, true, false, cond, not, ◌||◌, ℕ, zero, suc, ◌+◌, ◌≤◌, ◌<◌, ltb, eqb, length}
use Rattle.std.proofs.Common.{sym, ◌∙◌, arith, ltb-true, ltb-false}
use Rattle.cqf.specs.Plan.{Plan}
use Rattle.cqf.specs.Form.{Form}
use Rattle.plan.specs.Layout.{form_by}
use Rattle.plan.specs.Field.{Field, field, field_at}
use Rattle.plan_reading.specs.Key.{header_key}
use Rattle.plan_reading.specs.Draft.{Draft, blank, has_key, taken, field_repeats, added}
use Rattle.plan_reading.specs.Reading.{PlanRead, accepted, rejected, Mode, loose, mode_in, Step, stop, more, route_at, step_at, first_absent, closing, read_from, read_form, read_as_of, read_plan}
use Rattle.plan_reading.specs.laws.reading.PlanLength.{form_sized, sized, read_form_lem}
use Rattle.plan_reading.specs.laws.reading.Steps.{step_more}
use Rattle.plan_reading.specs.laws.reading.Onward.{onward, read_end, read_stop, read_more}

-- from offset at and draft d the fields of s are read to their end, which leaves draft e
pub data Reads (form : Form) (s : List ℕ) : ℕ → Draft → Draft → Type 0 where
  done : {at : ℕ} {d e : Draft} → d ≡ e → length s ≤ at → Reads form s at d e
  one
      : {at : ℕ} {d e : Draft} (x : Field) (next : ℕ)
      → at < length s
      → field_at form s at ≡ field x next
      → taken d x ≡ false
      → field_repeats (route_at x.kind s at) ≡ false
      → Reads form s next (added d x (route_at x.kind s at)) e
      → Reads form s at d e

-- a reading that ends with tests 8 and 9
pub record Ends (form : Form) (s : List ℕ) (at : ℕ) (d : Draft) (r : PlanRead) : Type 0 where
  pub final : Draft
  pub walk : Reads form s at d final
  pub closes : closing s final ≡ r

-- an accepted reading walks over all the fields, of which there are no more than bytes left
reads_from
    : (form : Form) (mode : Mode) (n : ℕ) (s : List ℕ) (at last : ℕ) (d : Draft) (p : Plan) (ports flows : ℕ)
    → length s ≤ at + n
    → read_from form mode (length s) s at last d ≡ accepted p ports flows
    → Ends form s at d (accepted p ports flows)
reads_from form mode zero s at last d p m k enough e =
    let end : length s ≤ at = omega arith in
    record { final = d; walk = Reads.done {at = at} refl end; closes = sym (read_end form mode s at last d (length s) end) ∙ e }
reads_from form mode (suc n) s at last d p m k enough e = go (reads_from form mode n s) (ltb at (length s)) refl
  where
    Again : Type 0
    Again =
        (at last : ℕ) (d : Draft) (p : Plan) (m k : ℕ)
        → length s ≤ at + n
        → read_from form mode (length s) s at last d ≡ accepted p m k
        → Ends form s at d (accepted p m k)

    step : Again → at < length s → (r : Step) → step_at form mode s at last d ≡ r → Ends form s at d (accepted p m k)
    step again less (stop number offset) q =
        let y : rejected number offset ≡ accepted p m k = sym (read_stop form mode s at last d less number offset q) ∙ e in
        let z : ◌≡◌ {A = ℕ} 0 1 = cc in
        absurd (omega arith)
    step again less (more next key d') q =
        let t = step_more form mode s at last d next key d' q in
        let rest =
        again next key d' p m k (omega (arith, (onward form mode s at last d next key d' q).forward))
        (sym (read_more form mode s at last d less next key d' q) ∙ e) in
        record {
          final = rest.final;
          walk = Reads.one {d = d} {e = rest.final} t.part next less t.stands t.fresh t.no_repeat (rw t.adds rest.walk);
          closes = rest.closes;
        }

    go : Again → (b : Bool) → ltb at (length s) ≡ b → Ends form s at d (accepted p m k)
    go again true q = step again (ltb-true _ _ q) (step_at form mode s at last d) refl
    go again false q =
        let end = ltb-false _ _ q in
        record { final = d; walk = Reads.done refl end; closes = sym (read_end form mode s at last d (length s) end) ∙ e }

-- an accepted plan is read from the front to its end
pub form_reads
    : (form : Form) (mode : Mode) (s : List ℕ) (p : Plan) (ports flows : ℕ)
    → read_form form mode s ≡ accepted p ports flows
    → Ends form s 0 blank (accepted p ports flows)
form_reads form mode s p m k e =
    reads_from form (mode_in form mode) (length s) s 0 0 blank p m k (omega arith)
    (sym (form_sized form mode s (sized form mode s p m k e)) ∙ e)

pub read_as
    : (mode : Mode) (s : List ℕ) (p : Plan) (ports flows : ℕ)
    → read_as_of mode s ≡ accepted p ports flows
    → Ends (form_by s) s 0 blank (accepted p ports flows)
read_as mode s p m k e = form_reads (form_by s) mode s p m k (sym (read_form_lem mode s) ∙ e)

pub accepted_reads
    : (s : List ℕ) (p : Plan) (ports flows : ℕ)
    → read_plan s ≡ accepted p ports flows
    → Ends (form_by s) s 0 blank (accepted p ports flows)
unfolding read_plan
accepted_reads s = read_as loose s

-- the final draft is the plan, with a header, a flow, and every port and flow that is named
pub record Closes (s : List ℕ) (e : Draft) (p : Plan) (ports flows : ℕ) : Type 0 where
  pub with_header : has_key e header_key ≡ true
  pub with_flow : eqb e.flows 0 ≡ false
  pub none_absent : length s ≤ first_absent e.tables.rates e.tables.periods s
  pub plan : e.tables ≡ p
  pub ports_read : e.ports ≡ ports
  pub flows_read : e.flows ≡ flows

pub closing_accepted
    : (s : List ℕ) (e : Draft) (p : Plan) (ports flows : ℕ)
    → closing s e ≡ accepted p ports flows
    → Closes s e p ports flows
unfolding closing
closing_accepted s e p m k h = eight (has_key e header_key) (eqb e.flows 0) refl refl h
  where
    absent : ℕ
    absent = first_absent e.tables.rates e.tables.periods s

    nine
        : has_key e header_key ≡ true
        → eqb e.flows 0 ≡ false
        → (c : Bool)
        → ltb absent (length s) ≡ c
        → cond c (rejected 9 absent) (accepted e.tables e.ports e.flows) ≡ accepted p m k
        → Closes s e p m k
    nine a b true q h = let z : ◌≡◌ {A = ℕ} 0 1 = cc in absurd (omega arith)
    nine a b false q h =
        record {
          with_header = a;
          with_flow = b;
          none_absent = ltb-false _ _ q;
          plan = cc;
          ports_read = cc;
          flows_read = cc;
        }

    eight
        : (a b : Bool)
        → has_key e header_key ≡ a
        → eqb e.flows 0 ≡ b
        → cond (not a || b) (rejected 8 (length s))
        (cond (ltb absent (length s)) (rejected 9 absent) (accepted e.tables e.ports e.flows))
        ≡ accepted p m k
        → Closes s e p m k
    eight false b p q h = let z : ◌≡◌ {A = ℕ} 0 1 = cc in absurd (omega arith)
    eight true true p q h = let z : ◌≡◌ {A = ℕ} 0 1 = cc in absurd (omega arith)
    eight true false p q h = nine p q (ltb absent (length s)) refl h
