use Prim.Native.Nat.{ℕ, ◌<◌}
use mathlib.Core.Path.{◌≡◌, refl, sym, ap, ◌∙◌, subst}
use mathlib.Core.Bool.{true}
use mathlib.Core.List.{List}
use native.Mathlib.Omega.{arith}
use lib.ListN.{length, get_or, replicate, length-replicate}
use Rattle.cqf.specs.Bounded.{within}
use Rattle.cqf.specs.Limits.{port_slots}
use Rattle.cqf.specs.Plan.{Plan}
use Rattle.cqf.specs.Form.{Form}
use Rattle.plan.specs.Answer.{form_of}
use Rattle.plan_reading.specs.Key.{key_slots}
use Rattle.plan_reading.specs.Draft.{Draft, blank}
use Rattle.plan_reading.specs.Reading.{Mode, mode_in, more, step_at, read_from, read_form, max_bytes}
use Rattle.plan_reading.specs.laws.reading.PlanLength.{form_sized, form_unsized}
use Rattle.plan_reading.specs.laws.fields.Within.{within_high}
use Rattle.plan_reading.specs.Sized.{Sized}
use Rattle.plan_reading.specs.laws.stores.Tables.{sized_none}
use Rattle.plan_reading.specs.laws.stores.Columns.{rate_column, period_column}
use Rattle.plan_reading.specs.laws.reading.Onward.{Onward, onward, read_end, read_stop, read_more}
use Rattle.std.proofs.lemmas.Result.{err_from_is_err_and}
use Rattle.loading.specs.Answer.{mode_of}
use Rattle.loading.specs.Loading.{draft_of, Marks}
use Rattle.loading.specs.laws.Filled.{Filled-none, Filled-next}
use Rattle.loading.specs.laws.Behind.{flagged_next, behind-none, behind-next, behind_end}
use Rattle.loading.proofs.reading.read_tables.Invariants.{Reached}
use Rattle.loading.proofs.reading.read_tables.Goals as goal

-- the reading of the plan is the reading from here on
rest_read
    : (form : Form) (reading mode : Mode) (s : List ℕ) (d : Draft) (named : List ℕ) (at last : ℕ)
    → within 1 max_bytes (length s) ≡ true
    → mode ≡ mode_in form reading
    → Reached form mode s d named at last
    → read_form form reading s ≡ read_from form mode (length s) s at last d
rest_read form reading mode s d named at last sized strictly r =
    form_sized form reading s sized
    ∙ ap (λ (m : Mode). read_from form m (length s) s 0 0 blank) (sym strictly)
    ∙ r.rest

-- a turn that goes on reaches the next offset
reached_next
    : (form : Form) (mode : Mode) (s : List ℕ) (d : Draft) (named : List ℕ) (at last next key : ℕ) (read : Draft) (marked : List ℕ)
    → at < length s
    → step_at form mode s at last d ≡ more next key read
    → Marks named marked s at
    → Reached form mode s d named at last
    → Reached form mode s read marked next key
reached_next form mode s d named at last next key read marked h stepped names i =
    let on : Onward s at d next read = onward form mode s at last d next key read stepped in
    record {
      inside = on.inside;
      ports = omega (arith, i.ports, on.ports, on.forward);
      flows = omega (arith, i.flows, on.flows, on.forward);
      rest = i.rest ∙ read_more form mode s at last d h next key read stepped;
      flagged = flagged_next form mode s at last d next key read stepped i.flagged;
      filled = Filled-next form mode s at last d next key read stepped i.flagged i.filled;
      sized = names.sized;
      behind = behind-next form mode s at last d next key read named marked stepped i.flagged names i.behind;
    }

-- the draft of the tables that hold nothing
abbrev fresh : Plan → Draft
fresh p = record { tables = p; seen = replicate key_slots 0; ports = 0; flows = 0 }

pub returns-then-not-size_ok : goal.returns-then-not-size_ok
returns-then-not-size_ok c =
    let a = c.args in
    sym (form_unsized (form_of a.form) (mode_of a.strict) a.plan.now (sym c.size_ok.ensures ∙ c.if-not-size_ok.true))

pub loop-place-init : goal.loop-place-init
unfolding blank
loop-place-init c =
    let a = c.args in
    record {
      inside = omega arith;
      ports = omega arith;
      flows = omega arith;
      rest =
          ap (λ (p : Plan). read_from (form_of a.form) (mode_of c.strict_in-strictly.result) (length a.plan.now) a.plan.now 0 0 (fresh p))
          (sym c.requires);
      flagged = length-replicate {A = ℕ} key_slots 0;
      sized = length-replicate {A = ℕ} port_slots 0;
      filled = Filled-none _ key_slots refl (subst Sized (sym c.requires) sized_none)
          (λ q. ap (λ (p : Plan). get_or p.rates q 0) c.requires ∙ rate_column.empty q)
          (λ f. ap (λ (p : Plan). get_or p.periods f 0) c.requires ∙ period_column.empty f);
      behind = behind-none a.plan.now _ port_slots key_slots refl;
    }

pub step-requires : goal.step-requires
step-requires c =
    let i = c.loop-place.invariant in
    let most = within_high 1 max_bytes (length c.args.plan.now) (sym c.size_ok.ensures ∙ c.if-not-size_ok.false) in
    record { ports = omega (arith, i.inside, i.ports, most); flows = omega (arith, i.inside, i.flows, most); named = i.sized }

pub loop-place-smaller : goal.loop-place-smaller
loop-place-smaller c =
    let on = onward _ _ _ _ _ _ _ _ _ (sym c.in_ok-place.ensures.steps) in
    omega (arith, on.forward, on.inside)

pub loop-place-preserved : goal.loop-place-preserved
loop-place-preserved c =
    reached_next _ _ _ _ _ _ _ _ _ _ _ c.loop-place-test.true (sym c.in_ok-place.ensures.steps) c.in_ok-place.ensures.names c.loop-place.invariant

pub returns-in_err-place : goal.returns-in_err-place
returns-in_err-place c =
    let p = err_from_is_err_and c.from_residual.result c.from_residual.ensures.1 in
    rw (p.1, p.2)
    (sym
    (rest_read _ _ _ _ _ _ _ _ (sym c.size_ok.ensures ∙ c.if-not-size_ok.false) c.strict_in-strictly.ensures c.loop-place.invariant
    ∙ read_stop _ _ _ _ _ _ c.loop-place-test.true _ _ (sym c.in_err-place.ensures.steps)))

pub returns : goal.returns
returns c =
    let i = c.loop-place.invariant in
    let l = c.loop-place in
    let held = draft_of l.tables l.tally in
    sym
    (rest_read _ _ _ _ _ _ _ _ (sym c.size_ok.ensures ∙ c.if-not-size_ok.false) c.strict_in-strictly.ensures i
    ∙ read_end _ _ _ _ l.place.last held _ c.loop-place-test.false
    ∙ sym (c.close.ensures (behind_end c.args.plan.now l.tally.named held l.place.at c.loop-place-test.false i.filled i.behind)))
