-- A text that says a plan says a valid one, and one that fits its form.
use Prim.Native.Nat.{ℕ, suc, ◌-◌, ◌<◌}
use Rattle.std.specs.Prelude.{◌≡◌, refl, Bool, false, cond, ◌&&◌, ◌||◌, List, [], ◌∷◌, leb, length}
use Rattle.std.proofs.Common.{sym, subst, ◌∙◌}
use Rattle.std.proofs.Math.Path.{ap}
use Rattle.std.proofs.Math.Bool.{true, and-eq-true_iff, or-true}
use native.Mathlib.Omega.{arith}
use Rattle.std.proofs.Math.Decide.{ℕ_discrete}
use borrow.Author.Tests.{eq-eqb, eqb-true, le-leb}
use Rattle.std.proofs.Math.Dec.{eqb}
use Rattle.std.proofs.Math.ListN.{get_or}
use Rattle.cqf.specs.Bounded.{every, distinct}
use Rattle.cqf.specs.Form.{Form, older, newer, form_number, form_fits, most_hops_in}
use Rattle.cqf.specs.Limits.{port_slots, flow_slots, port_ok, flow_ok, extra_ok, jitter_ok, period_ok, count_ok, length_ok, hops_ok}
use Rattle.cqf.specs.Plan.{Plan, rate_of, extra_of, period_of, count_of, length_of, jitter_of, hops_of, route_of, present, port_in, valid_port, valid_flow, valid_plan}
use Rattle.cqf.proofs.laws.Bounded.{or_cases, all_to-every, any_to_some}
use Rattle.cqf.proofs.laws.Route.{port_in_there}
use Rattle.plan_reading.specs.Reading.{has_flow}
use Rattle.plan_reading.specs.laws.reading.Absent.{flow_there}
use Rattle.plan_reading.specs.laws.validity.Slots.{valid_extra, valid_in, valid_jitter, port_whole, flow_whole}
use Rattle.words.specs.Lines.{said_lines}
use Rattle.plan_text.specs.Line.{form_by}
use Rattle.plan_text.specs.Text.{Draft, Step, stop, more, blank, reads, rejected, step_at, read_lines, read_text, max_text}
use Rattle.plan_text.specs.laws.Closed.{none-missing, none_absent, Closed, rejected_reads, closes}
use Rattle.plan_text.specs.laws.Fitting.{step_goes}
use Rattle.plan_text.specs.laws.Valid.{any_rates, any_periods, ValidDraft, blank_valid, goes_valid}
use Rattle.plan_text.specs.declared.grammar.Item.{Item}
use Rattle.plan_text.specs.declared.grammar.Fault.{Fault}

-- ports with which any route is valid are in range
any_there : (r : List ℕ) → every (port_in any_rates) r ≡ true → every port_ok r ≡ true
unfolding every
any_there [] h = refl
any_there (n ∷ r) h =
    let t = (and-eq-true_iff (port_in any_rates n) (every (port_in any_rates) r)).0 h in
    rw ((and-eq-true_iff (port_ok n) _).0 t.0).0 (any_there r t.1)

-- the tests of a slot with the plan's own rates and periods
module _ (p : Plan) where
  own_flow : (f : ℕ) → valid_in any_rates p f ≡ true → (every port_ok (route_of p f) ≡ true → every (port_in p.rates) (route_of p f) ≡ true) → valid_in p.rates p f ≡ true
  unfolding valid_in
  own_flow f h there =
      or_cases (eqb (period_of p f) 0 && eqb (count_of p f) 0 && eqb (length_of p f) 0 && eqb (hops_of p f) 0) _ h (λ e. rw e) λ e.
      let t = (and-eq-true_iff (period_ok (period_of p f) && count_ok (count_of p f) && length_ok (length_of p f) && hops_ok (hops_of p f) && every (port_in any_rates) (route_of p f)) (distinct (route_of p f))).0 e in
      let u = (and-eq-true_iff (period_ok (period_of p f) && count_ok (count_of p f) && length_ok (length_of p f) && hops_ok (hops_of p f)) (every (port_in any_rates) (route_of p f))).0 t.0 in
      rw (u.0, there (any_there (route_of p f) u.1), t.1) (or-true (eqb (period_of p f) 0 && eqb (count_of p f) 0 && eqb (length_of p f) 0 && eqb (hops_of p f) 0))

  own-extra : (q : ℕ) → q < port_slots → valid_extra any_rates p q ≡ true → (rate_of p q ≡ 0 → extra_of p q ≡ 0) → valid_extra p.rates p q ≡ true
  unfolding valid_extra
  own-extra q l h bare = go (ℕ_discrete (extra_of p q) 0)
    where
      go : Dec (extra_of p q ≡ 0) → (eqb (extra_of p q) 0 || (extra_ok (extra_of p q) && port_in p.rates (suc q))) ≡ true
      go (yes none) = rw (eq-eqb (extra_of p q) 0 none)
      go (no some) =
          let slot : suc q - 1 ≡ q = omega arith in
          let there = port_in_there p.rates (suc q) (omega arith) (omega arith) (λ e. some (bare (ap (λ (i : ℕ). get_or p.rates i 0) (sym slot) ∙ e))) in
          let ok = or_cases (eqb (extra_of p q) 0) _ h (λ e. absurd (some (eqb-true (extra_of p q) 0 e))) (λ e. ((and-eq-true_iff (extra_ok (extra_of p q)) _).0 e).0) in
          rw (ok, there) (or-true (eqb (extra_of p q) 0))

  own-jitter : (f : ℕ) → f < flow_slots → valid_jitter any_periods p f ≡ true → (period_of p f ≡ 0 → jitter_of p f ≡ 0) → valid_jitter p.periods p f ≡ true
  unfolding valid_jitter
  own-jitter f l h steady = go (ℕ_discrete (jitter_of p f) 0)
    where
      go : Dec (jitter_of p f ≡ 0) → (eqb (jitter_of p f) 0 || (jitter_ok (jitter_of p f) && has_flow p.periods (suc f))) ≡ true
      go (yes none) = rw (eq-eqb (jitter_of p f) 0 none)
      go (no some) =
          let slot : suc f - 1 ≡ f = omega arith in
          let long : period_of p f ≡ 0 → ⊥ = λ e. some (steady e) in
          let number : flow_ok (suc f) ≡ true = rw (le-leb 1 (suc f) (omega arith), le-leb (suc f) flow_slots (omega arith)) in
          let there = flow_there p.periods (suc f) number (omega (arith, long, ap (λ (i : ℕ). get_or p.periods i 0) slot)) in
          let ok = or_cases (eqb (jitter_of p f) 0) _ h (λ e. absurd (some (eqb-true (jitter_of p f) 0 e))) (λ e. ((and-eq-true_iff (jitter_ok (jitter_of p f)) _).0 e).0) in
          rw (ok, there) (or-true (eqb (jitter_of p f) 0))

-- a valid draft that closes is a valid plan
draft_valid : (d : Draft) → ValidDraft d → Closed d → valid_plan d.tables ≡ true
unfolding valid_plan
draft_valid d v c =
    let p = d.tables in
    let there = none_absent flow_slots p.rates p.hops p.routes d.lines c.named in
    let some = v.some c.flowing in
    rw (
      v.top c.topped,
      v.tables.guard,
      v.tables.clock,
      all_to-every port_slots (valid_port p) (λ q l. port_whole p q (v.tables.ports q l) (own-extra p q l (v.tables.extras q l) (v.bare q l))),
      all_to-every flow_slots (valid_flow p) (λ f l.
          flow_whole p f (own_flow p f (v.tables.flows f l) (λ ok. none-missing p.rates (route_of p f) ok (there f l))) (own-jitter p f l (v.tables.jitters f l) (v.steady f l))),
      any_to_some flow_slots (present p) some.0 some.1 some.2,
    )

draft_fits : (form : Form) (d : Draft) → ValidDraft d → form_by d.newer ≡ form → form_fits (form_number form) d.tables.hops ≡ true
unfolding form_fits
draft_fits older d v is = all_to-every flow_slots _ (λ f l. le-leb (hops_of d.tables f) 16 (omega (arith, v.hops f l, ap most_hops_in is)))
draft_fits newer d v is = all_to-every flow_slots _ (λ f l. le-leb (hops_of d.tables f) 24 (omega (arith, v.hops f l, ap most_hops_in is)))

-- a plan that was read
pub record Said (form : Form) (p : Plan) : Type 0 where
  pub valid : valid_plan p ≡ true
  pub fits : form_fits (form_number form) p.hops ≡ true

lines_said : (ls : List (List ℕ)) (d : Draft) (n : ℕ) (form : Form) (p : Plan) → ValidDraft d → read_lines d n ls ≡ reads form p → Said form p
unfolding read_lines
lines_said [] d n form p v e =
    let c = closes d n form p e in
    subst (Said form) c.2 (record { valid = draft_valid d v c.0; fits = draft_fits form d v c.1 })
lines_said (l ∷ ls) d n form p v e = go (lines_said ls) (step_at n d l) refl e
  where
    go
        : ((d : Draft) (n : ℕ) (form : Form) (p : Plan) → ValidDraft d → read_lines d n ls ≡ reads form p → Said form p)
        → (s : Step)
        → step_at n d l ≡ s
        → elim s [ stop fault item value ↦ rejected n fault item value | more e ↦ read_lines e (suc n) ls ] ≡ reads form p
        → Said form p
    go ih (stop fault item value) s≡ h = rejected_reads h
    go ih (more x) s≡ h = ih x (suc n) form p (goes_valid n d x (step_goes n d l x s≡) v) h

pub text_said : (text : List ℕ) (form : Form) (p : Plan) → read_text text ≡ reads form p → Said form p
unfolding read_text
text_said text form p = go (leb (length text) max_text)
  where
    go : (b : Bool) → cond b (read_lines blank 1 (said_lines text)) (rejected 1 Fault.Size Item.First 0) ≡ reads form p → Said form p
    go true h = lines_said (said_lines text) blank 1 form p blank_valid h
    go false h = rejected_reads h
