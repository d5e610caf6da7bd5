-- The tables that a text leaves have their sizes and are tidy.
use Prim.Native.Nat.{ℕ, ◌+◌, ◌-◌, ◌*◌, ◌≤◌, ◌<◌}
use Rattle.std.specs.Prelude.{◌≡◌, refl, Bool, true, false, not, cond, ◌&&◌, List, eqb, length, get_or, set}
use Rattle.std.proofs.Common.{sym, ap, ◌∙◌, subst, inl, inr, eqb-true, ltb-false, get_or-set_other}
use Rattle.std.proofs.Math.Bool.{and-eq-true_iff}
use native.Mathlib.Omega.{arith}
use Rattle.std.proofs.Math.Decide.{ℕ_discrete, dec_lt}
use Rattle.std.proofs.lemmas.List.Edits.{sets}
use Rattle.std.proofs.Math.Seq.{get_or-set_same}
use Rattle.cqf.specs.Bounded.{every, distinct}
use Rattle.cqf.specs.Limits.{flow_slots, route_stride, max_hops, period_ok, count_ok, length_ok, hops_ok}
use Rattle.cqf.specs.Plan.{Plan, period_of, count_of, length_of, hops_of, route_of, port_in}
use Rattle.cqf.proofs.laws.Bounded.{or_cases}
use Rattle.plan_reading.specs.Store.{store, store_all}
use Rattle.plan_reading.specs.Tidy.{Tidy}
use Rattle.plan_reading.specs.laws.fields.Passes.{and_three}
use Rattle.plan_reading.specs.laws.fields.Within.{within_low}
use Rattle.plan_reading.specs.laws.stores.Stores.{Outside, sets_outside}
use Rattle.plan_reading.specs.laws.validity.Slots.{valid_in}
use Rattle.words.specs.Words.{words}
use Rattle.plan_text.specs.Kinds.{item_of}
use Rattle.plan_text.specs.Line.{Line, nothing, says, refused, form_by, line_of}
use Rattle.plan_text.specs.Text.{Draft, stop, more, own, is_again, added, stored, taken, step_by, step_at}
use Rattle.plan_text.specs.laws.Says.{most_hops}
use Rattle.plan_text.specs.laws.Steps.{more_inj, stop_more}
use Rattle.plan_text.specs.laws.Valid.{any_rates, ValidDraft}
use Rattle.plan_text.specs.declared.grammar.Item.{Item}
use Rattle.plan_text.specs.declared.grammar.Kind.{Kind}
use Rattle.plan_text.specs.declared.grammar.Fault.{Fault}

-- a slot without a flow has no hops
no_hops : (d : Draft) → ValidDraft d → (f : ℕ) → f < flow_slots → period_of d.tables f ≡ 0 → hops_of d.tables f ≡ 0
unfolding valid_in
no_hops d v f l none =
    or_cases (eqb (period_of p f) 0 && eqb (count_of p f) 0 && eqb (length_of p f) 0 && eqb (hops_of p f) 0) _ (v.tables.flows f l) empty held
  where
    p : Plan
    p = d.tables

    empty : (eqb (period_of p f) 0 && eqb (count_of p f) 0 && eqb (length_of p f) 0 && eqb (hops_of p f) 0) ≡ true → hops_of p f ≡ 0
    empty h = eqb-true (hops_of p f) 0 ((and-eq-true_iff (eqb (period_of p f) 0 && eqb (count_of p f) 0 && eqb (length_of p f) 0) (eqb (hops_of p f) 0)).0 h).1

    held
        : (period_ok (period_of p f) && count_ok (count_of p f) && length_ok (length_of p f) && hops_ok (hops_of p f) && every (port_in any_rates) (route_of p f) && distinct (route_of p f)) ≡ true
        → hops_of p f ≡ 0
    held h =
        let a = and_three _ (every (port_in any_rates) (route_of p f)) (distinct (route_of p f)) h in
        let b = and_three _ (length_ok (length_of p f)) (hops_ok (hops_of p f)) a.0 in
        let c = (and-eq-true_iff (period_ok (period_of p f)) (count_ok (count_of p f))).0 b.0 in
        absurd (omega (arith, within_low 1000 _ (period_of p f) c.0))

-- a line that is taken is new
pub data New (n : ℕ) (d e : Draft) : Type 0 where
  idle : d ≡ e → New n d e
  takes : (kind : Kind) (ns r : List ℕ) → is_again kind (own ns) d ≡ false → added kind n ns r d ≡ e → New n d e

pub step_new : (n : ℕ) (d : Draft) (l : List ℕ) (e : Draft) → step_at n d l ≡ more e → New n d e
unfolding step_at taken
step_new n d l e = go (line_of (form_by d.newer) d.begun (words l))
  where
    by_test
        : (kind : Kind) (ns r : List ℕ) (again twice : Bool)
        → is_again kind (own ns) d ≡ again
        → cond again (stop Fault.Again (item_of kind) (own ns)) (cond twice (stop Fault.Twice Item.Route 0) (more (added kind n ns r d))) ≡ more e
        → New n d e
    by_test kind ns r true twice is h = absurd (stop_more Fault.Again (item_of kind) (own ns) e h)
    by_test kind ns r false true is h = absurd (stop_more Fault.Twice Item.Route 0 e h)
    by_test kind ns r false false is h = takes kind ns r is (more_inj (added kind n ns r d) e h)

    go : (x : Line) → step_by n d x ≡ more e → New n d e
    go nothing h = idle (more_inj d e h)
    go (refused fault item value) h = absurd (stop_more fault item value e h)
    go (says kind ns r) h = by_test kind ns r (is_again kind (own ns) d) (not (distinct r)) refl h

-- a flow that is new keeps the tables tidy
module _ (n : ℕ) (ns r : List ℕ) (d : Draft) (before : ValidDraft d) (after : ValidDraft (added Kind.Flow n ns r d)) where
  -- its route is not too long, where it has a slot
  short : own ns - 1 < flow_slots → length r ≤ max_hops
  unfolding added stored store_all store
  short l =
      omega (
        arith,
        after.hops (own ns - 1) l,
        most_hops (form_by d.newer),
        get_or-set_same d.tables.hops (own ns - 1) (length r) 0 (omega (arith, before.tables.sized.hops)),
      )

  flow_tidy : is_again Kind.Flow (own ns) d ≡ false → Tidy d.tables → Tidy (added Kind.Flow n ns r d).tables
  unfolding added stored store_all store
  flow_tidy new tidy f i l past less = go (ℕ_discrete f slot)
    where
      slot : ℕ
      slot = own ns - 1

      hops : List ℕ
      hops = d.tables.hops

      routes : List ℕ
      routes = d.tables.routes

      kept : Outside (f * route_stride + i) (slot * route_stride) (length r) → hops_of d.tables f ≤ i → get_or (sets routes (slot * route_stride) r) (f * route_stride + i) 0 ≡ 0
      kept out few = sets_outside routes (slot * route_stride) r (f * route_stride + i) out ∙ tidy f i l few less

      apart : (f ≡ slot → ⊥) → Dec (slot < flow_slots) → Dec (f < slot) → Outside (f * route_stride + i) (slot * route_stride) (length r)
      apart other d (yes low) = inl (omega arith)
      apart other (yes inside) (no high) = inr (omega (arith, short inside))
      apart other (no outside) (no high) = absurd (omega arith)

      go : Dec (f ≡ slot) → get_or (sets routes (slot * route_stride) r) (f * route_stride + i) 0 ≡ 0
      go (yes same) =
          let here : get_or (set hops slot (length r)) f 0 ≡ length r = ap (λ (k : ℕ). get_or (set hops slot (length r)) k 0) same ∙ get_or-set_same hops slot (length r) 0 (omega (arith, before.tables.sized.hops)) in
          let free : period_of d.tables f ≡ 0 = ap (period_of d.tables) same ∙ omega (arith, ltb-false 0 (period_of d.tables slot) new) in
          kept (inr (omega (arith, here, past, same))) (omega (arith, no_hops d before f l free))
      go (no other) =
          let here : get_or (set hops slot (length r)) f 0 ≡ get_or hops f 0 = get_or-set_other hops slot f (length r) 0 other in
          kept (apart other (dec_lt slot flow_slots) (dec_lt f slot)) (omega (arith, here, past))

added_tidy : (kind : Kind) (n : ℕ) (ns r : List ℕ) (d : Draft) → ValidDraft d → ValidDraft (added kind n ns r d) → is_again kind (own ns) d ≡ false → Tidy d.tables → Tidy (added kind n ns r d).tables
unfolding added stored store_all store
added_tidy Kind.Guard n ns r d v w new tidy = tidy
added_tidy Kind.Top n ns r d v w new tidy = tidy
added_tidy Kind.Port n ns r d v w new tidy = tidy
added_tidy Kind.Flow n ns r d v w new tidy = flow_tidy n ns r d v w new tidy
added_tidy Kind.Clocks n ns r d v w new tidy = tidy
added_tidy Kind.Format n ns r d v w new tidy = tidy
added_tidy Kind.Other n ns r d v w new tidy = tidy

pub new_tidy : (n : ℕ) (d e : Draft) → New n d e → ValidDraft d → ValidDraft e → Tidy d.tables → Tidy e.tables
new_tidy n d e (idle same) v w tidy = subst (λ (x : Draft). Tidy x.tables) same tidy
new_tidy n d e (takes kind ns r new same) v w tidy =
    subst (λ (x : Draft). Tidy x.tables) same (added_tidy kind n ns r d v (subst ValidDraft (sym same) w) new tidy)
