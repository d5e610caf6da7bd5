-- The question of another frame length, case by case.
use Rattle.std.specs.Prelude.{◌≡◌, Bool, true, false, cond, ◌&&◌, List, [], ◌∷◌, ℕ, ◌-◌, ◌≤◌, ◌<◌, leb, ltb, ℤ, length}
use Rattle.std.proofs.Math.Path.{refl}
use Rattle.std.proofs.Common.{sym, ap, ◌∙◌, arith, le-leb, leb-true, lt-ltb}
use Rattle.std.proofs.Math.Bool.{and-false, and-eq-true_iff}
use Rattle.std.proofs.lemmas.Bool.{lt-leb}
use Rattle.cqf.specs.Bounded.{within}
use Rattle.cqf.specs.Limits.{port_slots, flow_slots, length_ok, flow_ok}
use Rattle.cqf.specs.Plan.{Plan, period_of, present, valid_plan}
use Rattle.cqf.specs.Reprice.{repriced}
use Rattle.plan_reading.specs.laws.fields.Within.{slot_below}
use Rattle.answers.specs.Answer.{Answer, result, refusal}
use Rattle.answers.specs.Refusals.{bad_duration, short_scratch, bad_length, no_plan_held, absent_flow}
use Rattle.questions.specs.Outcome.{asked}
use Rattle.questions.specs.Reprice.{change_answer, reprice_answer, written_over, reprice_leaves, Reprices}

-- what a result says of the test before it
pub granted
    : {A : Type 0} (b : Bool) (x : Answer A) (k : ℕ) (v : List ℕ) (r : A)
    → cond b x (refusal k v) ≡ result r
    → (b ≡ true) × (x ≡ result r)
granted true x k v r e = (refl, e)
granted false x k v r e = let z : ◌≡◌ {A = ℕ} 0 1 = cc in absurd (omega arith)

none : (a b c : Bool) → a && c ≡ false → a && (b && c) ≡ false
none true b c e = rw e (and-false b)
none false b c e = refl

-- the question was answered by a result: none of the refusals applies
pub record Granted (p : Plan) (T n bytes : ℕ) (out : List ℤ) : Type 0 where
  pub valid : valid_plan p ≡ true
  pub ranged : within 1 p.top T ≡ true
  pub long : port_slots ≤ length out
  pub length_ok_lem : length_ok bytes ≡ true
  pub number : flow_ok n ≡ true
  pub there : present p (n - 1) ≡ true

module _ (p : Plan) (T n bytes : ℕ) (out : List ℤ) where
  reprice_is : reprice_answer p T n bytes out ≡ asked p T (change_answer p n bytes out)
  unfolding reprice_answer
  reprice_is = refl

  leaves_is : reprice_leaves p T n bytes out ≡ written_over (repriced p T (n - 1) bytes out) out (reprice_answer p T n bytes out)
  unfolding reprice_leaves
  leaves_is = refl

  -- a refusal leaves the list as it was, and a result writes it
  kept : {number : ℕ} {values : List ℕ} → reprice_answer p T n bytes out ≡ refusal number values → Reprices p T n bytes out (refusal number values) out
  kept e = (sym e, sym (leaves_is ∙ ap (written_over (repriced p T (n - 1) bytes out) out) e))

  written
      : {exit : List ℤ}
      → reprice_answer p T n bytes out ≡ result tt
      → exit ≡ repriced p T (n - 1) bytes out
      → Reprices p T n bytes out (result tt) exit
  written e is = (sym e, is ∙ sym (leaves_is ∙ ap (written_over (repriced p T (n - 1) bytes out) out) e))

  pub reprice_none : valid_plan p ≡ false → Reprices p T n bytes out (refusal no_plan_held (0 ∷ [])) out
  reprice_none e = kept (reprice_is ∙ rw e)

  pub reprice_out : valid_plan p ≡ true → within 1 p.top T ≡ false → Reprices p T n bytes out (refusal bad_duration (0 ∷ [])) out
  reprice_out e r = kept (reprice_is ∙ rw (e, r))

  -- a flow in the plan, from its number and its period
  pub reprice_number : flow_ok n && ltb 0 (period_of p (n - 1)) ≡ true → flow_ok n ≡ true
  reprice_number e = ((and-eq-true_iff (flow_ok n) (ltb 0 (period_of p (n - 1)))).0 e).0

  pub reprice_there : flow_ok n && ltb 0 (period_of p (n - 1)) ≡ true → present p (n - 1) ≡ true
  reprice_there e =
      let t = (and-eq-true_iff (flow_ok n) (ltb 0 (period_of p (n - 1)))).0 e in
      rw (lt-ltb (n - 1) flow_slots (slot_below flow_slots n t.0), t.1)

  module _ (valid : valid_plan p ≡ true) (ranged : within 1 p.top T ≡ true) where
    reprice_within : reprice_answer p T n bytes out ≡ change_answer p n bytes out
    reprice_within = reprice_is ∙ rw (valid, ranged)

    pub reprice_short : length out < port_slots → Reprices p T n bytes out (refusal short_scratch (0 ∷ [])) out
    reprice_short l = kept (reprice_within ∙ rw (lt-leb port_slots (length out) l))

    module _ (long : port_slots ≤ length out) where
      pub reprice_length : length_ok bytes ≡ false → Reprices p T n bytes out (refusal bad_length (0 ∷ [])) out
      reprice_length e = kept (reprice_within ∙ rw (le-leb port_slots (length out) long, e))

      module _ (ok : length_ok bytes ≡ true) where
        reprice_flow : {b : Bool} → flow_ok n && present p (n - 1) ≡ b → reprice_answer p T n bytes out ≡ cond b (result tt) (refusal absent_flow (0 ∷ []))
        reprice_flow e = reprice_within ∙ rw (le-leb port_slots (length out) long, ok, e)

        pub reprice_unknown : flow_ok n && ltb 0 (period_of p (n - 1)) ≡ false → Reprices p T n bytes out (refusal absent_flow (0 ∷ [])) out
        reprice_unknown e = kept (reprice_flow (none (flow_ok n) (ltb (n - 1) flow_slots) (ltb 0 (period_of p (n - 1))) e))

        pub reprice_done
            : {exit : List ℤ}
            → flow_ok n && ltb 0 (period_of p (n - 1)) ≡ true
            → exit ≡ repriced p T (n - 1) bytes out
            → Reprices p T n bytes out (result tt) exit
        reprice_done e is = written (reprice_flow ((and-eq-true_iff (flow_ok n) (present p (n - 1))).1 (reprice_number e, reprice_there e))) is

  -- and the other way round
  pub reprice_granted : reprice_answer p T n bytes out ≡ result tt → Granted p T n bytes out
  reprice_granted e =
      let a = granted (valid_plan p) _ no_plan_held (0 ∷ []) tt (sym reprice_is ∙ e) in
      let b = granted (within 1 p.top T) (change_answer p n bytes out) bad_duration (0 ∷ []) tt a.1 in
      let c = granted (leb port_slots (length out)) _ short_scratch (0 ∷ []) tt b.1 in
      let d = granted (length_ok bytes) _ bad_length (0 ∷ []) tt c.1 in
      let f = granted (flow_ok n && present p (n - 1)) (result tt) absent_flow (0 ∷ []) tt d.1 in
      let g = (and-eq-true_iff (flow_ok n) (present p (n - 1))).0 f.0 in
      record { valid = a.0; ranged = b.0; long = leb-true _ _ c.0; length_ok_lem = d.0; number = g.0; there = g.1 }

  pub granted_leaves : reprice_answer p T n bytes out ≡ result tt → reprice_leaves p T n bytes out ≡ repriced p T (n - 1) bytes out
  granted_leaves e = leaves_is ∙ ap (written_over (repriced p T (n - 1) bytes out) out) e
