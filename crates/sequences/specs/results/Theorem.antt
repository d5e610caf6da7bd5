-- The theorems over sequences of calls. The answer of the plain question to a duration of the held plan means what it says
-- of every emission and its whole run. And the order of a plan's fields changes no answer.
use Rattle.std.specs.Prelude.{◌≡◌, refl, List, Bool, true, false, cond, ℕ, ◌*◌, ◌≤◌, ◌<◌}
use Rattle.std.proofs.Common.{sym, ap, ◌∙◌, true≢false, arith, le-leb}
use Rattle.std.proofs.Math.Option.{some}
use Rattle.cqf.specs.Bounded.{within}
use Rattle.cqf.specs.Form.{form_number}
use Rattle.cqf.specs.Plan.{Plan, valid_plan}
use Rattle.cqf.specs.Condition.{admissible, failing, lowest_failing}
use Rattle.cqf.specs.LargeEnough.{LargeEnough}
use Rattle.cqf.proofs.results.Theorem.{large_enough}
use Rattle.cqf.proofs.laws.Longer.{longer}
use Rattle.plan_reading.specs.FieldOrder.{SameFields}
use Rattle.plan_reading.specs.Reading.{accepted, loose, read_plan}
use Rattle.plan_reading.specs.Strict.{Accepts}
use Rattle.plan_reading.specs.results.FormTheorem.{same_told}
use Rattle.plan_reading.specs.laws.order.Order.{field_order}
use Rattle.plan_reading.specs.results.StrictTheorem.{read_loosely}
use Rattle.plan_reading.specs.laws.validity.Valid.{accepted_valid}
use Rattle.answers.specs.Answer.{Answer, result}
use Rattle.answers.specs.Refusals.{not_admissible}
use Rattle.questions.specs.Outcome.{failing_at, check_answer}
use Rattle.sequences.specs.Meaning.{Refuses, Means, CheckMeans}
use Rattle.sequences.specs.Reply.{SameAnswers, reply}
use Rattle.sequences.specs.Calls.{Call, after, form_after, held_bytes}
use Rattle.questions.specs.laws.Answers.{verdict, check_within, check_accepts}
use Rattle.sequences.specs.laws.Calls.{after_held, after-loaded, form_held}

-- the verdict of the plain question means what the theorem says
plain_means : (p : Plan) (T : ℕ) → LargeEnough p T → Means p T (Refuses (verdict p T)) (verdict p T ≡ result tt)
plain_means p T h = go (admissible p T) refl
  where
    Says : Answer (Unit {0}) → Type 0
    Says answer = Means p T (Refuses answer) (answer ≡ result tt)

    go : (b : Bool) → admissible p T ≡ b → Says (cond b (result tt) (failing_at not_admissible p T))
    go true e =
        record {
          refused = (
            λ r. let z : ◌≡◌ {A = ℕ} 0 1 = cc r.is in absurd (omega arith),
            λ c. absurd (true≢false (sym e ∙ h.refused.1 c)),
          );
          refused_in_order = λ r. let z : ◌≡◌ {A = ℕ} 0 1 = cc r.is in absurd (omega arith);
          accepted = (λ r c. true≢false (sym e ∙ h.refused.1 c), λ none. refl);
          on_time = λ r. h.accepted e;
        }
    go false e =
        record {
          refused = (
            λ r. h.refused.0 e,
            λ c. record { lowest = lowest_failing p T; count = failing p T; is = refl },
          );
          refused_in_order = λ r. h.refused_in_order e;
          accepted = (
            λ r. let z : ◌≡◌ {A = ℕ} 0 1 = cc in absurd (omega arith),
            λ none. absurd (none (h.refused.0 e)),
          );
          on_time = λ r. let z : ◌≡◌ {A = ℕ} 0 1 = cc in absurd (omega arith);
        }

-- the large-enough-cycle theorem for every plan that the rules accept
pub accepted_large_enough
    : (s : List ℕ) (p : Plan) (ports flows : ℕ)
    → read_plan s ≡ accepted p ports flows
    → (T : ℕ)
    → 1 ≤ T
    → T ≤ p.top
    → LargeEnough p T
accepted_large_enough s p ports flows reads T low high = large_enough p (accepted_valid s p ports flows reads) T low

-- a duration that is accepted for such a plan is longer than two guard bands
pub accepted_longer
    : (s : List ℕ) (p : Plan) (ports flows : ℕ)
    → read_plan s ≡ accepted p ports flows
    → (T : ℕ)
    → 1 ≤ T
    → T ≤ p.top
    → check_answer p T ≡ result tt
    → 2 * p.guard < T
accepted_longer s p ports flows reads T low high answer =
    let valid : valid_plan p ≡ true = accepted_valid s p ports flows reads in
    longer p valid T low (check_accepts p T valid answer).1

-- of the plain question's own answer (document 01: demand 3)
pub check_means : (tables : Plan) (T : ℕ) → CheckMeans tables T (check_answer tables T)
check_means tables T calls mode bytes p ports flows left held reads low high =
    let loosely = read_loosely mode bytes p ports flows reads in
    let valid : valid_plan p ≡ true = accepted_valid bytes p ports flows loosely in
    let same : tables ≡ p = left ∙ after_held calls mode bytes held p ports flows reads in
    let ranged : within 1 p.top T ≡ true = rw (le-leb 1 T low, le-leb T p.top high) in
    rw (same, check_within p T valid ranged) (plain_means p T (accepted_large_enough bytes p ports flows loosely T low high))

-- two sequences of calls whose last accepted plans have the same fields, in any order, leave planners that answer alike
pub order_free
    : (calls others : List Call) (s t : List ℕ)
    → held_bytes calls ≡ some s
    → held_bytes others ≡ some t
    → SameFields s t
    → SameAnswers (form_after calls) (after calls) (form_after others) (after others)
unfolding read_plan
order_free calls others s t held kept fields =
    let a = after-loaded calls s held in
    let b = after-loaded others t kept in
    let same = (field_order s t fields (after calls) (after others) a.ports a.flows b.ports b.flows a.reads b.reads).0 in
    let first : Accepts loose s = record { plan = after calls; ports = a.ports; flows = a.flows; reads = a.reads } in
    let second : Accepts loose t = record { plan = after others; ports = b.ports; flows = b.flows; reads = b.reads } in
    let form : form_after calls ≡ form_after others =
    form_held calls s held ∙ ap form_number (same_told loose loose s t first second fields) ∙ sym (form_held others t kept) in
    λ x. (λ i. reply (form i) (same i) x)
