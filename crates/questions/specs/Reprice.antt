-- What the question of another frame length answers and leaves in the lent list, for any held plan, any duration, flow number,
-- length and list. Tables that are not valid count as no plan held (refusal 20).
use Rattle.std.specs.Prelude.{ℕ, ◌-◌, ◌≡◌, List, [], ◌∷◌, cond, ◌&&◌, leb, ℤ, length}
use Rattle.cqf.specs.Limits.{port_slots, length_ok, flow_ok}
use Rattle.cqf.specs.Plan.{Plan, present, valid_plan}
use Rattle.cqf.specs.Reprice.{repriced}
use Rattle.answers.specs.Answer.{Answer, result, refusal}
use Rattle.answers.specs.Refusals.{short_scratch, bad_length, absent_flow}
use Rattle.questions.specs.Outcome.{asked}

-- of a valid plan, at a duration from 1 to its top: 11, then 17, then 29 for a flow n that is not in the plan
abbrev pub change_answer : Plan → (n bytes : ℕ) → (out : List ℤ) → Answer (Unit {0})
change_answer p n bytes out =
    cond (leb port_slots (length out))
    (cond (length_ok bytes)
    (cond (flow_ok n && present p (n - 1)) (result tt) (refusal absent_flow (0 ∷ [])))
    (refusal bad_length (0 ∷ [])))
    (refusal short_scratch (0 ∷ []))

-- 20, 10, then these
unfoldable pub reprice_answer : Plan → (T n bytes : ℕ) → (out : List ℤ) → Answer (Unit {0})
unfolding valid_plan
reprice_answer p T n bytes out = asked p T (change_answer p n bytes out)

-- a list as it becomes where the answer is a result; as it was where it is a refusal
abbrev pub written_over : (exit out : List ℤ) → Answer (Unit {0}) → List ℤ
written_over exit out (result done) = exit
written_over exit out (refusal number values) = out

unfoldable pub reprice_leaves : Plan → (T n bytes : ℕ) → (out : List ℤ) → List ℤ
unfolding reprice_answer repriced
reprice_leaves p T n bytes out = written_over (repriced p T (n - 1) bytes out) out (reprice_answer p T n bytes out)

-- the answer, and the list as it is left
abbrev pub Reprices : Plan → (T n bytes : ℕ) → (out : List ℤ) → Answer (Unit {0}) → (exit : List ℤ) → Type 0
Reprices p T n bytes out answer exit =
    (answer ≡ reprice_answer p T n bytes out) × (exit ≡ reprice_leaves p T n bytes out)
