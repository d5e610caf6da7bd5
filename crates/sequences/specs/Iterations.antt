-- What the answers of the fixed-point iteration say of a plan: with steps enough the least admissible duration from the start on, or
-- that there is none up to top; with fewer how far it came; and that it can be continued from there.
use Rattle.std.specs.Prelude.{◌≡◌, ◌↔◌, List, [], ◌∷◌, false, ℕ, ◌+◌, ◌≤◌, ◌<◌, length, get_or}
use Rattle.cqf.specs.Limits.{port_slots}
use Rattle.cqf.specs.Plan.{Plan}
use Rattle.cqf.specs.Condition.{admissible, failing, lowest_failing}
use Rattle.cqf.specs.FixedPoint.{visited, steps_from, most_steps, LeastAdmissible}
use Rattle.answers.specs.Answer.{Answer, result, refusal}
use Rattle.answers.specs.Refusals.{no_least, not_finished}
use Rattle.questions.specs.Outcome.{least_answer}
use Rattle.questions.specs.FixedPoint.{FixedPoint, fixed_point_answer}

-- what a refusal carries, with so many more steps: they stand last
unfoldable pub last_plus : ℕ → List ℕ → List ℕ
last_plus k [] = []
last_plus k (n ∷ []) = (k + n) ∷ []
last_plus k (n ∷ m ∷ ns) = n ∷ last_plus k (m ∷ ns)

-- an answer with so many steps more than its own
abbrev pub plus_steps : ℕ → Answer FixedPoint → Answer FixedPoint
plus_steps k (result r) = result (record { duration = r.duration; steps = k + r.steps })
plus_steps k (refusal number values) = refusal number (last_plus k values)

-- an answer without its steps
unfoldable pub but_last : List ℕ → List ℕ
but_last [] = []
but_last (n ∷ []) = []
but_last (n ∷ m ∷ ns) = n ∷ but_last (m ∷ ns)

abbrev pub without_steps : Answer FixedPoint → Answer ℕ
without_steps (result r) = result r.duration
without_steps (refusal number values) = refusal number (but_last values)

-- Of the iteration from t, a duration from 1 to top. The steps used are its own length, which the bound of document 02 is not below.
pub record Iterations (tables p : Plan) (t : ℕ) : Type 0 where
  pub finds
      : (n u : ℕ)
      → steps_from p t ≤ n
      → (fixed_point_answer tables t n ≡ result (record { duration = u; steps = steps_from p t })) ↔ LeastAdmissible p t u
  pub none_up_to_top
      : (n : ℕ)
      → steps_from p t ≤ n
      → (fixed_point_answer tables t n ≡ refusal no_least (lowest_failing p p.top ∷ failing p p.top ∷ steps_from p t ∷ []))
      ↔ ((u : ℕ) → t ≤ u → u ≤ p.top → admissible p u ≡ false)
  pub stops : (n : ℕ) → n < steps_from p t → fixed_point_answer tables t n ≡ refusal not_finished (get_or (visited p t) n 0 ∷ n ∷ [])
  pub bounded : steps_from p t ≤ most_steps p
  -- stopped at u after k steps and continued from there, it gives what a single one gives, for every split
  pub resumes
      : (k n u : ℕ)
      → fixed_point_answer tables t k ≡ refusal not_finished (u ∷ k ∷ [])
      → fixed_point_answer tables t (k + n) ≡ plus_steps k (fixed_point_answer tables u n)

-- from 1 ns on and with steps enough it answers as `least`, steps apart
abbrev pub AgreesWithLeast : (tables p : Plan) → Type 0
AgreesWithLeast tables p =
    (n : ℕ) (scratch : List ℕ)
    → steps_from p 1 ≤ n
    → port_slots ≤ length scratch
    → without_steps (fixed_point_answer tables 1 n) ≡ least_answer tables scratch
