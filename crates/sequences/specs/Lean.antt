-- What the searches over a scratch of one number have to do with the first pair, for any tables: valid, invalid or none.
use Rattle.std.specs.Prelude.{◌≡◌, true, List, [], ◌∷◌, ℕ, ◌-◌, ◌≤◌, length, get_or}
use Rattle.cqf.specs.Limits.{port_slots}
use Rattle.cqf.specs.Plan.{Plan, valid_plan}
use Rattle.cqf.specs.PortSteps.{highest_crossed}
use Rattle.answers.specs.Answer.{Answer, refusal}
use Rattle.answers.specs.Refusals.{short_scratch}
use Rattle.questions.specs.Outcome.{least_answer, least_leaves, margin_safe_answer, margin_safe_leaves}
use Rattle.questions.specs.Lean.{lean_least_answer, lean_least_leaves, lean_margin_safe_answer, lean_margin_safe_leaves}

-- One search over one number (its answer, and what it leaves) beside the same search over 64.
pub record SameSearch (p : Plan) (leanAnswer answer : List ℕ → Answer ℕ) (leanLeaves leaves : List ℕ → List ℕ) : Type 0 where
  -- the answers are the same, refusals and what they carry included
  pub answers : (one many : List ℕ) → 1 ≤ length one → port_slots ≤ length many → leanAnswer one ≡ answer many
  -- 11 means an empty scratch
  pub empty : valid_plan p ≡ true → leanAnswer [] ≡ refusal short_scratch (0 ∷ [])
  -- the number left is the one of the highest-numbered crossed port among the 64, and the others remain
  pub left
      : (n : ℕ) (rest many : List ℕ)
      → valid_plan p ≡ true
      → port_slots ≤ length many
      → leanLeaves (n ∷ rest) ≡ get_or (leaves many) (highest_crossed p - 1) 0 ∷ rest

-- both searches
pub record LeanSearches (p : Plan) : Type 0 where
  pub least : SameSearch p (lean_least_answer p) (least_answer p) (lean_least_leaves p) (least_leaves p)
  pub margin_safe : SameSearch p (lean_margin_safe_answer p) (margin_safe_answer p) (lean_margin_safe_leaves p) (margin_safe_leaves p)
