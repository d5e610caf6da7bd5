-- The two searches over a scratch of one number (document 02): what each answers and leaves, for any held plan and any scratch.
use Rattle.std.specs.Prelude.{◌≡◌, cond, ◌&&◌, List, [], ◌∷◌, ℕ, ◌-◌, leb, length, drop}
use Rattle.cqf.specs.Plan.{Plan, valid_plan}
use Rattle.cqf.specs.Condition.{demand, failing, lowest_failing, least, margin_safe}
use Rattle.cqf.specs.PortSteps.{highest_crossed}
use Rattle.answers.specs.Answer.{Answer, refusal}
use Rattle.answers.specs.Refusals.{short_scratch, no_plan_held, no_least, no_margin_safe}
use Rattle.questions.specs.Outcome.{found_answer}

-- 20, then 11 for an empty scratch, then what the search says
abbrev pub lean_searched : ℕ → Plan → ℕ → List ℕ → Answer ℕ
lean_searched number p found scratch =
    cond (valid_plan p)
    (cond (leb 1 (length scratch)) (found_answer number p found) (refusal short_scratch (0 ∷ [])))
    (refusal no_plan_held (0 ∷ []))

-- the demand of the highest-numbered crossed port at the duration found, or at top
abbrev pub found_demand : Plan → ℕ → ℕ
found_demand p found = demand p (highest_crossed p - 1) (cond (leb found p.top) found p.top)

-- what it leaves in the scratch: that demand in its first number, and the rest as it was
abbrev pub lean_search_leaves : Plan → ℕ → List ℕ → List ℕ
lean_search_leaves p found scratch =
    cond (valid_plan p && leb 1 (length scratch)) (found_demand p found ∷ drop 1 scratch) scratch

unfoldable pub lean_least_answer : Plan → List ℕ → Answer ℕ
unfolding least failing lowest_failing valid_plan
lean_least_answer p scratch = lean_searched no_least p (least p) scratch

unfoldable pub lean_least_leaves : Plan → List ℕ → List ℕ
unfolding least demand valid_plan highest_crossed
lean_least_leaves p scratch = lean_search_leaves p (least p) scratch

unfoldable pub lean_margin_safe_answer : Plan → List ℕ → Answer ℕ
unfolding margin_safe failing lowest_failing valid_plan
lean_margin_safe_answer p scratch = lean_searched no_margin_safe p (margin_safe p) scratch

unfoldable pub lean_margin_safe_leaves : Plan → List ℕ → List ℕ
unfolding margin_safe demand valid_plan highest_crossed
lean_margin_safe_leaves p scratch = lean_search_leaves p (margin_safe p) scratch

-- the answer of a search of a valid plan, and the number that it leaves
abbrev pub LeanAnswers : (number : ℕ) (sought : Plan → ℕ) (p : Plan) → Answer ℕ → ℕ → Type 0
LeanAnswers number sought p answer bits = (answer ≡ found_answer number p (sought p)) × (bits ≡ found_demand p (sought p))

-- the answer of a search, and the scratch as it leaves it
abbrev pub LeanEnds : (number : ℕ) (sought : Plan → ℕ) (p : Plan) (scratch : List ℕ) → Answer ℕ → List ℕ → Type 0
LeanEnds number sought p scratch answer exit =
    (answer ≡ lean_searched number p (sought p) scratch) × (exit ≡ lean_search_leaves p (sought p) scratch)
