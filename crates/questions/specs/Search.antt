-- A search, whatever it looks for: what it finds, and what it answers and leaves.
use Rattle.std.specs.Prelude.{◌≡◌, List, ℕ, ◌≤◌}
use Rattle.cqf.specs.Bounded.{tabulate}
use Rattle.cqf.specs.Limits.{port_slots}
use Rattle.cqf.specs.Plan.{Plan}
use Rattle.cqf.specs.Condition.{demand, least, margin_safe}
use Rattle.answers.specs.Answer.{Answer}
use Rattle.answers.specs.Refusals.{no_least, no_margin_safe}
use Rattle.questions.specs.Outcome.{found_answer, found_demands, searched, search_leaves}
use Rattle.questions.specs.declared.seek.Goal.{Goal}

-- the duration that it looks for, and the refusal where there is none up to top
abbrev pub wanted : Goal → Plan → ℕ
wanted Goal.Least = least
wanted Goal.MarginSafe = margin_safe

abbrev pub none_number : Goal → ℕ
none_number Goal.Least = no_least
none_number Goal.MarginSafe = no_margin_safe

-- the duration sought was found, and where it is up to top, out has the demands at it
pub record Found (sought : Plan → ℕ) (p : Plan) (found : ℕ) (out : List ℕ) : Type 0 where
  pub is : found ≡ sought p
  pub demands : found ≤ p.top → out ≡ tabulate port_slots (λ q. demand p q found)

-- the answer of a search of a valid plan, and the 64 numbers as it leaves them
abbrev pub Answers : (number : ℕ) (sought : Plan → ℕ) (p : Plan) → Answer ℕ → List ℕ → Type 0
Answers number sought p answer out = (answer ≡ found_answer number p (sought p)) × (out ≡ found_demands p (sought p))

-- the answer of a search, and the scratch as it leaves it
abbrev pub SearchEnds : (number : ℕ) (sought : Plan → ℕ) (p : Plan) (scratch : List ℕ) → Answer ℕ → List ℕ → Type 0
SearchEnds number sought p scratch answer exit =
    (answer ≡ searched number p (sought p) scratch) × (exit ≡ search_leaves p (sought p) scratch)
