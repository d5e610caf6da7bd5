-- What each question answers and leaves, for any held plan and any input. Tables that are not valid
-- count as no plan held (refusal 20): no sequence of calls from the empty planner leaves such, but for the empty one itself.
use Rattle.std.specs.Prelude.{ℕ, ◌-◌, List, [], ◌∷◌, ◌++◌, cond, ◌&&◌, leb, ℤ, length, drop}
use Rattle.cqf.specs.Bounded.{within, tabulate}
use Rattle.cqf.specs.Limits.{port_slots, port_ok}
use Rattle.cqf.specs.Plan.{Plan, valid_plan}
use Rattle.cqf.specs.Condition.{demand, slack, crossed, admissible, failing, lowest_failing, least, margin_safe}
use Rattle.answers.specs.Answer.{Answer, result, refusal}
use Rattle.answers.specs.Refusals.{bad_duration, short_scratch, no_plan_held, not_admissible, no_least, no_margin_safe, not_crossed}

-- 20, then 10, then what the question says
abbrev pub asked : {A : Type 0} → Plan → ℕ → Answer A → Answer A
asked p T answer =
    cond (valid_plan p)
    (cond (within 1 p.top T) answer (refusal bad_duration (0 ∷ [])))
    (refusal no_plan_held (0 ∷ []))

-- a refusal that names the failing ports at T: the lowest, and how many
abbrev pub failing_at : {A : Type 0} → ℕ → Plan → ℕ → Answer A
failing_at number p T = refusal number (lowest_failing p T ∷ failing p T ∷ [])

-- the plain question
unfoldable pub check_answer : Plan → ℕ → Answer (Unit {0})
unfolding admissible failing lowest_failing valid_plan
check_answer p T = asked p T (cond (admissible p T) (result tt) (failing_at not_admissible p T))

-- the spare of port n
unfoldable pub slack_answer : Plan → ℕ → ℕ → Answer ℤ
unfolding crossed slack valid_plan
slack_answer p n T =
    asked p T (cond (port_ok n && crossed p (n - 1)) (result (slack p (n - 1) T)) (refusal not_crossed (0 ∷ [])))

-- a search of a valid plan for a duration from 1 to top: what it answers, by the refusal of this number where there is none, and
-- each port's demand at the duration found, or at top
abbrev pub found_answer : ℕ → Plan → ℕ → Answer ℕ
found_answer number p found = cond (leb found p.top) (result found) (failing_at number p p.top)

abbrev pub found_demands : Plan → ℕ → List ℕ
found_demands p found = tabulate port_slots (λ q. demand p q (cond (leb found p.top) found p.top))

-- 20, then 11, then what the search says
abbrev pub searched : ℕ → Plan → ℕ → List ℕ → Answer ℕ
searched number p found scratch =
    cond (valid_plan p)
    (cond (leb port_slots (length scratch)) (found_answer number p found) (refusal short_scratch (0 ∷ [])))
    (refusal no_plan_held (0 ∷ []))

-- what it leaves in the scratch: the demands in its first numbers, and the rest as it was
abbrev pub search_leaves : Plan → ℕ → List ℕ → List ℕ
search_leaves p found scratch =
    cond (valid_plan p && leb port_slots (length scratch))
    (found_demands p found ++ drop port_slots scratch)
    scratch

unfoldable pub least_answer : Plan → List ℕ → Answer ℕ
unfolding least failing lowest_failing valid_plan
least_answer p scratch = searched no_least p (least p) scratch

unfoldable pub least_leaves : Plan → List ℕ → List ℕ
unfolding least demand valid_plan tabulate
least_leaves p scratch = search_leaves p (least p) scratch

unfoldable pub margin_safe_answer : Plan → List ℕ → Answer ℕ
unfolding margin_safe failing lowest_failing valid_plan
margin_safe_answer p scratch = searched no_margin_safe p (margin_safe p) scratch

unfoldable pub margin_safe_leaves : Plan → List ℕ → List ℕ
unfolding margin_safe demand valid_plan tabulate
margin_safe_leaves p scratch = search_leaves p (margin_safe p) scratch
