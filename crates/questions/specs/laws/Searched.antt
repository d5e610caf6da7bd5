-- The outcome of a search, case by case.
use Rattle.std.specs.Prelude.{◌≡◌, refl, Bool, true, false, cond, List, [], ◌∷◌, ◌++◌, ℕ, ◌≤◌, ◌<◌, leb, length, drop}
use Rattle.std.proofs.Common.{ap, ◌∙◌, arith, le-leb, leb-true}
use Rattle.std.proofs.lemmas.Bool.{lt-leb}
use Rattle.cqf.specs.Limits.{port_slots}
use Rattle.cqf.specs.Plan.{Plan, valid_plan}
use Rattle.cqf.specs.Condition.{least, margin_safe}
use Rattle.answers.specs.Answer.{Answer, result, refusal}
use Rattle.answers.specs.Refusals.{short_scratch, no_plan_held, no_least, no_margin_safe}
use Rattle.questions.specs.Outcome.{failing_at, found_answer, searched, least_answer, least_leaves, margin_safe_answer, margin_safe_leaves}
use Rattle.questions.specs.Failing.{FailingAt}
use Rattle.questions.specs.Search.{Found, Answers, SearchEnds}

module _ (number : ℕ) (sought : Plan → ℕ) (p : Plan) where
  module _ {found : ℕ} {out : List ℕ} (s : Found sought p found out) where
    -- the duration that it looks for is up to top
    pub answers_within : found ≤ p.top → Answers number sought p (result found) out
    answers_within within =
        let most : sought p ≤ p.top = rw s.is at within in
        (rw (le-leb _ _ most, s.is), rw (le-leb _ _ most, s.demands within, s.is))

    -- it is above top, so there is none: the ports that fail at top
    pub answers_above
        : {port count : ℕ} {last : List ℕ}
        → p.top < found
        → FailingAt p p.top port count last
        → Answers number sought p (refusal number (port ∷ count ∷ [])) last
    answers_above above f =
        let more : p.top < sought p = rw s.is at above in
        (rw (lt-leb _ _ more, f.lowest, f.many), rw (lt-leb _ _ more, f.demands))

  module _ (scratch : List ℕ) where
    pub ends_no_plan : valid_plan p ≡ false → SearchEnds number sought p scratch (refusal no_plan_held (0 ∷ [])) scratch
    ends_no_plan e = (rw e, rw e)

    module _ (valid : valid_plan p ≡ true) where
      pub ends_short : length scratch < port_slots → SearchEnds number sought p scratch (refusal short_scratch (0 ∷ [])) scratch
      ends_short l = (rw (valid, lt-leb _ _ l), rw (valid, lt-leb _ _ l))

      -- the demands replace the first numbers, and those past them are kept
      pub ends_found
          : port_slots ≤ length scratch
          → {answer : Answer ℕ} {out : List ℕ}
          → Answers number sought p answer out
          → SearchEnds number sought p scratch answer (out ++ drop port_slots scratch)
      ends_found l h = (rw (valid, le-leb _ _ l) h.0, rw (valid, le-leb _ _ l, h.1))

-- the answer of a search that gives a duration: it is the one sought, up to top; and it is given where it is up to top
module _ (number : ℕ) (p : Plan) (found : ℕ) (scratch : List ℕ) where
  pub searched-found : (T : ℕ) → searched number p found scratch ≡ result T → (found ≡ T) × (found ≤ p.top)
  searched-found T = go (valid_plan p) (leb port_slots (length scratch)) (leb found p.top) refl
    where
      go
          : (x y z : Bool)
          → leb found p.top ≡ z
          → cond x (cond y (cond z (result found) (failing_at number p p.top)) (refusal short_scratch (0 ∷ []))) (refusal no_plan_held (0 ∷ [])) ≡ result T
          → (found ≡ T) × (found ≤ p.top)
      go true true true l e = (cc, leb-true _ _ l)
      go true true false l e = let z : ◌≡◌ {A = ℕ} 0 1 = cc in absurd (omega arith)
      go true false z l e = let z : ◌≡◌ {A = ℕ} 0 1 = cc in absurd (omega arith)
      go false y z l e = let z : ◌≡◌ {A = ℕ} 0 1 = cc in absurd (omega arith)

  searched_ends : valid_plan p ≡ true → port_slots ≤ length scratch → searched number p found scratch ≡ found_answer number p found
  searched_ends valid long = rw (valid, le-leb _ _ long)

  pub searched_gives : valid_plan p ≡ true → port_slots ≤ length scratch → found ≤ p.top → searched number p found scratch ≡ result found
  searched_gives valid long most = rw (valid, le-leb _ _ long, le-leb _ _ most)

pub least-searched
    : (p : Plan) (scratch : List ℕ)
    → valid_plan p ≡ true
    → port_slots ≤ length scratch
    → least_answer p scratch ≡ found_answer no_least p (least p)
unfolding least_answer
least-searched p scratch valid long = searched_ends no_least p (least p) scratch valid long

pub least_gives
    : (p : Plan) (scratch : List ℕ) {T : ℕ}
    → valid_plan p ≡ true
    → port_slots ≤ length scratch
    → least p ≡ T
    → T ≤ p.top
    → least_answer p scratch ≡ result T
unfolding least_answer
least_gives p scratch {T} valid long is most = ap (λ (n : ℕ). searched no_least p n scratch) is ∙ searched_gives no_least p T scratch valid long most

pub margin_safe_gives
    : (p : Plan) (scratch : List ℕ) {T : ℕ}
    → valid_plan p ≡ true
    → port_slots ≤ length scratch
    → margin_safe p ≡ T
    → T ≤ p.top
    → margin_safe_answer p scratch ≡ result T
unfolding margin_safe_answer
margin_safe_gives p scratch {T} valid long is most = ap (λ (n : ℕ). searched no_margin_safe p n scratch) is ∙ searched_gives no_margin_safe p T scratch valid long most

pub least_ends
    : (p : Plan) (scratch : List ℕ) {answer : Answer ℕ} {exit : List ℕ}
    → SearchEnds no_least least p scratch answer exit
    → (answer ≡ least_answer p scratch) × (exit ≡ least_leaves p scratch)
unfolding least_answer least_leaves
least_ends p scratch h = h

pub margin_safe_ends
    : (p : Plan) (scratch : List ℕ) {answer : Answer ℕ} {exit : List ℕ}
    → SearchEnds no_margin_safe margin_safe p scratch answer exit
    → (answer ≡ margin_safe_answer p scratch) × (exit ≡ margin_safe_leaves p scratch)
unfolding margin_safe_answer margin_safe_leaves
margin_safe_ends p scratch h = h
