-- The outcome of a search over a scratch of one number, case by case.
use Rattle.std.specs.Prelude.{◌≡◌, refl, true, false, List, [], ◌∷◌, ℕ, ◌-◌, ◌≤◌, ◌<◌, length, drop, set}
use Rattle.std.proofs.Common.{◌∙◌, arith, le-leb}
use Rattle.std.proofs.lemmas.Bool.{lt-leb}
use Rattle.cqf.specs.Plan.{Plan, valid_plan}
use Rattle.cqf.specs.Condition.{demand, failing, lowest_failing, least, margin_safe}
use Rattle.cqf.specs.PortSteps.{highest_crossed}
use Rattle.answers.specs.Answer.{Answer, result, refusal}
use Rattle.answers.specs.Refusals.{short_scratch, no_plan_held, no_least, no_margin_safe}
use Rattle.questions.specs.Lean.{LeanEnds, lean_least_answer, lean_least_leaves, lean_margin_safe_answer, lean_margin_safe_leaves}

-- a store into the first number keeps the others
pub set_first : (l : List ℕ) (n : ℕ) → 1 ≤ length l → set l 0 n ≡ n ∷ drop 1 l
set_first [] n h = absurd (omega arith)
set_first (x ∷ l) n h = refl

module _ (number : ℕ) (sought : Plan → ℕ) (p : Plan) (scratch : List ℕ) where
  pub lean_no_plan : valid_plan p ≡ false → LeanEnds number sought p scratch (refusal no_plan_held (0 ∷ [])) scratch
  lean_no_plan e = (rw e, rw e)

  module _ (valid : valid_plan p ≡ true) where
    pub lean_empty : length scratch < 1 → LeanEnds number sought p scratch (refusal short_scratch (0 ∷ [])) scratch
    lean_empty l = (rw (valid, lt-leb _ _ l), rw (valid, lt-leb _ _ l))

    -- the demand of the highest crossed port replaces the first number, and those past it are kept
    module _ (some : 1 ≤ length scratch) {found bits : ℕ} (is : found ≡ sought p) where
      pub lean_within
          : found ≤ p.top
          → bits ≡ demand p (highest_crossed p - 1) found
          → LeanEnds number sought p scratch (result found) (set scratch 0 bits)
      lean_within within b =
          let most : sought p ≤ p.top = rw is at within in
          (rw (valid, le-leb _ _ some, le-leb _ _ most, is), rw (valid, le-leb _ _ some, le-leb _ _ most) (set_first scratch bits some ∙ rw (b, is)))

      pub lean_above
          : {port count : ℕ}
          → p.top < found
          → bits ≡ demand p (highest_crossed p - 1) p.top
          → port ≡ lowest_failing p p.top
          → count ≡ failing p p.top
          → LeanEnds number sought p scratch (refusal number (port ∷ count ∷ [])) (set scratch 0 bits)
      lean_above above b lowest many =
          let more : p.top < sought p = rw is at above in
          (rw (valid, le-leb _ _ some, lt-leb _ _ more, lowest, many), rw (valid, le-leb _ _ some, lt-leb _ _ more) (set_first scratch bits some ∙ rw b))

pub lean_least_ends
    : (p : Plan) (scratch : List ℕ) {answer : Answer ℕ} {exit : List ℕ}
    → LeanEnds no_least least p scratch answer exit
    → (answer ≡ lean_least_answer p scratch) × (exit ≡ lean_least_leaves p scratch)
unfolding lean_least_answer lean_least_leaves
lean_least_ends p scratch h = h

pub lean_margin_safe_ends
    : (p : Plan) (scratch : List ℕ) {answer : Answer ℕ} {exit : List ℕ}
    → LeanEnds no_margin_safe margin_safe p scratch answer exit
    → (answer ≡ lean_margin_safe_answer p scratch) × (exit ≡ lean_margin_safe_leaves p scratch)
unfolding lean_margin_safe_answer lean_margin_safe_leaves
lean_margin_safe_ends p scratch h = h
