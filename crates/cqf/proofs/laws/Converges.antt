-- The fixed-point iteration from each start converges: the theorem of document 02 about it.
use Rattle.std.specs.Prelude.{◌≡◌, ◌↔◌, true, false, ℕ, ◌≤◌}
use Rattle.std.proofs.Common.{sym, ap, subst, ◌∙◌, le_refl, arith}
use Rattle.cqf.specs.Plan.{Plan, valid_plan}
use Rattle.cqf.specs.Condition.{admissible, least}
use Rattle.cqf.specs.Need.{least_from}
use Rattle.cqf.specs.FixedPoint.{visited, steps_from, found, none, iterate, ended, LeastAdmissible, Converges}
use Rattle.cqf.proofs.laws.LeastFrom.{least_from_none, least_from_above, least_from_admissible, least_from_only, least_from_first}
use Rattle.cqf.proofs.laws.Ranges.{top_positive}
use Rattle.cqf.proofs.laws.Search.{ascent_start}
use Rattle.cqf.proofs.laws.Ended.{ended-within, ended_above, ended-found, ended-none}
use Rattle.cqf.proofs.laws.FixedPoint.{visited_most, stops_in, resumes_in, reached_in, ends_in}
use Rattle.cqf.proofs.laws.MostSteps.{most_steps_lem}

module _ (p : Plan) (valid : valid_plan p ≡ true) (t : ℕ) (first : 1 ≤ t) (within : t ≤ p.top) where
  ends : (n : ℕ) → steps_from p t ≤ n → iterate p t n ≡ ended p (least_from p t) (steps_from p t)
  unfolding steps_from visited
  ends = ends_in p valid p.top t (ascent_start p valid t first within) (omega arith)

  finds : (n u : ℕ) → steps_from p t ≤ n → (iterate p t n ≡ found u (steps_from p t)) ↔ LeastAdmissible p t u
  finds n u l = (
    λ e. let h = ended-found p (least_from p t) (steps_from p t) (sym (ends n l) ∙ e) in
        subst (LeastAdmissible p t) h.0 (least_from_admissible p t first h.2),
    λ h. ends n l ∙ ended-within p (steps_from p t) (least_from_only p t first h) h.within,
  )

  none_up_to_top
      : (n : ℕ)
      → steps_from p t ≤ n
      → (iterate p t n ≡ none (steps_from p t)) ↔ ((u : ℕ) → t ≤ u → u ≤ p.top → admissible p u ≡ false)
  none_up_to_top n l = (
    λ e. least_from_above p t first (ended-none p (least_from p t) (steps_from p t) (sym (ends n l) ∙ e)).1,
    λ h. ends n l ∙ ended_above p (steps_from p t) (least_from_none p t h),
  )

  pub converges : Converges p t
  unfolding steps_from visited
  converges =
      record {
        ends = ends;
        finds = finds;
        none_up_to_top = none_up_to_top;
        stops = λ n. stops_in p p.top n t;
        reached = λ n u e. let s = reached_in p valid n t u (ascent_start p valid t first within) e in (s.first, s.within);
        resumes = λ a b u. resumes_in p a b t u;
        bounded = most_steps_lem p valid t first;
      }

-- it takes no more steps than there are durations up to top
pub steps_top : (p : Plan) (t : ℕ) → steps_from p t ≤ p.top
unfolding steps_from visited
steps_top p t = visited_most p p.top t

-- from 1 on it finds the least duration
pub converges_least : (p : Plan) → valid_plan p ≡ true → (n : ℕ) → steps_from p 1 ≤ n → iterate p 1 n ≡ ended p (least p) (steps_from p 1)
converges_least p valid n l =
    (converges p valid 1 (le_refl 1) (top_positive p valid)).ends n l
    ∙ ap (λ (t : ℕ). ended p t (steps_from p 1)) (least_from_first p)
