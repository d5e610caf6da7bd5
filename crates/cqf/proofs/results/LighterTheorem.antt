-- A lighter plan is never worse: for a valid plan that is lighter than another, each duration that is admissible for the other is
-- admissible for it, and its least and margin-safe durations, where the other has them, exist and are no larger. It may leave
-- ports of the other without a flow. A longer cycle is not lighter, nor is a plan whose flows take other routes.
use Rattle.std.specs.Prelude.{◌≡◌, Bool, true, ℕ, ◌≤◌, ◌<◌}
use Rattle.std.proofs.Common.{sym, ap, ◌∙◌, arith}
use Rattle.std.proofs.lemmas.Bool.{false≢true}
use Rattle.std.proofs.Math.Decide.{dec_lt}
use Rattle.cqf.specs.Plan.{Plan, valid_plan}
use Rattle.cqf.specs.Condition.{admissible, safe_from, smallest, least, margin_safe}
use Rattle.cqf.specs.Lighter.{Lighter}
use Rattle.cqf.specs.NoWorse.{NoWorse}
use Rattle.cqf.proofs.laws.Smallest.{smallest_positive, smallest-passes, smallest_below, safe_every, safe_at, least_of, margin_safe_of}
use Rattle.cqf.proofs.laws.Lighter.{admissible_lighter}

-- a test that passes wherever another does has no larger smallest duration
smaller
    : (good other : ℕ → Bool) (top : ℕ)
    → smallest other top ≤ top
    → (other (smallest other top) ≡ true → good (smallest other top) ≡ true)
    → smallest good top ≤ smallest other top
smaller good other top l passes = go (dec_lt (smallest other top) (smallest good top))
  where
    go : Dec (smallest other top < smallest good top) → smallest good top ≤ smallest other top
    go (yes less) =
        let below = smallest_below good top (smallest other top) (smallest_positive other top) less in
        absurd (false≢true (sym below ∙ passes (smallest-passes other top l)))
    go (no more) = omega arith

module _ (second first : Plan) (valid : valid_plan second ≡ true) (lighter : Lighter second first) where
  safe_lighter : (T : ℕ) → safe_from first T ≡ true → safe_from second T ≡ true
  safe_lighter T safe =
      safe_every second T (λ t from upto. admissible_lighter second first valid lighter t (safe_at first T t safe from (omega arith)))

  least_lighter : least first ≤ first.top → least second ≤ least first
  least_lighter l =
      let same : least second ≡ smallest (admissible second) first.top = least_of second ∙ ap (smallest (admissible second)) (omega arith) in
      omega (arith, smaller (admissible second) (admissible first) first.top (omega (arith, least_of first)) (admissible_lighter second first valid lighter _), least_of first)

  margin_safe_lighter : margin_safe first ≤ first.top → margin_safe second ≤ margin_safe first
  margin_safe_lighter l =
      let same : margin_safe second ≡ smallest (safe_from second) first.top = margin_safe_of second ∙ ap (smallest (safe_from second)) (omega arith) in
      omega (arith, smaller (safe_from second) (safe_from first) first.top (omega (arith, margin_safe_of first)) (safe_lighter _), margin_safe_of first)

  pub no_worse : NoWorse second first
  no_worse =
      record {
        durations = admissible_lighter second first valid lighter;
        leasts = λ l. (omega (arith, least_lighter l), least_lighter l);
        margin_safes = λ l. (omega (arith, margin_safe_lighter l), margin_safe_lighter l);
      }
