-- The theorem of the nearest durations, over sequences of calls: of the plan in the bytes of the last load in which the rules find no
-- refusal.
use Rattle.std.specs.Prelude.{◌≡◌, refl, Bool, true, false, ◌&&◌, ℕ, ◌≤◌, ◌<◌, List, leb}
use Rattle.std.proofs.Common.{sym, ap, subst, ◌∙◌, le_refl, arith, le-leb}
use Rattle.std.proofs.lemmas.Bool.{false≢true, lt-leb}
use Rattle.std.proofs.Math.Option.{Option, none, some}
use Rattle.std.proofs.Math.Decide.{dec_le}
use Rattle.cqf.specs.Bounded.{within}
use Rattle.cqf.specs.Plan.{Plan, valid_plan}
use Rattle.cqf.specs.Condition.{admissible}
use Rattle.cqf.specs.Need.{least_from}
use Rattle.cqf.proofs.laws.LeastFrom.{least_from_admissible, least_from_above}
use Rattle.plan_reading.specs.Reading.{accepted, Mode, read_as_of}
use Rattle.plan_reading.specs.results.StrictTheorem.{read_loosely}
use Rattle.plan_reading.specs.laws.validity.Valid.{accepted_valid}
use Rattle.answers.specs.Answer.{result}
use Rattle.questions.specs.Nearest.{most_up_to, duration_in, nearest_answer}
use Rattle.questions.specs.laws.Nearest.{most_le, most_passes, most_above, found_in, found_out, nearest_in, nearest_parts}
use Rattle.sequences.specs.Calls.{Call, after, held_bytes}
use Rattle.sequences.specs.NearestMeaning.{LargestAdmissible, Below, Above, Neighbours, NearestMeans}
use Rattle.sequences.specs.laws.Calls.{after_held}

-- a number outside 1 to top
out_below : (top t : ℕ) → t < 1 → within 1 top t ≡ false
out_below top t less = ap (λ (b : Bool). b && leb t top) (lt-leb 1 t less)

out_above : (top t : ℕ) → top < t → within 1 top t ≡ false
out_above top t more = ap (λ (b : Bool). leb 1 t && b) (lt-leb t top more) ∙ both (leb 1 t)
  where
    both : (b : Bool) → b && false ≡ false
    both true = refl
    both false = refl

in_both : (top t : ℕ) → 1 ≤ t → t ≤ top → within 1 top t ≡ true
in_both top t low high = rw (le-leb 1 t low, le-leb t top high)

module _ (p : Plan) (T : ℕ) (low : 1 ≤ T) (high : T ≤ p.top) where
  below_is : Below p T (duration_in p.top (most_up_to p T))
  below_is = go (dec_le 1 (most_up_to p T))
    where
      go : Dec (1 ≤ most_up_to p T) → Below p T (duration_in p.top (most_up_to p T))
      go (yes some_one) =
          subst (Below p T) (found_in p.top (most_up_to p T) (in_both p.top (most_up_to p T) some_one (omega (arith, most_le p T))))
          record { low = some_one; upto = most_le p T; good = most_passes p T some_one; last = most_above p T }
      go (no less) =
          subst (Below p T) (found_out p.top (most_up_to p T) (out_below p.top (most_up_to p T) (omega arith)))
          (λ u from upto. most_above p T u (omega arith) upto)

  above_is : Above p T (duration_in p.top (least_from p T))
  above_is = go (dec_le (least_from p T) p.top)
    where
      go : Dec (least_from p T ≤ p.top) → Above p T (duration_in p.top (least_from p T))
      go (yes upto) =
          let a = least_from_admissible p T low upto in
          subst (Above p T) (found_in p.top (least_from p T) (in_both p.top (least_from p T) (omega (arith, a.from)) upto)) a
      go (no over) =
          subst (Above p T) (found_out p.top (least_from p T) (out_above p.top (least_from p T) (omega arith)))
          (least_from_above p T low (omega arith))

  -- of an admissible duration each is the duration itself
  below_itself : (x : Option ℕ) → admissible p T ≡ true → Below p T x → x ≡ some T
  below_itself none good b = absurd (false≢true (sym (b T low (le_refl T)) ∙ good))
  below_itself (some t) good b = ap some (go (dec_le T t))
    where
      go : Dec (T ≤ t) → t ≡ T
      go (yes l) = omega (arith, b.upto)
      go (no l) = absurd (false≢true (sym (b.last T (omega arith) (le_refl T)) ∙ good))

  above_itself : (x : Option ℕ) → admissible p T ≡ true → Above p T x → x ≡ some T
  above_itself none good a = absurd (false≢true (sym (a T (le_refl T) high) ∙ good))
  above_itself (some t) good a = ap some (go (dec_le t T))
    where
      go : Dec (t ≤ T) → t ≡ T
      go (yes l) = omega (arith, a.from)
      go (no l) = absurd (false≢true (sym (a.first T (le_refl T) (omega arith)) ∙ good))

  -- of a valid plan
  neighbours : valid_plan p ≡ true → Neighbours p T (λ a. nearest_answer p T ≡ a)
  neighbours valid =
      record {
        nearest = record { below = duration_in p.top (most_up_to p T); above = duration_in p.top (least_from p T) };
        told = nearest_in p T valid (in_both p.top T low high) ∙ ap result (nearest_parts p T);
        below = below_is;
        above = above_is;
        itself = λ good. (below_itself (duration_in p.top (most_up_to p T)) good below_is, above_itself (duration_in p.top (least_from p T)) good above_is);
      }

-- what is said of the nearest durations
pub held_nearest
    : (calls : List Call) (mode : Mode) (bytes : List ℕ)
    → held_bytes calls ≡ some bytes
    → (p : Plan) (ports flows : ℕ)
    → read_as_of mode bytes ≡ accepted p ports flows
    → (T : ℕ)
    → 1 ≤ T
    → T ≤ p.top
    → Neighbours p T (λ a. nearest_answer (after calls) T ≡ a)
held_nearest calls mode bytes held p ports flows reads T low high =
    let valid = accepted_valid bytes p ports flows (read_loosely mode bytes p ports flows reads) in
    subst (λ (q : Plan). Neighbours p T (λ a. nearest_answer q T ≡ a)) (sym (after_held calls mode bytes held p ports flows reads))
    (neighbours p T low high valid)

-- what the answer means
pub nearest_means : (tables : Plan) (T : ℕ) → NearestMeans tables T (nearest_answer tables T)
nearest_means tables T calls mode bytes p ports flows left held reads low high =
    subst (λ (q : Plan). Neighbours p T (λ a. nearest_answer q T ≡ a)) (sym left)
    (held_nearest calls mode bytes held p ports flows reads T low high)
