-- The nearest durations: the search down past durations that some port needs more than, and the answers case by case.
use Rattle.std.specs.Prelude.{◌≡◌, Bool, cond, [], ◌∷◌}
use Rattle.std.proofs.Math.Path.{refl, ap}
use Rattle.std.proofs.Common.{sym, ap₂, ◌∙◌, le_trans}
use Rattle.std.proofs.Math.Bool.{true, false}
use Rattle.std.proofs.lemmas.Bool.{false≢true}
use Rattle.std.proofs.Math.Option.{Option, none, some}
use Prim.Native.Nat.{ℕ, zero, suc, ◌+◌, ◌/◌, ◌≤◌, ◌<◌}
use Rattle.std.proofs.Math.Nat.{le_refl}
use Rattle.std.proofs.Math.Decide.{dec_le}
use native.Mathlib.Omega.{arith}
use Rattle.cqf.specs.Bounded.{within}
use Rattle.cqf.specs.Plan.{Plan, valid_plan}
use Rattle.cqf.specs.Condition.{admissible}
use Rattle.cqf.specs.Need.{largest_need, least_from}
use Rattle.cqf.proofs.laws.Need.{admissible-none}
use Rattle.cqf.proofs.laws.Search.{largest-none}
use Rattle.span_lists.specs.laws.Pieces.{need_within, need_in, need_above, need_below, upward_start, upward_next}
use Rattle.answers.specs.Answer.{result, refusal}
use Rattle.answers.specs.Refusals.{bad_duration, no_plan_held}
use Rattle.questions.specs.Outcome.{asked}
use Rattle.questions.specs.Nearest.{largest_up_to, most_up_to, duration_in, nearest, nearest_answer}

-- the largest up to n: it passes unless it is 0, and none above it does
module _ (good : ℕ → Bool) where
  largest_le : (n : ℕ) → largest_up_to good n ≤ n
  unfolding largest_up_to
  largest_le zero = le_refl 0
  largest_le (suc n) = go (good (suc n)) (largest_le n)
    where
      go : (b : Bool) → largest_up_to good n ≤ n → elim b [ true ↦ suc n | false ↦ largest_up_to good n ] ≤ suc n
      go true l = le_refl _
      go false l = omega arith

  largest-passes : (n : ℕ) → 1 ≤ largest_up_to good n → good (largest_up_to good n) ≡ true
  unfolding largest_up_to
  largest-passes zero h = absurd (omega arith)
  largest-passes (suc n) h = go (good (suc n)) refl (λ l. largest-passes n l) h
    where
      go
          : (b : Bool)
          → good (suc n) ≡ b
          → (1 ≤ largest_up_to good n → good (largest_up_to good n) ≡ true)
          → 1 ≤ elim b [ true ↦ suc n | false ↦ largest_up_to good n ]
          → good (elim b [ true ↦ suc n | false ↦ largest_up_to good n ]) ≡ true
      go true e less l = e
      go false e less l = less l

  largest_above : (n u : ℕ) → largest_up_to good n < u → u ≤ n → good u ≡ false
  unfolding largest_up_to
  largest_above zero u h l = absurd (omega arith)
  largest_above (suc n) u h l = go (good (suc n)) refl (λ more upto. largest_above n u more upto) (dec_le u n) h
    where
      go
          : (b : Bool)
          → good (suc n) ≡ b
          → (largest_up_to good n < u → u ≤ n → good u ≡ false)
          → Dec (u ≤ n)
          → elim b [ true ↦ suc n | false ↦ largest_up_to good n ] < u
          → good u ≡ false
      go true e less d more = absurd (omega arith)
      go false e less (yes m) more = less more m
      go false e less (no m) more = let same : u ≡ suc n = omega arith in ap good same ∙ e

  -- so a number that passes or is 0, with none above it that does, is the largest
  largest_is
      : (n t : ℕ)
      → t ≤ n
      → (1 ≤ t → good t ≡ true)
      → ((u : ℕ) → t < u → u ≤ n → good u ≡ false)
      → largest_up_to good n ≡ t
  largest_is n t upto passes above = go (dec_le (largest_up_to good n) t) (dec_le t (largest_up_to good n))
    where
      go : Dec (largest_up_to good n ≤ t) → Dec (t ≤ largest_up_to good n) → largest_up_to good n ≡ t
      go (yes a) (yes b) = omega arith
      go (no a) d =
          absurd (false≢true (sym (above (largest_up_to good n) (omega arith) (largest_le n)) ∙ largest-passes n (omega arith)))
      go (yes a) (no b) = absurd (false≢true (sym (largest_above n t (omega arith) upto) ∙ passes (omega arith)))

-- the same of the largest admissible duration
module _ (p : Plan) (T : ℕ) where
  pub most_le : most_up_to p T ≤ T
  unfolding most_up_to
  most_le = largest_le (admissible p) T

  pub most_passes : 1 ≤ most_up_to p T → admissible p (most_up_to p T) ≡ true
  unfolding most_up_to
  most_passes h = largest-passes (admissible p) T h

  pub most_above : (u : ℕ) → most_up_to p T < u → u ≤ T → admissible p u ≡ false
  unfolding most_up_to
  most_above u h l = largest_above (admissible p) T u h l

-- down: no duration above at, up to T, is admissible
pub record Lowered (p : Plan) (T at : ℕ) : Type 0 where
  pub upto : at ≤ T
  pub within_top : T ≤ p.top
  pub none : (u : ℕ) → at < u → u ≤ T → admissible p u ≡ false

pub lowered_start : (p : Plan) (T : ℕ) → T ≤ p.top → Lowered p T T
lowered_start p T l = record { upto = le_refl T; within_top = l; none = λ u m n. absurd (omega arith) }

module _ (p : Plan) (valid : valid_plan p ≡ true) where
  -- where more than d is needed at x, nothing from x to d is admissible
  passed : (x d u : ℕ) → 1 ≤ x → d ≤ p.top → d < largest_need p x → x ≤ u → u ≤ d → admissible p u ≡ false
  passed x d u low high more from upto =
      let e = need_in p 1 x low (omega arith) in
      (upward_next p valid (upward_start p valid x low (omega arith)) (omega (arith, e, more))).none u from (omega (arith, e, more))

  module _ {T at : ℕ} (s : Lowered p T at) where
    -- where no more than at is needed it is the largest up to T, or there is none
    pub lowered_ends : need_within p 1 at ≤ at → most_up_to p T ≡ at
    unfolding most_up_to
    lowered_ends l = largest_is (admissible p) T at s.upto good s.none
      where
        good : 1 ≤ at → admissible p at ≡ true
        good low =
            let e = need_in p 1 at low (le_trans s.upto s.within_top) in
            admissible-none p at (largest-none p valid at low (omega (arith, e, l)))

    pub lowered_next : (x : ℕ) → 1 ≤ x → x ≤ at → at < largest_need p x → (below : ℕ) → suc below ≡ x → Lowered p T below
    lowered_next x low l more below is =
        record {
          upto = omega (arith, s.upto);
          within_top = s.within_top;
          none = λ u above m. go u above m (dec_le u at);
        }
      where
        go : (u : ℕ) → below < u → u ≤ T → Dec (u ≤ at) → admissible p u ≡ false
        go u above m (yes k) = passed x at u low (le_trans s.upto s.within_top) more (omega (arith, above, is)) k
        go u above m (no k) = s.none u (omega arith) m

-- a duration that more is needed than is from 1 to top
pub needs_more : (p : Plan) (t : ℕ) → t < need_within p 1 t → (1 ≤ t) × (t ≤ p.top) × (t < largest_need p t)
needs_more p t less = go (dec_le 1 t) (dec_le t p.top)
  where
    go : Dec (1 ≤ t) → Dec (t ≤ p.top) → (1 ≤ t) × (t ≤ p.top) × (t < largest_need p t)
    go (yes low) (yes high) = (low, high, omega (arith, less, need_in p 1 t low high))
    go (no under) d = absurd (omega (arith, less, need_below p 1 t (omega arith)))
    go (yes low) (no over) = absurd (omega (arith, less, need_above p 1 t (omega arith)))

-- halving: more than d is needed at over
pub record Halving (p : Plan) (d under over : ℕ) : Type 0 where
  pub apart : under < over
  pub upto : over ≤ d
  pub within_top : d ≤ p.top
  pub more : d < largest_need p over

pub halving_start : (p : Plan) (d : ℕ) → 1 ≤ d → d ≤ p.top → d < largest_need p d → Halving p d 0 d
halving_start p d low high more = record { apart = low; upto = le_refl d; within_top = high; more = more }

module _ {p : Plan} {d under over : ℕ} (s : Halving p d under over) where
  pub halving_over : (m : ℕ) → under < m → m < over → d < need_within p 1 m → Halving p d under m
  halving_over m above below less =
      record {
        apart = above;
        upto = omega (arith, s.upto);
        within_top = s.within_top;
        more = omega (arith, less, need_in p 1 m (omega arith) (omega (arith, s.upto, s.within_top)));
      }

  pub halving_under : (m : ℕ) → m < over → Halving p d m over
  halving_under m below = record { apart = below; upto = s.upto; within_top = s.within_top; more = s.more }

pub middle_between : (a b : ℕ) → suc a < b → (a < (a + b) / 2) × ((a + b) / 2 < b)
middle_between a b l = (omega arith, omega arith)

-- what was found, as none or a duration
pub found_out : (top t : ℕ) → within 1 top t ≡ false → none ≡ duration_in top t
found_out top t e = sym (ap (λ (b : Bool). cond b (some t) none) e)

pub found_in : (top t : ℕ) → within 1 top t ≡ true → some t ≡ duration_in top t
found_in top t e = sym (ap (λ (b : Bool). cond b (some t) none) e)

-- the answer
module _ (p : Plan) (T : ℕ) where
  nearest_of : nearest_answer p T ≡ asked p T (result (nearest p T))
  unfolding nearest_answer
  nearest_of = refl

  pub nearest-none : valid_plan p ≡ false → nearest_answer p T ≡ refusal no_plan_held (0 ∷ [])
  nearest-none e = nearest_of ∙ rw e

  pub nearest_out : valid_plan p ≡ true → within 1 p.top T ≡ false → nearest_answer p T ≡ refusal bad_duration (0 ∷ [])
  nearest_out e out = nearest_of ∙ rw (e, out)

  pub nearest_in : valid_plan p ≡ true → within 1 p.top T ≡ true → nearest_answer p T ≡ result (nearest p T)
  nearest_in valid ranged = nearest_of ∙ rw (valid, ranged)

  pub nearest_parts : nearest p T ≡ record { below = duration_in p.top (most_up_to p T); above = duration_in p.top (least_from p T) }
  unfolding nearest
  nearest_parts = refl

  pub nearest-found
      : valid_plan p ≡ true
      → within 1 p.top T ≡ true
      → {last first : ℕ}
      → last ≡ most_up_to p T
      → first ≡ least_from p T
      → {below above : Option ℕ}
      → below ≡ duration_in p.top last
      → above ≡ duration_in p.top first
      → result (record { below = below; above = above }) ≡ nearest_answer p T
  nearest-found valid ranged last first below above =
      ap₂ (λ (x y : Option ℕ). result (record { below = x; above = y }))
      (below ∙ ap (duration_in p.top) last)
      (above ∙ ap (duration_in p.top) first)
      ∙ ap result (sym nearest_parts)
      ∙ sym (nearest_in valid ranged)
