-- Runs by pieces: where no port needs more than m for its demand at u, every duration from m to u is admissible. What a search up or
-- down by the largest need has shown at the duration that it has reached, and where it may go from there.
use Rattle.std.specs.Prelude.{◌≡◌, refl, Bool, true, false, cond, ◌&&◌, ℕ, suc, max, min, ◌-◌, ◌≤◌, ◌<◌, leb}
use Rattle.std.proofs.Common.{sym, ap, ◌∙◌, le_refl, arith, le-leb}
use Rattle.std.proofs.Math.Nat.{le_trans}
use Rattle.std.proofs.Math.Decide.{dec_le}
use Rattle.std.proofs.lemmas.Bool.{lt-leb}
use Rattle.cqf.specs.Bounded.{within}
use Rattle.cqf.specs.Limits.{port_slots}
use Rattle.cqf.specs.Plan.{Plan, valid_plan}
use Rattle.cqf.specs.Condition.{demand, admissible}
use Rattle.cqf.specs.Need.{need, largest_need, least_from}
use Rattle.span_lists.specs.Span.{last_from}
use Rattle.cqf.proofs.laws.Bounds.{max_to_most}
use Rattle.cqf.proofs.laws.Condition.{demand_pos}
use Rattle.cqf.proofs.laws.Need.{need_for, need_some, not_admissible, jump_down}
use Rattle.cqf.proofs.laws.Ranges.{crossed_rate}
use Rattle.cqf.proofs.laws.LeastFrom.{least_from_none, least_from_above}
use Rattle.cqf.proofs.laws.Search.{Ascended, ascent_found, ascent_next, ascent_over, largest-none, largest-fails}
use Rattle.span_lists.specs.laws.Runs.{last_is}

module _ (p : Plan) (valid : valid_plan p ≡ true) where
  pub piece : (m u v : ℕ) → 1 ≤ m → largest_need p u ≤ m → m ≤ v → v ≤ u → admissible p v ≡ true
  unfolding largest_need
  piece m u v low most from upto =
      jump_down p u v
      (λ q slot c. (crossed_rate p valid q c, le_trans (fits q slot (demand_pos p q u valid (omega arith) c)) from))
      upto
    where
      fits : (q : ℕ) → q < port_slots → 0 < demand p q u → need_for p q (demand p q u) ≤ m
      fits q slot some =
          let each = max_to_most port_slots (λ q. need p q u) q slot in
          omega (arith, need_some p q u some)

  -- a duration that some port needs more than is refused
  pub short : (u : ℕ) → u < largest_need p u → admissible p u ≡ false
  short u less = let m = largest-fails p valid u less in not_admissible p u m.0 m.1 m.2

-- the largest need at a duration from low to top, 0 at any other
abbrev pub need_within : Plan → (low t : ℕ) → ℕ
need_within p low t = cond (within low p.top t) (largest_need p t) 0

module _ (p : Plan) (low t : ℕ) where
  pub need_in : low ≤ t → t ≤ p.top → need_within p low t ≡ largest_need p t
  need_in l m = rw (le-leb low t l, le-leb t p.top m)

  pub need_above : p.top < t → need_within p low t ≡ 0
  need_above m = ap (λ b. cond (leb low t && b) (largest_need p t) 0) (lt-leb t p.top m) ∙ go (leb low t)
    where
      go : (b : Bool) → cond (b && false) (largest_need p t) 0 ≡ 0
      go true = refl
      go false = refl

  pub need_below : t < low → need_within p low t ≡ 0
  need_below m = ap (λ b. cond (b && leb t p.top) (largest_need p t) 0) (lt-leb low t m)

-- up: no duration from d to below t is admissible; t is at most one above top
pub record Upward (p : Plan) (d t : ℕ) : Type 0 where
  pub start : 1 ≤ d
  pub first : d ≤ t
  pub within_top : t ≤ suc p.top
  pub none : (u : ℕ) → d ≤ u → u < t → admissible p u ≡ false

module _ (p : Plan) (valid : valid_plan p ≡ true) where
  pub upward_start : (d : ℕ) → 1 ≤ d → d ≤ p.top → Upward p d d
  upward_start d h l = record { start = h; first = le_refl d; within_top = omega arith; none = λ u k m. absurd (omega arith) }

  module _ {d t : ℕ} (s : Upward p d t) where
    at : t ≤ p.top → Ascended p d t
    at l = record { start = s.start; first = s.first; within = l; none = s.none }

    -- where no more than t is needed it is the least from d on, or there is none up to top
    pub upward_ends : need_within p 1 t ≤ t → least_from p d ≡ t
    upward_ends l = go (dec_le t p.top)
      where
        go : Dec (t ≤ p.top) → least_from p d ≡ t
        go (yes upto) =
            let most : largest_need p t ≤ t = omega (arith, l, need_in p 1 t (le_trans s.start s.first) upto) in
            ascent_found p valid (at upto) (largest-none p valid t (le_trans s.start s.first) most)
        go (no over) =
            let top : t ≡ suc p.top = omega (arith, s.within_top) in
            least_from_none p d (λ u from upto. s.none u from (omega arith)) ∙ sym top

    -- otherwise nothing below what is needed is
    pub upward_next : t < need_within p 1 t → Upward p d (min (need_within p 1 t) (suc p.top))
    upward_next less = go (dec_le t p.top) (dec_le (largest_need p t) p.top)
      where
        low : 1 ≤ t
        low = le_trans s.start s.first

        go : Dec (t ≤ p.top) → Dec (largest_need p t ≤ p.top) → Upward p d (min (need_within p 1 t) (suc p.top))
        go (no over) _ = absurd (omega (arith, less, need_above p 1 t (omega arith)))
        go (yes upto) (yes l) =
            let e = need_in p 1 t low upto in
            let n = ascent_next p valid (at upto) (omega (arith, e, less)) l in
            record {
              start = s.start;
              first = omega (arith, e, n.first);
              within_top = omega arith;
              none = λ u from m. n.none u from (omega (arith, e, m));
            }
        go (yes upto) (no l) =
            let e = need_in p 1 t low upto in
            let over = ascent_over p valid (at upto) (omega (arith, e, less)) (omega arith) in
            record {
              start = s.start;
              first = omega (arith, e, s.first, less);
              within_top = omega arith;
              none = λ u from m. least_from_above p d s.start (omega (arith, over)) u from (omega (arith, e, m));
            }

-- down: every duration from below + 1 to high is admissible; below is no lower than one below low
pub record Downward (p : Plan) (low high below : ℕ) : Type 0 where
  pub positive : 1 ≤ low
  pub from : low ≤ suc below
  pub upto : below ≤ high
  pub within_top : high ≤ p.top
  pub run : (u : ℕ) → below < u → u ≤ high → admissible p u ≡ true

module _ (p : Plan) (valid : valid_plan p ≡ true) {low high below : ℕ} (s : Downward p low high below) where
  -- where more than below is needed, below is refused or below low
  pub downward_ends : below < max low (need_within p low below) → low ≤ below → admissible p below ≡ false
  downward_ends less l =
      short p valid below (omega (arith, less, need_in p low below l (le_trans s.upto s.within_top)))

  pub downward_next : max low (need_within p low below) ≤ below → Downward p low high (max low (need_within p low below) - 1)
  downward_next l =
      record {
        positive = s.positive;
        from = omega (arith, s.positive);
        upto = omega (arith, s.upto);
        within_top = s.within_top;
        run = λ u above m. go u above m (dec_le u below);
      }
    where
      e : need_within p low below ≡ largest_need p below
      e = need_in p low below (omega arith) (le_trans s.upto s.within_top)

      go : (u : ℕ) → max low (need_within p low below) - 1 < u → u ≤ high → Dec (u ≤ below) → admissible p u ≡ true
      go u above m (yes k) =
          piece p valid (max low (need_within p low below)) below u (omega (arith, s.positive)) (omega (arith, e)) (omega (arith, above)) k
      go u above m (no k) = s.run u (omega arith) m

-- the end of the run from a duration: all from it to held are admissible, and over is refused or one above top
pub record Between (p : Plan) (start held over : ℕ) : Type 0 where
  pub low : 1 ≤ start
  pub from : start ≤ held
  pub apart : held < over
  pub within_top : over ≤ suc p.top
  pub run : (u : ℕ) → start ≤ u → u ≤ held → admissible p u ≡ true
  pub refused : over ≤ p.top → admissible p over ≡ false

module _ {p : Plan} {start held over : ℕ} (s : Between p start held over) where
  -- with nothing between the two, held is the last
  pub between_ends : over ≤ suc held → last_from p start ≡ held
  between_ends l =
      let at : over ≡ suc held = omega (arith, s.apart) in
      last_is p start held s.low s.from (omega (arith, s.within_top)) s.run
      (λ m. ap (admissible p) (sym at) ∙ s.refused (omega (arith, at)))

  -- a probe between them, with all from held + 1 to it admissible, moves held; with one refused, over
  pub between_longer : (probe : ℕ) → held < probe → probe < over → ((u : ℕ) → held < u → u ≤ probe → admissible p u ≡ true) → Between p start probe over
  between_longer probe above below more =
      record {
        low = s.low;
        from = omega (arith, s.from);
        apart = below;
        within_top = s.within_top;
        run = λ u l m. go u l m (dec_le u held);
        refused = s.refused;
      }
    where
      go : (u : ℕ) → start ≤ u → u ≤ probe → Dec (u ≤ held) → admissible p u ≡ true
      go u l m (yes k) = s.run u l k
      go u l m (no k) = more u (omega arith) m

  pub between_shorter : (r : ℕ) → held < r → r ≤ over → admissible p r ≡ false → Between p start held r
  between_shorter r above below a =
      record { low = s.low; from = s.from; apart = above; within_top = omega (arith, s.within_top); run = s.run; refused = λ _. a }

pub between_start : (p : Plan) (t : ℕ) → 1 ≤ t → t ≤ p.top → admissible p t ≡ true → Between p t t (suc p.top)
between_start p t h l a =
    record {
      low = h;
      from = le_refl t;
      apart = omega arith;
      within_top = le_refl _;
      run = λ u from upto. let same : u ≡ t = omega arith in ap (admissible p) same ∙ a;
      refused = λ m. absurd (omega arith);
    }
