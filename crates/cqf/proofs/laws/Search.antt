-- The two searches by jumps: what each has shown at the duration that it has reached, and where it may go from there.
use Rattle.std.specs.Prelude.{◌≡◌, true, false, ℕ, suc, ◌≤◌, ◌<◌}
use Rattle.std.proofs.Math.Path.{refl}
use Rattle.std.proofs.Common.{sym, ap, ◌∙◌, le_refl, le_trans, arith}
use Rattle.std.proofs.lemmas.Bool.{false≢true}
use mathlib.Mathlib.Data.Bool.Basic.{eq-false_of_not-eq-true}
use Rattle.std.proofs.Math.Decide.{dec_lt, dec_le}
use Rattle.cqf.specs.Bounded.{max_to}
use Rattle.cqf.specs.Limits.{port_slots}
use Rattle.cqf.specs.Plan.{Plan, rate_of, valid_plan}
use Rattle.cqf.specs.Port.{capacity, workload}
use Rattle.cqf.specs.Condition.{demand, fails, admissible, least, margin_safe}
use Rattle.cqf.specs.Need.{need, largest_need, least_from}
use Rattle.cqf.proofs.laws.Bounds.{max_to_most, max_to-at}
use Rattle.cqf.proofs.laws.Condition.{demand_pos, demand-crossed}
use Rattle.cqf.proofs.laws.Need.{need_for, need_some, need_busy, workload_positive, enough, needed, fails-crossed, fails-over, over_of_fails, admissible-none, not_admissible, jump_up, jump_down}
use Rattle.cqf.proofs.laws.Smallest.{margin_safe_is, margin_safe_none}
use Rattle.cqf.proofs.laws.LeastFrom.{least_from_is, least_from_none, least_from_first}
use Rattle.cqf.proofs.laws.Ranges.{top_positive, crossed_rate}

-- up: no duration from d to below t is admissible
pub record Ascended (p : Plan) (d t : ℕ) : Type 0 where
  pub start : 1 ≤ d
  pub first : d ≤ t
  pub within : t ≤ p.top
  pub none : (u : ℕ) → d ≤ u → u < t → admissible p u ≡ false

-- down: every duration from t to top is admissible
pub record Descended (p : Plan) (t : ℕ) : Type 0 where
  pub first : 1 ≤ t
  pub within : t ≤ suc p.top
  pub safe : (u : ℕ) → t ≤ u → u ≤ p.top → admissible p u ≡ true

module _ (p : Plan) (valid : valid_plan p ≡ true) where
  -- a port with a demand has a rate
  pub busy_rate : (t q : ℕ) → 0 < demand p q t → 0 < rate_of p q
  busy_rate t q l = crossed_rate p valid q (demand-crossed p q t l)

  -- a port fails exactly where it needs more than the duration
  pub fails-need : (t q : ℕ) → 0 < t → fails p t q ≡ true → t < need p q t
  fails-need t q long e = rw (need_some p q t (demand_pos p q t valid long (fails-crossed p t q e))) (over (dec_lt t (need_for p q (demand p q t))))
    where
      over : Dec (t < need_for p q (demand p q t)) → t < need_for p q (demand p q t)
      over (yes l) = l
      over (no l) =
          absurd (omega (arith, over_of_fails p t q e, enough p q (demand p q t) t (crossed_rate p valid q (fails-crossed p t q e)) (omega arith)))

  pub need-fails : (t q : ℕ) → t < need p q t → fails p t q ≡ true
  need-fails t q less = fails-over p t q (demand-crossed p q t some) (over (dec_lt _ _))
    where
      some : 0 < demand p q t
      some = need_busy p q t (omega arith)

      over : Dec (capacity p q t < workload p q (demand p q t)) → capacity p q t < workload p q (demand p q t)
      over (yes o) = o
      over (no n) =
          absurd (omega (arith, need_some p q t some, needed p q (demand p q t) t (busy_rate t q some) (workload_positive p q some) (omega arith)))

  -- the largest need is above the duration exactly where some port fails
  largest_is : (t : ℕ) → largest_need p t ≡ max_to port_slots (λ q. need p q t)
  unfolding largest_need
  largest_is t = refl

  pub largest-fails : (t : ℕ) → t < largest_need p t → (q : ℕ) × (q < port_slots) × (fails p t q ≡ true) × (need p q t ≡ largest_need p t)
  largest-fails t less =
      let e = largest_is t in
      let s = max_to-at port_slots (λ q. need p q t) (omega arith) in
      let same : need p s.0 t ≡ largest_need p t = s.2 ∙ sym e in
      (s.0, s.1, need-fails t s.0 (omega arith), same)

  pub fails-largest : (t q : ℕ) → 0 < t → q < port_slots → fails p t q ≡ true → t < largest_need p t
  fails-largest t q long slot e =
      rw (largest_is t) (le_trans (fails-need t q long e) (max_to_most port_slots (λ q. need p q t) q slot))

  -- none fails exactly where it is no more than the duration
  pub largest-none : (t : ℕ) → 0 < t → largest_need p t ≤ t → (q : ℕ) → q < port_slots → fails p t q ≡ false
  largest-none t long l q slot = eq-false_of_not-eq-true (λ e. omega (arith, l, fails-largest t q long slot e))

  pub none-largest : (t : ℕ) → ((q : ℕ) → q < port_slots → fails p t q ≡ false) → largest_need p t ≤ t
  none-largest t h = go (dec_lt t (largest_need p t))
    where
      go : Dec (t < largest_need p t) → largest_need p t ≤ t
      go (yes less) = let m = largest-fails t less in absurd (false≢true (sym (h m.0 m.1) ∙ m.2))
      go (no l) = omega arith

  pub ascent_start : (d : ℕ) → 1 ≤ d → d ≤ p.top → Ascended p d d
  ascent_start d h l = record { start = h; first = le_refl d; within = l; none = λ u k m. absurd (omega arith) }

  module _ {d t : ℕ} (s : Ascended p d t) where
    -- where no port fails, this is the least duration from d on
    pub ascent_found : ((q : ℕ) → q < port_slots → fails p t q ≡ false) → least_from p d ≡ t
    ascent_found h = least_from_is p d t s.start s.first s.within (admissible-none p t h) s.none

    module _ (less : t < largest_need p t) where
      -- nothing below the largest need is admissible, since the port that has it fails up to there
      ascent_passed : (u : ℕ) → d ≤ u → u < largest_need p t → admissible p u ≡ false
      ascent_passed u h l = go (dec_lt u t)
        where
          go : Dec (u < t) → admissible p u ≡ false
          go (yes below) = s.none u h below
          go (no above) =
              let m = largest-fails t less in
              let e = m.2 in
              let busy = demand_pos p m.0 t valid (le_trans s.start s.first) (fails-crossed p t m.0 e) in
              not_admissible p u m.0 m.1
              (jump_up p t u m.0 (crossed_rate p valid m.0 (fails-crossed p t m.0 e)) e (omega arith)
              (omega (arith, m.3, need_some p m.0 t busy)))

      pub ascent_next : largest_need p t ≤ p.top → Ascended p d (largest_need p t)
      ascent_next l = record { start = s.start; first = omega (arith, s.first, less); within = l; none = ascent_passed }

      pub ascent_over : p.top < largest_need p t → least_from p d ≡ suc p.top
      ascent_over l = least_from_none p d (λ u h m. ascent_passed u h (omega arith))

  -- the same from 1 on: this is the least duration
  pub ascent_least : {t : ℕ} → Ascended p 1 t → ((q : ℕ) → q < port_slots → fails p t q ≡ false) → least p ≡ t
  ascent_least s h = sym (least_from_first p) ∙ ascent_found s h

  pub descent_start : Descended p (suc p.top)
  descent_start = record { first = omega arith; within = le_refl _; safe = λ u h l. absurd (omega arith) }

  -- at 1 there is nothing further down
  pub descent_bottom : Descended p 1 → margin_safe p ≡ 1
  descent_bottom s = margin_safe_is p 1 (le_refl 1) (top_positive p valid) s.safe (λ t h e. absurd (omega arith))

  -- a port that fails one below ends the search
  pub descent_stop : (u : ℕ) → 1 ≤ u → Descended p (suc u) → u < largest_need p u → margin_safe p ≡ suc u
  descent_stop u h s less = go (dec_le (suc u) p.top)
    where
      bad : admissible p u ≡ false
      bad = let m = largest-fails u less in not_admissible p u m.0 m.1 m.2

      go : Dec (suc u ≤ p.top) → margin_safe p ≡ suc u
      go (yes l) =
          margin_safe_is p (suc u) s.first l s.safe
          (λ t _ d. ap (admissible p) (omega arith) ∙ bad)
      go (no l) =
          let top : u ≡ p.top = omega (arith, s.within) in
          (margin_safe_none p (top_positive p valid)).1 (ap (admissible p) (sym top) ∙ bad) ∙ ap suc (sym top)

  -- where no port needs more than m for its demand one below, all from m are admissible
  pub descent_next : (u m : ℕ) → Descended p (suc u) → 1 ≤ m → m ≤ u → largest_need p u ≤ m → Descended p m
  descent_next u m s h l most = record { first = h; within = omega (arith, s.within); safe = all }
    where
      fits : (q : ℕ) → q < port_slots → 0 < demand p q u → need_for p q (demand p q u) ≤ m
      fits q slot some =
          let each = max_to_most port_slots (λ q. need p q u) q slot in
          omega (arith, need_some p q u some, largest_is u)

      all : (v : ℕ) → m ≤ v → v ≤ p.top → admissible p v ≡ true
      all v from upto = go (dec_le v u)
        where
          go : Dec (v ≤ u) → admissible p v ≡ true
          go (yes below) =
              jump_down p u v
              (λ q slot c. (crossed_rate p valid q c, le_trans (fits q slot (demand_pos p q u valid (omega arith) c)) from))
              below
          go (no above) = s.safe v (omega arith) upto
