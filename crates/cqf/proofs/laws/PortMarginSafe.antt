-- A port's own margin-safe duration, and that the largest of them is the plan's.
use Rattle.std.specs.Prelude.{◌≡◌, false, ◌&&◌, ℕ, suc, max, ◌≤◌, ◌<◌}
use Rattle.std.proofs.Math.Path.{refl, ap}
use Rattle.std.proofs.Common.{sym, ◌∙◌, le_trans, arith}
use Rattle.std.proofs.Math.Bool.{true, not, false≢true, true≢false, and-eq-true_iff}
use mathlib.Mathlib.Data.Bool.Basic.{eq-false_of_not-eq-true}
use Rattle.std.proofs.Math.Decide.{dec_lt, dec_le}
use Rattle.std.proofs.Math.Dec.{leb}
use borrow.Author.Tests.{le-leb, leb-true, not-true}
use Rattle.cqf.specs.Bounded.{any_to, max_to}
use Rattle.cqf.specs.Limits.{port_slots}
use Rattle.cqf.specs.Plan.{Plan, valid_plan}
use Rattle.cqf.specs.Condition.{demand, fails, admissible, safe_from, smallest, margin_safe}
use Rattle.cqf.specs.Need.{need}
use Rattle.cqf.specs.PortSteps.{port_safe_from, port_margin_safe}
use Rattle.cqf.proofs.laws.Bounded.{any_to_true, any_to_some}
use Rattle.cqf.proofs.laws.Bounds.{max_to_most, max_to-least, max_to-at}
use Rattle.cqf.proofs.laws.Condition.{workload_mono, demand_pos, none-fails}
use Rattle.cqf.proofs.laws.Monotone.{demand_mono}
use Rattle.cqf.proofs.laws.Need.{need_some, enough, fails_not, admissible-none}
use Rattle.cqf.proofs.laws.Ranges.{crossed_rate}
use Rattle.cqf.proofs.laws.Search.{need-fails}
use Rattle.cqf.proofs.laws.Smallest.{smallest_positive, smallest_le, smallest-passes, smallest_below, smallest_is, smallest-none, safe_every, safe_at, margin_safe_of}

module _ (p : Plan) (q : ℕ) where
  own_of : port_margin_safe p q ≡ smallest (port_safe_from p q) p.top
  unfolding port_margin_safe
  own_of = refl

  -- it is safe from T on exactly where it fails at none from T to top
  own-every : (T : ℕ) → ((t : ℕ) → T ≤ t → t ≤ p.top → fails p t q ≡ false) → port_safe_from p q T ≡ true
  unfolding port_safe_from
  own-every T h = ap not (eq-false_of_not-eq-true none)
    where
      none : any_to (suc p.top) (λ t. leb T t && fails p t q) ≡ true → ⊥
      none e =
          let s = any_to_true (suc p.top) (λ t. leb T t && fails p t q) e in
          let t = (and-eq-true_iff (leb T s.0) _).0 s.2 in
          false≢true (sym (h s.0 (leb-true T s.0 t.0) (omega (arith, s.1))) ∙ t.1)

  own_at : (T t : ℕ) → port_safe_from p q T ≡ true → T ≤ t → t ≤ p.top → fails p t q ≡ false
  unfolding port_safe_from
  own_at T t e l m =
      eq-false_of_not-eq-true λ f. true≢false
      (sym (any_to_some (suc p.top) (λ t. leb T t && fails p t q) t (omega arith) ((and-eq-true_iff _ _).1 (le-leb T t l, f)))
      ∙ not-true _ e)

  -- it is from 1 to one above top, and the port fails at none from it to top
  pub own_positive : 1 ≤ port_margin_safe p q
  own_positive = rw own_of (smallest_positive (port_safe_from p q) p.top)

  pub own_le : port_margin_safe p q ≤ suc p.top
  own_le = rw own_of (smallest_le (port_safe_from p q) p.top)

  pub own_safe : (t : ℕ) → port_margin_safe p q ≤ t → t ≤ p.top → fails p t q ≡ false
  own_safe t l m =
      own_at (port_margin_safe p q) t (rw own_of (smallest-passes (port_safe_from p q) p.top (omega (arith, own_of)))) l m

  -- where the port fails at none from T to top, it is at most T
  pub own_most : (T : ℕ) → 1 ≤ T → ((t : ℕ) → T ≤ t → t ≤ p.top → fails p t q ≡ false) → T ≤ suc p.top → port_margin_safe p q ≤ T
  own_most T first safe within = go (dec_lt T (port_margin_safe p q))
    where
      go : Dec (T < port_margin_safe p q) → port_margin_safe p q ≤ T
      go (yes less) =
          absurd (false≢true
          (sym (smallest_below (port_safe_from p q) p.top T first (omega (arith, own_of))) ∙ own-every T safe))
      go (no l) = omega arith

  -- where it fails at T up to top, it is above T
  pub own_above : (T : ℕ) → T ≤ p.top → fails p T q ≡ true → T < port_margin_safe p q
  own_above T within e = go (dec_lt T (port_margin_safe p q))
    where
      go : Dec (T < port_margin_safe p q) → T < port_margin_safe p q
      go (yes l) = l
      go (no l) = absurd (false≢true (sym (own_safe T (omega arith) within) ∙ e))

module _ (p : Plan) where
  abbrev largest : ℕ
  largest = max_to port_slots (port_margin_safe p)

  largest_positive : 1 ≤ largest
  largest_positive = le_trans (own_positive p 0) (max_to_most port_slots (port_margin_safe p) 0 (omega arith))

  -- the plan's margin-safe duration is the largest of the ports' own
  pub largest-own : margin_safe p ≡ largest
  largest-own = margin_safe_of p ∙ go (dec_le largest p.top)
    where
      within : largest ≤ suc p.top
      within = max_to-least port_slots (port_margin_safe p) (suc p.top) (λ q _. own_le p q)

      safe : (t : ℕ) → largest ≤ t → t ≤ p.top → admissible p t ≡ true
      safe t l m =
          admissible-none p t (λ q slot. own_safe p q t (le_trans (max_to_most port_slots (port_margin_safe p) q slot) l) m)

      -- one that is below it leaves a port that fails later
      below : (t : ℕ) → 1 ≤ t → t < largest → safe_from p t ≡ false
      below t h less = eq-false_of_not-eq-true λ e.
          let s = max_to-at port_slots (port_margin_safe p) (omega (arith, h)) in
          let own = own_most p s.0 t h (λ u l m. none-fails p u (safe_at p t u e l m) s.0 s.1) (omega (arith, within)) in
          omega (arith, s.2, own)

      go : Dec (largest ≤ p.top) → smallest (safe_from p) p.top ≡ largest
      go (yes l) = smallest_is (safe_from p) p.top largest largest_positive l (safe_every p largest safe) below
      go (no more) =
          smallest-none (safe_from p) p.top (λ t h l. below t h (omega arith)) ∙ omega (arith, within)

-- as a port is followed down from top: it fails at none above below
pub record Lowered (p : Plan) (q floor below : ℕ) : Type 0 where
  pub least : floor ≤ suc below
  pub within : below ≤ p.top
  pub safe : (t : ℕ) → suc below ≤ t → t ≤ p.top → fails p t q ≡ false

pub lowered_start : (p : Plan) (q floor : ℕ) → floor ≤ suc p.top → Lowered p q floor p.top
lowered_start p q floor l = record { least = l; within = omega arith; safe = λ t h m. absurd (omega arith) }

module _ (p : Plan) (valid : valid_plan p ≡ true) {q floor below : ℕ} (first : 1 ≤ floor) (s : Lowered p q floor below) where
  -- at floor there is nothing further down
  pub lowered_floor : below < floor → suc below ≡ max floor (port_margin_safe p q)
  lowered_floor l = omega (arith, s.least, own_most p q (suc below) (omega arith) s.safe (omega (arith, s.within)))

  module _ (above : floor ≤ below) where
    -- it needs more than below: it fails there
    pub lowered_stops : below < need p q below → suc below ≡ max floor (port_margin_safe p q)
    lowered_stops l =
        omega (
          arith,
          own_most p q (suc below) (omega arith) s.safe (omega (arith, s.within)),
          own_above p q below s.within (need-fails p valid below q l),
        )

    -- it needs no more: it passes down to what it needs
    pub lowered_next : need p q below ≤ below → (m : ℕ) → suc m ≡ max floor (need p q below) → Lowered p q floor m
    lowered_next l m is = record { least = omega arith; within = omega (arith, s.within); safe = λ t h u. go t h u (dec_le t below) }
      where
        go : (t : ℕ) → suc m ≤ t → t ≤ p.top → Dec (t ≤ below) → fails p t q ≡ false
        go t h u (yes under) =
            fails_not p t q λ c.
            let busy = demand_pos p q below valid (omega (arith, first, above)) c in
            le_trans (workload_mono p q (demand_mono p q under))
            (enough p q (demand p q below) t (crossed_rate p valid q c) (omega (arith, need_some p q below busy, is)))
        go t h u (no over) = s.safe t (omega arith) u
