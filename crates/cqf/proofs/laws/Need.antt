-- The duration that a port needs for the bits of its demand, and what it says of the durations around it.
use Rattle.std.specs.Prelude.{◌≡◌, true, false, ℕ, ◌+◌, ◌-◌, ◌*◌, ◌≤◌, ◌<◌, ltb}
use Rattle.std.proofs.Common.{sym, ◌∙◌, mul_comm, mul-le-mul_right, le_trans, arith, eq-eqb, ltb-true, lt-ltb}
use Rattle.std.proofs.lemmas.Bool.{false≢true}
use Rattle.std.proofs.Math.Bool.{and-eq-true_iff}
use mathlib.Mathlib.Data.Bool.Basic.{eq-false_of_not-eq-true}
use Rattle.std.proofs.Math.Decide.{dec_lt}
use Rattle.cqf.specs.Limits.{port_slots}
use Rattle.cqf.specs.Plan.{Plan, rate_of}
use Rattle.cqf.specs.Ceil.{ceil_div}
use Rattle.cqf.specs.Port.{window, capacity, workload}
use Rattle.cqf.specs.Condition.{demand, crossed, fails, failing, admissible}
use Rattle.cqf.specs.Need.{need}
use Rattle.cqf.proofs.laws.Bounded.{cond_some, count_to_none}
use Rattle.cqf.proofs.laws.Ceil.{ceil_covers, ceil_least, ceil_positive}
use Rattle.cqf.proofs.laws.Condition.{workload_mono, none-fails}
use Rattle.cqf.proofs.laws.Monotone.{demand_mono}

-- the least duration in which the port in slot q can send so many bits, where it has any to send
unfoldable pub need_for : Plan → ℕ → ℕ → ℕ
unfolding workload ceil_div
need_for p q bits = 2 * p.guard + ceil_div (workload p q bits) (rate_of p q)

-- what a port with a demand needs; one without needs nothing
pub need_some : (p : Plan) (q T : ℕ) → 0 < demand p q T → need p q T ≡ need_for p q (demand p q T)
unfolding need need_for workload
need_some p q T l = rw (lt-ltb 0 (demand p q T) l)

pub need_busy : (p : Plan) (q T : ℕ) → 0 < need p q T → 0 < demand p q T
unfolding need
need_busy p q T l = ltb-true 0 (demand p q T) (cond_some (ltb 0 (demand p q T)) _ l)

-- bits to send are work to do
pub workload_positive : (p : Plan) (q : ℕ) {bits : ℕ} → 0 < bits → 0 < workload p q bits
unfolding workload
workload_positive p q l = omega arith

-- a duration is enough exactly where it is no shorter than what is needed
pub enough : (p : Plan) (q bits t : ℕ) → 0 < rate_of p q → need_for p q bits ≤ t → workload p q bits ≤ capacity p q t
unfolding need_for capacity window
enough p q bits t h l =
    le_trans
    (ceil_covers (workload p q bits) h)
    (rw (mul_comm (rate_of p q)) (mul-le-mul_right (rate_of p q) (omega arith)))

pub needed : (p : Plan) (q bits t : ℕ) → 0 < rate_of p q → 0 < workload p q bits → workload p q bits ≤ capacity p q t → need_for p q bits ≤ t
unfolding need_for capacity window
needed p q bits t h some l =
    omega (
      arith,
      ceil_least (workload p q bits) (t - 2 * p.guard) h (rw (mul_comm (rate_of p q)) at l),
      ceil_positive some h,
    )

-- a port fails exactly where it is crossed and has more to send than it can
pub fails-over : (p : Plan) (T q : ℕ) → crossed p q ≡ true → capacity p q T < workload p q (demand p q T) → fails p T q ≡ true
unfolding fails
fails-over p T q c l = (and-eq-true_iff _ _).1 (c, lt-ltb _ _ l)

pub fails-crossed : (p : Plan) (T q : ℕ) → fails p T q ≡ true → crossed p q ≡ true
unfolding fails
fails-crossed p T q e = ((and-eq-true_iff _ _).0 e).0

pub over_of_fails : (p : Plan) (T q : ℕ) → fails p T q ≡ true → capacity p q T < workload p q (demand p q T)
unfolding fails
over_of_fails p T q e = ltb-true _ _ ((and-eq-true_iff (crossed p q) _).0 e).1

-- it does not fail where all of its demand fits, when it is crossed
pub fails_not : (p : Plan) (T q : ℕ) → (crossed p q ≡ true → workload p q (demand p q T) ≤ capacity p q T) → fails p T q ≡ false
fails_not p T q fits =
    eq-false_of_not-eq-true (λ e. omega (arith, fits (fails-crossed p T q e), over_of_fails p T q e))

pub fits : (p : Plan) (T q : ℕ) → crossed p q ≡ true → fails p T q ≡ false → workload p q (demand p q T) ≤ capacity p q T
fits p T q c e = go (dec_lt (capacity p q T) (workload p q (demand p q T)))
  where
    go : Dec (capacity p q T < workload p q (demand p q T)) → workload p q (demand p q T) ≤ capacity p q T
    go (yes over) = absurd (false≢true (sym e ∙ fails-over p T q c over))
    go (no l) = omega arith

-- a duration is admissible exactly where no port fails
pub admissible-none : (p : Plan) (T : ℕ) → ((q : ℕ) → q < port_slots → fails p T q ≡ false) → admissible p T ≡ true
unfolding admissible failing
admissible-none p T h = eq-eqb _ 0 (count_to_none port_slots (fails p T) h)

pub not_admissible : (p : Plan) (T q : ℕ) → q < port_slots → fails p T q ≡ true → admissible p T ≡ false
not_admissible p T q l e =
    eq-false_of_not-eq-true (λ a. false≢true (sym (none-fails p T a q l) ∙ e))

-- up: where a port fails at T, it fails at each duration from T up to what it needs
pub jump_up : (p : Plan) (T t q : ℕ) → 0 < rate_of p q → fails p T q ≡ true → T ≤ t → t < need_for p q (demand p q T) → fails p t q ≡ true
jump_up p T t q h e l less = fails-over p t q (fails-crossed p T q e) (over (dec_lt _ _))
  where
    over : Dec (capacity p q t < workload p q (demand p q t)) → capacity p q t < workload p q (demand p q t)
    over (yes o) = o
    over (no n) =
        let more : workload p q (demand p q T) ≤ workload p q (demand p q t) = workload_mono p q (demand_mono p q l) in
        let at-T = over_of_fails p T q e in
        absurd (omega (arith, needed p q (demand p q T) t h (omega arith) (omega arith)))

-- down: where no crossed port needs more than t for its demand at T, no port fails at t nor at any duration from t to T
pub jump_down
    : (p : Plan) (T t : ℕ)
    → ((q : ℕ) → q < port_slots → crossed p q ≡ true → (0 < rate_of p q) × (need_for p q (demand p q T) ≤ t))
    → t ≤ T
    → admissible p t ≡ true
jump_down p T t h l =
    admissible-none p t λ q k. fails_not p t q λ c.
    le_trans (workload_mono p q (demand_mono p q l)) (enough p q (demand p q T) t (h q k c).0 (h q k c).1)
