-- The searches port by port: what their loops keep, and what they give where they end.
use Rattle.std.specs.Prelude.{◌≡◌, refl, true, false, ℕ, suc, max, ◌+◌, ◌-◌, ◌%◌, ◌≤◌, ◌<◌}
use Rattle.std.proofs.Common.{sym, ap, ◌∙◌, le_refl, add-one, arith}
use Rattle.std.proofs.lemmas.Bool.{false≢true}
use Rattle.std.proofs.Math.Decide.{ℕ_discrete}
use Rattle.cqf.specs.Bounded.{max_to}
use Rattle.cqf.specs.Limits.{port_slots}
use Rattle.cqf.specs.Plan.{Plan, valid_plan}
use Rattle.cqf.specs.Condition.{fails, least, margin_safe}
use Rattle.cqf.specs.PortSteps.{PortSteps, begin, port_margin_safe}
use Rattle.cqf.proofs.laws.Bounds.{max_to_most, max_to-least, max_to-at, max_to-next}
use Rattle.cqf.proofs.laws.Need.{admissible-none}
use Rattle.cqf.proofs.laws.PortSteps.{steps_then, steps_from, steps_least, steps_above}
use Rattle.cqf.proofs.laws.PortMarginSafe.{own_positive, own_le, largest-own}
use Rattle.cqf.proofs.laws.Ranges.{top_positive}
use Rattle.questions.specs.PortSearch.{Raised}

-- up: t was reached by steps of single ports
pub record Reached (p : Plan) (t : ℕ) : Type 0 where
  pub valid : valid_plan p ≡ true
  pub steps : PortSteps p 1 t
  pub within : t ≤ p.top

pub reached_start : (p : Plan) → valid_plan p ≡ true → Reached p 1
reached_start p valid = record { valid = valid; steps = begin; within = top_positive p valid }

module _ {p : Plan} {t : ℕ} (s : Reached p t) where
  pub reached_first : 1 ≤ t
  reached_first = steps_from p s.valid (le_refl 1) s.steps

  -- no port fails: this is the least duration
  pub reached_least : ((q : ℕ) → q < port_slots → fails p t q ≡ false) → t ≡ least p
  reached_least none = sym (steps_least p s.valid s.steps s.within (admissible-none p t none))

  -- a port went on from there: up to top, or above it
  module _ {q u : ℕ} (r : Raised p q t u) where
    -- one that fails there got further
    pub reached_further : fails p t q ≡ true → t < u
    reached_further e = go (ℕ_discrete u t)
      where
        from : t ≤ u
        from = steps_from p s.valid reached_first r.steps

        go : Dec (u ≡ t) → t < u
        go (yes same) =
            let passes = r.passes (omega (arith, same, s.within)) in
            absurd (false≢true (sym (rw same at passes) ∙ e))
        go (no further) = omega (arith, from)

    -- one that got no further passes there
    pub reached_stays : u ≤ t → fails p t q ≡ false
    reached_stays l =
        let same : u ≡ t = omega (arith, steps_from p s.valid reached_first r.steps) in
        rw same at (r.passes (omega (arith, same, s.within)))

    pub reached_next : u ≤ p.top → Reached p u
    reached_next l = record { valid = s.valid; steps = steps_then s.steps r.steps; within = l }

    pub reached_above : p.top < u → p.top + 1 ≡ least p
    reached_above l = add-one _ ∙ sym (steps_above p s.valid (steps_then s.steps r.steps) l)

-- so many ports, taken in turn up to the one before q, pass at t
pub record InTurn (p : Plan) (t q passed : ℕ) : Type 0 where
  pub slot : q < port_slots
  pub none : (k : ℕ) → k < port_slots → (q + 63 - k) % 64 < passed → fails p t k ≡ false

pub turn_start : (p : Plan) (t q : ℕ) → q < port_slots → InTurn p t q 0
turn_start p t q slot = record { slot = slot; none = λ k h l. absurd (omega arith) }

module _ {p : Plan} {t q passed : ℕ} (s : InTurn p t q passed) where
  pub turn_next : fails p t q ≡ false → InTurn p t ((q + 1) % 64) (passed + 1)
  turn_next e = record { slot = omega arith; none = λ k h l. go k (ℕ_discrete k q) h l }
    where
      go : (k : ℕ) → Dec (k ≡ q) → k < port_slots → ((q + 1) % 64 + 63 - k) % 64 < passed + 1 → fails p t k ≡ false
      go k (yes d) h l = rw d e
      go k (no d) h l = s.none k h (omega (arith, s.slot))

  pub turn_all : port_slots ≤ passed → (k : ℕ) → k < port_slots → fails p t k ≡ false
  turn_all l k h = s.none k h (omega arith)

-- down: the largest of the margin-safe durations of the ports below q
pub record SafeTo (p : Plan) (q safe : ℕ) : Type 0 where
  pub slots : q ≤ port_slots
  pub is : safe ≡ max 1 (max_to q (port_margin_safe p))

pub safe_start : (p : Plan) → SafeTo p 0 1
unfolding max_to
safe_start p = record { slots = omega arith; is = refl }

module _ {p : Plan} {q safe : ℕ} (s : SafeTo p q safe) where
  pub safe_first : 1 ≤ safe
  safe_first = omega (arith, s.is)

  pub safe_within : safe ≤ suc p.top
  safe_within = omega (arith, s.is, max_to-least q (port_margin_safe p) (suc p.top) (λ k _. own_le p k))

  pub safe_next : {r : ℕ} → q < port_slots → r ≡ max safe (port_margin_safe p q) → SafeTo p (q + 1) r
  safe_next l e = record { slots = omega arith; is = omega (arith, s.is, e, max_to-next q (port_margin_safe p)) }

  -- after the last port
  pub safe_all : port_slots ≤ q → 1 ≤ p.top → safe ≡ margin_safe p
  safe_all l top =
      let all : q ≡ port_slots = omega (arith, s.slots) in
      let some = max_to_most port_slots (port_margin_safe p) 0 (omega arith) in
      omega (arith, s.is, ap (λ (n : ℕ). max_to n (port_margin_safe p)) all, largest-own p, some, own_positive p 0)

  -- above top: no port's can be more
  pub safe_above : p.top < safe → 1 ≤ p.top → safe ≡ margin_safe p
  safe_above l top =
      let at = max_to-at q (port_margin_safe p) (omega (arith, s.is)) in
      let most = max_to_most port_slots (port_margin_safe p) at.0 (omega (arith, at.1, s.slots)) in
      let all = max_to-least port_slots (port_margin_safe p) (suc p.top) (λ k _. own_le p k) in
      omega (arith, s.is, safe_within, largest-own p, at.2, most, all)
