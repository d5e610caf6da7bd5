-- The port that needs most, as it is looked for.
use Rattle.std.specs.Prelude.{◌≡◌, refl, ℕ, ◌+◌, ◌≤◌, ◌<◌, true, List}
use Rattle.std.proofs.Common.{sym, ap, ◌∙◌, arith}
use Rattle.std.proofs.Math.Decide.{dec_lt}
use Rattle.cqf.specs.Bounded.{max_to}
use Rattle.cqf.specs.Limits.{port_slots}
use Rattle.cqf.specs.Plan.{Plan, rate_of, blocking_of, extra_of}
use Rattle.cqf.specs.Condition.{fails}
use Rattle.cqf.specs.Need.{need_by, need, largest_need}
use Rattle.cqf.proofs.laws.Search.{need-fails}
use Rattle.questions.specs.PortSearch.{need_in, NeedsMost}
use Rattle.questions.specs.laws.Scratch.{Filled, filled_bits, filled-largest}
use Rattle.cqf.proofs.laws.Bounds.{max_to_most, max_to-next}

-- of the ports below q none needs more than the one in slot at, which needs most
pub record Neediest (needs : ℕ → ℕ) (q most at : ℕ) : Type 0 where
  pub slots : q ≤ port_slots
  pub slot : at < port_slots
  pub is : most ≡ max_to q needs
  pub here : 0 < most → needs at ≡ most

pub neediest_start : (needs : ℕ → ℕ) → Neediest needs 0 0 0
unfolding max_to
neediest_start needs = record { slots = omega arith; slot = omega arith; is = refl; here = λ l. absurd (omega arith) }

module _ {needs : ℕ → ℕ} {q most at : ℕ} (s : Neediest needs q most at) where
  module _ (l : q < port_slots) {needed : ℕ} (e : needed ≡ needs q) where
    -- the port in slot q needs more, or it does not
    pub neediest_more : most < needed → Neediest needs (q + 1) needed q
    neediest_more less =
        record { slots = omega arith; slot = l; is = omega (arith, s.is, e, max_to-next q needs); here = λ _. sym e }

    pub neediest_same : needed ≤ most → Neediest needs (q + 1) most at
    neediest_same less =
        record { slots = omega arith; slot = s.slot; is = omega (arith, s.is, e, max_to-next q needs); here = s.here }

  -- after the last port
  pub neediest_all : port_slots ≤ q → needs at ≡ max_to port_slots needs
  neediest_all l =
      let all : q ≡ port_slots = omega (arith, s.slots) in
      let largest : most ≡ max_to port_slots needs = s.is ∙ ap (λ (n : ℕ). max_to n needs) all in
      go largest (dec_lt 0 most)
    where
      go : most ≡ max_to port_slots needs → Dec (0 < most) → needs at ≡ max_to port_slots needs
      go e (yes some) = s.here some ∙ e
      go e (no none) = let h = max_to_most port_slots needs at s.slot in omega arith

  pub neediest_is : port_slots ≤ q → NeedsMost needs at most
  neediest_is l =
      let all : q ≡ port_slots = omega (arith, s.slots) in
      record { inside = s.slot; here = neediest_all l; most = s.is ∙ ap (λ (n : ℕ). max_to n needs) all }

-- where a port fails, the one that needs most fails
pub neediest_fails
    : {p : Plan} {out : List ℕ} {t at : ℕ}
    → Filled p out t
    → t < largest_need p t
    → at < port_slots
    → need_in p.guard p.rates p.blockings p.extras out at ≡ max_to port_slots (need_in p.guard p.rates p.blockings p.extras out)
    → fails p t at ≡ true
unfolding need
neediest_fails {p} {out} {t} {at} f less slot e =
    let most = filled-largest f e in
    let here = ap (need_by p.guard (rate_of p at) (blocking_of p at) (extra_of p at)) (filled_bits f at slot) in
    need-fails p f.valid t at (omega (arith, less, sym here ∙ most))
