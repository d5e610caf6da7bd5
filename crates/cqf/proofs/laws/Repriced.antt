-- The slacks of a plan in which one flow's frames have another length.
use Rattle.std.specs.Prelude.{◌≡◌, refl, Bool, true, false, List, ℕ, suc, ◌+◌, ◌*◌, ◌≤◌, ◌<◌, leb, ℤ, pos, ◌-ℤ◌, length, get_or}
use Rattle.std.proofs.Common.{sym, ap, ap₂, ◌∙◌, mul_comm, mul_assoc, arith, leb-true}
use Rattle.std.proofs.Math.Bool.{and-eq-true_iff}
use Rattle.std.proofs.Math.IntN.{sub_ℕ}
use Rattle.cqf.specs.Limits.{port_slots, flow_slots, port_ok}
use Rattle.cqf.specs.Plan.{Plan, route_of, crosses, port_in, valid_plan}
use Rattle.cqf.specs.Port.{capacity, workload}
use Rattle.cqf.specs.Condition.{frames, demand, crossed, slack}
use Rattle.cqf.specs.Reprice.{with_length, repriced}
use Rattle.cqf.proofs.laws.Lists.{elem_index, every-at}
use Rattle.cqf.proofs.laws.Valid.{crosses_held}
use Rattle.cqf.proofs.laws.Differences.{sub_less}
use Rattle.cqf.proofs.laws.Replaced.{replaced_length, replaced_here, replaced_other}
use Rattle.cqf.proofs.laws.Reprice.{crossed_same, capacity_same, workload_same, demand_longer, demand-apart}

-- a slack by what the port can send and must send
pub slack_is : (p : Plan) (q T : ℕ) → slack p q T ≡ sub_ℕ (capacity p q T) (workload p q (demand p q T))
unfolding slack
slack_is p q T = refl

-- the slack with that length, by the port's own capacity and the demand with it
pub slack_by
    : (p : Plan) (f bytes q T : ℕ) {bits : ℕ}
    → demand (with_length p f bytes) q T ≡ bits
    → slack (with_length p f bytes) q T ≡ sub_ℕ (capacity p q T) (workload p q bits)
slack_by p f bytes q T e =
    slack_is (with_length p f bytes) q T
    ∙ ap₂ sub_ℕ (capacity_same p f bytes q T) (ap (workload (with_length p f bytes) q) e ∙ workload_same p f bytes q _)

-- 1,000 times eight bits a byte
thousands : (n more : ℕ) → 1000 * (8 * (more * n)) ≡ more * (8000 * n)
thousands n more = omega (arith, mul_comm more (8000 * n), mul_assoc 8000 n more, mul_comm n more)

-- work of more bits
pub workload_more : (p : Plan) (q a b : ℕ) → workload p q (a + b) ≡ workload p q a + 1000 * b
unfolding workload
workload_more p q a b = omega arith

module _ (p : Plan) (f : ℕ) (slot : f < flow_slots) (q T : ℕ) where
  -- each byte more takes 8,000 times the flow's frames off the slack of a port that it crosses
  pub slack_longer
      : (bytes more : ℕ)
      → f < length p.lengths
      → crosses p f q ≡ true
      → slack (with_length p f (bytes + more)) q T ≡ slack (with_length p f bytes) q T -ℤ pos (more * (8000 * frames p f T))
  slack_longer bytes more l e =
      let D = demand (with_length p f bytes) q T in
      slack_by p f (bytes + more) q T (demand_longer p f slot q T bytes more l e)
      ∙ ap (sub_ℕ (capacity p q T)) (workload_more p q D _ ∙ ap (λ (n : ℕ). workload p q D + n) (thousands (frames p f T) more))
      ∙ sym (sub_less (capacity p q T) (workload p q D) (more * (8000 * frames p f T)))
      ∙ ap (λ (z : ℤ). z -ℤ pos (more * (8000 * frames p f T))) (sym (slack_by p f bytes q T refl))

  -- that of any other port is the plan's
  pub slack-apart : (bytes : ℕ) → crosses p f q ≡ false → slack (with_length p f bytes) q T ≡ slack p q T
  slack-apart bytes e = slack_by p f bytes q T (demand-apart p f slot q T bytes e) ∙ sym (slack_is p q T)

-- a route names ports of the plan alone
pub crosses_slot : (p : Plan) → valid_plan p ≡ true → (f q : ℕ) → f < flow_slots → crosses p f q ≡ true → q < port_slots
crosses_slot p valid f q slot e =
    let at = elem_index (suc q) (route_of p f) e in
    let port = every-at (port_in p.rates) (route_of p f) (crosses_held p valid f q slot e).in_plan at.0 at.1 in
    let ok : port_ok (suc q) ≡ true = ((and-eq-true_iff (port_ok (suc q)) _).0 (rw at.2 at port)).0 in
    leb-true (suc q) port_slots ((and-eq-true_iff (leb 1 (suc q)) (leb (suc q) port_slots)).0 ok).1

-- a list that holds the slack at T of each crossed port
abbrev pub HoldsSlacks : Plan → (T : ℕ) → List ℤ → Type 0
HoldsSlacks p T out = (q : ℕ) → q < port_slots → crossed p q ≡ true → get_or out q (pos 0) ≡ slack p q T

module _ (p : Plan) (T f bytes : ℕ) (out : List ℤ) where
  -- the list stays as long, has the slack of each port that the flow crosses, and every other number as it was
  pub repriced_length : length (repriced p T f bytes out) ≡ length out
  unfolding repriced
  repriced_length = replaced_length _ _ out

  pub repriced_kept : (q : ℕ) → crosses p f q ≡ false → get_or (repriced p T f bytes out) q (pos 0) ≡ get_or out q (pos 0)
  unfolding repriced
  repriced_kept q e = replaced_other _ _ out q e

  pub repriced_here
      : (q : ℕ)
      → q < length out
      → crosses p f q ≡ true
      → get_or (repriced p T f bytes out) q (pos 0) ≡ slack (with_length p f bytes) q T
  unfolding repriced
  repriced_here q l e = replaced_here _ _ out q l e

  -- where it held the slacks of the plan's crossed ports it holds those of the plan with that length
  pub holds_repriced
      : f < flow_slots
      → port_slots ≤ length out
      → HoldsSlacks p T out
      → HoldsSlacks (with_length p f bytes) T (repriced p T f bytes out)
  holds_repriced slot long held q l some = go (crosses p f q) refl
    where
      go : (b : Bool) → crosses p f q ≡ b → get_or (repriced p T f bytes out) q (pos 0) ≡ slack (with_length p f bytes) q T
      go true e = repriced_here q (omega arith) e
      go false e =
          repriced_kept q e ∙ held q l (sym (crossed_same p f bytes q) ∙ some) ∙ sym (slack-apart p f slot q T bytes e)
