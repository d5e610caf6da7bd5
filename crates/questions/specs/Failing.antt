-- The failing ports as a set of bits, by the columns of a plan, and as the lowest and how many.
use Rattle.std.specs.Prelude.{◌≡◌, Bool, cond, List, ℕ, ◌^◌, get_or}
use Rattle.cqf.specs.Bounded.{sum_to, tabulate}
use Rattle.cqf.specs.Limits.{port_slots}
use Rattle.cqf.specs.Plan.{Plan}
use Rattle.cqf.specs.Port.{fails_by_of}
use Rattle.cqf.specs.Condition.{demand, failing, lowest_failing}

-- bit q stands for the port in slot q
unfoldable pub set_to : ℕ → (ℕ → Bool) → ℕ
unfolding sum_to
set_to n b = sum_to n (λ q. cond (b q) (2 ^ q) 0)

-- whether the port in slot q fails, by the columns
abbrev pub fails_in : (rates blockings extras : List ℕ) → ℕ → List ℕ → ℕ → Bool
fails_in rates blockings extras window demands q =
    fails_by_of (get_or rates q 0) (get_or blockings q 0) (get_or extras q 0) window (get_or demands q 0)

-- the lowest port that fails at T, how many fail, and each port's demand there
pub record FailingAt (p : Plan) (T port count : ℕ) (out : List ℕ) : Type 0 where
  pub lowest : port ≡ lowest_failing p T
  pub many : count ≡ failing p T
  pub demands : out ≡ tabulate port_slots (λ q. demand p q T)
