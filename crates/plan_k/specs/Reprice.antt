-- K with another frame length for one of its flows, asked of the planner that holds the plan in K's bytes.
use Rattle.std.specs.Prelude.{◌≡◌, List, [], ◌∷◌, map, ℕ, ◌-◌, ◌<◌, ℤ, pos, negsuc, replicate}
use Rattle.std.proofs.Common.{ap, ◌∙◌, lit≤}
use Rattle.std.proofs.Math.IntN.{sub_ℕ}
use Rattle.cqf.specs.Bounded.{sum_to, elem, sublist}
use Rattle.cqf.specs.Plan.{no_plan, crosses}
use Rattle.cqf.specs.Ceil.{ceil_div}
use Rattle.cqf.specs.Port.{wire_bits, window, capacity, workload}
use Rattle.cqf.specs.Widened.{widened}
use Rattle.cqf.specs.Condition.{begun, frames}
use Rattle.cqf.specs.Reprice.{with_length, replaced, repriced}
use Rattle.cqf.proofs.laws.Few.{demand_in}
use Rattle.cqf.proofs.worked.K.{plan_k, few_k}
use Rattle.plan_reading.specs.Reading.{loose}
use Rattle.answers.specs.Answer.{Answer, result, refusal}
use Rattle.questions.specs.Reprice.{change_answer, reprice_answer, written_over, reprice_leaves}
use Rattle.sequences.specs.Calls.{Call, load, after}
use Rattle.plan_k.specs.Few.{in_range, reprice_few, reprice_leaves_few, repriced-few}
use Rattle.plan_k.specs.PlanK.{bytes_k, after_k, valid_k}

-- the calls before
abbrev loaded : List Call
loaded = load loose bytes_k ∷ []

-- a list of so many numbers, all -42
marked : ℕ → List ℤ
marked n = replicate n (negsuc 41)

-- a duration, a flow, its length, how many numbers are lent, and the answer
record Line : Type 0 where
  duration : ℕ
  flow : ℕ
  bytes : ℕ
  size : ℕ
  answer : Answer (Unit {0})

at : ℕ → ℕ → ℕ → ℕ → Answer (Unit {0}) → Line
at T n bytes size answer = record { duration = T; flow = n; bytes = bytes; size = size; answer = answer }

table : List Line
unfolding at
table =
    at 100000 1 231 66 (result tt)
    ∷ at 100000 2 705 64 (result tt)
    ∷ at 120000 2 500 64 (result tt)
    ∷ at 0 0 0 0 (refusal 10 (0 ∷ []))
    ∷ at 1000001 1 231 64 (refusal 10 (0 ∷ []))
    ∷ at 100000 0 0 63 (refusal 11 (0 ∷ []))
    ∷ at 100000 3 63 64 (refusal 17 (0 ∷ []))
    ∷ at 100000 1 2001 64 (refusal 17 (0 ∷ []))
    ∷ at 100000 0 231 64 (refusal 29 (0 ∷ []))
    ∷ at 100000 3 231 64 (refusal 29 (0 ∷ []))
    ∷ at 100000 257 231 64 (refusal 29 (0 ∷ []))
    ∷ []

-- each answer of the table
answers_k
    : map (λ (r : Line). at r.duration r.flow r.bytes r.size (reprice_answer (after loaded) r.duration r.flow r.bytes (marked r.size))) table
    ≡ table
unfolding at table marked plan_k no_plan
answers_k = simp (after_k, reprice_few few_k valid_k)

-- what is left in a list of so many, and of a flow of K
leaves
    : (T flow bytes size : ℕ)
    → reprice_leaves (after loaded) T flow bytes (marked size)
    ≡ written_over (repriced plan_k T (flow - 1) bytes (marked size)) (marked size) (in_range plan_k T (change_answer plan_k flow bytes (marked size)))
leaves T flow bytes size =
    ap (λ p. reprice_leaves p T flow bytes (marked size)) after_k ∙ reprice_leaves_few few_k valid_k T flow bytes (marked size)

abbrev slack_with : (T f bytes q : ℕ) → ℤ
slack_with T f bytes q =
    let p = with_length plan_k f bytes in sub_ℕ (capacity p q T) (workload p q (demand_in 2 p q T))

changed
    : (T flow bytes size : ℕ)
    → flow - 1 < 2
    → reprice_leaves (after loaded) T flow bytes (marked size)
    ≡ written_over (replaced (crosses plan_k (flow - 1)) (slack_with T (flow - 1) bytes) (marked size)) (marked size) (in_range plan_k T (change_answer plan_k flow bytes (marked size)))
changed T flow bytes size less =
    leaves T flow bytes size
    ∙ ap (λ list. written_over list (marked size) (in_range plan_k T (change_answer plan_k flow bytes (marked size)))) (repriced-few few_k valid_k T (flow - 1) bytes (marked size) less)

-- port 1 has its slack with that length, and every other number remains, past the 64th too; a refusal leaves the list
lists_k
    : (reprice_leaves (after loaded) 100000 1 231 (marked 66) ≡ pos 2792000 ∷ marked 65)
    × (reprice_leaves (after loaded) 100000 2 705 (marked 64) ≡ pos 2000000 ∷ marked 63)
    × (reprice_leaves (after loaded) 120000 2 500 (marked 64) ≡ negsuc 519999 ∷ marked 63)
    × (reprice_leaves (after loaded) 100000 1 231 (marked 63) ≡ marked 63)
    × (reprice_leaves (after loaded) 100000 3 231 (marked 64) ≡ marked 64)
unfolding marked plan_k no_plan replaced with_length elem sublist capacity window workload demand_in sum_to frames begun widened ceil_div wire_bits
lists_k = (
  changed 100000 1 231 66 (lit≤ tt),
  changed 100000 2 705 64 (lit≤ tt),
  changed 120000 2 500 64 (lit≤ tt),
  leaves 100000 1 231 63,
  leaves 100000 3 231 64,
)
