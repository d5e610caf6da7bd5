-- `saved_size` meets its contract: a sum of few kinds, each of few bytes.
use Prim.Native.Nat.{ℕ, ◌*◌, ◌≤◌}
use mathlib.Core.Path.{◌≡◌, refl, ap, ◌∙◌}
use native.Mathlib.Omega.{arith}
use Rattle.cqf.specs.Bounded.{sum_to}
use Rattle.cqf.specs.Form.{Form}
use Rattle.cqf.specs.Limits.{flow_slots}
use Rattle.cqf.specs.Plan.{Plan}
use Rattle.cqf.proofs.laws.Bounds.{sum_to_most}
use Rattle.plan.specs.Answer.{form_of}
use Rattle.tables.specs.Lent.{plan_lent}
use Rattle.saving.specs.declared.kind.Kind.{Kind}
use Rattle.saving.specs.Slots.{kind_size, kinds_in, kind_at, SlotsInRange}
use Rattle.saving.specs.laws.Sizes.{most_size, sum_next}
use Rattle.saving.specs.laws.Whole.{kinds-few, kind_most, valid_range}
use Rattle.saving.proofs.whole.saved_size.Goals as goal

-- the sum so far is small
small
    : (form : Form) (p : Plan) (k n : ℕ)
    → SlotsInRange p.extras p.hops
    → k ≤ kinds_in form
    → n ≡ sum_to k (λ i. kind_size (kind_at form i) p)
    → n ≤ 6 * (flow_slots * most_size)
small form p k n range most is =
    omega (arith, is, most, kinds-few form, sum_to_most k (λ i. kind_size (kind_at form i) p) (flow_slots * most_size) (λ i l. kind_most (kind_at form i) p range))

pub loop-k-init : goal.loop-k-init
unfolding sum_to
loop-k-init c = refl

pub overflow_add-size : goal.overflow_add-size
overflow_add-size c =
    let a = c.args in
    let form = form_of a.form in
    let p = plan_lent a.held.lent in
    let here : c.slots_size-size.result ≡ kind_size (kind_at form c.loop-k.k) p = c.slots_size-size.ensures ∙ ap (λ (kind : Kind). kind_size kind p) c.kind_at.ensures in
    omega (arith, small form p c.loop-k.k c.loop-k.size (valid_range p a.held.valid) (omega (arith, c.kinds-k-end.ensures)) c.loop-k.invariant, here, kind_most (kind_at form c.loop-k.k) p (valid_range p a.held.valid))

pub loop-k-preserved : goal.loop-k-preserved
loop-k-preserved c =
    let a = c.args in
    let form = form_of a.form in
    let p = plan_lent a.held.lent in
    let here : c.slots_size-size.result ≡ kind_size (kind_at form c.loop-k.k) p = c.slots_size-size.ensures ∙ ap (λ (kind : Kind). kind_size kind p) c.kind_at.ensures in
    omega (arith, c.loop-k.invariant, here, sum_next c.loop-k.k (λ i. kind_size (kind_at form i) p))

pub returns : goal.returns
returns c =
    let a = c.args in
    let form = form_of a.form in
    let p = plan_lent a.held.lent in
    let all : c.loop-k.k ≡ kinds_in form = omega (arith, c.kinds-k-end.ensures) in
    c.loop-k.invariant ∙ ap (λ (n : ℕ). sum_to n (λ i. kind_size (kind_at form i) p)) all
