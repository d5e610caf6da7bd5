use mathlib.Core.Path.{sym, subst}
use Prim.Native.Nat.{ℕ, ◌+◌, ◌/◌, ◌^◌, ◌<◌}
use native.Mathlib.Omega.{arith}
use lib.Count.{count_trailing_zeros}
use Rattle.cqf.specs.Overflow.{most_bits}
use Rattle.questions.specs.FlowSet.{flow_bits}
use Rattle.questions.specs.laws.WordBits.{Counted, counted_start, counted_all, next_one, next_inside, counted_next, counted_most}
use Rattle.questions.specs.laws.FlowSets.{countable_each}
use Rattle.questions.proofs.set_demand.word_bits.Goals as goal

pub loop-rest-init : goal.loop-rest-init
loop-rest-init c = counted_start _ _ _

pub bits_at-bits-requires : goal.bits_at-bits-requires
bits_at-bits-requires c =
    let l = c.loop-rest in
    let s = c.requires in
    let small : c.args.word < 2 ^ 64 = omega arith in
    let some : 0 < l.rest = omega (arith, c.loop-rest-test.true) in
    let inside = next_inside l.invariant small some in
    (s.word_countable _ inside (next_one l.invariant small some), omega (arith, inside, s.word_slots_bound.0), s.word_slots_bound.1, s.word_slots_bound.2)

pub overflow_add-bits : goal.overflow_add-bits
overflow_add-bits c =
    let small : c.args.word < 2 ^ 64 = omega arith in
    let some : 0 < c.loop-rest.rest = omega (arith, c.loop-rest-test.true) in
    let s = c.requires in
    omega (arith, c.bits_at-bits.ensures, counted_most c.loop-rest.invariant small some most_bits (countable_each s.word_slots_bound.1 s.word_slots_bound.2 _ _ s.word_countable))

pub loop-rest-preserved : goal.loop-rest-preserved
loop-rest-preserved c =
    let a = c.args in
    let l = c.loop-rest in
    let small : a.word < 2 ^ 64 = omega arith in
    let some : 0 < l.rest = omega (arith, c.loop-rest-test.true) in
    let k = count_trailing_zeros 64 l.rest in
    subst
    (λ (n : ℕ). Counted (flow_bits a.lent.periods.now a.lent.counts.now a.lent.lengths.now a.lent.jitters.now a.extra a.over) a.word a.base (l.i + k + 1) (l.rest / 2 ^ k / 2) (l.bits + n))
    (sym c.bits_at-bits.ensures)
    (counted_next l.invariant small some)

pub returns : goal.returns
returns c = counted_all c.loop-rest.invariant (omega arith)
