-- `questions::set_demand::set_demand` meets its contract.
use mathlib.Core.Path.{ap, ap₂, ◌∙◌}
use Prim.Native.Nat.{ℕ, ◌+◌, ◌≤◌}
use native.Mathlib.Omega.{arith}
use Rattle.cqf.specs.Overflow.{most_widened}
use Rattle.questions.specs.FlowSet.{flow_bits, set_bits}
use Rattle.questions.specs.laws.FlowSets.{countable_word}
use Rattle.questions.proofs.set_demand.set_demand.Goals as goal

pub overflow_add-result : goal.overflow_add-result
overflow_add-result c =
    let s = c.requires.set_countable in
    let few = c.requires.extra_le_max_extra.0 in
    let short : c.widened-over.result ≤ most_widened = omega (arith, c.widened-over.ensures, c.requires.extra_le_max_extra.1) in
    omega (arith, c.word_bits-first.ensures, countable_word few short _ _ s.first, c.word_bits-second.ensures, countable_word few short _ _ s.second)

pub overflow_add-result-2 : goal.overflow_add-result-2
overflow_add-result-2 c =
    let s = c.requires.set_countable in
    let few = c.requires.extra_le_max_extra.0 in
    let short : c.widened-over.result ≤ most_widened = omega (arith, c.widened-over.ensures, c.requires.extra_le_max_extra.1) in
    omega (arith, c.word_bits-first.ensures, countable_word few short _ _ s.first, c.word_bits-second.ensures, countable_word few short _ _ s.second, c.word_bits-third.ensures, countable_word few short _ _ s.third)

pub overflow_add-result-3 : goal.overflow_add-result-3
overflow_add-result-3 c =
    let s = c.requires.set_countable in
    let few = c.requires.extra_le_max_extra.0 in
    let short : c.widened-over.result ≤ most_widened = omega (arith, c.widened-over.ensures, c.requires.extra_le_max_extra.1) in
    omega (arith, c.word_bits-first.ensures, countable_word few short _ _ s.first, c.word_bits-second.ensures, countable_word few short _ _ s.second, c.word_bits-third.ensures, countable_word few short _ _ s.third, c.word_bits-fourth.ensures, countable_word few short _ _ s.fourth)

pub returns : goal.returns
unfolding set_bits
returns c =
    let a = c.args in
    ap₂ (λ (a b : ℕ). a + b)
    (ap₂ (λ (a b : ℕ). a + b)
    (ap₂ (λ (a b : ℕ). a + b) c.word_bits-first.ensures c.word_bits-second.ensures)
    c.word_bits-third.ensures)
    c.word_bits-fourth.ensures
    ∙ ap (λ (n : ℕ). set_bits (flow_bits a.lent.periods.now a.lent.counts.now a.lent.lengths.now a.lent.jitters.now a.extra n) a.set)
    c.widened-over.ensures
