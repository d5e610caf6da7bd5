-- A plan that is held is valid.
use Rattle.std.proofs.Common.{ap, subst, Some}
use Rattle.loading.specs.Answer.{load_of}
use Rattle.console.specs.{LoadedInput}
use Rattle.console.specs.laws.Held.{held_valid, held_short}
use Rattle.console.proofs.held_of.Goals as goal

pub invariant_of-result : goal.invariant_of-result
invariant_of-result c =
    let outcome = c.in-Some.outcome in
    let loaded : LoadedInput (Some outcome) = subst LoadedInput c.in-Some.is c.requires in
    let held = ap load_of c.in-Ok.is in
    record { valid = held_valid outcome loaded held; short = held_short outcome loaded held }
