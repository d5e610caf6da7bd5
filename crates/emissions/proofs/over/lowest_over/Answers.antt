use mathlib.Core.Path.{◌≡◌, sym, ◌∙◌}
use native.Mathlib.Omega.{arith}
use borrow.Author.Count.{below_more}
use Rattle.cqf.specs.Limits.{port_slots}
use Rattle.emissions.specs.laws.Hops.{lowest_is, lowest_end}
use Rattle.emissions.proofs.over.lowest_over.Goals as goal

pub loop-r-init : goal.loop-r-init
loop-r-init c = λ j l. absurd (omega arith)

pub port_overruns-requires : goal.port_overruns-requires
port_overruns-requires c = (c.requires.0, c.requires.1 c.loop-r.r (omega arith))

pub returns-then-port_overruns : goal.returns-then-port_overruns
returns-then-port_overruns c =
    (omega arith, lowest_is port_slots _ c.loop-r.r (omega arith) (sym c.port_overruns.ensures ∙ c.if-port_overruns.true) c.loop-r.invariant)

pub loop-r-preserved : goal.loop-r-preserved
loop-r-preserved c = below_more _ _ c.loop-r.invariant (sym c.port_overruns.ensures ∙ c.if-port_overruns.false)

pub returns : goal.returns
returns c =
    let all : c.loop-r.r ≡ port_slots = omega arith in
    lowest_end port_slots _ (rw all at c.loop-r.invariant)
