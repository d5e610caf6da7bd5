-- `end_of` meets its contract, by whether the byte where it is belongs to the kind.
use Rattle.std.proofs.Common.{sym, ◌∙◌, arith}
use Rattle.words.specs.laws.Run.{run_past, run-stops, run_goes}
use Rattle.words.proofs.runs.end_of.Goals as goal

pub returns-then-not-is_kind : goal.returns-then-not-is_kind
returns-then-not-is_kind g c test same =
    omega (
      arith,
      run-stops test c.args.text.now c.loop-i.i (omega arith) (sym (same _ _ c.is_kind.ensures) ∙ c.if-not-is_kind.true),
      c.loop-i.invariant test same,
    )

pub loop-i-preserved : goal.loop-i-preserved
loop-i-preserved g c test same =
    sym (run_goes test c.args.text.now c.loop-i.i (omega arith) (sym (same _ _ c.is_kind.ensures) ∙ c.if-not-is_kind.false))
    ∙ c.loop-i.invariant test same

pub returns : goal.returns
returns g c test same =
    grind (arith, c.loop-i.invariant test same, run_past test c.args.text.now c.loop-i.i (omega arith), run_past test c.args.text.now c.args.at)
