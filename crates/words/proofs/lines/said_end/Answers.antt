-- `said_end` meets its contract, by whether a carriage return stands before the line's end.
use Rattle.std.proofs.Common.{arith}
use Rattle.std.proofs.Math.ListN.{get_or-eq_default}
use Rattle.words.specs.laws.Lines.{said_here, said_back}
use Rattle.words.proofs.lines.said_end.Goals as goal
use Rattle.words.proofs.lines.said_end.Goals.{else-at-stop-via-then-at-stop+then-stop-text+then-text-stop-eq-LF+else-text-stop-eq-CR, else-at-stop-via-then-at-stop+then-stop-text+else-text-stop-eq-LF, else-at-stop-via-then-at-stop+else-stop-text, else-at-stop-via-else-at-stop}

pub returns-then-text-stop-eq-CR : goal.returns-then-text-stop-eq-CR
returns-then-text-stop-eq-CR c =
    said_back c.args.text.now c.args.at c.plain_end-stop.ensures c.if-at-stop.true c.if-text-stop-eq-LF.true c.if-text-stop-eq-CR.true

pub returns : goal.returns
returns c =
    said_here c.args.text.now c.args.at c.plain_end-stop.ensures (λ more feed back.
    elim c.else-at-stop.branch [
      | else-at-stop-via-then-at-stop+then-stop-text+then-text-stop-eq-LF+else-text-stop-eq-CR w ↦ w.if-text-stop-eq-CR.false back
      | else-at-stop-via-then-at-stop+then-stop-text+else-text-stop-eq-LF w ↦ w.if-text-stop-eq-LF.false feed
      | else-at-stop-via-then-at-stop+else-stop-text w ↦
          absurd (omega (arith, get_or-eq_default c.args.text.now 0 {n = c.plain_end-stop.result} (omega arith)))
      | else-at-stop-via-else-at-stop w ↦ absurd (omega arith)
    ])
