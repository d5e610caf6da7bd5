-- `put_clocks` meets its contract, by whether the clocks are equal.
use Rattle.std.proofs.Common.{[], not, sym, ap, ◌∙◌}
use Rattle.cqf.specs.Plan.{clocks_equal}
use Rattle.numbers.specs.Clock.{clock_of}
use Rattle.plan_text.specs.Print.{clocks_line}
use Rattle.tables.specs.Columns.{columns}
use Rattle.text_writing.specs.laws.Lines.{puts_no_line, puts_line}
use Rattle.text_writing.specs.laws.Puts.{puts_as}
use Rattle.text_writing.specs.laws.Whole.{clocks_bytes_lem}
use Rattle.text_writing.proofs.whole.put_clocks.Goals as goal

pub returns-then-clocks_equal : goal.returns-then-clocks_equal
returns-then-clocks_equal c =
    let p = columns (clock_of c.args.clock) [] [] [] [] [] [] [] [] [] in
    puts_no_line (clocks_line p) (not (clocks_equal p)) (ap not (sym c.clocks_equal.ensures ∙ c.if-clocks_equal.true))

pub returns-else-clocks_equal : goal.returns-else-clocks_equal
returns-else-clocks_equal c =
    let p = columns (clock_of c.args.clock) [] [] [] [] [] [] [] [] [] in
    puts_line (clocks_line p) (not (clocks_equal p)) (ap not (sym c.clocks_equal.ensures ∙ c.if-clocks_equal.false)) (puts_as (sym (clocks_bytes_lem p)) c.put_clock_numbers.ensures)
