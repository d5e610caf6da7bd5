-- `capi::listed::cp_spans_columns` meets its contract: the planner's answer as numbers, which mean what it means.
use Rattle.capi.specs.laws.SpansMeaning.{spans_numbers_mean}
use Rattle.capi.proofs.listed.cp_spans_columns.Goals as goal

pub returns-clause-means : goal.returns-clause-means
returns-clause-means c = spans_numbers_mean c.spans_columns.result c.from.result c.from.ensures _ _ _ (rw (c.lent_at-lent.ensures _, c.clock_at-clock.ensures) at c.spans_columns.ensures.means)
