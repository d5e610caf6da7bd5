-- The list of the spans as it is filled: one after the other, each the first that ends above the one before.
use Rattle.std.specs.Prelude.{ℕ, zero, suc, ◌+◌, List, set}
use Rattle.cqf.specs.Plan.{Plan}
use Rattle.questions.specs.Spans.{record_of, no_span_of, next_span}
use Rattle.questions.specs.declared.one_span.SpanRecord.{SpanRecord}

-- the span after one, of the code's records
abbrev pub after : Plan → SpanRecord → SpanRecord
after p r = record_of (next_span p (r.last + 1))

-- the span after i of them, from none on
unfoldable pub nth : Plan → ℕ → SpanRecord
nth p zero = record_of no_span_of
nth p (suc i) = after p (nth p i)

-- the list with the first i of them in its first records
unfoldable pub filled : Plan → List SpanRecord → ℕ → List SpanRecord
unfolding nth
filled p l zero = l
filled p l (suc i) = set (filled p l i) i (nth p (suc i))
