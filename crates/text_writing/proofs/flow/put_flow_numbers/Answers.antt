-- `put_flow_numbers` meets its contract: each part behind those before it.
use Rattle.text_writing.specs.laws.Puts.{Puts-then}
use Rattle.text_writing.proofs.flow.put_flow_numbers.Goals as goal

pub returns : goal.returns
returns c =
    Puts-then (Puts-then (Puts-then (Puts-then c.put_first-named.ensures c.put_pair-timed.ensures) c.put_unless-counted.ensures) c.put_pair-sized.ensures) c.put_unless.ensures
