-- `put_clock_numbers` meets its contract: each part behind those before it.
use Rattle.text_writing.specs.laws.Puts.{Puts-then}
use Rattle.text_writing.proofs.whole.put_clock_numbers.Goals as goal

pub returns : goal.returns
returns c =
    Puts-then (Puts-then (Puts-then (Puts-then c.put_bytes-named.ensures c.put_pair-drifting.ensures) c.put_pair-jittering.ensures) c.put_pair-apart.ensures) c.put_end.ensures
