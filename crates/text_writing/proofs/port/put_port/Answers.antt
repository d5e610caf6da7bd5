-- `put_port` meets its contract: each part behind those before it.
use Rattle.text_writing.specs.laws.Puts.{Puts-then}
use Rattle.text_writing.proofs.port.put_port.Goals as goal

pub returns : goal.returns
returns c =
    Puts-then (Puts-then (Puts-then (Puts-then c.put_first-named.ensures c.put_pair-rated.ensures) c.put_unless-blocked.ensures) c.put_unless-added.ensures) c.put_end.ensures
