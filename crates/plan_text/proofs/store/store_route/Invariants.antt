-- `store_route` meets its contract. The invariant: the first i ports are stored, and nothing else has changed.
use Rattle.std.proofs.Common.{◌≡◌, take}
use Rattle.std.proofs.lemmas.List.Edits.{sets}
use Rattle.plan_text.proofs.store.store_route.Given as goal

abbrev pub invariant-loop-i : goal.invariant-loop-i
invariant-loop-i l = l.routes ≡ sets l.initial.routes l.base (take l.i l.route)
