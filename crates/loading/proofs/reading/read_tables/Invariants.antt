-- `read_tables` meets its contract: test 1, then the fields. The invariant: the reading from this offset on gives what the reading from the start gives.
use Prim.Native.Nat.{ℕ, ◌-◌, ◌≤◌}
use mathlib.Core.Path.{◌≡◌}
use mathlib.Core.List.{List}
use lib.ListN.{length}
use Rattle.cqf.specs.Limits.{port_slots}
use Rattle.cqf.specs.Form.{Form}
use Rattle.plan.specs.Answer.{form_of}
use Rattle.plan_reading.specs.Draft.{Draft, blank}
use Rattle.plan_reading.specs.Reading.{Mode, read_from}
use Rattle.plan_reading.specs.laws.stores.Stored.{Flagged}
use Rattle.loading.specs.Answer.{mode_of}
use Rattle.loading.specs.Loading.{draft_of}
use Rattle.loading.specs.laws.Filled.{Filled}
use Rattle.loading.specs.laws.Behind.{Behind}
use Rattle.loading.proofs.reading.read_tables.Given as goal

-- the fields before this offset are read, into this draft, and the ports that their routes name are marked
pub record Reached (form : Form) (mode : Mode) (s : List ℕ) (d : Draft) (named : List ℕ) (at last : ℕ) : Type 0 where
  pub inside : at ≤ length s
  pub ports : d.ports ≤ at
  pub flows : d.flows ≤ at
  pub rest : read_from form mode (length s) s 0 0 blank ≡ read_from form mode (length s) s at last d
  pub flagged : Flagged d
  pub filled : Filled d
  pub sized : length named ≡ port_slots
  pub behind : Behind s named d at

abbrev pub invariant-loop-place : goal.invariant-loop-place
invariant-loop-place l =
    Reached (form_of l.form) (mode_of l.strictly) l.plan (draft_of l.tables l.tally) l.tally.named l.place.at l.place.last

abbrev pub decreases-loop-place : goal.decreases-loop-place
decreases-loop-place l = length l.plan - l.place.at
