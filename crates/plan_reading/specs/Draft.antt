-- What has been read so far of a plan, and what one field more makes of it.
use Rattle.std.specs.Prelude.{ℕ, ◌+◌, List, [], ◌∷◌, Bool, not, ltb, get_or, set, replicate}
use Rattle.cqf.specs.Bounded.{distinct}
use Rattle.cqf.specs.Plan.{Plan, no_plan}
use Rattle.plan.specs.Field.{Field}
use Rattle.plan_reading.specs.Part.{Part, parts_of, of_port_lem, of_flow_lem}
use Rattle.plan_reading.specs.Key.{key_slots, key_of}
use Rattle.plan_reading.specs.Store.{store_all}

-- the tables so far, a flag for each key that has been seen, and how many port and flow fields there were. A field may say
-- what its absence says, so the tables do not show what has been seen.
pub record Draft : Type 0 where
  pub tables : Plan
  pub seen : List ℕ
  pub ports : ℕ
  pub flows : ℕ

unfoldable pub blank : Draft
unfolding no_plan
blank = record { tables = no_plan; seen = replicate key_slots 0; ports = 0; flows = 0 }

-- whether a field of this key has been read
abbrev pub has_key : Draft → ℕ → Bool
has_key d key = ltb 0 (get_or d.seen key 0)

-- test 6: a second header, or a number again
abbrev pub taken : Draft → Field → Bool
taken d x = has_key d (key_of x)

-- test 7: a port twice in a field's route
abbrev pub field_repeats : List ℕ → Bool
field_repeats r = not (distinct r)

-- how many ports and flows a part says, and several parts
abbrev pub ports_in : Part → ℕ
ports_in = of_port_lem 0 (λ n rate blocking. 1)

abbrev pub flows_in : Part → ℕ
flows_in = of_flow_lem 0 (λ n period count bytes route. 1)

abbrev pub sum_of : (Part → ℕ) → List Part → ℕ
sum_of count [] = 0
sum_of count (x ∷ xs) = count x + sum_of count xs

-- the draft with a field stored, r being the ports of its route
unfoldable pub added : Draft → Field → List ℕ → Draft
unfolding store_all
added d x r =
    record {
      tables = store_all d.tables (parts_of x r);
      seen = set d.seen (key_of x) 1;
      ports = d.ports + sum_of ports_in (parts_of x r);
      flows = d.flows + sum_of flows_in (parts_of x r);
    }
