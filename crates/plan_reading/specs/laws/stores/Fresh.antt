-- A row of parts of which none has the key of another: each stands in the tables that the row leaves.
use Rattle.std.specs.Prelude.{◌-◌, ◌≡◌, refl}
use Rattle.std.proofs.Common.{get_or-set_same}
use mathlib.Core.List.Memᴰ
use mathlib.Core.List.{List, [], ◌∷◌, Memᴰ}
use Rattle.cqf.specs.Limits.{port_slots, flow_slots}
use Rattle.cqf.specs.Plan.{Plan, no_plan}
use Rattle.plan_reading.specs.Part.{Part, header, port, flow, extra, jitter, clock}
use Rattle.plan_reading.specs.Store.{store, store_all}
use Rattle.plan_reading.specs.Ranges.{PartOk}
use Rattle.plan_reading.specs.Sized.{Sized}
use Rattle.plan_reading.specs.laws.fields.Within.{within_high, slot_below}
use Rattle.plan_reading.specs.laws.fields.Ranged.{All, all_at}
use Rattle.plan_reading.specs.laws.fields.ByPart.{Separate}
use Rattle.plan_reading.specs.laws.stores.Tables
use Rattle.plan_reading.specs.laws.stores.Tables.{sized_none, sized_store, sized_all}
use Rattle.plan_reading.specs.laws.stores.Commute.{one_all}
use Rattle.plan_reading.specs.laws.stores.Sources.{tables_of}
use Rattle.plan_reading.specs.laws.saved.Entries.{Stands}

-- parts in range, of which none has the key of another
pub record Fresh (xs : List Part) : Type 0 where
  pub ok : All PartOk xs
  pub separate : Separate xs

-- each of the row is the last that is stored into some tables
record Last (q : Plan) (x : Part) : Type 0 where
  before : Plan
  sized : Sized before
  ends : q ≡ store before x

last : (p : Plan) {x : Part} (xs : List Part) → Sized p → All PartOk xs → Separate xs → Memᴰ x xs → Last (store_all p xs) x
unfolding store_all
last p [] sized ok apart m = absurd (Memᴰ.not-nil m)
last p (y ∷ xs) sized ok apart (Memᴰ.head same) =
    rw same (record { before = store_all p xs; sized = sized_all p xs sized; ends = one_all y xs p ok.0 ok.1 apart.0 })
last p (y ∷ xs) sized ok apart (Memᴰ.tail m) = last (store p y) xs (sized_store p y sized) ok.1 apart.1 m

-- the part that was stored last stands in the tables
stored-part : (p : Plan) (x : Part) → Sized p → PartOk x → Stands (store p x) x
unfolding store
stored-part p (header g t) sized ok = (refl, refl)
stored-part p (port n v b) sized ok =
    let fits = slot_below port_slots n ok.number in (
      ok.number,
      get_or-set_same p.rates (n - 1) v 0 (rw sized.rates fits),
      get_or-set_same p.blockings (n - 1) b 0 (rw sized.blockings fits),
    )
stored-part p (flow n t c l r) sized ok =
    let fits = slot_below flow_slots n ok.number in (
      ok.number,
      Tables.stored_period p sized n t c l r fits,
      Tables.stored_count p sized n t c l r fits,
      Tables.stored_bytes p sized n t c l r fits,
      Tables.stored_route p sized n t c l r fits (within_high _ _ _ ok.hops),
    )
stored-part p (extra n b) sized ok = (ok.number, get_or-set_same p.extras (n - 1) b 0 (rw sized.extras (slot_below port_slots n ok.number)))
stored-part p (jitter n j) sized ok = (ok.number, get_or-set_same p.jitters (n - 1) j 0 (rw sized.jitters (slot_below flow_slots n ok.number)))
stored-part p (clock k) sized ok = refl

-- so does each part of the row
pub fresh_stands : {x : Part} {xs : List Part} → Fresh xs → Memᴰ x xs → Stands (tables_of xs) x
fresh_stands {x} {xs} fresh m =
    let t = last no_plan xs sized_none fresh.ok fresh.separate m in
    rw t.ends (stored-part t.before x t.sized (all_at PartOk xs fresh.ok m))
