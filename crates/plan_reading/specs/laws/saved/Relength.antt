-- The saved plan with another frame length for one flow is the plan with that length, saved; so either reading accepts it and holds
-- that plan.
use Prim.Native.Nat.{ℕ, zero, suc, ◌<◌}
use Rattle.std.specs.Prelude.{◌≡◌, List, [], ◌∷◌, ◌++◌, map, Bool, true, false, not, ltb, length}
use Rattle.std.proofs.Math.Path.{refl, ap}
use Rattle.std.proofs.Common.{sym, ap₂, ◌∙◌, arith}
use Rattle.std.proofs.lemmas.List.{map-append}
use Rattle.std.proofs.Math.Decide.{ℕ_discrete}
use Rattle.std.proofs.Math.ListN.{length-set}
use Rattle.std.proofs.Math.Seq.{get_or-set_same, get_or-set_other}
use borrow.Author.Tests.{eq-eqb, ne_eqb}
use Rattle.cqf.specs.Bounded.{count_to}
use Rattle.cqf.specs.Form.{older, form_number, form_fits}
use Rattle.cqf.specs.Limits.{port_slots, flow_slots, length_ok}
use Rattle.cqf.specs.Plan.{Plan, clocks_equal, rate_of, extra_of, period_of, jitter_of, present, valid_plan}
use Rattle.cqf.specs.Reprice.{with_length}
use Rattle.cqf.proofs.laws.RepriceValid.{length_slot, length_valid}
use Rattle.plan_reading.specs.Reading.{accepted, Mode, read_as_of}
use Rattle.plan_reading.specs.Part.{Part}
use Rattle.plan_reading.specs.Saved.{when, collect, header_part, port_part, port_parts, flow_part, flow_parts, extra_part, extra_parts, jitter_part, jitter_parts, clock_part, clock_parts, saved_parts, part_bytes, saved_bytes}
use Rattle.plan_reading.specs.Relength.{relengthed, relengthed_bytes}
use Rattle.plan_reading.specs.Sized.{Sized}
use Rattle.plan_reading.specs.Tidy.{Tidy}
use Rattle.plan_reading.specs.laws.saved.SavedRead.{saved_held}

module _ (g : Part → Part) where
  -- two lists of parts, each changed
  join : (xs ys : List Part) {xs' ys' : List Part} → map g xs ≡ xs' → map g ys ≡ ys' → map g (xs ++ ys) ≡ xs' ++ ys'
  join xs ys a b = map-append g xs ys ∙ ap₂ (λ (x y : List Part). x ++ y) a b

  map_collect : (n : ℕ) (at other : ℕ → List Part) → ((i : ℕ) → map g (at i) ≡ other i) → map g (collect n at) ≡ collect n other
  unfolding collect
  map_collect zero at other same = refl
  map_collect (suc n) at other same = join (collect n at) (at n) (map_collect n at other same) (same n)

  map_when : (b : Bool) (e : Part) {e' : Part} → g e ≡ e' → map g (when b e) ≡ when b e'
  map_when true e same = ap (λ (x : Part). x ∷ []) same
  map_when false e same = refl

saved_is
    : (p : Plan)
    → saved_parts p
    ≡ header_part p
    ∷ (collect port_slots (port_parts p)
    ++ (collect flow_slots (flow_parts p)
    ++ (collect port_slots (extra_parts p)
    ++ (collect flow_slots (jitter_parts p)
    ++ clock_parts p))))
unfolding saved_parts
saved_is p = refl

module _ (p : Plan) (f bytes : ℕ) (slot : f < length p.lengths) where
  abbrev change : Part → Part
  change = relengthed (suc f) bytes

  -- the part of a flow, and those of each other kind
  flow_changed : (i : ℕ) → change (flow_part p i) ≡ flow_part (with_length p f bytes) i
  unfolding with_length
  flow_changed i = go (ℕ_discrete i f)
    where
      go : Dec (i ≡ f) → change (flow_part p i) ≡ flow_part (with_length p f bytes) i
      go (yes e) = rw (e, eq-eqb (suc f) (suc f) refl, get_or-set_same p.lengths f bytes 0 slot)
      go (no ne) = rw (ne_eqb (suc i) (suc f) (λ e. ne (omega arith)), get_or-set_other p.lengths f i bytes 0 ne)

  flows_changed : (i : ℕ) → map change (flow_parts p i) ≡ flow_parts (with_length p f bytes) i
  unfolding with_length
  flows_changed i = map_when change (ltb 0 (period_of p i)) (flow_part p i) (flow_changed i)

  ports_same : (i : ℕ) → map change (port_parts p i) ≡ port_parts (with_length p f bytes) i
  unfolding with_length
  ports_same i = map_when change (ltb 0 (rate_of p i)) (port_part p i) refl

  extras_same : (i : ℕ) → map change (extra_parts p i) ≡ extra_parts (with_length p f bytes) i
  unfolding with_length
  extras_same i = map_when change (ltb 0 (extra_of p i)) (extra_part p i) refl

  jitters_same : (i : ℕ) → map change (jitter_parts p i) ≡ jitter_parts (with_length p f bytes) i
  unfolding with_length
  jitters_same i = map_when change (ltb 0 (jitter_of p i)) (jitter_part p i) refl

  clock_same : map change (clock_parts p) ≡ clock_parts (with_length p f bytes)
  unfolding with_length
  clock_same = map_when change (not (clocks_equal p)) (clock_part p) refl

  header_same : change (header_part p) ≡ header_part (with_length p f bytes)
  unfolding with_length
  header_same = refl

  -- all parts
  pub parts_changed : map change (saved_parts p) ≡ saved_parts (with_length p f bytes)
  parts_changed =
      let q = with_length p f bytes in
      ap (map change) (saved_is p)
      ∙ ap₂ (λ (e : Part) (es : List Part). e ∷ es) header_same
      (join change (collect port_slots (port_parts p)) _ (map_collect change port_slots (port_parts p) (port_parts q) ports_same)
      (join change (collect flow_slots (flow_parts p)) _ (map_collect change flow_slots (flow_parts p) (flow_parts q) flows_changed)
      (join change (collect port_slots (extra_parts p)) _ (map_collect change port_slots (extra_parts p) (extra_parts q) extras_same)
      (join change (collect flow_slots (jitter_parts p)) (clock_parts p) (map_collect change flow_slots (jitter_parts p) (jitter_parts q) jitters_same)
      clock_same))))
      ∙ sym (saved_is q)

  pub bytes_changed : relengthed_bytes older p (suc f) bytes ≡ saved_bytes (with_length p f bytes)
  unfolding relengthed_bytes saved_bytes
  bytes_changed = ap part_bytes parts_changed

  pub sized_changed : Sized p → Sized (with_length p f bytes)
  unfolding with_length
  sized_changed s =
      record {
        rates = s.rates;
        blockings = s.blockings;
        extras = s.extras;
        periods = s.periods;
        counts = s.counts;
        lengths = length-set p.lengths f bytes ∙ s.lengths;
        jitters = s.jitters;
        hops = s.hops;
        routes = s.routes;
      }

-- the changed bytes of a valid plan that fits the older form are accepted by either reading, with as many ports and flows, and hold the plan with that length
pub changed_read
    : (p : Plan) (f bytes : ℕ)
    → valid_plan p ≡ true
    → Sized p
    → Tidy p
    → form_fits (form_number older) p.hops ≡ true
    → present p f ≡ true
    → length_ok bytes ≡ true
    → (mode : Mode)
    → read_as_of mode (relengthed_bytes older p (suc f) bytes)
    ≡ accepted (with_length p f bytes) (count_to port_slots (λ q. ltb 0 (rate_of p q))) (count_to flow_slots (λ f. ltb 0 (period_of p f)))
unfolding with_length
changed_read p f bytes valid sized tidy fits there ok mode =
    let slot = length_slot p valid f there in
    let changed = length_valid p valid f there bytes ok in
    ap (read_as_of mode) (bytes_changed p f bytes slot)
    ∙ saved_held (with_length p f bytes) changed (sized_changed p f bytes slot sized) fits tidy mode
