-- What each call gives back is what its definition says, case by case.
use Rattle.std.specs.Prelude.{◌≡◌, List, [], ◌∷◌, map, Bool, true, false, ℕ, ◌+◌, ◌%◌, ◌≤◌, ◌<◌, get_or, set, Some, None, Result, Ok, Err}
use Rattle.std.proofs.Math.Path.{refl, sym, ap, ap₂}
use Rattle.std.proofs.Common.{◌∙◌, add-one, lt-ltb, le-ltb}
use Rattle.std.proofs.Math.Option.{some}
use Rattle.std.proofs.lemmas.Bool.{false≢true}
use Rattle.std.proofs.Math.ListN.{get_or-map}
use Rattle.cqf.specs.Plan.{Plan}
use Rattle.tables.specs.Tables.{plan_of}
use Rattle.plan_reading.specs.Reading.{PlanRead, accepted, rejected, loose, read_as_of}
use Rattle.answers.specs.Answer.{Answer, result, refusal}
use Rattle.loading.specs.Outcome.{reading_answer, reading_leaves, load_answer, load_leaves}
use Rattle.loading.specs.Answer.{load_of, Loads}
use Rattle.loading.specs.declared.Loaded.{Loaded}
use Rattle.loading.specs.declared.LoadOutcome.{LoadOutcome}
use Rattle.plan.specs.declared.Refusal.{Refusal}
use Rattle.plan.specs.Answer.{fault_number}
use Rattle.batches.specs.Slot.{vacant, pending, is_vacant, is_pending, is_answered, turned, advanced}
use Rattle.batches.specs.Batch as batches
use Rattle.batches.specs.Batch.{slot_count, slot_at, with_read, slot_after, place_answer, place_leaves, serve_answer, served, serve_leaves, collect_answer, collect_leaves}
use Rattle.batches.specs.laws.Turns.{serves_first, serves_idle}
use Rattle.batching.specs.Slots.{slot_by, pends_by, answered_by, slot_of, batch_of}
use Rattle.batching.specs.Answer.{place_of, collect_of, final_by, Places, ServesTurn, Collects}
use Rattle.batching.specs.laws.Slots.{vacant_neither, not_vacant_pending, not_vacant_answered, not_answered, pends_by_lem, answered_by_lem, final_by_lem, pending_by, map_set}
use Rattle.batching.specs.declared.Slot.{Slot}
use Rattle.batching.specs.declared.Batch.{Batch}
use Rattle.batching.specs.declared.PlaceRefusal.{PlaceRefusal}
use Rattle.batching.specs.declared.CollectRefusal.{CollectRefusal}
use Rattle.questions.specs.declared.iteration.FixedPoint.{FixedPoint as Reached}

is_refusal : {A : Type 0} → Answer A → Bool
is_refusal (result a) = false
is_refusal (refusal number values) = true

result_refusal : {A : Type 0} (a : A) (number : ℕ) (values : List ℕ) → result a ≡ refusal number values → ⊥
unfolding is_refusal
result_refusal a number values e = false≢true (ap is_refusal e)

-- what the language takes for the elements past the end
abbrev pub past : Slot
past =
    record {
      duration = 0;
      steps = 0;
      state = 0;
      port = 0;
      count = 0;
      planner =
          record {
            form = 0;
            guard = 0;
            top = 0;
            clock = record { drift = 0; timing_jitter = 0; sync_error = 0 };
            rates = [];
            blockings = [];
            extras = [];
            periods = [];
            counts = [];
            lengths = [];
            jitters = [];
            hops = [];
            routes = [];
          };
    }

-- an element of the code's batch, and the slot that it is
abbrev pub held_at : Batch → ℕ → Slot
held_at b s = get_or b.slots s past

pub slot_at_of : (b : Batch) (s : ℕ) → slot_at (batch_of b) s ≡ slot_of (held_at b s)
unfolding slot_by
slot_at_of b s = get_or-map slot_of b.slots s past

-- the code's batch with another slot s
abbrev pub with_held : Batch → ℕ → Slot → Batch
with_held b s x = record { slots = set b.slots s x; next = b.next }

-- no slot s
module _ (b : Batch) (s : ℕ) (over : slot_count ≤ s) where
  pub collect_15 : Collects (batch_of b) s (record { batch = b; answer = Err CollectRefusal.NoSlot })
  unfolding collect_answer collect_leaves
  collect_15 = record { answers = rw (le-ltb s slot_count over); leaves = rw (le-ltb s slot_count over) }

  pub place_15 : (bytes : List ℕ) → Places (batch_of b) s bytes (record { batch = b; answer = Err PlaceRefusal.NoSlot })
  unfolding place_answer place_leaves
  place_15 bytes = record { answers = rw (le-ltb s slot_count over); leaves = rw (le-ltb s slot_count over) }

-- slot s of these numbers
module _ (b : Batch) (s : ℕ) (x : Slot) (there : slot_at (batch_of b) s ≡ slot_of x) where
  abbrev pends : Bool
  pends = pends_by x.state x.duration x.steps

  pub held_pends : is_pending (slot_at (batch_of b) s) ≡ pends_by x.state x.duration x.steps
  held_pends = ap is_pending there ∙ pends_by_lem (plan_of x.planner) x.state x.duration x.port x.count x.steps

  held_answered : is_answered (slot_at (batch_of b) s) ≡ answered_by x.state
  held_answered = ap is_answered there ∙ answered_by_lem (plan_of x.planner) x.state x.duration x.port x.count x.steps

  module _ (l : s < slot_count) where
    pub collect_28 : answered_by x.state ≡ false → Collects (batch_of b) s (record { batch = b; answer = Err CollectRefusal.Unanswered })
    unfolding collect_answer collect_leaves
    collect_28 e =
        let none-there = held_answered ∙ e in
        record {
          answers = rw (lt-ltb s slot_count l) (sym (not_answered (slot_at (batch_of b) s) none-there));
          leaves = rw (lt-ltb s slot_count l, none-there);
        }

    pub collect_final
        : (y : Slot) (a : Result Reached CollectRefusal)
        → answered_by x.state ≡ true
        → slot_of y ≡ vacant
        → collect_of a ≡ final_by x.state x.duration x.port x.count x.steps
        → Collects (batch_of b) s (record { batch = with_held b s y; answer = a })
    unfolding collect_answer collect_leaves
    collect_final y a e emptied says =
        record {
          answers =
              rw (lt-ltb s slot_count l, there)
              (says ∙ sym (final_by_lem (plan_of x.planner) x.state x.duration x.port x.count x.steps e));
          leaves = rw (lt-ltb s slot_count l, held_answered ∙ e, map_set slot_of b.slots s y, emptied);
        }

    module _ (bytes : List ℕ) where
      place_27 : is_vacant (slot_at (batch_of b) s) ≡ false → Places (batch_of b) s bytes (record { batch = b; answer = Err PlaceRefusal.Occupied })
      unfolding place_answer place_leaves
      place_27 e = record { answers = rw (lt-ltb s slot_count l, e); leaves = rw (lt-ltb s slot_count l, e) }

      pub place_pending : pends ≡ true → Places (batch_of b) s bytes (record { batch = b; answer = Err PlaceRefusal.Occupied })
      place_pending e = place_27 (not_vacant_pending (slot_at (batch_of b) s) (held_pends ∙ e))

      pub place_answered : answered_by x.state ≡ true → Places (batch_of b) s bytes (record { batch = b; answer = Err PlaceRefusal.Occupied })
      place_answered e = place_27 (not_vacant_answered (slot_at (batch_of b) s) (held_answered ∙ e))

      module _ (none-pending : pends ≡ false) (none-answered : answered_by x.state ≡ false) where
        free : is_vacant (slot_at (batch_of b) s) ≡ true
        free = vacant_neither (slot_at (batch_of b) s) (held_pends ∙ none-pending) (held_answered ∙ none-answered)

        places
            : (c : Batch) (a : Result Loaded PlaceRefusal)
            → place_of a ≡ load_answer loose bytes
            → batch_of c ≡ with_read (batch_of b) s (read_as_of loose bytes)
            → Places (batch_of b) s bytes (record { batch = c; answer = a })
        unfolding place_answer place_leaves
        places c a says left =
            record { answers = rw (lt-ltb s slot_count l, free) says; leaves = rw (lt-ltb s slot_count l, free) left }

        is_answer : load_answer loose bytes ≡ reading_answer (read_as_of loose bytes)
        unfolding load_answer
        is_answer = refl

        is_left : (held : Plan) → load_leaves loose held bytes ≡ reading_leaves held (read_as_of loose bytes)
        unfolding load_leaves
        is_left held = refl

        module _ (held : Plan) {form : ℕ} (outcome : LoadOutcome) (loads : Loads loose held form bytes outcome) where
          pub place_held
              : (loaded : Loaded) (y : Slot)
              → outcome.answer ≡ Ok loaded
              → slot_of y ≡ pending (plan_of outcome.planner) 1 0
              → Places (batch_of b) s bytes (record { batch = with_held b s y; answer = Ok loaded })
          place_held loaded y e starts =
              places
              (with_held b s y)
              (Ok loaded)
              (sym (ap load_of e) ∙ loads.answers)
              (go (read_as_of loose bytes) (sym (ap load_of e) ∙ loads.answers ∙ is_answer) (loads.leaves ∙ is_left held))
            where
              go
                  : (r : PlanRead)
                  → result (record { ports = loaded.ports; flows = loaded.flows }) ≡ reading_answer r
                  → plan_of outcome.planner ≡ reading_leaves held r
                  → batch_of (with_held b s y) ≡ with_read (batch_of b) s r
              go (accepted p n m) q left =
                  let first : slot_of y ≡ pending p 1 0 = starts ∙ ap (λ z. pending z 1 0) left in
                  rw (map_set slot_of b.slots s y, first)
              go (rejected number offset) q left = absurd (result_refusal _ number (offset ∷ []) q)

          pub place_refused
              : (refused : Refusal)
              → outcome.answer ≡ Err refused
              → Places (batch_of b) s bytes (record { batch = b; answer = Err (PlaceRefusal.Refused refused) })
          place_refused refused e =
              places b (Err (PlaceRefusal.Refused refused)) (sym (ap load_of e) ∙ loads.answers) (go (read_as_of loose bytes) (sym (ap load_of e) ∙ loads.answers ∙ is_answer))
            where
              go : (r : PlanRead) → refusal (fault_number refused.fault) (refused.offset ∷ []) ≡ reading_answer r → batch_of b ≡ with_read (batch_of b) s r
              go (accepted p n m) q = absurd (result_refusal _ (fault_number refused.fault) (refused.offset ∷ []) (sym q))
              go (rejected number place) q = refl

-- a turn: none before slot i of the round is pending, and slot i is
module _ (b : Batch) where
  pub serve_idle
      : ((k : ℕ) → k < slot_count → is_pending (slot_at (batch_of b) (slot_after (batch_of b) k)) ≡ false)
      → ServesTurn (batch_of b) (record { batch = b; answer = None })
  unfolding serve_leaves
  serve_idle before =
      let idle = serves_idle (batch_of b) before in record { answers = sym idle; leaves = ap (served (batch_of b)) (sym idle) }

  pub serve_first
      : (i s : ℕ) (x y : Slot)
      → s ≡ slot_after (batch_of b) i
      → i < slot_count
      → ((k : ℕ) → k < i → is_pending (slot_at (batch_of b) (slot_after (batch_of b) k)) ≡ false)
      → slot_at (batch_of b) s ≡ slot_of x
      → pends_by x.state x.duration x.steps ≡ true
      → slot_of y ≡ turned (plan_of x.planner) x.duration x.steps
      → ServesTurn
      (batch_of b)
      (record { batch = record { slots = set b.slots s y; next = (s + 1) % slot_count }; answer = Some s })
  unfolding serve_leaves
  serve_first i s x y is h before there e turns =
      let now-pending = (pending_by (plan_of x.planner) x.state x.duration x.port x.count x.steps e).0 in
      let first = serves_first (batch_of b) i h before (rw is at (held_pends b s x there ∙ e)) ∙ ap some (sym is) in
      let left : slot_of y ≡ advanced (slot_at (batch_of b) s) = turns ∙ sym (ap advanced (there ∙ now-pending)) in
      record {
        answers = sym first;
        leaves =
            ap₂ {C = batches.Batch} (λ l n. record { slots = l; next = n }) (map_set slot_of b.slots s y ∙ ap (set (map slot_of b.slots) s) left) (rw (add-one s))
            ∙ ap (served (batch_of b)) (sym first);
      }
