-- A plan's slot over a sequence of calls, until its final answer is collected.
use Rattle.std.specs.Prelude.{◌≡◌, Bool, cond, ◌&&◌, ℕ, ◌+◌, ◌*◌, ◌≤◌, ◌<◌, ltb, eqb, length}
use Rattle.std.proofs.Math.Path.{refl, sym}
use Rattle.std.proofs.Common.{ap, ◌∙◌, true≢false, length-set, get_or-set_same, get_or-set_other, eq-eqb, ne_eqb}
use mathlib.Core.List.{List, [], ◌∷◌}
use Rattle.std.proofs.Math.Option.{Option, none, some, some-injective}
use Rattle.std.proofs.Math.Bool.{true, false}
use Rattle.std.proofs.lemmas.Bool.{false≢true}
use Rattle.std.proofs.Math.Nat.{zero-add}
use Rattle.std.proofs.Math.Decide.{ℕ_discrete}
use native.Mathlib.Omega.{arith}
use Rattle.cqf.specs.Plan.{Plan, valid_plan}
use Rattle.cqf.specs.FixedPoint.{iterate}
use Rattle.plan_reading.specs.Reading.{PlanRead, accepted, rejected, loose, read_as_of}
use Rattle.answers.specs.Answer.{Answer}
use Rattle.questions.specs.FixedPoint.{FixedPoint}
use Rattle.batches.specs.Slot.{Slot, vacant, pending, answered, is_vacant, is_pending, is_answered, turn_steps, slot_by, advanced}
use Rattle.batches.specs.Batch.{Batch, slot_count, slot_at, with_slot, with_read, place_leaves, serve_answer, served, serve_leaves, collect_leaves}
use Rattle.batches.specs.Calls.{Call, place, serve, collect, leaves, after_from, one, is_turn, turns, tells, serves, turns_of, final_of, collects, or_else, collected}
use Rattle.batches.specs.Turns.{single_answer}
use Rattle.batches.specs.laws.Slots.{not_vacant, of_pending, turn_more, answer_single}
use Rattle.batches.specs.laws.Turns.{Serves, serves_told, serves-none, gap, gap_there, gap_below, not_past, gap-own, gap_other}

-- slot s, after n turns of which j told it
pub record Goes (s : ℕ) (p : Plan) (b : Batch) (n j : ℕ) : Type 0 where
  pub sized : length b.slots ≡ slot_count
  pub at : slot_at b s ≡ slot_by p (turn_steps * j) (iterate p 1 (turn_steps * j))
  pub paced : is_pending (slot_at b s) ≡ true → n + gap b s ≤ slot_count * j + 7

abbrev is_some : Option (Answer FixedPoint) → Bool
is_some none = false
is_some (some a) = true

-- a batch with the same slot s and the same next one
record Same (s : ℕ) (b c : Batch) : Type 0 where
  sized : length c.slots ≡ length b.slots
  slot : slot_at c s ≡ slot_at b s
  next : c.next ≡ b.next

goes_same : {s : ℕ} {p : Plan} {b c : Batch} {n j : ℕ} → Same s b c → Goes s p b n j → Goes s p c n j
goes_same {s} {p} {b} {c} {n} {j} k g =
    record {
      sized = k.sized ∙ g.sized;
      at = k.slot ∙ g.at;
      paced = λ h.
          let same : gap c s ≡ gap b s = rw k.next in
          let before = g.paced (sym (ap is_pending k.slot) ∙ h) in
          omega arith;
    }

same : (s : ℕ) (b : Batch) → Same s b b
same s b = record { sized = refl; slot = refl; next = refl }

with_other : (s t : ℕ) (b : Batch) (x : Slot) → (s ≡ t → ⊥) → Same s b (with_slot b t x)
with_other s t b x other = record { sized = length-set b.slots t x; slot = get_or-set_other b.slots t s x vacant other; next = refl }

-- the slot of a plan is not vacant, so placing there changes nothing, and placing elsewhere leaves it
module _ (s : ℕ) (b : Batch) (full : is_vacant (slot_at b s) ≡ false) where
  read_same : (t : ℕ) (r : PlanRead) → (s ≡ t → ⊥) → Same s b (with_read b t r)
  read_same t (accepted p ports flows) other = with_other s t b (pending p 1 0) other
  read_same t (rejected number offset) other = same s b

  place_same : (t : ℕ) (bytes : List ℕ) → Same s b (place_leaves b t bytes)
  unfolding place_leaves
  place_same t bytes = go (ℕ_discrete s t)
    where
      put : (x : Bool) → (s ≡ t → ⊥) → Same s b (cond x (with_read b t (read_as_of loose bytes)) b)
      put true other = read_same t (read_as_of loose bytes) other
      put false other = same s b

      kept : (x : Bool) → Same s b (cond (x && false) (with_read b t (read_as_of loose bytes)) b)
      kept true = same s b
      kept false = same s b

      go : Dec (s ≡ t) → Same s b (place_leaves b t bytes)
      go (yes e) =
          let f : is_vacant (slot_at b t) ≡ false = rw e at full in
          rw f (kept (ltb t slot_count))
      go (no other) = put (ltb t slot_count && is_vacant (slot_at b t)) other

-- nor does a collecting that finds no final answer there, or is elsewhere
no_answer : (x : Slot) → final_of x ≡ none → is_answered x ≡ false
no_answer vacant e = refl
no_answer (pending p t n) e = refl
no_answer (answered a) e = absurd (true≢false (ap is_some e))

collect_same : (s : ℕ) (b : Batch) (t : ℕ) → collects b s (collect t) ≡ none → Same s b (collect_leaves b t)
unfolding collect_leaves
collect_same s b t e = go (ℕ_discrete s t)
  where
    emptied : (x : Bool) → (s ≡ t → ⊥) → Same s b (cond x (with_slot b t vacant) b)
    emptied true other = with_other s t b vacant other
    emptied false other = same s b

    kept : (x : Bool) → Same s b (cond (x && false) (with_slot b t vacant) b)
    kept true = same s b
    kept false = same s b

    go : Dec (s ≡ t) → Same s b (collect_leaves b t)
    go (yes q) =
        let here : final_of (slot_at b s) ≡ none = rw (eq-eqb t s (sym q)) at e in
        let f : is_answered (slot_at b t) ≡ false = rw q at (no_answer (slot_at b s) here) in
        rw f (kept (ltb t slot_count))
    go (no other) = emptied (ltb t slot_count && is_answered (slot_at b t)) other

-- a turn
module _ (s : ℕ) (p : Plan) (h : s < slot_count) (valid : valid_plan p ≡ true) (b : Batch) (n j : ℕ) (g : Goes s p b n j) where
  -- where it tells none, the slot is not pending
  idle_goes : serve_answer b ≡ none → Goes s p b (1 + n) j
  idle_goes e =
      record {
        sized = g.sized;
        at = g.at;
        paced = λ pends.
            absurd (false≢true (sym (serves-none b e (gap b s) (gap_below b s)) ∙ ap (λ k. is_pending (slot_at b k)) (gap_there b s h) ∙ pends));
      }

  -- a turn of another slot leaves it and brings it nearer
  other_goes : (t : ℕ) → Serves b t → (t ≡ s → ⊥) → Goes s p (served b (some t)) (1 + n) j
  other_goes t v other =
      let kept = get_or-set_other b.slots t s (advanced (slot_at b t)) vacant (λ e. other (sym e)) in
      record {
        sized = length-set b.slots t (advanced (slot_at b t)) ∙ g.sized;
        at = kept ∙ g.at;
        paced = λ pends.
            let before : is_pending (slot_at b s) ≡ true = sym (ap is_pending kept) ∙ pends in
            omega (arith, g.paced before, gap_other b s t v.offset h v.within v.is (not_past b s t h before v) other);
      }

  -- its own turn takes it a turn's steps further, and puts it last
  own_goes : is_pending (slot_at b s) ≡ true → Goes s p (served b (some s)) (1 + n) (1 + j)
  own_goes pends =
      let far = of_pending p (turn_steps * j) (iterate p 1 (turn_steps * j)) (sym (ap is_pending g.at) ∙ pends) in
      let steps : turn_steps * j + turn_steps ≡ turn_steps * (1 + j) = omega arith in
      let here : s < length b.slots = rw g.sized h in
      record {
        sized = length-set b.slots s (advanced (slot_at b s)) ∙ g.sized;
        at =
            get_or-set_same b.slots s (advanced (slot_at b s)) vacant here
            ∙ ap advanced (g.at ∙ ap (slot_by p (turn_steps * j)) far.1)
            ∙ turn_more p valid (turn_steps * j) far.0 far.1
            ∙ ap (λ k. slot_by p k (iterate p 1 k)) steps;
        paced = λ after. omega (arith, g.paced pends, gap-own b s h);
      }

  serve_goes : Goes s p (serve_leaves b) (1 + n) (cond (serves b s serve) 1 0 + j)
  unfolding serve_leaves
  serve_goes = go (serve_answer b) refl
    where
      told : (t : ℕ) → Serves b t → Dec (t ≡ s) → Goes s p (served b (some t)) (1 + n) (cond (eqb t s) 1 0 + j)
      told t v (yes e) = rw (eq-eqb t s e, e) (own_goes (rw e at v.pends))
      told t v (no e) = rw (ne_eqb t s e, zero-add j) (other_goes t v e)

      go : (o : Option ℕ) → serve_answer b ≡ o → Goes s p (served b o) (1 + n) (cond (tells s o) 1 0 + j)
      go none e = rw (zero-add j) (idle_goes e)
      go (some t) e = told t (serves_told b t e) (ℕ_discrete t s)

-- a call that collects a final answer finds it there
pub final_there : (x : Slot) (a : Answer FixedPoint) → final_of x ≡ some a → x ≡ answered a
final_there vacant a e = absurd (false≢true (ap is_some e))
final_there (pending p t n) a e = absurd (false≢true (ap is_some e))
final_there (answered d) a e = ap answered (some-injective d a e)

collects_final : (s : ℕ) (b : Batch) (c : Call) (a : Answer FixedPoint) → collects b s c ≡ some a → slot_at b s ≡ answered a
collects_final s b (place t bytes) a e = absurd (false≢true (ap is_some e))
collects_final s b serve a e = absurd (false≢true (ap is_some e))
collects_final s b (collect t) a e = go (eqb t s) e
  where
    go : (x : Bool) → cond x (final_of (slot_at b s)) none ≡ some a → slot_at b s ≡ answered a
    go true q = final_there (slot_at b s) a q
    go false q = absurd (false≢true (ap is_some q))

-- any call that does not collect its final answer
module _ (s : ℕ) (p : Plan) (h : s < slot_count) (valid : valid_plan p ≡ true) where
  call_goes
      : (b : Batch) (n j : ℕ)
      → Goes s p b n j
      → (c : Call)
      → collects b s c ≡ none
      → Goes s p (leaves b c) (one (is_turn c) + n) (one (serves b s c) + j)
  call_goes b n j g (place t bytes) e =
      let full = ap is_vacant g.at ∙ not_vacant p (turn_steps * j) (iterate p 1 (turn_steps * j)) in
      rw (zero-add n, zero-add j) (goes_same (place_same s b full t bytes) g)
  call_goes b n j g serve e = serve_goes s p h valid b n j g
  call_goes b n j g (collect t) e = rw (zero-add n, zero-add j) (goes_same (collect_same s b t e) g)

  -- all calls, where none collects it
  pub goes_on
      : (calls : List Call) (b : Batch) (n j : ℕ)
      → Goes s p b n j
      → collected b s calls ≡ none
      → Goes s p (after_from b calls) (turns calls + n) (turns_of b s calls + j)
  unfolding after_from turns turns_of collected
  goes_on [] b n j g e = rw (zero-add n, zero-add j) g
  goes_on (c ∷ cs) b n j g e =
      go (collects b s c) refl e (goes_on cs (leaves b c) (one (is_turn c) + n) (one (serves b s c) + j))
    where
      go
          : (o : Option (Answer FixedPoint))
          → collects b s c ≡ o
          → or_else o (collected (leaves b c) s cs) ≡ none
          → (Goes s p (leaves b c) (one (is_turn c) + n) (one (serves b s c) + j)
          → collected (leaves b c) s cs ≡ none
          → Goes s p (after_from (leaves b c) cs) (turns cs + (one (is_turn c) + n)) (turns_of (leaves b c) s cs + (one (serves b s c) + j)))
          → Goes s p (after_from (leaves b c) cs) (one (is_turn c) + turns cs + n) (one (serves b s c) + turns_of (leaves b c) s cs + j)
      go none q r onward =
          let all : turns cs + (one (is_turn c) + n) ≡ one (is_turn c) + turns cs + n = omega arith in
          let own
          : turns_of (leaves b c) s cs + (one (serves b s c) + j) ≡ one (serves b s c) + turns_of (leaves b c) s cs + j
          = omega arith in
          rw (all, own) at (onward (call_goes b n j g c q) r)
      go (some a) q r onward = absurd (true≢false (ap is_some r))

  -- what is collected is the final answer of the plan
  pub collected_answer
      : (calls : List Call) (b : Batch) (n j : ℕ) (a : Answer FixedPoint)
      → Goes s p b n j
      → collected b s calls ≡ some a
      → a ≡ single_answer p
  unfolding after_from collected
  collected_answer [] b n j a g e = absurd (false≢true (ap is_some e))
  collected_answer (c ∷ cs) b n j a g e =
      go (collects b s c) refl e (collected_answer cs (leaves b c) (one (is_turn c) + n) (one (serves b s c) + j) a)
    where
      go
          : (o : Option (Answer FixedPoint))
          → collects b s c ≡ o
          → or_else o (collected (leaves b c) s cs) ≡ some a
          → (Goes s p (leaves b c) (one (is_turn c) + n) (one (serves b s c) + j)
          → collected (leaves b c) s cs ≡ some a
          → a ≡ single_answer p)
          → a ≡ single_answer p
      go none q r onward = onward (call_goes b n j g c q) r
      go (some d) q r onward =
          let same : a ≡ d = sym (some-injective d a r) in
          same ∙ answer_single p valid (turn_steps * j) d (sym g.at ∙ collects_final s b c d q)
