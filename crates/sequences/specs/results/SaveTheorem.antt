-- The theorems of saving over sequences of calls, and of tables that no call made.
use Rattle.std.specs.Prelude.{◌≡◌, refl, List, true, ℕ, ◌≤◌, ◌<◌, ltb, length}
use Rattle.std.proofs.Math.Path.{ap}
use Rattle.std.proofs.Common.{◌∙◌, arith}
use Rattle.std.proofs.Math.Option.{some}
use Rattle.std.proofs.Math.ListN.{take}
use Rattle.cqf.specs.Bounded.{count_to}
use Rattle.cqf.specs.Form.{Form, older, newer, form_number, form_from, form_fits}
use Rattle.cqf.specs.Limits.{port_slots, flow_slots}
use Rattle.cqf.specs.Plan.{Plan, rate_of, period_of, route_of, valid_plan}
use Rattle.plan.specs.Bytes.{Octets}
use Rattle.plan.specs.Layout.{form_by}
use Rattle.plan_reading.specs.Reading.{accepted, Mode, loose, strict, read_as_of, read_plan, max_bytes}
use Rattle.plan_reading.specs.Sized.{Sized}
use Rattle.plan_reading.specs.Saved.{saved_bytes, form_bytes, NoneSaysNothing}
use Rattle.plan_reading.specs.Tidy.{tidied}
use Rattle.plan_reading.specs.results.StrictTheorem.{read_loosely}
use Rattle.plan_reading.specs.laws.saved.SavedBack.{saved_back}
use Rattle.plan_reading.specs.laws.saved.SavedLength.{valid_hops}
use Rattle.plan_reading.specs.laws.saved.SavedRead.{saved_read}
use Rattle.plan_reading.specs.laws.newer.Row.{newer_read}
use Rattle.plan_reading.specs.results.FormTheorem.{newer_saved, form_length, form_again, form_kept, bytes_tell}
use Rattle.plan_reading.specs.laws.saved.Tidy.{tidied_route}
use Rattle.plan_reading.specs.laws.validity.Valid.{accepted_valid}
use Rattle.answers.specs.Answer.{result}
use Rattle.loading.specs.Outcome.{load_answer, load_leaves, load_form, reading_answer, reading_leaves, reading_form}
use Rattle.saving.specs.Save.{save_answer, save_leaves}
use Rattle.sequences.specs.Reply.{reply}
use Rattle.sequences.specs.Restored.{SavedAs}
use Rattle.sequences.specs.Calls.{Call, after, form_after, held_bytes}
use Rattle.sequences.specs.laws.Calls.{after_held, after-loaded, form_held, form_from_lem}
use Rattle.saving.specs.laws.Saved.{save_written, save_front, save_rest, save_size}

-- valid tables whose saved bytes, which tell the form, either reading accepts as the plan q
module _
    (form : Form) (p q : Plan) (ports flows : ℕ)
    (valid : valid_plan p ≡ true)
    (room : length (form_bytes form p) ≤ max_bytes)
    (told : form_by (form_bytes form p) ≡ form)
    (reads : (mode : Mode) → read_as_of mode (form_bytes form p) ≡ accepted q ports flows)
  where
    saved_as : SavedAs form p q ports flows
    unfolding load_answer load_leaves load_form
    saved_as buffer n answer =
        let front = save_front form p buffer valid n answer in
        let written = take n (save_leaves form p buffer) in
        let holds : (mode : Mode) (held : Plan) → load_leaves mode held written ≡ q = λ mode held. rw front (ap (reading_leaves held) (reads mode)) in
        let formed : (mode : Mode) (held : ℕ) → load_form mode held written ≡ form_number form =
        λ mode held. rw front (ap (reading_form held (form_number (form_by (form_bytes form p)))) (reads mode) ∙ ap form_number told) in
        record {
          most = omega (arith, save_size form p buffer valid n answer, room);
          accepted = λ mode. rw front (ap reading_answer (reads mode));
          holds = holds;
          formed = formed;
          alike = λ mode held number x. (λ i. reply (formed mode number i) (holds mode held i) x);
          rest = save_rest form p buffer valid n answer;
        }

-- the form held, by its number
held_form : (calls : List Call) (bytes : List ℕ) → held_bytes calls ≡ some bytes → form_from (form_after calls) ≡ form_by bytes
held_form calls bytes held = ap form_from (form_held calls bytes held) ∙ form_from_lem (form_by bytes)

-- After every sequence of calls that leaves a plan held: what saving wrote is a plan that either load accepts, with the numbers of
-- port and flow fields that the load of the held bytes gave, that holds the same plan, and that is of the form that was read.
pub held_saved
    : (calls : List Call) (mode : Mode) (bytes : List ℕ) (p : Plan) (ports flows : ℕ)
    → held_bytes calls ≡ some bytes
    → read_as_of mode bytes ≡ accepted p ports flows
    → SavedAs (form_from (form_after calls)) (after calls) p ports flows
held_saved calls mode bytes p ports flows held reads =
    rw (after_held calls mode bytes held p ports flows reads, held_form calls bytes held)
    (saved_as (form_by bytes) p p ports flows
    (accepted_valid bytes p ports flows (read_loosely mode bytes p ports flows reads))
    (form_length mode bytes p ports flows reads)
    (form_kept mode bytes p ports flows reads)
    (form_again mode bytes p ports flows reads))

-- and a buffer of the longest plan's length has room for it
pub held_room
    : (calls : List Call) (bytes buffer : List ℕ)
    → held_bytes calls ≡ some bytes
    → max_bytes ≤ length buffer
    → save_answer (form_from (form_after calls)) (after calls) buffer ≡ result (length (form_bytes (form_from (form_after calls)) (after calls)))
unfolding read_plan
held_room calls bytes buffer held long =
    let l = after-loaded calls bytes held in
    let valid = accepted_valid bytes (after calls) l.ports l.flows l.reads in
    rw (held_form calls bytes held)
    (save_written (form_by bytes) (after calls) buffer valid (omega (arith, form_length loose bytes (after calls) l.ports l.flows l.reads)))

-- what saving wrote, as the bytes of the plan in its form
written_front
    : (calls : List Call) (bytes : List ℕ)
    → held_bytes calls ≡ some bytes
    → (buffer : List ℕ) (n : ℕ)
    → save_answer (form_from (form_after calls)) (after calls) buffer ≡ result n
    → take n (save_leaves (form_from (form_after calls)) (after calls) buffer) ≡ form_bytes (form_by bytes) (after calls)
written_front calls bytes held buffer n answer =
    let l = after-loaded calls bytes held in
    let valid = accepted_valid bytes (after calls) l.ports l.flows l.reads in
    save_front (form_from (form_after calls)) (after calls) buffer valid n answer
    ∙ ap (λ (f : Form). form_bytes f (after calls)) (held_form calls bytes held)

-- A plan of the newer form is saved as the very bytes that were loaded, always.
pub held_newer_back
    : (calls : List Call) (mode : Mode) (bytes : List ℕ) (p : Plan) (ports flows : ℕ)
    → held_bytes calls ≡ some bytes
    → Octets bytes
    → read_as_of mode bytes ≡ accepted p ports flows
    → form_by bytes ≡ newer
    → (buffer : List ℕ) (n : ℕ)
    → save_answer (form_from (form_after calls)) (after calls) buffer ≡ result n
    → take n (save_leaves (form_from (form_after calls)) (after calls) buffer) ≡ bytes
held_newer_back calls mode bytes p ports flows held octets reads told buffer n answer =
    written_front calls bytes held buffer n answer
    ∙ (λ i. form_bytes (told i) (after_held calls mode bytes held p ports flows reads i))
    ∙ newer_saved mode bytes p ports flows reads told octets

-- Where the held bytes are those of a plan that the strict load accepts, and no field of it says what its absence says, saving
-- writes these bytes.
pub held_saved_back
    : (calls : List Call) (bytes : List ℕ) (p : Plan) (ports flows : ℕ)
    → held_bytes calls ≡ some bytes
    → Octets bytes
    → read_as_of strict bytes ≡ accepted p ports flows
    → NoneSaysNothing bytes
    → (buffer : List ℕ) (n : ℕ)
    → save_answer (form_from (form_after calls)) (after calls) buffer ≡ result n
    → take n (save_leaves (form_from (form_after calls)) (after calls) buffer) ≡ bytes
unfolding form_bytes saved_bytes
held_saved_back calls bytes p ports flows held octets reads tells buffer n answer = go (form_by bytes) refl
  where
    go : (form : Form) → form_by bytes ≡ form → take n (save_leaves (form_from (form_after calls)) (after calls) buffer) ≡ bytes
    go older told =
        written_front calls bytes held buffer n answer
        ∙ (λ i. form_bytes (told i) (after_held calls strict bytes held p ports flows reads i))
        ∙ saved_back bytes p ports flows octets reads told tells
    go newer told = held_newer_back calls strict bytes p ports flows held octets reads told buffer n answer

-- Tables that no call made, where they are valid, fit their form, and say no more bytes than a plan may have: what saving wrote holds
-- the same numbers, and as many port and flow fields as the tables have, each flow has the same route, and each place of the table of
-- routes past a flow's hops has 0.
pub unmade_saved
    : (form : Form) (p : Plan)
    → valid_plan p ≡ true
    → Sized p
    → form_fits (form_number form) p.hops ≡ true
    → length (form_bytes form p) ≤ max_bytes
    → SavedAs form p (tidied p) (count_to port_slots (λ q. ltb 0 (rate_of p q))) (count_to flow_slots (λ f. ltb 0 (period_of p f)))
    × ((f : ℕ) → f < flow_slots → route_of (tidied p) f ≡ route_of p f)
unfolding form_bytes saved_bytes
unmade_saved form p valid sized fits room = (
  saved_as form p (tidied p) (count_to port_slots (λ q. ltb 0 (rate_of p q))) (count_to flow_slots (λ f. ltb 0 (period_of p f))) valid room
      (bytes_tell form p)
      (reads form fits room),
  λ f l. tidied_route p f l (omega (arith, valid_hops p valid f l)),
)
  where
    reads
        : (form : Form)
        → form_fits (form_number form) p.hops ≡ true
        → length (form_bytes form p) ≤ max_bytes
        → (mode : Mode)
        → read_as_of mode (form_bytes form p)
        ≡ accepted (tidied p) (count_to port_slots (λ q. ltb 0 (rate_of p q))) (count_to flow_slots (λ f. ltb 0 (period_of p f)))
    reads older fits room mode = saved_read p valid sized fits mode
    reads newer fits room mode = newer_read p valid sized room mode
