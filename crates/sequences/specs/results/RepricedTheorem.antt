-- The theorems of another frame length, over sequences of calls.
use Rattle.std.specs.Prelude.{◌≡◌, Bool, true, false, List, ℤ, pos, ◌-ℤ◌}
use Rattle.std.proofs.Math.Path.{refl, ap}
use Rattle.std.proofs.Common.{sym, ◌∙◌, subst}
use Rattle.std.proofs.Math.Option.{some}
use Prim.Native.Nat.{ℕ, suc, ◌+◌, ◌-◌, ◌*◌, ◌≤◌, ◌<◌}
use native.Mathlib.Omega.{arith}
use Rattle.std.proofs.Math.Dec.{ltb}
use lib.ListN.{length, get_or}
use Rattle.cqf.specs.Bounded.{within, count_to}
use Rattle.cqf.specs.Form.{Form, older, newer, form_number, form_fits}
use Rattle.cqf.specs.Limits.{port_slots, flow_slots}
use Rattle.cqf.specs.Plan.{Plan, rate_of, period_of, crosses, valid_plan}
use Rattle.cqf.specs.Condition.{frames, crossed, slack}
use Rattle.cqf.specs.Reprice.{with_length, repriced}
use Rattle.cqf.proofs.laws.Valid.{present_slot}
use Rattle.cqf.proofs.laws.Reprice.{crossed_same}
use Rattle.cqf.proofs.laws.RepriceValid.{length_slot, length_valid}
use Rattle.cqf.proofs.laws.Repriced.{crosses_slot, repriced_length, repriced_here, repriced_kept, holds_repriced, slack_longer, slack-apart}
use Rattle.plan.specs.Layout.{form_by}
use Rattle.plan_reading.specs.Reading.{accepted, Mode, loose, read_as_of, read_plan, max_bytes}
use Rattle.plan_reading.specs.Sized.{Sized}
use Rattle.plan_reading.specs.Tidy.{Tidy}
use Rattle.plan_reading.specs.Saved.{form_bytes}
use Rattle.plan_reading.specs.Relength.{relengthed_bytes}
use Rattle.plan_reading.specs.laws.saved.Relength.{changed_read}
use Rattle.plan_reading.specs.laws.newer.Relength.{newer_changed_read}
use Rattle.plan_reading.specs.laws.reading.Fits.{read_fits}
use Rattle.plan_reading.specs.results.FormTheorem.{form_length}
use Rattle.plan_reading.specs.laws.reading.Walked.{accepted_sized, accepted_tidy}
use Rattle.plan_reading.specs.laws.fields.Within.{within_low}
use Rattle.answers.specs.Answer.{result}
use Rattle.loading.specs.Outcome.{load_answer, load_leaves, reading_answer, reading_leaves}
use Rattle.questions.specs.Outcome.{slack_answer}
use Rattle.questions.specs.Reprice.{reprice_answer, reprice_leaves}
use Rattle.sequences.specs.Repriced.{ReadsChanged, WritesSlacks, PerByte, BoundedChange}
use Rattle.sequences.specs.Calls.{Call, after, held_bytes}
use Rattle.sequences.specs.laws.Calls.{Loaded, after-loaded}
use Rattle.questions.specs.laws.Reprice.{Granted, reprice_granted, granted_leaves}
use Rattle.sequences.specs.laws.Repriced.{crossed_slot, crosses-crossed, slack_answered, slack-alike, answers_slacks, slack_bounded}

-- of the plan in the bytes of the last load in which the rules find no refusal
module _ (calls : List Call) (bytes : List ℕ) (held : held_bytes calls ≡ some bytes) where
  abbrev plan : Plan
  plan = after calls

  -- the form in which it was read
  abbrev form : Form
  form = form_by bytes

  module _ (T n octets : ℕ) (out : List ℤ) (answer : reprice_answer plan T n octets out ≡ result tt) where
    abbrev given : Granted plan T n octets out
    given = reprice_granted plan T n octets out answer

    abbrev changed : Plan
    changed = with_length plan (n - 1) octets

    slot : n - 1 < flow_slots
    slot = present_slot plan given.valid (n - 1) given.there

    valid_changed : valid_plan changed ≡ true
    valid_changed = length_valid plan given.valid (n - 1) given.there octets given.length_ok_lem

    ranged_changed : within 1 changed.top T ≡ true
    unfolding with_length
    ranged_changed = given.ranged

    reads
        : (mode : Mode)
        → read_as_of mode (relengthed_bytes form plan n octets)
        ≡ accepted changed (count_to port_slots (λ q. ltb 0 (rate_of plan q))) (count_to flow_slots (λ f. ltb 0 (period_of plan f)))
    unfolding read_plan
    reads mode =
        let low = within_low 1 flow_slots n given.number in
        let number : n ≡ suc (n - 1) = omega arith in
        ap (λ (k : ℕ). read_as_of mode (relengthed_bytes form plan k octets)) number ∙ go form refl
      where
        l : Loaded bytes plan
        l = after-loaded calls bytes held

        sized : Sized plan
        sized = accepted_sized loose bytes plan l.ports l.flows l.reads

        tidy : Tidy plan
        tidy = accepted_tidy loose bytes plan l.ports l.flows l.reads

        go
            : (f : Form)
            → form_by bytes ≡ f
            → read_as_of mode (relengthed_bytes f plan (suc (n - 1)) octets)
            ≡ accepted changed (count_to port_slots (λ q. ltb 0 (rate_of plan q))) (count_to flow_slots (λ f. ltb 0 (period_of plan f)))
        go older told =
            let fits : form_fits (form_number older) plan.hops ≡ true =
            subst (λ (f : Form). form_fits (form_number f) plan.hops ≡ true) told (read_fits loose bytes plan l.ports l.flows l.reads) in
            changed_read plan (n - 1) octets given.valid sized tidy fits given.there given.length_ok_lem mode
        go newer told =
            let room : length (form_bytes newer plan) ≤ max_bytes =
            subst (λ (f : Form). length (form_bytes f plan) ≤ max_bytes) told (form_length loose bytes plan l.ports l.flows l.reads) in
            newer_changed_read plan (n - 1) octets given.valid sized tidy room given.there given.length_ok_lem mode

    -- the saved plan with just that length changed is accepted and holds the plan with it
    pub held_changed : ReadsChanged form plan n octets
    unfolding load_answer load_leaves
    held_changed =
        record {
          ports = count_to port_slots (λ q. ltb 0 (rate_of plan q));
          flows = count_to flow_slots (λ f. ltb 0 (period_of plan f));
          accepted = λ mode. ap reading_answer (reads mode);
          holds = λ mode h. ap (reading_leaves h) (reads mode);
        }

    abbrev exit : List ℤ
    exit = reprice_leaves plan T n octets out

    exit_is : (q : ℕ) → get_or exit q (pos 0) ≡ get_or (repriced plan T (n - 1) octets out) q (pos 0)
    exit_is q = ap (λ (l : List ℤ). get_or l q (pos 0)) (granted_leaves plan T n octets out answer)

    -- a number of the list that is the slack of the plan with that length
    fresh_slack
        : (mode : Mode) (h : Plan) (q : ℕ)
        → crossed plan q ≡ true
        → get_or exit q (pos 0) ≡ slack changed q T
        → slack_answer (load_leaves mode h (relengthed_bytes form plan n octets)) (suc q) T ≡ result (get_or exit q (pos 0))
    fresh_slack mode h q on is =
        ap (λ (r : Plan). slack_answer r (suc q) T) (held_changed.holds mode h)
        ∙ slack_answered changed valid_changed T ranged_changed q (crossed_same plan (n - 1) octets q ∙ on) is

    here : (q : ℕ) → crosses plan (n - 1) q ≡ true → get_or exit q (pos 0) ≡ slack changed q T
    here q e =
        exit_is q ∙ repriced_here plan T (n - 1) octets out q (omega (arith, crosses_slot plan given.valid (n - 1) q slot e, given.long)) e

    kept : (q : ℕ) → crosses plan (n - 1) q ≡ false → get_or exit q (pos 0) ≡ get_or out q (pos 0)
    kept q e = exit_is q ∙ repriced_kept plan T (n - 1) octets out q e

    beyond : (q : ℕ) → port_slots ≤ q → crosses plan (n - 1) q ≡ false
    beyond q far = go (crosses plan (n - 1) q) refl
      where
        go : (b : Bool) → crosses plan (n - 1) q ≡ b → b ≡ false
        go true e = absurd (omega (arith, crosses_slot plan given.valid (n - 1) q slot e))
        go false e = refl

    -- what is written into the list
    pub held_written : WritesSlacks form plan T n octets out exit
    held_written =
        record {
          size = ap lib.ListN.length (granted_leaves plan T n octets out answer) ∙ repriced_length plan T (n - 1) octets out;
          written = λ mode h q e. fresh_slack mode h q (crosses-crossed plan (n - 1) q slot e) (here q e);
          kept = kept;
          past = λ q far. kept q (beyond q far);
          fresh = λ all mode h q on.
              let on' : crossed plan q ≡ true = sym (crossed_same plan (n - 1) octets q) ∙ ap (λ (r : Plan). crossed r q) (sym (held_changed.holds mode h)) ∙ on in
              fresh_slack mode h q on'
              (exit_is q ∙ holds_repriced plan T (n - 1) octets out slot given.long (answers_slacks plan T out all) q (crossed_slot plan given.valid q on') (crossed_same plan (n - 1) octets q ∙ on'));
        }

  -- what each byte more changes
  pub held_per_byte
      : (T n octets more : ℕ) (out other : List ℤ)
      → reprice_answer plan T n octets out ≡ result tt
      → reprice_answer plan T n (octets + more) other ≡ result tt
      → PerByte form plan T n octets more out other
  held_per_byte T n octets more out other answer also =
      let g = given T n octets out answer in
      let f = slot T n octets out answer in
      record {
        on_route = λ q e.
            here T n (octets + more) other also q e
            ∙ slack_longer plan (n - 1) f q T octets more (length_slot plan g.valid (n - 1) g.there) e
            ∙ ap (λ (z : ℤ). z -ℤ pos (more * (8000 * frames plan (n - 1) T))) (sym (here T n octets out answer q e));
        elsewhere = λ mode h q e.
            ap (λ (r : Plan). slack_answer r (suc q) T) ((held_changed T n octets out answer).holds mode h)
            ∙ slack-alike plan (changed T n octets out answer) T q g.valid (valid_changed T n octets out answer) g.ranged (ranged_changed T n octets out answer) (crossed_same plan (n - 1) octets q) (slack-apart plan (n - 1) f q T octets e);
      }

  -- d ns more
  pub held_bounded : (n T d : ℕ) → BoundedChange plan n T d
  held_bounded n T d = slack_bounded plan n T d
