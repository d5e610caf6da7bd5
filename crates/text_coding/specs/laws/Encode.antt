-- Laws of the encoding of a text, by what was read.
use Rattle.std.specs.Prelude.{Result, Ok, Err, ℕ, refl, Bool, List, [], ◌∷◌, leb, length}
use Rattle.std.proofs.Math.Path.{◌≡◌, sym, ap}
use Rattle.std.proofs.Common.{◌∙◌}
use Rattle.std.proofs.Math.Bool.{true, false, cond}
use native.Mathlib.Omega.{arith}
use Rattle.answers.specs.Answer.{Answer, result, refusal, refusal_number}
use Rattle.answers.specs.Refusals.{short_buffer, no_plan_held}
use Rattle.cqf.specs.Form.{Form, older, newer, held_top}
use Rattle.tables.specs.Tables.{plan_of}
use Rattle.tables.specs.Lent.{plan_lent, LentOf}
use Rattle.tables.specs.declared.Planner.{Planner}
use Rattle.tables.specs.declared.lending.Lent.{Lent}
use Rattle.cqf.specs.Plan.{Plan, no_plan, valid_plan}
use Rattle.plan_reading.specs.Saved.{form_bytes}
use Rattle.plan_text.specs.Line.{form_by}
use Rattle.plan_text.specs.Text.{Reading, reads, rejected, read_text}
use Rattle.plan_text.specs.Drafting.{reading_of}
use Rattle.plan_text.specs.Outcome.{is_newer, text_answer, text_leaves}
use Rattle.plan_text.specs.laws.Closed.{rejected_reads}
use Rattle.plan_text.specs.laws.Whole.{text_said}
use Rattle.plan_text.specs.declared.grammar.Fault.{Fault}
use Rattle.plan_text.specs.declared.grammar.Item.{Item}
use Rattle.plan_text.specs.declared.text.TextPlan.{TextPlan}
use Rattle.plan_text.specs.declared.refusal.TextRefusal.{TextRefusal}
use Rattle.saving.specs.Save.{save_answer, save_leaves}
use Rattle.saving.specs.Outcome.{Saves}
use Rattle.text_coding.specs.Encode.{Encoded, answered, refused, encoded_answer, encoded_leaves, encode_answer, encode_leaves, EncodesReading, Encodes}

-- a valid plan, saved in this form
module _ (form : Form) (p : Plan) (buffer : List ℕ) (valid : valid_plan p ≡ true) where
  pub saved_encodes : {answer : Answer ℕ} {exit : List ℕ} → Saves form p buffer answer exit → EncodesReading (reads form p) buffer (answered answer) exit
  unfolding save_answer save_leaves
  saved_encodes s = (ap answered (rw valid at s.0), rw valid at s.1)

  pub never_none : refusal no_plan_held (0 ∷ []) ≡ save_answer form p buffer → ⊥
  unfolding save_answer
  never_none e = go (leb (length (form_bytes form p)) (length buffer)) (rw valid at e)
    where
      go
          : (b : Bool)
          → refusal no_plan_held (0 ∷ []) ≡ cond b (result (length (form_bytes form p))) (refusal short_buffer (length (form_bytes form p) ∷ []))
          → ⊥
      go true h = let z : ◌≡◌ {A = ℕ} 0 1 = cc in omega arith
      go false h = omega (arith, ap (λ (a : Answer ℕ). refusal_number a) h)

-- a planner that is lent under the top of its form
pub lent_plan : (t : Planner) (l m : Lent) {top : ℕ} → LentOf t l → top ≡ held_top t.form t.hops t.top → m ≡ record l { top = top } → plan_lent m ≡ plan_of t
lent_plan t l m e h is = rw is (rw (h, e.guard, e.clock, e.rates, e.blockings, e.extras, e.periods, e.counts, e.lengths, e.jitters, e.hops, e.routes))

-- a plan that was read
pub record Read (text : List ℕ) (form : Form) (p : Plan) : Type 0 where
  pub says : read_text text ≡ reads form p
  pub valid : valid_plan p ≡ true

form_by_lem : (form : Form) → form_by (is_newer form) ≡ form
form_by_lem older = refl
form_by_lem newer = refl

module _ (text : List ℕ) where
  pub read_plan : (asked : Bool) (p : Plan) → ◌≡◌ {A = Result TextPlan TextRefusal} (Ok (record { newer = asked })) (text_answer (read_text text)) → p ≡ text_leaves (read_text text) → Read text (form_by asked) p
  read_plan asked p answer leaves = go (read_text text) refl answer leaves
    where
      go : (r : Reading) → read_text text ≡ r → ◌≡◌ {A = Result TextPlan TextRefusal} (Ok (record { newer = asked })) (text_answer r) → p ≡ text_leaves r → Read text (form_by asked) p
      go (reads form q) e a l =
          let same : reads (form_by asked) q ≡ reads form q = ap (λ (t : Result TextPlan TextRefusal). reading_of t q) a ∙ ap (λ (f : Form). reads f q) (form_by_lem form) in
          record { says = e ∙ sym same ∙ ap (reads (form_by asked)) (sym l); valid = rw l (text_said text form q e).valid }
      go (rejected line fault item value) e a l = rejected_reads (sym (ap (λ (t : Result TextPlan TextRefusal). reading_of t p) a))

  pub read_refused
      : (e : TextRefusal)
      → ◌≡◌ {A = Result TextPlan TextRefusal} (Err e) (text_answer (read_text text))
      → read_text text ≡ rejected e.line e.fault e.item e.value
  read_refused e answer = go (read_text text) answer
    where
      go : (r : Reading) → ◌≡◌ {A = Result TextPlan TextRefusal} (Err e) (text_answer r) → r ≡ rejected e.line e.fault e.item e.value
      go (reads form q) a = rejected_reads (ap (λ (t : Result TextPlan TextRefusal). reading_of t q) a)
      go (rejected n f x v) a = sym (ap (λ (t : Result TextPlan TextRefusal). reading_of t no_plan) a)

  pub plan_encodes
      : (buffer : List ℕ) {form other : Form} {p : Plan} {answer : Encoded} {exit : List ℕ}
      → Read text form p
      → other ≡ form
      → EncodesReading (reads other p) buffer answer exit
      → Encodes text buffer answer exit
  unfolding encode_answer encode_leaves
  plan_encodes buffer {p = p} r same e =
      let is : reads _ p ≡ read_text text = ap (λ (f : Form). reads f p) same ∙ sym r.says in
      (e.0 ∙ ap (λ (x : Reading). encoded_answer x buffer) is, e.1 ∙ ap (λ (x : Reading). encoded_leaves x buffer) is)

  pub refused_encodes
      : (buffer : List ℕ) (line : ℕ) (fault : Fault) (item : Item) (value : ℕ)
      → read_text text ≡ rejected line fault item value
      → Encodes text buffer (refused line fault item value) buffer
  unfolding encode_answer encode_leaves
  refused_encodes buffer line fault item value e = (sym (ap (λ (r : Reading). encoded_answer r buffer) e), sym (ap (λ (r : Reading). encoded_leaves r buffer) e))
