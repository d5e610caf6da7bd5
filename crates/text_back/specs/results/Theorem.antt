-- The text of every plan, read back, gives that plan, and so the bytes as which it is saved.
use Rattle.std.specs.Prelude.{ℕ, ◌≤◌, ◌≡◌, refl, Bool, true, not, length}
use Rattle.std.proofs.Common.{sym, ◌∙◌, le-leb}
use Rattle.std.proofs.Math.Path.{ap}
use Rattle.std.proofs.Math.Bool.{and-eq-true_iff}
use mathlib.Core.List.{List, [], map, append-nil}
use Rattle.std.proofs.Math.Dec.{ltb}
use Rattle.cqf.specs.Bounded.{any_to}
use Rattle.cqf.specs.Form.{Form, form_number, form_fits}
use Rattle.cqf.specs.Limits.{flow_slots}
use Rattle.cqf.specs.Plan.{Plan, clocks_equal, period_of, present, valid_plan}
use Rattle.cqf.proofs.laws.Bounded.{any_to_true, any_to_some}
use Rattle.plan_reading.specs.Saved.{form_bytes}
use Rattle.plan_reading.specs.Sized.{Sized}
use Rattle.plan_reading.specs.Tidy.{Tidy, tidied}
use Rattle.plan_reading.specs.laws.validity.Held.{parts}
use Rattle.plan_reading.specs.laws.saved.SavedLength.{fits_hops}
use Rattle.plan_reading.specs.laws.saved.Tidy.{tidied_same}
use Rattle.words.specs.Lines.{said_lines}
use Rattle.plan_text.specs.Print.{plan_lines, text_of}
use Rattle.plan_text.specs.Text.{max_text, blank, reads, closing, read_lines, read_text}
use Rattle.plan_text.specs.laws.Absent.{none_absent}
use Rattle.plan_text.specs.laws.Steps.{read_none}
use Rattle.text_writing.specs.laws.Length.{text_fits}
use Rattle.text_back.specs.Encodes.{Encodes}
use Rattle.text_back.specs.laws.Lines.{joined}
use Rattle.text_back.specs.laws.TextLines.{lines_said}
use Rattle.text_back.specs.laws.Parts.{text_parts}
use Rattle.text_back.specs.laws.Row.{text_tables}
use Rattle.text_back.specs.laws.Run.{form_asked, draft_at}
use Rattle.text_back.specs.laws.PlanWords.{plan_words}
use Rattle.text_back.specs.laws.PlanRead.{drafted, plan_read}
use Rattle.text_back.specs.laws.Closing.{plan_absent}
use Rattle.text_back.specs.laws.Saved.{tidied_bytes}
use Rattle.text_back.specs.laws.ReadWhole.{form_in, plan_in}

-- a text that is not too long is read by its lines
by_lines : (text : List ℕ) → length text ≤ max_text → read_text text ≡ read_lines blank 1 (said_lines text)
unfolding read_text
by_lines text short = rw (le-leb (length text) max_text short)

module _ (form : Form) (p : Plan) (valid : valid_plan p ≡ true) (sized : Sized p) (fits : form_fits (form_number form) p.hops ≡ true) where
  some_flow : any_to flow_slots (λ f. ltb 0 (period_of p f)) ≡ true
  some_flow =
      let s = any_to_true flow_slots (present p) (parts p valid).some in
      any_to_some flow_slots (λ f. ltb 0 (period_of p f)) s.0 s.1 ((and-eq-true_iff (ltb s.0 flow_slots) (ltb 0 (period_of p s.0))).0 s.2).1

  -- all lines are read, and no port is missing
  closes : (clocked : Bool) (n : ℕ) (lines : List ℕ) → closing (draft_at form clocked (any_to flow_slots (λ f. ltb 0 (period_of p f))) (text_parts p) lines) n ≡ reads form (tidied p)
  closes clocked n lines =
      let d = drafted form clocked (any_to flow_slots (λ f. ltb 0 (period_of p f))) (tidied p) lines in
      ap (λ (q : Plan). closing (drafted form clocked (any_to flow_slots (λ f. ltb 0 (period_of p f))) q lines) n) (text_tables p valid sized)
      ∙ none_absent d n refl refl (ap not some_flow) refl (plan_absent p valid lines)
      ∙ ap (λ (f : Form). reads f (tidied p)) (form_asked form)

  -- The text of a plan that the rules accept, in a form that can hold it, is read as this plan, in this form. The places of the table of
  -- routes past a route, which no plan says, are 0.
  pub text_read : read_text (text_of form p) ≡ reads form (tidied p)
  unfolding text_of
  text_read =
      let r = plan_read p valid form (fits_hops form p.hops fits) in
      by_lines (text_of form p) (text_fits form p valid)
      ∙ ap (read_lines blank 1) (lines_said (plan_lines form p) (plan_words p form))
      ∙ ap (read_lines blank 1) (sym (append-nil (map joined (plan_lines form p))))
      ∙ r.reads []
      ∙ read_none (draft_at form (not (clocks_equal p)) (any_to flow_slots (λ f. ltb 0 (period_of p f))) (text_parts p) r.lines) r.next
      ∙ closes (not (clocks_equal p)) r.next r.lines

  -- So a plan whose tables are tidy, as those of each plan that was read are, comes back itself.
  pub text_back : Tidy p → read_text (text_of form p) ≡ reads form p
  text_back tidy = text_read ∙ ap (reads form) (tidied_same p sized tidy)

  -- And the text of any is encoded as the bytes as which the plan is saved.
  pub text_encodes : Encodes (text_of form p) (form_bytes form p)
  text_encodes = record { form = form; plan = tidied p; says = text_read; saved = tidied_bytes p valid form }

-- Two plans with one text are of one form, and the same but for the places past their routes.
pub same_text
    : (form other : Form) (p q : Plan)
    → valid_plan p ≡ true
    → valid_plan q ≡ true
    → Sized p
    → Sized q
    → form_fits (form_number form) p.hops ≡ true
    → form_fits (form_number other) q.hops ≡ true
    → text_of form p ≡ text_of other q
    → (form ≡ other) × (tidied p ≡ tidied q)
same_text form other p q a b s t f g same =
    let e : reads form (tidied p) ≡ reads other (tidied q) = sym (text_read form p a s f) ∙ ap read_text same ∙ text_read other q b t g in
    (ap (form_in form) e, ap (plan_in p) e)
