-- The plan that a text says has tables of their sizes, and tidy ones.
use Rattle.std.specs.Prelude.{ℕ, suc, ◌+◌, ◌*◌, ◌≡◌, refl, Bool, true, false, not, cond, List, [], ◌∷◌, eqb, leb, length}
use Rattle.std.proofs.Common.{ap, subst, arith}
use Rattle.cqf.specs.Form.{Form}
use Rattle.cqf.specs.Limits.{flow_slots, route_stride}
use Rattle.cqf.specs.Plan.{Plan, no_plan}
use Rattle.plan_reading.specs.Sized.{Sized}
use Rattle.plan_reading.specs.Tidy.{Tidy}
use Rattle.plan_reading.specs.laws.stores.Columns.{zeros}
use Rattle.words.specs.Lines.{said_lines}
use Rattle.plan_text.specs.Line.{form_by}
use Rattle.plan_text.specs.Text.{Draft, Step, stop, more, blank, step_at, absent_in, Reading, reads, rejected, closing, read_lines, read_text, max_text}
use Rattle.plan_text.specs.laws.Fitting.{step_goes}
use Rattle.plan_text.specs.laws.Valid.{ValidDraft, blank_valid, goes_valid}
use Rattle.plan_text.specs.declared.grammar.Item.{Item}
use Rattle.plan_text.specs.declared.grammar.Fault.{Fault}
use Rattle.text_back.specs.laws.ReadTidy.{step_new, new_tidy}

-- the form and the plan that are read
abbrev pub form_in : Form → Reading → Form
form_in form (reads other p) = other
form_in form (rejected line fault item value) = form

abbrev pub plan_in : Plan → Reading → Plan
plan_in p (reads form q) = q
plan_in p (rejected line fault item value) = p

abbrev is_read : Reading → ℕ
is_read (reads form p) = 1
is_read (rejected line fault item value) = 0

refused_not : {A : Type 0} {line : ℕ} {fault : Fault} {item : Item} {value : ℕ} {form : Form} {p : Plan} → rejected line fault item value ≡ reads form p → A
refused_not e = let z : ◌≡◌ {A = ℕ} 0 1 = ap is_read e in absurd (omega arith)

-- what is read at the end is what the lines left
closed_tables : (d : Draft) (n : ℕ) (form : Form) (p : Plan) → closing d n ≡ reads form p → d.tables ≡ p
unfolding closing
closed_tables d n form p = go d.guarded d.topped d.flowing (eqb (absent_in d).named 0)
  where
    go
        : (a b c e : Bool)
        → cond (not a) (rejected n Fault.Incomplete Item.Guard 0)
        (cond (not b) (rejected n Fault.Incomplete Item.Top 0)
        (cond (not c) (rejected n Fault.Incomplete Item.Flow 0)
        (cond (not e) (rejected (absent_in d).line Fault.Absent Item.Route (absent_in d).named) (reads (form_by d.newer) d.tables))))
        ≡ reads form p
        → d.tables ≡ p
    go false b c e h = refused_not h
    go true false c e h = refused_not h
    go true true false e h = refused_not h
    go true true true false h = refused_not h
    go true true true true h = ap (plan_in p) h

pub record Whole (p : Plan) : Type 0 where
  pub sized : Sized p
  pub tidy : Tidy p

lines_whole : (ls : List (List ℕ)) (d : Draft) (n : ℕ) (form : Form) (p : Plan) → ValidDraft d → Tidy d.tables → read_lines d n ls ≡ reads form p → Whole p
unfolding read_lines
lines_whole [] d n form p v tidy e = subst Whole (closed_tables d n form p e) (record { sized = v.tables.sized; tidy = tidy })
lines_whole (l ∷ ls) d n form p v tidy e = go (lines_whole ls) (step_at n d l) refl e
  where
    go
        : ((d : Draft) (n : ℕ) (form : Form) (p : Plan) → ValidDraft d → Tidy d.tables → read_lines d n ls ≡ reads form p → Whole p)
        → (s : Step)
        → step_at n d l ≡ s
        → elim s [ stop fault item value ↦ rejected n fault item value | more e ↦ read_lines e (suc n) ls ] ≡ reads form p
        → Whole p
    go rest (stop fault item value) is h = refused_not h
    go rest (more x) is h =
        let w = goes_valid n d x (step_goes n d l x is) v in
        rest x (suc n) form p w (new_tidy n d x (step_new n d l x is) v w tidy) h

blank_tidy : Tidy blank.tables
unfolding blank no_plan
blank_tidy f i l past less = zeros (flow_slots * route_stride) (f * route_stride + i)

pub text_whole : (text : List ℕ) (form : Form) (p : Plan) → read_text text ≡ reads form p → Whole p
unfolding read_text
text_whole text form p = go (leb (length text) max_text)
  where
    go : (b : Bool) → cond b (read_lines blank 1 (said_lines text)) (rejected 1 Fault.Size Item.First 0) ≡ reads form p → Whole p
    go true h = lines_whole (said_lines text) blank 1 form p blank_valid blank_tidy h
    go false h = refused_not h
