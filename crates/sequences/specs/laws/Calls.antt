-- The plan held after a sequence of calls is the one in the bytes of the last load in which the rules of its reading find no
-- refusal. Either reading finds the same plan in them.
use Rattle.std.specs.Prelude.{◌≡◌, refl, false, List, [], ◌∷◌, ℕ}
use Rattle.std.proofs.Common.{ap, arith}
use Rattle.std.proofs.Math.Option.{Option, none, some}
use Rattle.cqf.specs.Form.{Form, older, newer, form_number, form_from}
use Rattle.cqf.specs.Plan.{Plan, no_plan, valid_plan}
use Rattle.plan.specs.Layout.{form_by}
use Rattle.plan_reading.specs.Reading.{PlanRead, accepted, rejected, Mode, read_as_of, read_plan}
use Rattle.plan_reading.specs.results.StrictTheorem.{read_loosely}
use Rattle.loading.specs.Outcome.{load_leaves, reading_leaves, reading_form, load_form}
use Rattle.sequences.specs.Calls.{Call, load, ask, leaves, after_from, after, form_leaves, form_after_from, form_after, accepting, keeping, held_from, held_bytes}

-- the tables that a reading stands for; none for a refusal
abbrev read_tables : PlanRead → Option Plan
read_tables (accepted p ports flows) = some p
read_tables (rejected number offset) = none

-- the tables are those in these bytes, or the empty ones where no load was accepted
record Holds (held : Option (List ℕ)) (p : Plan) : Type 0 where
  nothing : held ≡ none → p ≡ no_plan
  last : (s : List ℕ) → held ≡ some s → read_tables (read_plan s) ≡ some p

-- a call keeps that so
load_holds
    : (held : Option (List ℕ)) (p : Plan) (mode : Mode) (s : List ℕ)
    → Holds held p
    → Holds (keeping held (load mode s)) (leaves p (load mode s))
unfolding load_leaves
load_holds held p mode s h = go (read_as_of mode s) refl
  where
    go : (r : PlanRead) → read_as_of mode s ≡ r → Holds (accepting held s r) (reading_leaves p r)
    go (accepted q m n) e =
        record {
          nothing = λ d. let z : q ≡ no_plan = cc in z;
          last = λ t d. let st : s ≡ t = cc in rw (← st, read_loosely mode s q m n e);
        }
    go (rejected m n) e = h

call_holds : (held : Option (List ℕ)) (p : Plan) (c : Call) → Holds held p → Holds (keeping held c) (leaves p c)
call_holds held p (load mode s) h = load_holds held p mode s h
call_holds held p (ask x) h = h

calls_hold_from : (held : Option (List ℕ)) (p : Plan) (calls : List Call) → Holds held p → Holds (held_from held calls) (after_from p calls)
unfolding held_from after_from
calls_hold_from held p [] h = h
calls_hold_from held p (c ∷ cs) h = calls_hold_from (keeping held c) (leaves p c) cs (call_holds held p c h)

calls_hold : (calls : List Call) → Holds (held_bytes calls) (after calls)
unfolding held_bytes after
calls_hold calls = calls_hold_from none no_plan calls (record { nothing = λ e. refl; last = λ s e. cc })

-- the plan that is held is the one of an accepted load
pub record Loaded (s : List ℕ) (p : Plan) : Type 0 where
  pub ports : ℕ
  pub flows : ℕ
  pub reads : read_plan s ≡ accepted p ports flows

pub after-loaded : (calls : List Call) (s : List ℕ) → held_bytes calls ≡ some s → Loaded s (after calls)
after-loaded calls s e = go (read_plan s) refl ((calls_hold calls).last s e)
  where
    go : (r : PlanRead) → read_plan s ≡ r → read_tables r ≡ some (after calls) → Loaded s (after calls)
    go (accepted p m n) e h = let same : p ≡ after calls = cc in record { ports = m; flows = n; reads = rw same at e }
    go (rejected m n) e h = let z : ◌≡◌ {A = ℕ} 0 1 = cc in absurd (omega arith)

-- after a sequence of calls with an accepted load, the planner holds the plan in the last one's bytes
pub after_held
    : (calls : List Call) (mode : Mode) (s : List ℕ)
    → held_bytes calls ≡ some s
    → (p : Plan) (ports flows : ℕ)
    → read_as_of mode s ≡ accepted p ports flows
    → after calls ≡ p
after_held calls mode s e p m n r =
    let h = (after-loaded calls s e).reads in
    let q = read_loosely mode s p m n r in
    cc

-- after one without it is the empty one, whose tables are not valid
empty_invalid : valid_plan no_plan ≡ false
unfolding valid_plan no_plan
empty_invalid = refl

pub after_none : (calls : List Call) → held_bytes calls ≡ none → valid_plan (after calls) ≡ false
after_none calls e = rw ((calls_hold calls).nothing e) empty_invalid

-- the form's number beside it is that of those bytes
abbrev Formed : Option (List ℕ) → ℕ → Type 0
Formed held form = (s : List ℕ) → held ≡ some s → form ≡ form_number (form_by s)

load_formed : (held : Option (List ℕ)) (form : ℕ) (mode : Mode) (s : List ℕ) → Formed held form → Formed (keeping held (load mode s)) (form_leaves form (load mode s))
unfolding load_form
load_formed held form mode s h = go (read_as_of mode s)
  where
    go : (r : PlanRead) → Formed (accepting held s r) (reading_form form (form_number (form_by s)) r)
    go (accepted q m n) t d = let st : s ≡ t = cc in ap (λ (u : List ℕ). form_number (form_by u)) st
    go (rejected m n) t d = h t d

call_formed : (held : Option (List ℕ)) (form : ℕ) (c : Call) → Formed held form → Formed (keeping held c) (form_leaves form c)
call_formed held form (load mode s) h = load_formed held form mode s h
call_formed held form (ask x) h = h

calls_formed : (held : Option (List ℕ)) (form : ℕ) (calls : List Call) → Formed held form → Formed (held_from held calls) (form_after_from form calls)
unfolding held_from form_after_from
calls_formed held form [] h = h
calls_formed held form (c ∷ cs) h = calls_formed (keeping held c) (form_leaves form c) cs (call_formed held form c h)

pub form_held : (calls : List Call) (s : List ℕ) → held_bytes calls ≡ some s → form_after calls ≡ form_number (form_by s)
unfolding held_bytes form_after
form_held calls = calls_formed none (form_number older) calls (λ s e. cc)

-- the form of a form's number
pub form_from_lem : (form : Form) → form_from (form_number form) ≡ form
form_from_lem older = refl
form_from_lem newer = refl
