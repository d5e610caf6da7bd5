-- What holds where a text says a plan at its end: all is said that must be, and no route names a port which is not in the plan.
use Rattle.std.specs.Prelude.{ℕ, zero, suc, ◌<◌, ◌≡◌, refl, Bool, true, false, not, cond, ◌||◌, List, [], ◌∷◌, eqb, ltb, get_or}
use Rattle.std.proofs.Common.{ap, subst, arith, eqb-true}
use Rattle.std.proofs.Math.Bool.{and-eq-true_iff}
use Rattle.std.proofs.lemmas.Bool.{false≢true, eqb-false}
use Rattle.std.proofs.Math.Decide.{ℕ_discrete}
use Rattle.cqf.specs.Bounded.{every}
use Rattle.cqf.specs.Form.{Form}
use Rattle.cqf.specs.Limits.{port_ok}
use Rattle.cqf.specs.Plan.{Plan, port_in}
use Rattle.plan_text.specs.Line.{form_by}
use Rattle.plan_text.specs.Text.{Draft, Absent, missing, missing_of, lower, absent_to, absent_in, Reading, reads, rejected, closing}
use Rattle.plan_text.specs.declared.grammar.Item.{Item}
use Rattle.plan_text.specs.declared.grammar.Fault.{Fault}

-- a route of which no port is missing
pub none-missing : (rates r : List ℕ) → every port_ok r ≡ true → missing rates r ≡ 0 → every (port_in rates) r ≡ true
unfolding every missing
none-missing rates [] ok e = refl
none-missing rates (n ∷ r) ok e = go (none-missing rates r) (port_in rates n) refl e
  where
    t : (port_ok n ≡ true) × (every port_ok r ≡ true)
    t = (and-eq-true_iff (port_ok n) (every port_ok r)).0 ok

    go
        : (every port_ok r ≡ true → missing rates r ≡ 0 → every (port_in rates) r ≡ true)
        → (b : Bool)
        → port_in rates n ≡ b
        → cond b (missing rates r) n ≡ 0
        → every (port_in rates) (n ∷ r) ≡ true
    go ih true p h = rw p (ih t.1 h)
    go ih false p h = let z : port_ok 0 ≡ true = subst (λ (k : ℕ). port_ok k ≡ true) h t.0 in absurd (false≢true z)

-- where no flow names a port that is not in the plan
none-lower : (a : Absent) (line named : ℕ) → (lower a line named).named ≡ 0 → (a.named ≡ 0) × (named ≡ 0)
none-lower a line named e = go (eqb named 0) (eqb a.named 0) refl refl e
  where
    go
        : (x y : Bool)
        → eqb named 0 ≡ x
        → eqb a.named 0 ≡ y
        → (cond x a (cond (y || ltb line a.line) (record { line = line; named = named }) a)).named ≡ 0
        → (a.named ≡ 0) × (named ≡ 0)
    go true y x≡ y≡ h = (h, eqb-true named 0 x≡)
    go false true x≡ y≡ h = absurd (eqb-false named 0 x≡ h)
    go false false x≡ y≡ h = later (ltb line a.line) h
      where
        later : (z : Bool) → (cond z (record { line = line; named = named }) a).named ≡ 0 → (a.named ≡ 0) × (named ≡ 0)
        later true h = absurd (eqb-false named 0 x≡ h)
        later false h = absurd (eqb-false a.named 0 y≡ h)

pub none_absent : (n : ℕ) (rates hops routes lines : List ℕ) → (absent_to n rates hops routes lines).named ≡ 0 → (f : ℕ) → f < n → missing_of rates hops routes f ≡ 0
unfolding absent_to
none_absent zero rates hops routes lines e f less = absurd (omega arith)
none_absent (suc n) rates hops routes lines e f less = go (none_absent n rates hops routes lines) (ℕ_discrete f n)
  where
    t : ((absent_to n rates hops routes lines).named ≡ 0) × (missing_of rates hops routes n ≡ 0)
    t = none-lower (absent_to n rates hops routes lines) (get_or lines n 0) (missing_of rates hops routes n) e

    go : ((absent_to n rates hops routes lines).named ≡ 0 → (f : ℕ) → f < n → missing_of rates hops routes f ≡ 0) → Dec (f ≡ n) → missing_of rates hops routes f ≡ 0
    go ih (yes same) = rw same t.1
    go ih (no other) = ih t.0 f (omega arith)

-- what the end of a text leaves
pub record Closed (d : Draft) : Type 0 where
  pub topped : d.topped ≡ true
  pub flowing : d.flowing ≡ true
  pub named : (absent_in d).named ≡ 0

abbrev pub form_in : Form → Reading → Form
form_in form (reads f p) = f
form_in form (rejected line fault item value) = form

abbrev pub plan_in : Plan → Reading → Plan
plan_in p (reads form q) = q
plan_in p (rejected line fault item value) = p

abbrev is_read : Reading → ℕ
is_read (reads form p) = 1
is_read (rejected line fault item value) = 0

pub rejected_reads : {A : Type 0} {line : ℕ} {fault : Fault} {item : Item} {value : ℕ} {form : Form} {p : Plan} → rejected line fault item value ≡ reads form p → A
rejected_reads e = let z : ◌≡◌ {A = ℕ} 0 1 = ap is_read e in absurd (omega arith)

pub closes : (d : Draft) (n : ℕ) (form : Form) (p : Plan) → closing d n ≡ reads form p → Closed d × (form_by d.newer ≡ form) × (d.tables ≡ p)
unfolding closing
closes d n form p = go d.guarded d.topped d.flowing (eqb (absent_in d).named 0) refl refl refl
  where
    go
        : (a b c e : Bool)
        → d.topped ≡ b
        → d.flowing ≡ c
        → eqb (absent_in d).named 0 ≡ e
        → cond (not a) (rejected n Fault.Incomplete Item.Guard 0)
        (cond (not b) (rejected n Fault.Incomplete Item.Top 0)
        (cond (not c) (rejected n Fault.Incomplete Item.Flow 0)
        (cond (not e) (rejected (absent_in d).line Fault.Absent Item.Route (absent_in d).named) (reads (form_by d.newer) d.tables))))
        ≡ reads form p
        → Closed d × (form_by d.newer ≡ form) × (d.tables ≡ p)
    go false b c e b≡ c≡ e≡ h = rejected_reads h
    go true false c e b≡ c≡ e≡ h = rejected_reads h
    go true true false e b≡ c≡ e≡ h = rejected_reads h
    go true true true false b≡ c≡ e≡ h = rejected_reads h
    go true true true true b≡ c≡ e≡ h =
        (record { topped = b≡; flowing = c≡; named = eqb-true (absent_in d).named 0 e≡ }, ap (form_in form) h, ap (plan_in p) h)
