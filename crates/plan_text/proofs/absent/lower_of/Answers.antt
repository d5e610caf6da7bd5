-- `lower_of` meets its contract, by whether a flow was found and stands in a lower line.
use Rattle.std.proofs.Common.{ℕ, ◌≡◌, ◌≤◌, subst, ne_eqb, arith, lt-ltb, le-ltb, Some, IfSome}
use Rattle.std.specs.Prelude.{Option}
use Rattle.plan_text.specs.Text.{lower}
use Rattle.plan_text.specs.Drafting.{absent_of}
use Rattle.plan_text.specs.declared.absent.Absent.{Absent}
use Rattle.plan_text.proofs.absent.lower_of.Goals as goal

-- the flow that was found stands in a lower line, or does not
stays : (a : Absent) (line named : ℕ) → 1 ≤ named → 1 ≤ a.named → a.line ≤ line → absent_of (Some a) ≡ lower (absent_of (Some a)) line named
stays a line named some found less = rw (ne_eqb named 0 (λ e. omega arith), ne_eqb a.named 0 (λ e. omega arith), le-ltb line a.line less)

pub returns-in-Some-clause-lower : goal.returns-in-Some-clause-lower
returns-in-Some-clause-lower c =
    let a = c.in-Some.absent in
    let found : 1 ≤ a.named = subst (λ (o : Option Absent). IfSome o (λ (x : Absent). 1 ≤ x.named)) c.in-Some.is c.requires.found in
    rw c.in-Some.is (stays a c.args.line c.args.named c.requires.named found c.if-absent-line.true)

pub returns-in-Some-clause-named : goal.returns-in-Some-clause-named
returns-in-Some-clause-named c = subst (λ (o : Option Absent). IfSome o (λ (x : Absent). 1 ≤ x.named)) c.in-Some.is c.requires.found

pub returns-in_default-clause-lower : goal.returns-in_default-clause-lower
returns-in_default-clause-lower c =
    let a = c.in-Some.absent in
    let found : 1 ≤ a.named = subst (λ (o : Option Absent). IfSome o (λ (x : Absent). 1 ≤ x.named)) c.in-Some.is c.requires.found in
    rw c.in-Some.is (rw (ne_eqb c.args.named 0 (λ e. omega arith), ne_eqb a.named 0 (λ e. omega arith), lt-ltb c.args.line a.line c.if-absent-line.false))
