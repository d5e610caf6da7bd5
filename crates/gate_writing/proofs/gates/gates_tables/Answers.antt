-- `gates_tables` meets its contract: the refusals in their order, and the list where there is room for it.
use Prim.Native.Nat.{ℕ, ◌≤◌, ◌<◌}
use mathlib.Core.Path.{◌≡◌, sym, ◌∙◌}
use mathlib.Core.Bool.{true}
use mathlib.Core.List.{List}
use Rattle.std.specs.Prelude.{Result, Ok, Err}
use Rattle.std.specs.Result.{IsErrAnd}
use borrow.Author.Tests.{leb-true, leb-false}
use lib.ListN.{length}
use Rattle.cqf.specs.Plan.{Plan}
use Rattle.tables.specs.Lent.{plan_lent}
use Rattle.answers.specs.Answer.{result}
use Rattle.questions.specs.declared.check.CheckRefusal.{CheckRefusal}
use Rattle.questions.specs.Outcome.{check_answer}
use Rattle.questions.specs.Answer.{check_of}
use Rattle.gate_writing.specs.declared.GatesRefusal.{GatesRefusal}
use Rattle.gate_writing.specs.Gates.{queues_ok}
use Rattle.gate_writing.specs.Answer.{gates_of, refusal_of}
use Rattle.gate_writing.specs.Outcome.{Gated}
use Rattle.gate_writing.specs.laws.Outcome.{gated_refused, gated_queue, writable, gated_short, gated_written}
use Rattle.gate_writing.proofs.gates.gates_tables.Goals as goal

-- the plain question's refusal, as it is answered
refused_said
    : (p : Plan) (T even odd : ℕ) (buffer : List ℕ) (r : Result ℕ GatesRefusal) (why : CheckRefusal)
    → check_of (Err why) ≡ check_answer p T
    → IsErrAnd r (λ e. e ≡ refusal_of why)
    → Gated p T even odd buffer (gates_of r) buffer
refused_said p T even odd buffer (Ok n) why said gives = absurd gives
refused_said p T even odd buffer (Err e) CheckRefusal.NoPlan said gives = rw gives (gated_refused p T even odd buffer (sym said))
refused_said p T even odd buffer (Err e) CheckRefusal.BadDuration said gives = rw gives (gated_refused p T even odd buffer (sym said))
refused_said p T even odd buffer (Err e) (CheckRefusal.Failing port count) said gives = rw gives (gated_refused p T even odd buffer (sym said))

pub returns-in_err-check_tables : goal.returns-in_err-check_tables
returns-in_err-check_tables c =
    let a = c.args in
    refused_said (plan_lent a.lent) a.duration a.even a.odd a.buffer.now c.from_residual.result _ c.in_err-check_tables.ensures c.from_residual.ensures.1

pub returns-then-not-queues_ok : goal.returns-then-not-queues_ok
returns-then-not-queues_ok c =
    let a = c.args in
    let p = plan_lent a.lent in
    let accepts : check_answer p a.duration ≡ result tt = sym c.in_ok-check_tables.ensures in
    gated_queue p a.duration a.even a.odd a.buffer.now accepts (sym c.queues_ok.ensures ∙ c.if-not-queues_ok.true)

pub returns-then-not-has_room : goal.returns-then-not-has_room
returns-then-not-has_room c =
    let a = c.args in
    let p = plan_lent a.lent in
    let accepts : check_answer p a.duration ≡ result tt = sym c.in_ok-check_tables.ensures in
    let ok : queues_ok a.even a.odd ≡ true = sym c.queues_ok.ensures ∙ c.if-not-queues_ok.false in
    let n = c.list_size-needed.result in
    let short : length a.buffer.now < n = leb-false _ _ (sym c.has_room.ensures ∙ c.if-not-has_room.true) in
    gated_short p a.duration a.even a.odd a.buffer.now accepts ok n c.list_size-needed.ensures short

pub put_list-requires : goal.put_list-requires
put_list-requires c =
    let a = c.args in
    let p = plan_lent a.lent in
    let accepts : check_answer p a.duration ≡ result tt = sym c.in_ok-check_tables.ensures in
    let ok : queues_ok a.even a.odd ≡ true = sym c.queues_ok.ensures ∙ c.if-not-queues_ok.false in
    writable p a.duration a.even a.odd a.buffer.now accepts ok

pub returns : goal.returns
returns c =
    let a = c.args in
    let p = plan_lent a.lent in
    let accepts : check_answer p a.duration ≡ result tt = sym c.in_ok-check_tables.ensures in
    let ok : queues_ok a.even a.odd ≡ true = sym c.queues_ok.ensures ∙ c.if-not-queues_ok.false in
    let n = c.list_size-needed.result in
    let room : n ≤ length a.buffer.now = leb-true _ _ (sym c.has_room.ensures ∙ c.if-not-has_room.false) in
    gated_written p a.duration a.even a.odd a.buffer.now accepts ok n c.list_size-needed.ensures room c.put_list.ensures
