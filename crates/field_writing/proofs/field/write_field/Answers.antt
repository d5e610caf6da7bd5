-- `write_field` meets its contract: by what the reader says of the field.
use Prim.Native.Nat.{ℕ}
use mathlib.Core.Path.{◌≡◌, sym, ap, ◌∙◌}
use mathlib.Core.Bool.{true, false}
use mathlib.Core.List.{List, [], ◌∷◌}
use Rattle.std.specs.Prelude.{Result, Ok, Err}
use Rattle.std.specs.Result.{IsErrAnd}
use lib.ListN.{drop}
use Rattle.cqf.specs.Form.{Form}
use Rattle.plan.specs.Answer.{form_of, field_of}
use Rattle.plan.specs.Bytes.{part_at}
use Rattle.plan.specs.Layout.{numbers_size}
use Rattle.plan.specs.Field.{Field, field, field_at, route_ports, route_in}
use Rattle.plan.specs.laws.Whole.{part_whole}
use Rattle.plan_reading.specs.Draft.{field_repeats}
use Rattle.plan_reading.specs.Reading.{route_at}
use Rattle.plan_reading.specs.laws.fields.Passes.{field_is_whole}
use Rattle.answers.specs.Answer.{refusal}
use Rattle.plan.specs.Answer.{fault_number}
use Rattle.plan.specs.declared.Fault.{Fault}
use Rattle.field_writing.specs.declared.WriteRefusal.{WriteRefusal}
use Rattle.field_writing.specs.Answer.{write_of}
use Rattle.field_writing.specs.Writes.{WritesBytes}
use Rattle.field_writing.specs.laws.Whole.{refused_writes, repeats_writes, good_writes}
use Rattle.field_writing.proofs.field.write_field.Goals as goal

-- the ports that are split off from the value of a field that was read are those of its route
route_read
    : (form : Form) (bs : List ℕ) (x : Field) (next start : ℕ) (value route : List ℕ)
    → field_at form bs 0 ≡ field x next
    → value ≡ part_at bs 0
    → start ≡ numbers_size x.kind
    → route ≡ drop start value
    → route_ports route ≡ route_at x.kind bs 0
unfolding route_in
route_read form bs x next start value route found there behind is =
    ap route_ports
    (is
    ∙ ap (λ (n : ℕ). drop n value) behind
    ∙ ap (drop (numbers_size x.kind)) (there ∙ part_whole bs 0 (field_is_whole form bs 0 x next found)))

-- the refusal of the reading, as it is answered
refused_said
    : (form : Form) (bs buffer : List ℕ) (r : Result ℕ WriteRefusal) (fault : Fault)
    → IsErrAnd r (λ e. e ≡ WriteRefusal.Refused fault)
    → WritesBytes form bs buffer (refusal (fault_number fault) (0 ∷ [])) buffer
    → WritesBytes form bs buffer (write_of r) buffer
refused_said form bs buffer (Ok n) fault gives w = absurd gives
refused_said form bs buffer (Err e) fault gives w = rw gives w

pub returns-in_err-read : goal.returns-in_err-read
returns-in_err-read c =
    refused_said _ _ _ c.from_residual.result _ c.from_residual.ensures.1 (refused_writes _ _ _ _ _ (sym c.in_err-read.ensures))

pub returns-then-route_repeats : goal.returns-then-route_repeats
returns-then-route_repeats c =
    let form = form_of c.args.form in
    let bs = c.args.field.now in
    let read = c.in_ok-read.read in
    let x = field_of read.field in
    let found : field_at form bs 0 ≡ field x read.next = sym c.in_ok-read.ensures in
    let ports = route_read form bs x read.next c.route_start.result c.field_value.result.now c.route_bytes-route.result.now found c.field_value.ensures c.route_start.ensures c.route_bytes-route.ensures in
    let repeats : field_repeats (route_at x.kind bs 0) ≡ true = ap field_repeats (sym ports) ∙ sym c.route_repeats.ensures ∙ c.if-route_repeats.true in
    repeats_writes form bs c.args.buffer.now x read.next found repeats

pub returns : goal.returns
returns c =
    let form = form_of c.args.form in
    let bs = c.args.field.now in
    let read = c.in_ok-read.read in
    let x = field_of read.field in
    let found : field_at form bs 0 ≡ field x read.next = sym c.in_ok-read.ensures in
    let ports = route_read form bs x read.next c.route_start.result c.field_value.result.now c.route_bytes-route.result.now found c.field_value.ensures c.route_start.ensures c.route_bytes-route.ensures in
    let differ : field_repeats (route_at x.kind bs 0) ≡ false = ap field_repeats (sym ports) ∙ sym c.route_repeats.ensures ∙ c.if-route_repeats.false in
    good_writes form bs c.args.buffer.now x read.next found differ c.put_whole.ensures.0 c.put_whole.ensures.1
