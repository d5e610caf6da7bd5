-- Document 01's number and values for each case of the answers.
use Rattle.std.specs.Prelude.{ℕ, [], ◌∷◌, Option, Some, None, Result, Ok, Err}
use Rattle.answers.specs.Refusals.{bad_size, truncated, unknown_tag, wrong_length, out_of_range, duplicate, repeated_port, incomplete, not_in_plan, out_of_order}
use Rattle.plan.specs.declared.Fault.{Fault}
use Rattle.plan.specs.declared.Fault.TheVariants.{Size, Truncated, UnknownTag, WrongLength, OutOfRange, Duplicate, OutOfOrder, RepeatedPort, Incomplete, NotInPlan}
use Rattle.plan.specs.declared.Form as declaredForm
use Rattle.plan.specs.declared.Head.{Head}
use Rattle.plan.specs.declared.FieldAt.{FieldAt}
use Rattle.plan.specs.declared.Refusal.{Refusal}
use Rattle.plan.specs.declared.Field as declaredField
use Rattle.cqf.specs.Form.{Form, older, newer}
use Rattle.plan.specs.Layout.{Kind}
use Rattle.plan.specs.Field.{HeadRead, head, cut, Field, FieldRead, field, refused}

abbrev pub fault_number : Fault → ℕ
fault_number Size = bad_size
fault_number Truncated = truncated
fault_number UnknownTag = unknown_tag
fault_number WrongLength = wrong_length
fault_number OutOfRange = out_of_range
fault_number Duplicate = duplicate
fault_number OutOfOrder = out_of_order
fault_number RepeatedPort = repeated_port
fault_number Incomplete = incomplete
fault_number NotInPlan = not_in_plan

abbrev pub form_of : declaredForm.Form → Form
form_of declaredForm.Form.Older = older
form_of declaredForm.Form.Newer = newer

abbrev pub head_of : Option Head → HeadRead
head_of (Some h) = head h.tag h.size
head_of None = cut (fault_number Truncated)

-- its number: 0 where the plan holds the whole field
abbrev pub head_number : HeadRead → ℕ
head_number (head tag size) = 0
head_number (cut number) = number

abbrev pub field_of : declaredField.Field → Field
field_of (declaredField.Field.Header h) = record { kind = Kind.header; numbers = h.guard ∷ h.top ∷ []; hops = 0 }
field_of (declaredField.Field.Port p) = record { kind = Kind.port; numbers = p.number ∷ p.rate ∷ p.blocking ∷ []; hops = 0 }
field_of (declaredField.Field.Flow f) =
    record { kind = Kind.flow; numbers = f.number ∷ f.period ∷ f.count ∷ f.length ∷ []; hops = f.hops }
field_of (declaredField.Field.Extra e) = record { kind = Kind.extra; numbers = e.number ∷ e.extra ∷ []; hops = 0 }
field_of (declaredField.Field.Jitter j) = record { kind = Kind.jitter; numbers = j.number ∷ j.jitter ∷ []; hops = 0 }
field_of (declaredField.Field.Clock k) =
    record { kind = Kind.clock; numbers = k.drift ∷ k.timing_jitter ∷ k.sync_error ∷ []; hops = 0 }
field_of (declaredField.Field.Header2 h) =
    record { kind = Kind.header2; numbers = h.guard ∷ h.top ∷ h.drift ∷ h.timing_jitter ∷ h.sync_error ∷ []; hops = 0 }
field_of (declaredField.Field.Port2 p) =
    record { kind = Kind.port2; numbers = p.number ∷ p.rate ∷ p.blocking ∷ p.extra ∷ []; hops = 0 }
field_of (declaredField.Field.Flow2 f) =
    record { kind = Kind.flow2; numbers = f.number ∷ f.period ∷ f.count ∷ f.length ∷ f.jitter ∷ []; hops = f.hops }

abbrev pub field_read_of : Result FieldAt Refusal → FieldRead
field_read_of (Ok f) = field (field_of f.field) f.next
field_read_of (Err r) = refused (fault_number r.fault) r.offset
