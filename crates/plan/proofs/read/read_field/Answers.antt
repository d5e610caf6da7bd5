-- `read_field` meets its contract: the form is the one that the bytes tell.
use mathlib.Core.Path.{ap, ◌∙◌}
use Rattle.cqf.specs.Form.{Form}
use Rattle.plan.specs.Field.{field_at}
use Rattle.plan.proofs.read.read_field.Goals as goal

pub returns : goal.returns
returns c =
    let s = c.before.before.before in
    c.field_at.ensures ∙ ap (λ (f : Form). field_at f s.args.plan.now s.args.at) c.form_by.ensures
