-- `tables::forms::most_hops` meets its contract: any form but the first is the newer one.
use mathlib.Core.Path.{◌≡◌, refl, sym, ap}
use Prim.Native.Nat.{ℕ, zero, suc}
use Rattle.cqf.specs.Form.{newer, form_from, most_hops_in}
use Rattle.tables.proofs.forms.most_hops.Goals as goal

later : (n : ℕ) → (n ≡ 0 → ⊥) → form_from n ≡ newer
later zero other = absurd (other refl)
later (suc n) other = refl

pub returns : goal.returns
returns c = sym (ap most_hops_in (later c.args.form c.if-form-eq-OLDER.false))
