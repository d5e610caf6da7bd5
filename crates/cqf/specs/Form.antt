-- The two forms of plan files (document 02: the old and the new one), one of which a held plan was read from.
use Rattle.std.specs.Prelude.{ℕ, zero, suc, Bool, cond, ◌&&◌, List, leb, ltb, get_or}
use Rattle.cqf.specs.Bounded.{all_to}
use Rattle.cqf.specs.Limits.{flow_slots, max_hops}

pub data Form : Type 0 where
  older : Form
  newer : Form

-- its number, as a planner holds it, and the form of a number
abbrev pub form_number : Form → ℕ
form_number older = 0
form_number newer = 1

abbrev pub forms : ℕ
forms = 2

abbrev pub form_from : ℕ → Form
form_from zero = older
form_from (suc n) = newer

-- the most ports of a route in a plan of this form
abbrev pub most_hops_in : Form → ℕ
most_hops_in older = 16
most_hops_in newer = max_hops

-- whether a plan with these numbers of hops can have been read from a plan of the form of this number
unfoldable pub form_fits : (number : ℕ) (hops : List ℕ) → Bool
form_fits number hops = ltb number forms && all_to flow_slots (λ f. leb (get_or hops f 0) (most_hops_in (form_from number)))

-- the top of tables with this form's number: tables that no load can have left hold no plan, and so have top 0
abbrev pub held_top : (number : ℕ) (hops : List ℕ) (top : ℕ) → ℕ
held_top number hops top = cond (form_fits number hops) top 0
