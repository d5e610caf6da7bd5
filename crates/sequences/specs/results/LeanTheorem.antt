-- After every sequence of calls the searches over a scratch of one number answer what the first pair answers to a scratch of 64, and
-- leave the demand that stands there for the highest-numbered crossed port.
use Rattle.std.specs.Prelude.{◌≡◌, cond, List, ◌∷◌, ◌++◌, ℕ, suc, ◌-◌, ◌<◌, leb, length, get_or, drop}
use Rattle.std.proofs.Common.{arith, le-leb}
use Rattle.std.proofs.Math.ListN.{get_or-append}
use Rattle.cqf.specs.Limits.{port_slots}
use Rattle.cqf.specs.Plan.{Plan}
use Rattle.cqf.specs.Condition.{demand, least, margin_safe}
use Rattle.cqf.specs.PortSteps.{highest_crossed}
use Rattle.cqf.proofs.laws.HighestCrossed.{highest_slot}
use Rattle.cqf.proofs.laws.Tabulate.{tabulate_length, tabulate-at}
use Rattle.questions.specs.Outcome.{searched, search_leaves, found_demands, least_answer, least_leaves, margin_safe_answer, margin_safe_leaves}
use Rattle.questions.specs.Lean.{lean_searched, lean_search_leaves, lean_least_answer, lean_least_leaves, lean_margin_safe_answer, lean_margin_safe_leaves}
use Rattle.sequences.specs.Calls.{Call, after}
use Rattle.sequences.specs.Lean.{SameSearch, LeanSearches}

module _ (number : ℕ) (p : Plan) (found : ℕ) where
  same : SameSearch p (lean_searched number p found) (searched number p found) (lean_search_leaves p found) (search_leaves p found)
  same =
      record {
        answers = λ one many some long. rw (le-leb _ _ some, le-leb _ _ long);
        empty = λ valid. rw valid;
        left = λ n rest many valid long. rw (valid, le-leb 1 (suc (length rest)) (omega arith), le-leb port_slots (length many) long) (left rest many);
      }
    where
      left
          : (rest many : List ℕ)
          → demand p (highest_crossed p - 1) (cond (leb found p.top) found p.top) ∷ rest
          ≡ get_or (found_demands p found ++ drop port_slots many) (highest_crossed p - 1) 0 ∷ rest
      left rest many =
          let inside : highest_crossed p - 1 < port_slots = highest_slot p in
          let at = tabulate-at port_slots (λ q. demand p q (cond (leb found p.top) found p.top)) (highest_crossed p - 1) inside in
          rw (get_or-append (found_demands p found) (drop port_slots many) 0 (highest_crossed p - 1) (rw tabulate_length inside), at)

-- of any tables
pub lean_searches : (p : Plan) → LeanSearches p
unfolding lean_least_answer least_answer lean_least_leaves least_leaves lean_margin_safe_answer margin_safe_answer lean_margin_safe_leaves margin_safe_leaves
lean_searches p = record { least = same _ p (least p); margin_safe = same _ p (margin_safe p) }

-- and so after every sequence of calls
pub held_lean_searches : (calls : List Call) → LeanSearches (after calls)
held_lean_searches calls = lean_searches (after calls)
