-- Laws of what the question for a gate control list answers and leaves.
use Rattle.std.specs.Prelude.{ℕ, ◌≤◌, ◌<◌, ◌≡◌, Bool, not, ◌&&◌, List, [], ◌∷◌, leb, eqb, length, take, drop}
use Rattle.std.proofs.Math.Path.{refl, ap}
use Rattle.std.proofs.Common.{sym, ◌∙◌, arith, leb-true, le-leb, take_at, drop_at}
use Rattle.std.proofs.Math.Bool.{true, false, cond, and-eq-true_iff}
use Rattle.std.proofs.lemmas.Bool.{eqb-false, not-true}
use Rattle.cqf.specs.Bounded.{within}
use Rattle.cqf.specs.Plan.{Plan, valid_plan}
use Rattle.cqf.specs.Condition.{admissible}
use Rattle.gate_lists.specs.GateList.{queues, gate_list_bytes}
use Rattle.writing.specs.Laid.{over}
use Rattle.answers.specs.Answer.{Answer, result, refusal}
use Rattle.answers.specs.Refusals.{bad_duration, bad_queue, no_plan_held, not_admissible}
use Rattle.questions.specs.Outcome.{failing_at, check_answer}
use Rattle.gate_writing.specs.Gates.{last_queue, queues_ok, list_answer, gates_answer, gates_leaves}
use Rattle.writing.specs.Answer.{written_leaves}
use Rattle.questions.specs.laws.Answers.{check_none}
use Rattle.writing.specs.laws.Answer.{Fits, written_fits}

-- two different queues of the eight
module _ (even odd : ℕ) (ok : queues_ok even odd ≡ true) where
  others : leb odd last_queue && not (eqb even odd) ≡ true
  others = ((and-eq-true_iff (leb even last_queue) (leb odd last_queue && not (eqb even odd))).0 ok).1

  pub even_below : even < queues
  even_below = omega (arith, leb-true even last_queue ((and-eq-true_iff (leb even last_queue) _).0 ok).0)

  pub odd_below : odd < queues
  odd_below = omega (arith, leb-true odd last_queue ((and-eq-true_iff (leb odd last_queue) (not (eqb even odd))).0 others).0)

  pub queues-apart : even ≡ odd → ⊥
  queues-apart =
      eqb-false even odd (not-true (eqb even odd) ((and-eq-true_iff (leb odd last_queue) (not (eqb even odd))).0 others).1)

-- what the plain question accepts is asked of a valid plan
pub accepts_valid : (p : Plan) (T : ℕ) → check_answer p T ≡ result tt → valid_plan p ≡ true
accepts_valid p T accepts = go (valid_plan p) refl
  where
    go : (b : Bool) → valid_plan p ≡ b → valid_plan p ≡ true
    go true e = e
    go false e =
        let none = sym (check_none p T e) ∙ accepts in
        let z : ◌≡◌ {A = ℕ} 0 1 = cc in
        absurd (omega arith)

-- what is said where the plain question accepts, and its refusal where it does not
abbrev following : Answer (Unit {0}) → Answer ℕ → Answer ℕ
following (result x) answer = answer
following (refusal number values) answer = refusal number values

module _ (p : Plan) (T even odd : ℕ) (buffer : List ℕ) where
  abbrev list : List ℕ
  list = gate_list_bytes p T even odd

  abbrev next : Answer ℕ
  next = list_answer p T even odd buffer

  gates_follow : gates_answer p T even odd buffer ≡ following (check_answer p T) next
  unfolding gates_answer check_answer
  gates_follow = go (valid_plan p) (within 1 p.top T) (admissible p T)
    where
      go
          : (v w a : Bool)
          → cond v (cond w (cond a next (failing_at not_admissible p T)) (refusal bad_duration (0 ∷ []))) (refusal no_plan_held (0 ∷ []))
          ≡ following (cond v (cond w (cond a (result tt) (failing_at not_admissible p T)) (refusal bad_duration (0 ∷ []))) (refusal no_plan_held (0 ∷ []))) next
      go true true true = refl
      go true true false = refl
      go true false a = refl
      go false w a = refl

  -- where the plain question refuses, its refusal; where it accepts, the queues and the room are asked for
  pub gates_refused : {number : ℕ} {values : List ℕ} → check_answer p T ≡ refusal number values → gates_answer p T even odd buffer ≡ refusal number values
  gates_refused e = gates_follow ∙ ap (λ (a : Answer (Unit {0})). following a next) e

  pub gates_accepted : check_answer p T ≡ result tt → gates_answer p T even odd buffer ≡ next
  gates_accepted e = gates_follow ∙ ap (λ (a : Answer (Unit {0})). following a next) e

  -- and only then there is a list
  pub gates_check : (n : ℕ) → gates_answer p T even odd buffer ≡ result n → check_answer p T ≡ result tt
  gates_check n e = go (check_answer p T) refl
    where
      go : (a : Answer (Unit {0})) → check_answer p T ≡ a → check_answer p T ≡ result tt
      go (result tt) c = c
      go (refusal number values) c =
          let none : refusal number values ≡ result n = sym (gates_refused c) ∙ e in
          let z : ◌≡◌ {A = ℕ} 0 1 = cc in
          absurd (omega arith)

  module _ (accepts : check_answer p T ≡ result tt) where
    pub gates_queues : queues_ok even odd ≡ false → gates_answer p T even odd buffer ≡ refusal bad_queue (0 ∷ [])
    gates_queues e = gates_accepted accepts ∙ rw e

    pub gates_written : queues_ok even odd ≡ true → length list ≤ length buffer → gates_answer p T even odd buffer ≡ result (length list)
    gates_written ok l = gates_accepted accepts ∙ rw (ok, le-leb (length list) (length buffer) l)

  -- what is left, by the answer
  pub gates_leave : (a : Answer ℕ) → a ≡ gates_answer p T even odd buffer → written_leaves list buffer a ≡ gates_leaves p T even odd buffer
  unfolding gates_leaves
  gates_leave a e = ap (written_leaves list buffer) e

  pub gates_none : valid_plan p ≡ false → gates_answer p T even odd buffer ≡ refusal no_plan_held (0 ∷ [])
  gates_none e = gates_refused (check_none p T e)

  pub gates_keeps : valid_plan p ≡ false → gates_leaves p T even odd buffer ≡ buffer
  gates_keeps e = sym (gates_leave (refusal no_plan_held (0 ∷ [])) (sym (gates_none e)))

  -- where the answer is a length, the queues are two of the eight; the length is the list's, and there is room for it
  module _ (n : ℕ) (e : gates_answer p T even odd buffer ≡ result n) where
    said : next ≡ result n
    said = sym (gates_accepted (gates_check n e)) ∙ e

    pub gates_apart : queues_ok even odd ≡ true
    gates_apart = go (queues_ok even odd) refl
      where
        go : (b : Bool) → queues_ok even odd ≡ b → queues_ok even odd ≡ true
        go true q = q
        go false q =
            let none : refusal bad_queue (0 ∷ []) ≡ result n = sym (gates_queues (gates_check n e) q) ∙ e in
            let z : ◌≡◌ {A = ℕ} 0 1 = cc in
            absurd (omega arith)

    pub gates_fit : Fits list buffer n
    gates_fit = written_fits list buffer n (rw gates_apart at said)

    left : gates_leaves p T even odd buffer ≡ over list buffer
    left = sym (gates_leave (result n) (sym e))

    -- the first bytes are the list, the others as they were
    pub gates_front : take n (gates_leaves p T even odd buffer) ≡ list
    gates_front = rw left (take_at list (drop (length list) buffer) n (sym gates_fit.size))

    pub gates_rest : drop n (gates_leaves p T even odd buffer) ≡ drop n buffer
    gates_rest = rw left (drop_at list (drop (length list) buffer) n (sym gates_fit.size) ∙ rw gates_fit.size)
