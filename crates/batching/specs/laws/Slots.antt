-- What a slot's numbers say, and a batch with another slot.
use Rattle.std.specs.Prelude.{◌≡◌, List, [], ◌∷◌, map, Bool, cond, ◌&&◌, ℕ, zero, suc, ◌<◌, eqb, length, get_or, set}
use Rattle.std.proofs.Math.Path.{refl}
use Rattle.std.proofs.Common.{sym, ap, subst, true≢false, arith}
use Rattle.std.proofs.Math.Bool.{true, false}
use Rattle.std.proofs.lemmas.Bool.{false≢true}
use Rattle.std.proofs.Math.Decide.{ℕ_discrete, dec_lt}
use Rattle.std.proofs.Math.Dec.{ltb}
use borrow.Author.Tests.{ne_eqb, ltb-true, le-leb, lt-leb}
use Rattle.cqf.specs.Plan.{Plan}
use Rattle.answers.specs.Answer.{Answer, result, refusal}
use Rattle.questions.specs.FixedPoint.{FixedPoint}
use Rattle.batches.specs.Slot.{Slot, vacant, pending, answered, is_vacant, is_pending, is_answered}
use Rattle.batches.specs.Batch.{final_in}
use Rattle.batching.specs.Slots.{slot_by, pends_by, answered_by}
use Rattle.batching.specs.Answer.{final_by}

-- a slot is vacant where it is neither pending nor answered
pub vacant_neither : (x : Slot) → is_pending x ≡ false → is_answered x ≡ false → is_vacant x ≡ true
vacant_neither vacant a b = refl
vacant_neither (pending p t n) a b = absurd (true≢false a)
vacant_neither (answered a) b c = absurd (true≢false c)

pub not_vacant_pending : (x : Slot) → is_pending x ≡ true → is_vacant x ≡ false
not_vacant_pending vacant e = absurd (false≢true e)
not_vacant_pending (pending p t n) e = refl
not_vacant_pending (answered a) e = refl

pub not_vacant_answered : (x : Slot) → is_answered x ≡ true → is_vacant x ≡ false
not_vacant_answered vacant e = absurd (false≢true e)
not_vacant_answered (pending p t n) e = refl
not_vacant_answered (answered a) e = refl

pub not_answered : (x : Slot) → is_answered x ≡ false → final_in x ≡ final_in vacant
not_answered vacant e = refl
not_answered (pending p t n) e = refl
not_answered (answered a) e = absurd (true≢false e)

-- the tests on the numbers
module _ (p : Plan) (state duration port count steps : ℕ) where
  abbrev slot : Slot
  slot = slot_by p state duration port count steps

  -- the slot and its final answer by the tests on the state
  abbrev slot_in : (pends found none invalid outside : Bool) → Slot
  slot_in x y z w v =
      cond x
      (cond (ltb steps duration) (pending p duration steps) vacant)
      (cond y
      (answered (result (record { duration = duration; steps = steps })))
      (cond z
      (answered (refusal 22 (port ∷ count ∷ steps ∷ [])))
      (cond w (answered (refusal 20 (0 ∷ []))) (cond v (answered (refusal 10 (0 ∷ []))) vacant))))

  abbrev final_at : (found none invalid : Bool) → Answer FixedPoint
  final_at y z w =
      cond y
      (result (record { duration = duration; steps = steps }))
      (cond z (refusal 22 (port ∷ count ∷ steps ∷ [])) (cond w (refusal 20 (0 ∷ [])) (refusal 10 (0 ∷ []))))

  -- the tests on the state, and whether it is one of a final answer
  abbrev At : ((pends found none invalid outside answers : Bool) → Type 0) → ℕ → Type 0
  At Q k = Q (eqb k 1) (eqb k 2) (eqb k 3) (eqb k 4) (eqb k 5) (answered_by k)

  -- the state is one of those that mean something, or another
  by_state
      : (Q : (pends found none invalid outside answers : Bool) → Type 0)
      → Q true false false false false false
      → Q false true false false false true
      → Q false false true false false true
      → Q false false false true false true
      → Q false false false false true true
      → Q false false false false false false
      → At Q state
  by_state Q a b c d e f = go (ℕ_discrete state 1) (ℕ_discrete state 2) (ℕ_discrete state 3) (ℕ_discrete state 4) (ℕ_discrete state 5)
    where
      at : (k : ℕ) → state ≡ k → At Q k → At Q state
      at k same q = subst (At Q) (sym same) q

      no_answer : (state ≡ 2 → ⊥) → (state ≡ 3 → ⊥) → (state ≡ 4 → ⊥) → (state ≡ 5 → ⊥) → Dec (state < 2) → answered_by state ≡ false
      no_answer x y z w (yes l) = rw (lt-leb 2 state l)
      no_answer x y z w (no l) = rw (le-leb 2 state (omega arith), lt-leb state 5 (omega arith))

      go : Dec (state ≡ 1) → Dec (state ≡ 2) → Dec (state ≡ 3) → Dec (state ≡ 4) → Dec (state ≡ 5) → At Q state
      go (yes h) _ _ _ _ = at 1 h a
      go (no h₁) (yes h) _ _ _ = at 2 h b
      go (no h₁) (no h₂) (yes h) _ _ = at 3 h c
      go (no h₁) (no h₂) (no h₃) (yes h) _ = at 4 h d
      go (no h₁) (no h₂) (no h₃) (no h₄) (yes h) = at 5 h e
      go (no h₁) (no h₂) (no h₃) (no h₄) (no h₅) =
          rw (ne_eqb state 1 h₁, ne_eqb state 2 h₂, ne_eqb state 3 h₃, ne_eqb state 4 h₄, ne_eqb state 5 h₅, no_answer h₂ h₃ h₄ h₅ (dec_lt state 2)) f

  pub pends_by_lem : is_pending slot ≡ pends_by state duration steps
  unfolding slot_by
  pends_by_lem =
      by_state (λ x y z w v u. is_pending (slot_in x y z w v) ≡ (x && ltb steps duration)) (run (ltb steps duration)) refl refl refl refl refl
    where
      run : (x : Bool) → is_pending (cond x (pending p duration steps) vacant) ≡ x
      run true = refl
      run false = refl

  pub answered_by_lem : is_answered slot ≡ answered_by state
  unfolding slot_by
  answered_by_lem = by_state (λ x y z w v u. is_answered (slot_in x y z w v) ≡ u) (run (ltb steps duration)) refl refl refl refl refl
    where
      run : (x : Bool) → is_answered (cond x (pending p duration steps) vacant) ≡ false
      run true = refl
      run false = refl

  pub final_by_lem : answered_by state ≡ true → final_in slot ≡ final_by state duration port count steps
  unfolding slot_by
  final_by_lem =
      by_state
      (λ x y z w v u. u ≡ true → final_in (slot_in x y z w v) ≡ final_at y z w)
      (λ e. absurd (false≢true e))
      (λ e. refl)
      (λ e. refl)
      (λ e. refl)
      (λ e. refl)
      (λ e. absurd (false≢true e))

  -- a slot that is pending
  pub pending_by : pends_by state duration steps ≡ true → (slot ≡ pending p duration steps) × (steps < duration)
  unfolding slot_by
  pending_by =
      by_state
      (λ x y z w v u. (x && ltb steps duration) ≡ true → (slot_in x y z w v ≡ pending p duration steps) × (steps < duration))
      (λ e. (rw e, ltb-true steps duration e))
      (λ e. absurd (false≢true e))
      (λ e. absurd (false≢true e))
      (λ e. absurd (false≢true e))
      (λ e. absurd (false≢true e))
      (λ e. absurd (false≢true e))

-- the elements of a list that is mapped
pub map_set : {A B : Type 0} (f : A → B) (l : List A) (i : ℕ) (x : A) → map f (set l i x) ≡ set (map f l) i (f x)
map_set f [] i x = refl
map_set f (y ∷ ys) zero x = refl
map_set f (y ∷ ys) (suc i) x = ap (λ zs. f y ∷ zs) (map_set f ys i x)

pub map_get_d : {A B : Type 0} (f : A → B) (l : List A) (i : ℕ) (d : A) (e : B) → i < length l → get_or (map f l) i e ≡ f (get_or l i d)
map_get_d f [] i d e l = absurd (omega arith)
map_get_d f (y ∷ ys) zero d e l = refl
map_get_d f (y ∷ ys) (suc i) d e l = map_get_d f ys i d e (omega arith)
