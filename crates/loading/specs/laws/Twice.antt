-- Whether a route whose ports are in range holds one twice, port by port.
use Rattle.std.specs.Prelude.{ℕ, suc, zero, ◌+◌, ◌<◌, ◌≡◌, refl, Bool, true, false, not, ◌&&◌, List, [], ◌∷◌, length, get_or}
use Rattle.std.proofs.Common.{sym, ap, ◌∙◌}
use Rattle.std.proofs.Math.Bool.{and-false}
use Rattle.cqf.specs.Bounded.{all_to, elem, every, distinct, sublist}
use Rattle.cqf.specs.Limits.{port_ok}
use Rattle.cqf.proofs.laws.Bounds.{all_to_false}
use Rattle.cqf.proofs.laws.Route.{route_test}

sublist-behind : (x : ℕ) (l : List ℕ) (at h : ℕ) → sublist (x ∷ l) (suc at) h ≡ sublist l at h
unfolding sublist
sublist-behind x l at zero = refl
sublist-behind x l at (suc h) = ap (λ (t : List ℕ). get_or l at 0 ∷ t) (sublist-behind x l (suc at) h)

-- the sublist of all
pub sublist_all : (l : List ℕ) → sublist l 0 (length l) ≡ l
unfolding sublist
sublist_all [] = refl
sublist_all (x ∷ l) = ap (λ (t : List ℕ). x ∷ t) (sublist-behind x l 0 (length l) ∙ sublist_all l)

-- the test of the port at i: it is in range, and stands nowhere before
abbrev pub passes : List ℕ → ℕ → Bool
passes r i = port_ok (get_or r (0 + i) 0) && not (elem (get_or r (0 + i) 0) (sublist r 0 i))

module _ (r : List ℕ) (ok : every port_ok r ≡ true) where
  pub distinct_by : distinct r ≡ all_to (length r) (passes r)
  distinct_by =
      sym (ap (λ (b : Bool). b && distinct r) ok)
      ∙ sym (ap (λ (l : List ℕ). every port_ok l && distinct l) (sublist_all r))
      ∙ route_test port_ok r 0 (length r)

  -- a port that stands before
  pub repeats-at : (i : ℕ) → i < length r → elem (get_or r (0 + i) 0) (sublist r 0 i) ≡ true → distinct r ≡ false
  repeats-at i less e = distinct_by ∙ all_to_false (length r) (passes r) i less (rw e (and-false (port_ok (get_or r (0 + i) 0))))
