-- Laws of a route that is read port by port.
use Rattle.std.specs.Prelude.{◌≡◌, Bool, true, false, not, ◌&&◌, ◌||◌, List, [], ◌∷◌, ◌++◌, ℕ, zero, suc, ◌+◌, ◌-◌, ◌≤◌, ◌<◌, get_or, eqb, leb}
use Rattle.std.proofs.Math.Path.{refl}
use Rattle.std.proofs.Common.{sym, ap, ◌∙◌, add-zero, not-suc-le-zero, arith, ne_eqb, le-leb, lt-ltb, leb-true}
use Rattle.std.proofs.Math.Bool.{or-false, and-false, and-eq-true_iff}
use Rattle.std.proofs.Math.Decide.{ℕ_discrete}
use Rattle.std.proofs.lemmas.Bool.{lt-leb, not-true}
use Rattle.cqf.specs.Bounded.{all_to, elem, distinct, every, sublist}
use Rattle.cqf.specs.Limits.{port_slots, port_ok}
use Rattle.cqf.specs.Plan.{port_in}
use Rattle.cqf.proofs.laws.Bounded.{all_to-at}

-- one more port of a sublist
pub sublist_more : (l : List ℕ) (at h : ℕ) → sublist l at (suc h) ≡ sublist l at h ++ (get_or l (at + h) 0 ∷ [])
unfolding sublist
sublist_more l at zero = rw add-zero
sublist_more l at (suc h) =
    ap (λ (r : List ℕ). get_or l at 0 ∷ r)
    (sublist_more l (suc at) h ∙ ap (λ (n : ℕ). sublist l (suc at) h ++ (get_or l n 0 ∷ [])) (omega arith))

eqb_sym : (m n : ℕ) → eqb m n ≡ eqb n m
eqb_sym m n = go (ℕ_discrete m n)
  where
    go : Dec (m ≡ n) → eqb m n ≡ eqb n m
    go (yes e) = rw e
    go (no ne) = ne_eqb m n ne ∙ sym (ne_eqb n m (λ e. ne (sym e)))

-- the tests of a list with one more number at its end
pub elem_more : (n : ℕ) (r : List ℕ) (m : ℕ) → elem n (r ++ (m ∷ [])) ≡ elem n r || eqb n m
unfolding elem
elem_more n [] m = or-false (eqb n m)
elem_more n (x ∷ r) m = go (eqb n x) (elem_more n r m)
  where
    go : (b : Bool) → elem n (r ++ (m ∷ [])) ≡ elem n r || eqb n m → b || elem n (r ++ (m ∷ [])) ≡ (b || elem n r) || eqb n m
    go true h = refl
    go false h = h

pub every_more : (b : ℕ → Bool) (r : List ℕ) (m : ℕ) → every b (r ++ (m ∷ [])) ≡ every b r && b m
unfolding every
every_more b [] m = go (b m)
  where
    go : (x : Bool) → x && true ≡ x
    go true = refl
    go false = refl
every_more b (x ∷ r) m = go (b x) (every_more b r m)
  where
    go : (x : Bool) → every b (r ++ (m ∷ [])) ≡ every b r && b m → x && every b (r ++ (m ∷ [])) ≡ (x && every b r) && b m
    go true h = h
    go false h = refl

pub distinct_more : (r : List ℕ) (m : ℕ) → distinct (r ++ (m ∷ [])) ≡ distinct r && not (elem m r)
unfolding distinct elem
distinct_more [] m = refl
distinct_more (x ∷ r) m =
    rw (elem_more x r m, distinct_more r m, eqb_sym x m) (go (elem x r) (eqb m x) (distinct r) (elem m r))
  where
    go : (a e d k : Bool) → not (a || e) && (d && not k) ≡ (not a && d) && not (e || k)
    go true e d k = refl
    go false true true k = refl
    go false true false k = refl
    go false false d k = refl

-- a route is valid where each port in turn passes the test and stands nowhere before
pub route_test
    : (b : ℕ → Bool) (l : List ℕ) (at h : ℕ)
    → every b (sublist l at h) && distinct (sublist l at h)
    ≡ all_to h (λ i. b (get_or l (at + i) 0) && not (elem (get_or l (at + i) 0) (sublist l at i)))
unfolding all_to
route_test b l at zero = unfold sublist every distinct in refl
route_test b l at (suc h) =
    rw (
      sublist_more l at h,
      every_more b (sublist l at h) (get_or l (at + h) 0),
      distinct_more (sublist l at h) (get_or l (at + h) 0),
      ← route_test b l at h,
    )
    (go (every b (sublist l at h)) (distinct (sublist l at h)) (b (get_or l (at + h) 0)) (not (elem (get_or l (at + h) 0) (sublist l at h))))
  where
    go : (e d x y : Bool) → (e && x) && (d && y) ≡ (e && d) && (x && y)
    go true true x y = refl
    go true false true y = refl
    go true false false y = refl
    go false d x y = refl

-- the tests of a port number that a route names
module _ (rates : List ℕ) (n : ℕ) where
  -- port n, from 1 on, stands in slot n - 1
  pub rate_at : 0 < n → get_or (0 ∷ rates) n 0 ≡ get_or rates (n - 1) 0
  rate_at some = go n some
    where
      go : (n : ℕ) → 0 < n → get_or (0 ∷ rates) n 0 ≡ get_or rates (n - 1) 0
      go zero h = absurd (not-suc-le-zero h)
      go (suc m) h = ap (λ (k : ℕ). get_or rates k 0) (omega arith)

  pub port_in_low : n < 1 → port_in rates n ≡ false
  port_in_low h = rw (lt-leb 1 n h)

  pub port_in_high : port_slots < n → port_in rates n ≡ false
  port_in_high h = rw (lt-leb n port_slots h, and-false (leb 1 n))

  pub port_in_absent : 0 < n → get_or rates (n - 1) 0 ≡ 0 → port_in rates n ≡ false
  port_in_absent some e = rw (rate_at some, e) (and-false (port_ok n))

  pub port_in_there : 0 < n → n ≤ port_slots → (get_or rates (n - 1) 0 ≡ 0 → ⊥) → port_in rates n ≡ true
  port_in_there some fits e =
      rw (le-leb 1 n some, le-leb n port_slots fits, rate_at some, lt-ltb 0 (get_or rates (n - 1) 0) (omega (arith, e)))

-- the port at i of a valid route: in range, and nowhere before
pub next-port
    : (l : List ℕ) (at h i : ℕ)
    → every port_ok (sublist l at h) ≡ true
    → distinct (sublist l at h) ≡ true
    → i < h
    → (0 < get_or l (at + i) 0) × (get_or l (at + i) 0 ≤ port_slots) × (elem (get_or l (at + i) 0) (sublist l at i) ≡ false)
next-port l at h i ports once less =
    let all = sym (route_test port_ok l at h) ∙ (and-eq-true_iff _ _).1 (ports, once) in
    let t = simp and-eq-true_iff at (all_to-at h _ all i less) in
    (leb-true _ _ t.0.0, leb-true _ _ t.0.1, not-true _ t.1)
