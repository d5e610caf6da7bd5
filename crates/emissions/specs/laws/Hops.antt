-- Where a port stands on a route, looked for from its start, and the latest place on all routes.
use Rattle.std.specs.Prelude.{◌≡◌, refl, Bool, true, false, cond, ◌&&◌, List, ◌∷◌, ℕ, zero, suc, max, take, drop, ◌+◌, ◌-◌, ◌≤◌, ◌<◌, length, get_or, eqb}
use Rattle.std.proofs.Common.{sym, ap, ap₂, ◌∙◌, arith, eq-eqb, eqb-true, lt-ltb, le-ltb, drop-cons}
use Rattle.std.proofs.lemmas.Bool.{false≢true, eqb-false}
use mathlib.Mathlib.Data.Bool.Basic.{eq-false_of_not-eq-true}
use Rattle.std.proofs.Math.Decide.{dec_lt}
use Rattle.std.proofs.Math.ListN.{get_or-eq_default}
use Rattle.cqf.specs.Bounded.{max_to, lowest, elem, sublist}
use Rattle.cqf.specs.Limits.{flow_slots}
use Rattle.cqf.specs.Plan.{Plan, route_of}
use Rattle.emissions.specs.BadEmission.{hop_on, hop, latest_hop}
use Rattle.cqf.proofs.laws.Bounded.{lowest_le, lowest-passes, lowest_below}
use Rattle.cqf.proofs.laws.Bounds.{max_to-next}
use Rattle.cqf.proofs.laws.Lists.{elem_index, elem_at}
use Rattle.emissions.specs.Burst.{late_on}
use Rattle.emissions.specs.Queued.{queued_port}

-- the lowest that passes, and where none does
pub lowest_is : (n : ℕ) (b : ℕ → Bool) (i : ℕ) → i < n → b i ≡ true → ((j : ℕ) → j < i → b j ≡ false) → lowest n b ≡ i
lowest_is n b i l e none = go (dec_lt (lowest n b) i) (dec_lt i (lowest n b))
  where
    go : Dec (lowest n b < i) → Dec (i < lowest n b) → lowest n b ≡ i
    go (yes less) d = absurd (false≢true (sym (none (lowest n b) less) ∙ lowest-passes n b (omega arith)))
    go (no a) (yes more) = absurd (false≢true (sym (lowest_below n b i more) ∙ e))
    go (no a) (no m) = omega arith

pub lowest_end : (n : ℕ) (b : ℕ → Bool) → ((j : ℕ) → j < n → b j ≡ false) → lowest n b ≡ n
lowest_end n b none = go (dec_lt (lowest n b) n)
  where
    go : Dec (lowest n b < n) → lowest n b ≡ n
    go (yes l) = absurd (false≢true (sym (none (lowest n b) l) ∙ lowest-passes n b l))
    go (no over) = omega (arith, lowest_le n b)

-- no port of a route before position i is the one looked for
abbrev pub NotBefore : (route : List ℕ) (q i : ℕ) → Type 0
NotBefore route q i = (j : ℕ) → j < i → eqb (get_or route j 0) (suc q) ≡ false

module _ (route : List ℕ) (q : ℕ) where
  pub hop_here : (i : ℕ) → i < length route → NotBefore route q i → get_or route i 0 ≡ suc q → hop_on route q ≡ i
  hop_here i h before at = lowest_is (length route) _ i h (eq-eqb _ _ at) before

  pub hop_end : NotBefore route q (length route) → hop_on route q ≡ length route
  hop_end before = lowest_end (length route) _ before

-- the ports of a route, as the part of the table that they are
pub route_part : (l : List ℕ) (base h : ℕ) → base + h ≤ length l → take h (drop base l) ≡ sublist l base h
unfolding sublist
route_part l base zero fits = refl
route_part l base (suc h) fits =
    ap (take (suc h)) (drop-cons l base 0 (omega arith))
    ∙ ap (λ (r : List ℕ). get_or l base 0 ∷ r) (route_part l (suc base) h (omega arith))

-- it stands there exactly where that is before the end
module _ (route : List ℕ) (q : ℕ) where
  pub hop_holds : hop_on route q < length route → elem (suc q) route ≡ true
  hop_holds l =
      ap (λ (n : ℕ). elem n route) (sym (eqb-true _ _ (lowest-passes (length route) (λ i. eqb (get_or route i 0) (suc q)) l)))
      ∙ elem_at route (hop_on route q) l

  pub hop_misses : (hop_on route q < length route → ⊥) → elem (suc q) route ≡ false
  hop_misses past = eq-false_of_not-eq-true λ e.
      let t = elem_index (suc q) route e in
      let low = lowest_below (length route) (λ i. eqb (get_or route i 0) (suc q)) t.0 (omega (arith, t.1, past)) in
      eqb-false _ _ low t.2

  pub late_holds : hop_on route q < length route → hop_on route q ≡ late_on route q
  late_holds l = sym (ap (λ (b : Bool). cond b (hop_on route q) 0) (hop_holds l))

  pub late_misses : (hop_on route q < length route → ⊥) → 0 ≡ late_on route q
  late_misses past = sym (ap (λ (b : Bool). cond b (hop_on route q) 0) (hop_misses past))

-- the latest place, flow by flow
abbrev pub late : Plan → (q f : ℕ) → ℕ
late p q f = late_on (route_of p f) q

pub latest_of : (p : Plan) (q : ℕ) → latest_hop p q ≡ max_to flow_slots (late p q)
unfolding latest_hop hop
latest_of p q = refl

pub latest_next : (p : Plan) (q f : ℕ) {latest at : ℕ} → latest ≡ max_to f (late p q) → at ≡ late p q f → max latest at ≡ max_to (f + 1) (late p q)
latest_next p q f e d = ap₂ max e d ∙ sym (max_to-next f (late p q))

-- a number past the end of a list
pub past_end : (l : List ℕ) (i : ℕ) → length l ≤ i → get_or l i 0 ≡ 0
past_end l i past = get_or-eq_default l 0 past

-- the port at which a burst is queued, case by case
module _ (route : List ℕ) (q latest c : ℕ) where
  pub port-apart : (hop_on route q < length route → ⊥) → queued_port route q latest c ≡ 0
  port-apart apart = rw (hop_misses route q apart)

  pub port-before : c ≤ latest - hop_on route q → queued_port route q latest c ≡ 0
  port-before early = ap (λ (b : Bool). cond (elem (suc q) route && b) (get_or route (c - suc (latest - hop_on route q)) 0) 0) (le-ltb _ _ early) ∙ none (elem (suc q) route)
    where
      none : (b : Bool) → cond (b && false) (get_or route (c - suc (latest - hop_on route q)) 0) 0 ≡ 0
      none true = refl
      none false = refl

  pub port-found
      : hop_on route q < length route
      → latest - hop_on route q < c
      → queued_port route q latest c ≡ get_or route (c - suc (latest - hop_on route q)) 0
  port-found there late =
      ap₂ (λ (a b : Bool). cond (a && b) (get_or route (c - suc (latest - hop_on route q)) 0) 0) (hop_holds route q there) (lt-ltb _ _ late)
