-- Marks that are covered: what is marked is there.
use Rattle.std.specs.Prelude.{ℕ, zero, suc, ◌+◌, ◌-◌, ◌≤◌, ◌<◌, ◌≡◌, refl, List, [], ◌∷◌, Bool, true, false, ltb, length, get_or, set, drop, replicate}
use Rattle.std.proofs.Common.{sym, ◌∙◌, true≢false, add-one, arith, lt-ltb, le-ltb, ltb-true, ltb-false, length-set, length-take, get_or-set_same, get_or-set_other, get_or-take, get_or-drop}
use Rattle.std.proofs.Math.Bool.{and-eq-true_iff}
use Rattle.std.proofs.Math.Decide.{ℕ_discrete, dec_lt}
use Rattle.std.proofs.Math.ListN.{get_or-eq_default}
use Rattle.cqf.specs.Bounded.{every, sublist}
use Rattle.cqf.specs.Limits.{port_slots, port_ok}
use Rattle.cqf.specs.Plan.{port_in}
use Rattle.cqf.proofs.laws.Bounded.{any_to_some, any_to-none}
use Rattle.cqf.proofs.laws.Route.{sublist_more, every_more, rate_at, port_in_there}
use Rattle.plan_reading.specs.laws.fields.Within.{within_low, within_high, slot_below}
use Rattle.plan_reading.specs.laws.stores.Columns.{zeros}
use Rattle.loading.specs.Loading.{Covers, AtMost, marks_of, lacking}

-- a port or a flow of the one list is of the other
covers_named : (l m : List ℕ) (n : ℕ) → Covers l m → ltb 0 (get_or (0 ∷ l) n 0) ≡ true → ltb 0 (get_or (0 ∷ m) n 0) ≡ true
covers_named l m zero c h = h
covers_named l m (suc n) c h = lt-ltb 0 (get_or m n 0) (c n (ltb-true 0 (get_or l n 0) h))

covers_port : (rates wider : List ℕ) (n : ℕ) → Covers rates wider → port_in rates n ≡ true → port_in wider n ≡ true
covers_port rates wider n c h =
    let t = (and-eq-true_iff (port_ok n) (ltb 0 (get_or (0 ∷ rates) n 0))).0 h in
    (and-eq-true_iff (port_ok n) (ltb 0 (get_or (0 ∷ wider) n 0))).1 (t.0, covers_named rates wider n c t.1)

pub covers_route : (rates wider r : List ℕ) → Covers rates wider → every (port_in rates) r ≡ true → every (port_in wider) r ≡ true
unfolding every
covers_route rates wider [] c h = refl
covers_route rates wider (n ∷ r) c h =
    let t = (and-eq-true_iff (port_in rates n) (every (port_in rates) r)).0 h in
    (and-eq-true_iff (port_in wider n) (every (port_in wider) r)).1 (covers_port rates wider n c t.0, covers_route rates wider r c t.1)

-- a number above 0 that is stored takes none away
pub covers_set : (l : List ℕ) (i v : ℕ) → 0 < v → Covers l (set l i v)
covers_set l i v some q h = go (ℕ_discrete q i) (dec_lt i (length l))
  where
    go : Dec (q ≡ i) → Dec (i < length l) → 0 < get_or (set l i v) q 0
    go (yes same) (yes inside) = rw same (omega (arith, get_or-set_same l i v 0 inside, some))
    go (yes same) (no outside) =
        let none : get_or l q 0 ≡ 0 = get_or-eq_default l 0 (omega arith) in
        absurd (omega (arith, h, none))
    go (no apart) inside = omega (arith, get_or-set_other l i q v 0 apart, h)

-- a mark of what is there is at most what is there
pub set_most : (l m : List ℕ) (i : ℕ) → AtMost l m → 0 < get_or m i 0 → AtMost (set l i 1) m
set_most l m i c there q = go (ℕ_discrete q i) (dec_lt i (length l))
  where
    go : Dec (q ≡ i) → Dec (i < length l) → get_or (set l i 1) q 0 ≤ get_or m q 0
    go (yes same) (yes inside) = rw same (omega (arith, get_or-set_same l i 1 0 inside, there))
    go (yes same) (no outside) =
        let none : get_or (set l i 1) q 0 ≡ 0 = get_or-eq_default (set l i 1) 0 (omega (arith, length-set l i 1)) in
        omega (arith, none)
    go (no apart) inside = omega (arith, get_or-set_other l i q 1 0 apart, c q)

-- a port that is there has a number in its slot
pub port_there : (l : List ℕ) (n : ℕ) → port_in l n ≡ true → 0 < get_or l (n - 1) 0
port_there l n h =
    let t = (and-eq-true_iff (port_ok n) (ltb 0 (get_or (0 ∷ l) n 0))).0 h in
    omega (arith, ltb-true 0 (get_or (0 ∷ l) n 0) t.1, rate_at l n (within_low 1 port_slots n t.0))

-- one more port of a route is marked
pub every-marked
    : (named r : List ℕ) (i : ℕ)
    → every (port_in named) (sublist r 0 i) ≡ true
    → port_ok (get_or r (0 + i) 0) ≡ true
    → length named ≡ port_slots
    → every (port_in (set named (get_or r (0 + i) 0 - 1) 1)) (sublist r 0 (i + 1)) ≡ true
every-marked named r i before ok sized =
    rw (add-one i, sublist_more r 0 i)
    (every_more (port_in marked) (sublist r 0 i) n
    ∙ (and-eq-true_iff _ _).1 (covers_route named marked (sublist r 0 i) (covers_set named (n - 1) 1 (omega arith)) before, there))
  where
    n : ℕ
    n = get_or r (0 + i) 0

    marked : List ℕ
    marked = set named (n - 1) 1

    there : port_in marked n ≡ true
    there =
        port_in_there marked n (within_low 1 port_slots n ok) (within_high 1 port_slots n ok)
        (λ z. omega (arith, get_or-set_same named (n - 1) 1 0 (omega (arith, slot_below port_slots n ok)), z))

-- the marks of some keys
module _ (l : List ℕ) (key keys q : ℕ) where
  pub mark_inside : q < keys → get_or (marks_of l key keys) q 0 ≡ get_or l (key + q) 0
  mark_inside h = get_or-take keys (drop key l) q 0 h ∙ get_or-drop key l q 0

  pub mark_outside : keys ≤ q → get_or (marks_of l key keys) q 0 ≡ 0
  mark_outside h = get_or-eq_default (marks_of l key keys) 0 (omega (arith, length-take keys (drop key l)))

pub covers_marks : (l m : List ℕ) (key keys : ℕ) → Covers l m → Covers (marks_of l key keys) (marks_of m key keys)
covers_marks l m key keys c q h = go (dec_lt q keys)
  where
    go : Dec (q < keys) → 0 < get_or (marks_of m key keys) q 0
    go (yes inside) = omega (arith, mark_inside m key keys q inside, c (key + q) (omega (arith, mark_inside l key keys q inside)))
    go (no outside) = absurd (omega (arith, mark_outside l key keys q (omega arith)))

-- where none is lacking, each has the other
pub covers_all : (marks others : List ℕ) → lacking marks others ≡ false → Covers marks others
covers_all marks others none q h = go (dec_lt q (length marks))
  where
    each : (b : Bool) → ltb (get_or others q 0) (get_or marks q 0) ≡ b → q < length marks → 0 < get_or others q 0
    each true e inside = absurd (true≢false (sym (any_to_some (length marks) (λ i. ltb (get_or others i 0) (get_or marks i 0)) q inside e) ∙ none))
    each false e inside = omega (arith, ltb-false (get_or others q 0) (get_or marks q 0) e)

    go : Dec (q < length marks) → 0 < get_or others q 0
    go (yes inside) = each (ltb (get_or others q 0) (get_or marks q 0)) refl inside
    go (no outside) =
        let none-there : get_or marks q 0 ≡ 0 = get_or-eq_default marks 0 (omega arith) in
        absurd (omega arith)

-- where there is no mark, all are covered
pub marks_blank : (n key keys : ℕ) (m : List ℕ) → Covers (marks_of (replicate n 0) key keys) m
marks_blank n key keys m q h = go (dec_lt q keys)
  where
    go : Dec (q < keys) → 0 < get_or m q 0
    go (yes inside) = absurd (omega (arith, mark_inside (replicate n 0) key keys q inside, zeros n (key + q), h))
    go (no outside) = absurd (omega (arith, mark_outside (replicate n 0) key keys q (omega arith), h))

-- one mark more: it was set before, or is the one that is set
pub covers_mark
    : (seen : List ℕ) (own key keys : ℕ) (numbers : List ℕ)
    → Covers (marks_of seen key keys) numbers
    → ((q : ℕ) → q < keys → key + q ≡ own → 0 < get_or numbers q 0)
    → Covers (marks_of (set seen own 1) key keys) numbers
covers_mark seen own key keys numbers c new q h = go (dec_lt q keys)
  where
    inside : q < keys → Dec (key + q ≡ own) → 0 < get_or numbers q 0
    inside l (yes same) = new q l same
    inside l (no apart) =
        c q (omega (arith, h, mark_inside (set seen own 1) key keys q l, mark_inside seen key keys q l, get_or-set_other seen own (key + q) 1 0 apart))

    go : Dec (q < keys) → 0 < get_or numbers q 0
    go (yes l) = inside l (ℕ_discrete (key + q) own)
    go (no outside) = absurd (omega (arith, h, mark_outside (set seen own 1) key keys q (omega arith)))

-- the same of at most
pub most_mark
    : (seen : List ℕ) (own key keys : ℕ) (numbers : List ℕ)
    → AtMost (marks_of seen key keys) numbers
    → ((q : ℕ) → q < keys → key + q ≡ own → 0 < get_or numbers q 0)
    → AtMost (marks_of (set seen own 1) key keys) numbers
most_mark seen own key keys numbers c new q = go (dec_lt q keys)
  where
    inside : q < keys → Dec (key + q ≡ own) → get_or (marks_of (set seen own 1) key keys) q 0 ≤ get_or numbers q 0
    inside l (yes same) =
        let one : get_or (set seen own 1) (key + q) 0 ≤ 1 = rw same (set_one (dec_lt own (length seen))) in
        omega (arith, one, new q l same, mark_inside (set seen own 1) key keys q l)
      where
        set_one : Dec (own < length seen) → get_or (set seen own 1) own 0 ≤ 1
        set_one (yes h) = omega (arith, get_or-set_same seen own 1 0 h)
        set_one (no h) =
            let none : get_or (set seen own 1) own 0 ≡ 0 = get_or-eq_default (set seen own 1) 0 (omega (arith, length-set seen own 1)) in
            omega (arith, none)
    inside l (no apart) =
        omega (arith, c q, mark_inside (set seen own 1) key keys q l, mark_inside seen key keys q l, get_or-set_other seen own (key + q) 1 0 apart)

    go : Dec (q < keys) → get_or (marks_of (set seen own 1) key keys) q 0 ≤ get_or numbers q 0
    go (yes l) = inside l (ℕ_discrete (key + q) own)
    go (no outside) = omega (arith, mark_outside (set seen own 1) key keys q (omega arith))

pub most_blank : (n : ℕ) (m : List ℕ) → AtMost (replicate n 0) m
most_blank n m q = omega (arith, zeros n q)

pub marks_most_blank : (n key keys : ℕ) (m : List ℕ) → AtMost (marks_of (replicate n 0) key keys) m
marks_most_blank n key keys m q = go (dec_lt q keys)
  where
    go : Dec (q < keys) → get_or (marks_of (replicate n 0) key keys) q 0 ≤ get_or m q 0
    go (yes inside) = omega (arith, mark_inside (replicate n 0) key keys q inside, zeros n (key + q))
    go (no outside) = omega (arith, mark_outside (replicate n 0) key keys q (omega arith))

-- where none is above the other, none is lacking
pub lacking-none : (marks others : List ℕ) → AtMost marks others → lacking marks others ≡ false
lacking-none marks others c =
    any_to-none (length marks) (λ i. ltb (get_or others i 0) (get_or marks i 0)) (λ i l. le-ltb (get_or others i 0) (get_or marks i 0) (c i))
