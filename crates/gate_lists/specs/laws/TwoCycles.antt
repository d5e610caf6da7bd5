-- The gate control list of a duration plays two cycles.
use Rattle.std.specs.Prelude.{ℕ, ◌+◌, ◌-◌, ◌*◌, ◌≤◌, ◌<◌, ◌≡◌, refl, Bool, true, false, not, ◌&&◌, ◌||◌, leb, ltb, eqb}
use Rattle.std.proofs.Common.{sym, ◌∙◌, lt-ltb, le-ltb, le-leb, ltb-true, ltb-false, eq-eqb, ne_eqb}
use mathlib.Core.List.{List, [], ◌++◌}
use Rattle.std.proofs.Math.Option.{Option, some}
use native.Mathlib.Omega.{arith}
use Rattle.std.proofs.lemmas.Bool.{lt-leb}
use Rattle.gate_lists.specs.GateList.{Gates, queues, both_closed, one_open, lasting}
use Rattle.gate_lists.specs.Playing.{is_open, Opens}
use Rattle.gate_lists.specs.laws.States.{both_closed_lem, even_only, odd_only}
use Rattle.gate_lists.specs.laws.Played.{AllFit, all, play_list, total_list, lasts_list, ends_list, play_lasting, total_lasting, lasts_lasting, ends_lasting, fit_lasting}

module _ (S W even odd : ℕ) (below : even < queues) (under : odd < queues) (apart : even ≡ odd → ⊥) where
  abbrev T : ℕ
  T = S + (W + S)

  -- the gate states of each of the three kinds of interval, at an instant t
  module _ (t : ℕ) where
    six : (q : ℕ) → (q ≡ even → ⊥) → (q ≡ odd → ⊥) → not (eqb q even || eqb q odd) ≡ true
    six q a b = rw (ne_eqb q even a, ne_eqb q odd b)

    opens_none
        : leb S t && ltb (t + S) T ≡ false
        → leb (T + S) t && ltb (t + S) (2 * T) ≡ false
        → Opens S T even odd t (both_closed even odd)
    opens_none a b =
        let e : is_open (both_closed even odd) even ≡ false = both_closed_lem even odd below under apart even below ∙ rw (eq-eqb even even refl) in
        let o : is_open (both_closed even odd) odd ≡ false =
        both_closed_lem even odd below under apart odd under ∙ rw (eq-eqb odd odd refl, ne_eqb odd even (λ h. apart (sym h))) in
        record {
          even_open = e ∙ sym a;
          odd_open = o ∙ sym b;
          never_both = rw e;
          six_open = λ q less x y. both_closed_lem even odd below under apart q less ∙ six q x y;
        }

    opens_even : S ≤ t → t + S < T → Opens S T even odd t (one_open even odd even)
    opens_even a b =
        let e : is_open (one_open even odd even) even ≡ true = even_only even odd below under apart even below ∙ rw (ne_eqb even odd apart) in
        let o : is_open (one_open even odd even) odd ≡ false = even_only even odd below under apart odd under ∙ rw (eq-eqb odd odd refl) in
        record {
          even_open = e ∙ rw (le-leb S t a, lt-ltb (t + S) T b);
          odd_open = o ∙ rw (lt-leb (T + S) t (omega arith));
          never_both = rw (e, o);
          six_open = λ q less x y. even_only even odd below under apart q less ∙ rw (ne_eqb q odd y);
        }

    opens_odd : T + S ≤ t → t + S < 2 * T → Opens S T even odd t (one_open even odd odd)
    opens_odd a b =
        let e : is_open (one_open even odd odd) even ≡ false = odd_only even odd below under apart even below ∙ rw (eq-eqb even even refl) in
        let o : is_open (one_open even odd odd) odd ≡ true =
        odd_only even odd below under apart odd under ∙ rw (ne_eqb odd even (λ h. apart (sym h))) in
        record {
          even_open = e ∙ rw (le-leb S t (omega arith), le-ltb (t + S) T (omega arith));
          odd_open = o ∙ rw (le-leb (T + S) t a, lt-ltb (t + S) (2 * T) b);
          never_both = rw e;
          six_open = λ q less x y. odd_only even odd below under apart q less ∙ rw (ne_eqb q even x);
        }

  -- the intervals, one behind the other, from the last
  abbrev last : List Gates
  last = lasting (both_closed even odd) S ++ []

  abbrev from_odd : List Gates
  from_odd = lasting (one_open even odd odd) W ++ last

  abbrev second : List Gates
  second = lasting (both_closed even odd) S ++ from_odd

  abbrev from_guard : List Gates
  from_guard = lasting (both_closed even odd) S ++ second

  abbrev from_even : List Gates
  from_even = lasting (one_open even odd even) W ++ from_guard

  abbrev pub intervals : List Gates
  intervals = lasting (both_closed even odd) S ++ from_even

  pub intervals_fit : T < 4294967296 → AllFit intervals
  intervals_fit fits =
      let c = both_closed even odd in
      fit_lasting c S _ (omega arith)
      (fit_lasting (one_open even odd even) W _ (omega arith)
      (fit_lasting c S _ (omega arith)
      (fit_lasting c S _ (omega arith)
      (fit_lasting (one_open even odd odd) W _ (omega arith)
      (fit_lasting c S _ (omega arith) all)))))

  pub intervals_total : total_list intervals ≡ 2 * T
  unfolding total_list
  intervals_total =
      let c = both_closed even odd in
      let a = total_lasting c S [] in
      let b = total_lasting (one_open even odd odd) W last in
      let d = total_lasting c S from_odd in
      let e = total_lasting c S second in
      let f = total_lasting (one_open even odd even) W from_guard in
      let g = total_lasting c S from_even in
      omega arith

  pub intervals_last : lasts_list intervals ≡ true
  unfolding lasts_list
  intervals_last =
      let c = both_closed even odd in
      lasts_lasting c S from_even
      ∙ lasts_lasting (one_open even odd even) W from_guard
      ∙ lasts_lasting c S second
      ∙ lasts_lasting c S from_odd
      ∙ lasts_lasting (one_open even odd odd) W last
      ∙ lasts_lasting c S []

  -- an interval ends at t, or one behind it does
  ends_here : (t m : ℕ) (gs : List Gates) → 0 < t → ends_list (lasting m t ++ gs) t ≡ true
  ends_here t m gs later = ends_lasting m t gs t later ∙ rw (eq-eqb t t refl)

  ends_later : (t u m i : ℕ) (gs : List Gates) → t ≡ i + u → 0 < u → ends_list (lasting m i ++ gs) t ≡ ends_list gs u
  ends_later t u m i gs sum later =
      let left : t - i ≡ u = omega (arith, sum) in
      ends_lasting m i gs t (omega (arith, sum)) ∙ rw (ne_eqb t i (λ h. absurd (omega (arith, sum))), lt-ltb i t (omega (arith, sum)), left)

  -- the first cycle ends where a field does: that of its last guard band, or without one that of its window
  pub intervals_end : 0 < W → ends_list intervals T ≡ true
  intervals_end long = ends_later T (W + S) (both_closed even odd) S from_even refl (omega arith) ∙ go (ltb 0 S) refl
    where
      go : (b : Bool) → ltb 0 S ≡ b → ends_list from_even (W + S) ≡ true
      go true e =
          let some-guard = ltb-true 0 S e in
          ends_later (W + S) S (one_open even odd even) W from_guard refl some-guard ∙ ends_here S (both_closed even odd) second some-guard
      go false e =
          let alone : W + S ≡ W = omega (arith, ltb-false 0 S e) in
          rw alone (ends_here W (one_open even odd even) from_guard long)

  -- the gate states at an instant
  abbrev At : ℕ → Option ℕ → Type 0
  At t r = (states : ℕ) × (r ≡ some states) × Opens S T even odd t states

  -- an interval of i ns that starts at u, and what is played after it
  step
      : (t u states i : ℕ) (gs : List Gates)
      → u ≤ t
      → (t < u + i → Opens S T even odd t states)
      → (u + i ≤ t → At t (play_list gs (t - (u + i))))
      → At t (play_list (lasting states i ++ gs) (t - u))
  step t u states i gs from here later = go (ltb (t - u) i) refl
    where
      played_here : play_list (lasting states i ++ gs) (t - u) ≡ elim (ltb (t - u) i) [ true ↦ some states | false ↦ play_list gs (t - u - i) ]
      played_here = play_lasting states i gs (t - u)

      go : (b : Bool) → ltb (t - u) i ≡ b → At t (play_list (lasting states i ++ gs) (t - u))
      go true e =
          (states, played_here ∙ rw e, here (omega (arith, ltb-true (t - u) i e)))
      go false e =
          let past = ltb-false (t - u) i e in
          let l = later (omega arith) in
          let same : t - u - i ≡ t - (u + i) = omega arith in
          (l.0, played_here ∙ rw (e, same) l.1, l.2)

  none_before : (t : ℕ) → t < S → leb S t && ltb (t + S) T ≡ false
  none_before t less = rw (lt-leb S t less)

  none_after : (t : ℕ) → S + W ≤ t → leb S t && ltb (t + S) T ≡ false
  none_after t more = rw (le-leb S t (omega arith), le-ltb (t + S) T (omega arith))

  odd_before : (t : ℕ) → t < T + S → leb (T + S) t && ltb (t + S) (2 * T) ≡ false
  odd_before t less = rw (lt-leb (T + S) t less)

  odd_after : (t : ℕ) → T + S + W ≤ t → leb (T + S) t && ltb (t + S) (2 * T) ≡ false
  odd_after t more = rw (le-leb (T + S) t (omega arith), le-ltb (t + S) (2 * T) (omega arith))

  pub intervals_at : (t : ℕ) → t < 2 * T → At t (play_list intervals t)
  intervals_at t less =
      let c = both_closed even odd in
      let start : t - 0 ≡ t = omega arith in
      rw start at
      (step t 0 c S from_even (omega arith) (λ l. opens_none t (none_before t (omega arith)) (odd_before t (omega arith)))
      (λ g. step t (0 + S) (one_open even odd even) W from_guard g (λ l. opens_even t (omega arith) (omega arith))
      (λ g. step t (0 + S + W) c S second g (λ l. opens_none t (none_after t (omega arith)) (odd_before t (omega arith)))
      (λ g. step t (0 + S + W + S) c S from_odd g (λ l. opens_none t (none_after t (omega arith)) (odd_before t (omega arith)))
      (λ g. step t (0 + S + W + S + S) (one_open even odd odd) W last g (λ l. opens_odd t (omega arith) (omega arith))
      (λ g. step t (0 + S + W + S + S + W) c S [] g (λ l. opens_none t (none_after t (omega arith)) (odd_after t (omega arith)))
      (λ g. absurd (omega arith))))))))
