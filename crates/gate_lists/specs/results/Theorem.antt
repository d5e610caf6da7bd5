-- The gate control list of an admissible duration, as it is played.
use Rattle.std.specs.Prelude.{ℕ, ◌+◌, ◌*◌, ◌≤◌, ◌<◌, Bool, ltb}
use Rattle.std.proofs.Math.Path.{◌≡◌, refl, ap, subst}
use Rattle.std.proofs.Common.{sym, ◌∙◌, arith, lt-ltb}
use mathlib.Core.List.{List, [], ◌∷◌, ◌++◌, append_assoc, append-nil}
use Rattle.std.proofs.Math.Bool.{true, false, cond}
use Rattle.std.proofs.Math.ListN.{length}
use Rattle.cqf.specs.Plan.{Plan, valid_plan}
use Rattle.cqf.specs.Port.{window}
use Rattle.cqf.specs.Condition.{admissible}
use Rattle.cqf.proofs.laws.Longer.{longer}
use Rattle.cqf.proofs.laws.Ranges.{top_most}
use Rattle.gate_lists.specs.GateList.{Gates, field_size, list_size, queues, list_bytes, both_closed, one_open, lasting, gate_cycle, gate_list, gate_list_bytes}
use Rattle.gate_lists.specs.Playing.{PlaysTwoCycles, played_at, played, counted, each_lasts, field_ends}
use Rattle.gate_lists.specs.laws.Played.{plays, totals, counts, each_lasts_lem, field_ends_lem}
use Rattle.gate_lists.specs.laws.TwoCycles.{intervals, intervals_fit, intervals_total, intervals_last, intervals_end, intervals_at}

-- two rows of three, one behind the other
in_row : (a b c d : List Gates) → (a ++ (b ++ c)) ++ (a ++ (d ++ c)) ≡ a ++ (b ++ (c ++ (a ++ (d ++ (c ++ [])))))
in_row a b c d =
    append_assoc a (b ++ c) (a ++ (d ++ c))
    ∙ ap (λ (l : List Gates). a ++ l)
    (append_assoc b c (a ++ (d ++ c)) ∙ ap (λ (l : List Gates). b ++ (c ++ (a ++ (d ++ l)))) (sym (append-nil c)))

-- the list is its six intervals
as_intervals
    : (p : Plan) (T even odd : ℕ) (below : even < queues) (under : odd < queues) (apart : even ≡ odd → ⊥)
    → gate_list p T even odd ≡ intervals p.guard (window p T) even odd below under apart
unfolding gate_list gate_cycle
as_intervals p T even odd below under apart =
    in_row (lasting (both_closed even odd) p.guard) (lasting (one_open even odd even) (window p T)) (lasting (both_closed even odd) p.guard)
    (lasting (one_open even odd odd) (window p T))

module _ (p : Plan) (valid : valid_plan p ≡ true) (T : ℕ) (first : 1 ≤ T) (most : T ≤ p.top) (good : admissible p T ≡ true) where
  -- the window is not 0, and with the two guard bands it is the cycle
  window_positive : 0 < window p T
  unfolding window
  window_positive = omega (arith, longer p valid T first good)

  in_cycle : p.guard + (window p T + p.guard) ≡ T
  unfolding window
  in_cycle = omega (arith, longer p valid T first good)

  -- six fields with a guard band, two without
  pub list_length : (even odd : ℕ) → length (gate_list_bytes p T even odd) ≡ list_size p
  unfolding gate_list_bytes gate_list gate_cycle list_bytes
  list_length even odd = go (ltb 0 p.guard) (ltb 0 (window p T)) (lt-ltb 0 (window p T) window_positive)
    where
      go
          : (guarded lasts : Bool)
          → lasts ≡ true
          → length
          (list_bytes
          (let closed = cond guarded (record { states = both_closed even odd; interval = p.guard } ∷ []) [] in
          (closed ++ (cond lasts (record { states = one_open even odd even; interval = window p T } ∷ []) [] ++ closed))
          ++ (closed ++ (cond lasts (record { states = one_open even odd odd; interval = window p T } ∷ []) [] ++ closed))))
          ≡ field_size * cond guarded 6 2
      go true true e = refl
      go false true e = refl
      go guarded false e = let z : ◌≡◌ {A = ℕ} 0 1 = cc in absurd (omega arith)

  module _ (even odd : ℕ) (below : even < queues) (under : odd < queues) (apart : even ≡ odd → ⊥) where
    -- the list plays two cycles, with each queue open in the window of its own cycle alone and the other six always
    pub plays_two_cycles : PlaysTwoCycles p.guard T even odd (gate_list_bytes p T even odd)
    unfolding gate_list_bytes
    plays_two_cycles =
        let S = p.guard in
        let W = window p T in
        let fits : S + (W + S) < 4294967296 = omega (arith, in_cycle, top_most p valid) in
        let same = as_intervals p T even odd below under apart in
        let fit = intervals_fit S W even odd below under apart fits in
        let two : PlaysTwoCycles S (S + (W + S)) even odd (list_bytes (gate_list p T even odd)) =
        record {
          whole = ap (λ (gs : List Gates). length (list_bytes gs)) same ∙ counts _ fit ∙ ap (λ (gs : List Gates). field_size * counted (list_bytes gs)) (sym same);
          lasts = ap (λ (gs : List Gates). each_lasts (list_bytes gs)) same ∙ each_lasts_lem _ fit ∙ intervals_last S W even odd below under apart;
          total = ap (λ (gs : List Gates). played (list_bytes gs)) same ∙ totals _ fit ∙ intervals_total S W even odd below under apart;
          cycle_ends = ap (λ (gs : List Gates). field_ends (list_bytes gs) (S + (W + S))) same ∙ field_ends_lem _ fit _ ∙ intervals_end S W even odd below under apart window_positive;
          instants = λ t less.
              let h = intervals_at S W even odd below under apart t less in
              (h.0, ap (λ (gs : List Gates). played_at (list_bytes gs) t) same ∙ plays _ fit t ∙ h.1, h.2);
        } in
        subst (λ (n : ℕ). PlaysTwoCycles S n even odd (list_bytes (gate_list p T even odd))) in_cycle two
