-- A gate control list in bytes plays as its fields do.
use Prim.Native.Nat.{ℕ, zero, suc, ◌+◌, ◌-◌, ◌*◌, ◌≤◌, ◌<◌}
use Rattle.std.specs.Prelude.{◌≡◌, List, [], ◌∷◌, ◌++◌, Bool, cond, ◌&&◌, ◌||◌, length}
use Rattle.std.proofs.Math.Path.{refl, ap}
use Rattle.std.proofs.Common.{◌∙◌}
use Rattle.std.proofs.Math.Option.{Option, some, none}
use Rattle.std.proofs.Math.Bool.{true, false}
use native.Mathlib.Omega.{arith}
use borrow.Author.Tests.{le-leb, lt-ltb, le-ltb, ltb-false, ne_eqb}
use Rattle.std.proofs.Math.Dec.{ltb, eqb}
use Rattle.plan.specs.Bytes.{number2, number4, size_at, whole_at}
use Rattle.gate_lists.specs.GateList.{Gates, field_size, gate_bytes, list_bytes, lasting}
use Rattle.gate_lists.specs.Playing.{begins, first_interval, play_for, played_at, total_for, played, count_for, counted, lasts_for, each_lasts, ends_for, field_ends}

-- a field in front of other bytes
module _ (g : Gates) (rest : List ℕ) (fits : g.interval < 4294967296) where
  abbrev bytes : List ℕ
  bytes = gate_bytes g ++ rest

  begins-one : begins bytes ≡ true
  unfolding whole_at size_at number2
  begins-one =
      let long = suc (suc (suc (suc (suc (suc (suc (suc (length rest)))))))) in
      rw (le-leb 3 long (omega arith), le-leb 8 long (omega arith))

  interval_one : first_interval bytes ≡ g.interval
  unfolding number4 number2
  interval_one = omega arith

  -- it is played, and then what is left
  play_one : (n t : ℕ) → play_for (suc n) bytes t ≡ elim (ltb t g.interval) [ true ↦ some g.states | false ↦ play_for n rest (t - g.interval) ]
  unfolding play_for
  play_one n t =
      ap (λ (b : Bool). elim b [ true ↦ elim (ltb t (first_interval bytes)) [ true ↦ some g.states | false ↦ play_for n rest (t - first_interval bytes) ] | false ↦ none ])
      begins-one
      ∙ ap (λ (i : ℕ). elim (ltb t i) [ true ↦ some g.states | false ↦ play_for n rest (t - i) ]) interval_one

  total_one : (n : ℕ) → total_for (suc n) bytes ≡ g.interval + total_for n rest
  unfolding total_for
  total_one n =
      ap (λ (b : Bool). elim b [ true ↦ first_interval bytes + total_for n rest | false ↦ 0 ]) begins-one
      ∙ ap (λ (i : ℕ). i + total_for n rest) interval_one

  count_one : (n : ℕ) → count_for (suc n) bytes ≡ suc (count_for n rest)
  unfolding count_for
  count_one n = ap (λ (b : Bool). elim b [ true ↦ suc (count_for n rest) | false ↦ 0 ]) begins-one

  lasts_one : (n : ℕ) → lasts_for (suc n) bytes ≡ ltb 0 g.interval && lasts_for n rest
  unfolding lasts_for
  lasts_one n =
      ap (λ (b : Bool). elim b [ true ↦ ltb 0 (first_interval bytes) && lasts_for n rest | false ↦ true ]) begins-one
      ∙ ap (λ (i : ℕ). ltb 0 i && lasts_for n rest) interval_one

  ends_one : (n t : ℕ) → ends_for (suc n) bytes t ≡ eqb t g.interval || (ltb g.interval t && ends_for n rest (t - g.interval))
  unfolding ends_for
  ends_one n t =
      ap (λ (b : Bool). elim b [ true ↦ eqb t (first_interval bytes) || (ltb (first_interval bytes) t && ends_for n rest (t - first_interval bytes)) | false ↦ false ])
      begins-one
      ∙ ap (λ (i : ℕ). eqb t i || (ltb i t && ends_for n rest (t - i))) interval_one

-- fields as they are played, and how long
unfoldable pub play_list : List Gates → ℕ → Option ℕ
play_list [] t = none
play_list (g ∷ gs) t = elim (ltb t g.interval) [ true ↦ some g.states | false ↦ play_list gs (t - g.interval) ]

unfoldable pub total_list : List Gates → ℕ
total_list [] = 0
total_list (g ∷ gs) = g.interval + total_list gs

-- whether each lasts, and whether one ends at t
unfoldable pub lasts_list : List Gates → Bool
lasts_list [] = true
lasts_list (g ∷ gs) = ltb 0 g.interval && lasts_list gs

unfoldable pub ends_list : List Gates → ℕ → Bool
ends_list [] t = false
ends_list (g ∷ gs) t = eqb t g.interval || (ltb g.interval t && ends_list gs (t - g.interval))

-- each interval is a number of 4 bytes
pub data AllFit : List Gates → Type 0 where
  all : AllFit []
  more : {g : Gates} {gs : List Gates} → g.interval < 4294967296 → AllFit gs → AllFit (g ∷ gs)

play_none : (n t : ℕ) → play_for n [] t ≡ none
unfolding play_for whole_at size_at number2
play_none zero t = refl
play_none (suc n) t = refl

total_none : (n : ℕ) → total_for n [] ≡ 0
unfolding total_for whole_at size_at number2
total_none zero = refl
total_none (suc n) = refl

count_none : (n : ℕ) → count_for n [] ≡ 0
unfolding count_for whole_at size_at number2
count_none zero = refl
count_none (suc n) = refl

lasts_none : (n : ℕ) → lasts_for n [] ≡ true
unfolding lasts_for whole_at size_at number2
lasts_none zero = refl
lasts_none (suc n) = refl

ends_none : (n t : ℕ) → ends_for n [] t ≡ false
unfolding ends_for whole_at size_at number2
ends_none zero t = refl
ends_none (suc n) t = refl

play_bytes : (gs : List Gates) → AllFit gs → (n t : ℕ) → length (list_bytes gs) ≤ n → play_for n (list_bytes gs) t ≡ play_list gs t
unfolding list_bytes play_list
play_bytes [] all n t enough = play_none n t
play_bytes (g ∷ gs) (more less fit) zero t enough = absurd (omega arith)
play_bytes (g ∷ gs) (more less fit) (suc n) t enough =
    play_one g (list_bytes gs) less n t
    ∙ ap (λ (r : Option ℕ). elim (ltb t g.interval) [ true ↦ some g.states | false ↦ r ])
    (play_bytes gs fit n (t - g.interval) (omega arith))

total_bytes : (gs : List Gates) → AllFit gs → (n : ℕ) → length (list_bytes gs) ≤ n → total_for n (list_bytes gs) ≡ total_list gs
unfolding list_bytes total_list
total_bytes [] all n enough = total_none n
total_bytes (g ∷ gs) (more less fit) zero enough = absurd (omega arith)
total_bytes (g ∷ gs) (more less fit) (suc n) enough =
    total_one g (list_bytes gs) less n ∙ ap (λ (m : ℕ). g.interval + m) (total_bytes gs fit n (omega arith))

count_bytes : (gs : List Gates) → AllFit gs → (n : ℕ) → length (list_bytes gs) ≤ n → length (list_bytes gs) ≡ field_size * count_for n (list_bytes gs)
unfolding list_bytes
count_bytes [] all n enough = rw (count_none n)
count_bytes (g ∷ gs) (more less fit) zero enough = absurd (omega arith)
count_bytes (g ∷ gs) (more less fit) (suc n) enough =
    omega (arith, count_one g (list_bytes gs) less n, count_bytes gs fit n (omega arith))

lasts_bytes : (gs : List Gates) → AllFit gs → (n : ℕ) → length (list_bytes gs) ≤ n → lasts_for n (list_bytes gs) ≡ lasts_list gs
unfolding list_bytes lasts_list
lasts_bytes [] all n enough = lasts_none n
lasts_bytes (g ∷ gs) (more less fit) zero enough = absurd (omega arith)
lasts_bytes (g ∷ gs) (more less fit) (suc n) enough =
    lasts_one g (list_bytes gs) less n ∙ ap (λ (r : Bool). ltb 0 g.interval && r) (lasts_bytes gs fit n (omega arith))

ends_bytes : (gs : List Gates) → AllFit gs → (n t : ℕ) → length (list_bytes gs) ≤ n → ends_for n (list_bytes gs) t ≡ ends_list gs t
unfolding list_bytes ends_list
ends_bytes [] all n t enough = ends_none n t
ends_bytes (g ∷ gs) (more less fit) zero t enough = absurd (omega arith)
ends_bytes (g ∷ gs) (more less fit) (suc n) t enough =
    ends_one g (list_bytes gs) less n t
    ∙ ap (λ (r : Bool). eqb t g.interval || (ltb g.interval t && r)) (ends_bytes gs fit n (t - g.interval) (omega arith))

pub plays : (gs : List Gates) → AllFit gs → (t : ℕ) → played_at (list_bytes gs) t ≡ play_list gs t
unfolding played_at
plays gs fit t = play_bytes gs fit (length (list_bytes gs)) t (omega arith)

pub counts : (gs : List Gates) → AllFit gs → length (list_bytes gs) ≡ field_size * counted (list_bytes gs)
unfolding counted
counts gs fit = count_bytes gs fit (length (list_bytes gs)) (omega arith)

pub totals : (gs : List Gates) → AllFit gs → played (list_bytes gs) ≡ total_list gs
unfolding played
totals gs fit = total_bytes gs fit (length (list_bytes gs)) (omega arith)

pub each_lasts_lem : (gs : List Gates) → AllFit gs → each_lasts (list_bytes gs) ≡ lasts_list gs
unfolding each_lasts
each_lasts_lem gs fit = lasts_bytes gs fit (length (list_bytes gs)) (omega arith)

pub field_ends_lem : (gs : List Gates) → AllFit gs → (t : ℕ) → field_ends (list_bytes gs) t ≡ ends_list gs t
unfolding field_ends
field_ends_lem gs fit t = ends_bytes gs fit (length (list_bytes gs)) t (omega arith)

-- an interval in front, left out where it is 0
module _ (m i : ℕ) (gs : List Gates) where
  abbrev front : Bool → List Gates
  front b = cond b (record { states = m; interval = i } ∷ []) [] ++ gs

  nothing : ltb 0 i ≡ false → i ≡ 0
  nothing e = omega (arith, ltb-false 0 i e)

  pub play_lasting : (t : ℕ) → play_list (lasting m i ++ gs) t ≡ elim (ltb t i) [ true ↦ some m | false ↦ play_list gs (t - i) ]
  unfolding play_list
  play_lasting t = go (ltb 0 i) refl
    where
      go : (b : Bool) → ltb 0 i ≡ b → play_list (front b) t ≡ elim (ltb t i) [ true ↦ some m | false ↦ play_list gs (t - i) ]
      go true e = refl
      go false e =
          let none_left : ltb t i ≡ false = le-ltb t i (omega (arith, nothing e)) in
          let whole : t ≡ t - i = omega (arith, nothing e) in
          rw none_left (ap (play_list gs) whole)

  pub total_lasting : total_list (lasting m i ++ gs) ≡ i + total_list gs
  unfolding total_list
  total_lasting = go (ltb 0 i) refl
    where
      go : (b : Bool) → ltb 0 i ≡ b → total_list (front b) ≡ i + total_list gs
      go true e = refl
      go false e = omega (arith, nothing e)

  pub fit_lasting : i < 4294967296 → AllFit gs → AllFit (lasting m i ++ gs)
  fit_lasting less fit = go (ltb 0 i)
    where
      go : (b : Bool) → AllFit (front b)
      go true = more less fit
      go false = fit

  pub lasts_lasting : lasts_list (lasting m i ++ gs) ≡ lasts_list gs
  unfolding lasts_list
  lasts_lasting = go (ltb 0 i) refl
    where
      go : (b : Bool) → ltb 0 i ≡ b → lasts_list (front b) ≡ lasts_list gs
      go true e = rw e
      go false e = refl

  pub ends_lasting : (t : ℕ) → 0 < t → ends_list (lasting m i ++ gs) t ≡ eqb t i || (ltb i t && ends_list gs (t - i))
  unfolding ends_list
  ends_lasting t later = go (ltb 0 i) refl
    where
      go : (b : Bool) → ltb 0 i ≡ b → ends_list (front b) t ≡ eqb t i || (ltb i t && ends_list gs (t - i))
      go true e = refl
      go false e =
          let whole : t ≡ t - i = omega (arith, nothing e) in
          rw (ne_eqb t i (λ h. absurd (omega (arith, nothing e))), lt-ltb i t (omega (arith, nothing e))) (ap (ends_list gs) whole)
