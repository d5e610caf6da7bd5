-- Lists of spans that rise: those that end at a duration or later, the first of them, and the last of the list.
use Rattle.std.specs.Prelude.{◌≡◌, refl, ℕ, ◌+◌, ◌≤◌, ◌<◌}
use Rattle.std.proofs.Common.{sym, ap, subst, ◌∙◌, ⊎_elim, le_trans, arith, le-leb}
use mathlib.Core.List.{List, [], ◌∷◌, ◌++◌, Memᴰ}
use Rattle.std.proofs.Math.Decide.{dec_le}
use Rattle.std.proofs.lemmas.Bool.{lt-leb}
use Rattle.span_lists.specs.Span.{Span, and_where, ending_from, Rising}

-- none of them ends before it begins
abbrev pub Sound : List Span → Type 0
Sound ss = (s : Span) → Memᴰ s ss → s.first ≤ s.last

pub sound_rest : {s : Span} {ss : List Span} → Sound (s ∷ ss) → Sound ss
sound_rest h x m = h x (mathlib.Core.List.Memᴰ.tail m)

pub ending_keeps : (T : ℕ) (s : Span) (ss : List Span) → T ≤ s.last → ending_from T (s ∷ ss) ≡ s ∷ ending_from T ss
unfolding ending_from
ending_keeps T s ss l = ap (λ b. and_where b s (ending_from T ss)) (le-leb T s.last l)

pub ending_skips : (T : ℕ) (s : Span) (ss : List Span) → s.last < T → ending_from T (s ∷ ss) ≡ ending_from T ss
unfolding ending_from
ending_skips T s ss l = ap (λ b. and_where b s (ending_from T ss)) (lt-leb T s.last l)

-- whoever is in a list that rises from b on begins at b or later
pub rising_above : (b : ℕ) (ss : List Span) (s : Span) → Rising b ss → Sound ss → Memᴰ s ss → b ≤ s.first
unfolding Rising
rising_above b [] s up sound m = absurd (mathlib.Core.List.Memᴰ.not-nil m)
rising_above b (x ∷ xs) s up sound m =
    ⊎_elim
    (λ same. subst (λ (y : Span). b ≤ y.first) (sym same) up.0)
    (λ k. omega (arith, up.0, sound x (mathlib.Core.List.Memᴰ.head refl), rising_above (x.last + 2) xs s up.1 (sound_rest sound) k))
    (mathlib.Core.List.Memᴰ.cases_cons m)

pub rising-lower : (a b : ℕ) (ss : List Span) → a ≤ b → Rising b ss → Rising a ss
unfolding Rising
rising-lower a b [] l up = tt
rising-lower a b (x ∷ xs) l up = (le_trans l up.0, up.1)

-- those that end at T or later: who is among them, that they rise, and that they are all where each ends so late
pub ending_from_lem : (T : ℕ) (ss : List Span) (s : Span) → Memᴰ s (ending_from T ss) → Memᴰ s ss × (T ≤ s.last)
unfolding ending_from
ending_from_lem T [] s m = absurd (mathlib.Core.List.Memᴰ.not-nil m)
ending_from_lem T (x ∷ xs) s m = go (dec_le T x.last) (λ k. ending_from_lem T xs s k)
  where
    later : Memᴰ s xs × (T ≤ s.last) → Memᴰ s (x ∷ xs) × (T ≤ s.last)
    later r = (mathlib.Core.List.Memᴰ.tail r.0, r.1)

    go : Dec (T ≤ x.last) → (Memᴰ s (ending_from T xs) → Memᴰ s xs × (T ≤ s.last)) → Memᴰ s (x ∷ xs) × (T ≤ s.last)
    go (yes l) more =
        ⊎_elim
        (λ same. (mathlib.Core.List.Memᴰ.head same, subst (λ (y : Span). T ≤ y.last) (sym same) l))
        (λ k. later (more k))
        (mathlib.Core.List.Memᴰ.cases_cons (subst (Memᴰ s) (ending_keeps T x xs l) m))
    go (no l) more = later (more (subst (Memᴰ s) (ending_skips T x xs (omega arith)) m))

pub ending_in : (T : ℕ) (ss : List Span) (s : Span) → Memᴰ s ss → T ≤ s.last → Memᴰ s (ending_from T ss)
ending_in T [] s m l = absurd (mathlib.Core.List.Memᴰ.not-nil m)
ending_in T (x ∷ xs) s m l = go (dec_le T x.last) (λ k. ending_in T xs s k l)
  where
    go : Dec (T ≤ x.last) → (Memᴰ s xs → Memᴰ s (ending_from T xs)) → Memᴰ s (ending_from T (x ∷ xs))
    go (yes k) more =
        subst (Memᴰ s) (sym (ending_keeps T x xs k))
        (⊎_elim mathlib.Core.List.Memᴰ.head (λ r. mathlib.Core.List.Memᴰ.tail (more r)) (mathlib.Core.List.Memᴰ.cases_cons m))
    go (no k) more =
        subst (Memᴰ s) (sym (ending_skips T x xs (omega arith)))
        (⊎_elim
        (λ same. absurd (omega (arith, k, subst (λ (y : Span). T ≤ y.last) same l)))
        more
        (mathlib.Core.List.Memᴰ.cases_cons m))

pub ending_rising : (T b : ℕ) (ss : List Span) → Rising b ss → Sound ss → Rising b (ending_from T ss)
unfolding Rising ending_from
ending_rising T b [] up sound = tt
ending_rising T b (x ∷ xs) up sound = go (dec_le T x.last) (ending_rising T (x.last + 2) xs up.1 (sound_rest sound))
  where
    go : Dec (T ≤ x.last) → Rising (x.last + 2) (ending_from T xs) → Rising b (ending_from T (x ∷ xs))
    go (yes l) more = subst (Rising b) (sym (ending_keeps T x xs l)) (up.0, more)
    go (no l) more =
        subst (Rising b) (sym (ending_skips T x xs (omega arith)))
        (rising-lower b (x.last + 2) (ending_from T xs) (omega (arith, up.0, sound x (mathlib.Core.List.Memᴰ.head refl))) more)

pub ending_all : (T : ℕ) (ss : List Span) → ((s : Span) → Memᴰ s ss → T ≤ s.last) → ending_from T ss ≡ ss
unfolding ending_from
ending_all T [] h = refl
ending_all T (x ∷ xs) h =
    ending_keeps T x xs (h x (mathlib.Core.List.Memᴰ.head refl)) ∙ ap (λ (r : List Span). x ∷ r) (ending_all T xs (λ s m. h s (mathlib.Core.List.Memᴰ.tail m)))

-- the first of them: every other one before it ends before T
pub ending_first
    : (T b : ℕ) (ss : List Span) (s : Span)
    → Rising b ss
    → Sound ss
    → Memᴰ s ss
    → T ≤ s.last
    → ((x : Span) → Memᴰ x ss → x.last < s.first → x.last < T)
    → (rest : List Span) × (ending_from T ss ≡ s ∷ rest)
unfolding Rising
ending_first T b [] s up sound m l before = absurd (mathlib.Core.List.Memᴰ.not-nil m)
ending_first T b (x ∷ xs) s up sound m l before =
    ⊎_elim
    (λ same. (ending_from T xs, ending_keeps T x xs (subst (λ (y : Span). T ≤ y.last) same l) ∙ ap (λ (y : Span). y ∷ ending_from T xs) (sym same)))
    (λ k.
    let above = rising_above (x.last + 2) xs s up.1 (sound_rest sound) k in
    let r = ending_first T (x.last + 2) xs s up.1 (sound_rest sound) k l (λ y n less. before y (mathlib.Core.List.Memᴰ.tail n) less) in
    (r.0, ending_skips T x xs (before x (mathlib.Core.List.Memᴰ.head refl) (omega arith)) ∙ r.1))
    (mathlib.Core.List.Memᴰ.cases_cons m)

-- and those from one above its last on are the rest
pub ending_next
    : (T b : ℕ) (ss : List Span) (s : Span) (rest : List Span)
    → Rising b ss
    → Sound ss
    → ending_from T ss ≡ s ∷ rest
    → ending_from (s.last + 1) ss ≡ rest
unfolding Rising ending_from
ending_next T b [] s rest up sound e = absurd (let z : ◌≡◌ {A = ℕ} 0 1 = cc in omega arith)
ending_next T b (x ∷ xs) s rest up sound e =
    go (dec_le T x.last) (λ r. ending_next T (x.last + 2) xs s rest up.1 (sound_rest sound) r)
  where
    above : (y : Span) → Memᴰ y xs → x.last + 2 ≤ y.last
    above y m = le_trans (rising_above (x.last + 2) xs y up.1 (sound_rest sound) m) (sound y (mathlib.Core.List.Memᴰ.tail m))

    go : Dec (T ≤ x.last) → (ending_from T xs ≡ s ∷ rest → ending_from (s.last + 1) xs ≡ rest) → ending_from (s.last + 1) (x ∷ xs) ≡ rest
    go (yes l) more =
        let both : x ∷ ending_from T xs ≡ s ∷ rest = sym (ending_keeps T x xs l) ∙ e in
        let same : x ≡ s = cc in
        let tail : ending_from T xs ≡ rest = cc in
        let at : x.last ≡ s.last = ap (λ (y : Span). y.last) same in
        ending_skips (s.last + 1) x xs (omega (arith, at))
        ∙ ending_all (s.last + 1) xs (λ y m. omega (arith, at, above y m))
        ∙ sym (ending_all T xs (λ y m. omega (arith, l, above y m)))
        ∙ tail
    go (no l) more =
        let r : ending_from T xs ≡ s ∷ rest = sym (ending_skips T x xs (omega arith)) ∙ e in
        let m = ending_from_lem T xs s (subst (Memᴰ s) (sym r) (mathlib.Core.List.Memᴰ.head refl)) in
        ending_skips (s.last + 1) x xs (omega (arith, above s m.0)) ∙ more r

-- one that no other ends after is the last of the list
pub rising_last
    : (b : ℕ) (ss : List Span) (s : Span)
    → Rising b ss
    → Sound ss
    → Memᴰ s ss
    → ((x : Span) → Memᴰ x ss → x.last ≤ s.last)
    → (rest : List Span) × (ss ≡ rest ++ (s ∷ []))
unfolding Rising
rising_last b [] s up sound m most = absurd (mathlib.Core.List.Memᴰ.not-nil m)
rising_last b (x ∷ xs) s up sound m most =
    ⊎_elim
    (λ same. ([], ends same xs refl))
    (λ k.
    let r = rising_last (x.last + 2) xs s up.1 (sound_rest sound) k (λ y n. most y (mathlib.Core.List.Memᴰ.tail n)) in
    (x ∷ r.0, ap (λ (l : List Span). x ∷ l) r.1))
    (mathlib.Core.List.Memᴰ.cases_cons m)
  where
    ends : s ≡ x → (l : List Span) → xs ≡ l → x ∷ xs ≡ s ∷ []
    ends same [] e = cc
    ends same (y ∷ ys) e =
        let at : Memᴰ y xs = subst (Memᴰ y) (sym e) (mathlib.Core.List.Memᴰ.head refl) in
        let above = rising_above (x.last + 2) xs y up.1 (sound_rest sound) at in
        absurd (omega (arith, above, sound y (mathlib.Core.List.Memᴰ.tail at), most y (mathlib.Core.List.Memᴰ.tail at), ap (λ (z : Span). z.last) same))
