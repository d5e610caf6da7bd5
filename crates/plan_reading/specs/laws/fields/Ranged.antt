-- Numbers in range, each by its place, and what holds of each part of several.
use Rattle.std.specs.Prelude.{ℕ, suc, ◌≡◌, refl, true, get_or}
use Rattle.std.proofs.Common.{sym, true≢false}
use mathlib.Core.List.Memᴰ
use mathlib.Core.List.{List, [], ◌∷◌, ◌++◌, Memᴰ}
use Rattle.std.proofs.Math.Bool.{and-eq-true_iff}
use Rattle.plan.specs.Layout.{Number}
use Rattle.plan.specs.Field.{in_ranges}
use Rattle.plan_reading.specs.Part.{Part}

-- the numbers from place i on are in these ranges
abbrev pub InRange : List Number → ℕ → List ℕ → Type 0
InRange [] i ns = Unit {0}
InRange (c ∷ cs) i ns = (c.ok (get_or ns i 0) ≡ true) × InRange cs (suc i) ns

shifted : (cs : List Number) (i n : ℕ) (ns : List ℕ) → InRange cs i ns → InRange cs (suc i) (n ∷ ns)
shifted [] i n ns h = tt
shifted (c ∷ cs) i n ns h = (h.0, shifted cs (suc i) n ns h.1)

pub in_range : (cs : List Number) (ns : List ℕ) → in_ranges cs ns ≡ true → InRange cs 0 ns
in_range [] ns e = tt
in_range (c ∷ cs) [] e = absurd (true≢false (sym e))
in_range (c ∷ cs) (n ∷ ns) e =
    let t = (and-eq-true_iff (c.ok n) (in_ranges cs ns)).0 e in
    (t.0, shifted cs 0 n ns (in_range cs ns t.1))

-- of each part
abbrev pub All : (Part → Type 0) → List Part → Type 0
All P [] = Unit {0}
All P (x ∷ xs) = P x × All P xs

module _ (P : Part → Type 0) where
  pub all_at : {x : Part} (xs : List Part) → All P xs → Memᴰ x xs → P x
  all_at [] h m = absurd (Memᴰ.not-nil m)
  all_at (y ∷ xs) h (Memᴰ.head same) = rw same h.0
  all_at (y ∷ xs) h (Memᴰ.tail m) = all_at xs h.1 m

  pub all_append : (xs ys : List Part) → All P xs → All P ys → All P (xs ++ ys)
  all_append [] ys a b = b
  all_append (x ∷ xs) ys a b = (a.0, all_append xs ys a.1 b)

  pub all_map : (Q : Part → Type 0) (xs : List Part) → ((x : Part) → P x → Q x) → All P xs → All Q xs
  all_map Q [] f h = tt
  all_map Q (x ∷ xs) f h = (f x h.0, all_map Q xs f h.1)

  pub all_split : (xs ys : List Part) → All P (xs ++ ys) → All P xs × All P ys
  all_split [] ys h = (tt, h)
  all_split (x ∷ xs) ys h = let t = all_split xs ys h.1 in ((h.0, t.0), t.1)

  pub all_of : (xs : List Part) → ((x : Part) → Memᴰ x xs → P x) → All P xs
  all_of [] each = tt
  all_of (x ∷ xs) each = (each x (Memᴰ.head refl), all_of xs (λ y m. each y (Memᴰ.tail m)))
