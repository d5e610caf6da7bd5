-- The list of the spans: it rises, and its members are the spans. And of any list that rises: those that end at a duration or later.
use Rattle.std.specs.Prelude.{◌≡◌, ◌↔◌, Bool}
use Rattle.std.proofs.Math.Path.{refl, subst}
use Rattle.std.proofs.Common.{sym, ap, ◌∙◌, le_refl, arith}
use Rattle.std.proofs.Math.Logic.{⊎_elim}
use mathlib.Core.List.Memᴰ
use mathlib.Core.List.{◌∷◌, Memᴰ}
use Rattle.std.proofs.Math.Bool.{true, false}
use Prim.Native.Nat.{ℕ, zero, suc, ◌+◌, ◌≤◌, ◌<◌}
use Rattle.std.proofs.Math.Decide.{ℕ_discrete}
use Rattle.cqf.specs.Plan.{Plan}
use Rattle.span_lists.specs.Span.{Span, IsSpan, begins, span_from, and_where, spans_in, spans, Rising}
use Rattle.span_lists.specs.laws.Runs.{span_from_lem, span_begins, span_is, span-next}

-- one more duration, at which a span begins or does not
pub spans_in-begins : (p : Plan) (n T : ℕ) → begins p T ≡ true → spans_in p (suc n) T ≡ span_from p T ∷ spans_in p n (suc T)
unfolding spans_in
spans_in-begins p n T e = ap (λ b. and_where b (span_from p T) (spans_in p n (suc T))) e

pub spans_in_not : (p : Plan) (n T : ℕ) → begins p T ≡ false → spans_in p (suc n) T ≡ spans_in p n (suc T)
unfolding spans_in
spans_in_not p n T e = ap (λ b. and_where b (span_from p T) (spans_in p n (suc T))) e

pub spans_of : (p : Plan) → spans p ≡ spans_in p p.top 1
unfolding spans
spans_of p = refl

-- it rises
module _ (p : Plan) where
  in_rising
      : (n T b : ℕ)
      → 1 ≤ T
      → T + n ≤ suc p.top
      → ((u : ℕ) → T ≤ u → u ≤ p.top → begins p u ≡ true → b ≤ u)
      → Rising b (spans_in p n T)
  unfolding Rising spans_in
  in_rising zero T b h upto from = tt
  in_rising (suc n) T b h upto from =
      go (begins p T) refl
      (λ e. in_rising n (suc T) _ (omega arith) (omega arith) (λ u l m f. span-next p (span_from_lem p T h (omega arith) e) u l m f))
      (in_rising n (suc T) b (omega arith) (omega arith) (λ u l m f. from u (omega arith) m f))
    where
      go
          : (x : Bool)
          → begins p T ≡ x
          → (begins p T ≡ true → Rising ((span_from p T).last + 2) (spans_in p n (suc T)))
          → Rising b (spans_in p n (suc T))
          → Rising b (spans_in p (suc n) T)
      go true e more same = subst (Rising b) (sym (spans_in-begins p n T e)) (from T (le_refl T) (omega arith) e, more e)
      go false e more same = subst (Rising b) (sym (spans_in_not p n T e)) same

  pub spans-rising : Rising 1 (spans p)
  spans-rising = subst (Rising 1) (sym (spans_of p)) (in_rising p.top 1 1 (le_refl 1) (omega arith) (λ u l m e. l))

  -- its members are the spans
  in_spans : (n T : ℕ) → 1 ≤ T → T + n ≤ suc p.top → (s : Span) → Memᴰ s (spans_in p n T) → IsSpan p s
  unfolding spans_in
  in_spans zero T h upto s m = absurd (Memᴰ.not-nil m)
  in_spans (suc n) T h upto s m =
      go (begins p T) refl m (λ k. in_spans n (suc T) (omega arith) (omega arith) s k)
    where
      go : (x : Bool) → begins p T ≡ x → Memᴰ s (spans_in p (suc n) T) → (Memᴰ s (spans_in p n (suc T)) → IsSpan p s) → IsSpan p s
      go true e k more =
          ⊎_elim
          (λ same. subst (IsSpan p) (sym same) (span_from_lem p T h (omega arith) e))
          more
          (Memᴰ.cases_cons (subst (Memᴰ s) (spans_in-begins p n T e) k))
      go false e k more = more (subst (Memᴰ s) (spans_in_not p n T e) k)

  spans_in_lem : (n T : ℕ) (s : Span) → IsSpan p s → T ≤ s.first → s.first < T + n → Memᴰ s (spans_in p n T)
  spans_in_lem zero T s is from upto = absurd (omega arith)
  spans_in_lem (suc n) T s is from upto =
      go (ℕ_discrete s.first T) (begins p T) refl (λ k. spans_in_lem n (suc T) s is k (omega arith))
    where
      go : Dec (s.first ≡ T) → (x : Bool) → begins p T ≡ x → (suc T ≤ s.first → Memᴰ s (spans_in p n (suc T))) → Memᴰ s (spans_in p (suc n) T)
      go (yes at) x e more =
          let e' : begins p T ≡ true = ap (begins p) (sym at) ∙ span_begins p is in
          subst (Memᴰ s) (sym (spans_in-begins p n T e'))
          (Memᴰ.head (sym (ap (span_from p) (sym at) ∙ span_is p is)))
      go (no apart) true e more = subst (Memᴰ s) (sym (spans_in-begins p n T e)) (Memᴰ.tail (more (omega arith)))
      go (no apart) false e more = subst (Memᴰ s) (sym (spans_in_not p n T e)) (more (omega arith))

  pub spans_each : (s : Span) → Memᴰ s (spans p) ↔ IsSpan p s
  spans_each s = (
    λ m. in_spans p.top 1 (le_refl 1) (omega arith) s (subst (Memᴰ s) (spans_of p) m),
    λ is. subst (Memᴰ s) (sym (spans_of p)) (spans_in_lem p.top 1 s is is.low (omega (arith, is.some, is.high))),
  )
