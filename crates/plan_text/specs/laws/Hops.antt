-- Laws of the routes' lengths in a draft: each fits its places.
use Rattle.std.specs.Prelude.{ℕ, ◌-◌, ◌≤◌, ◌<◌, ◌≡◌, List, length, get_or, set}
use Rattle.std.proofs.Common.{ap, subst, arith, get_or-set_same, get_or-set_other}
use Rattle.std.proofs.Math.Decide.{ℕ_discrete, dec_lt}
use Rattle.std.proofs.Math.Seq.{set_out}
use Rattle.cqf.specs.Limits.{max_hops}
use Rattle.plan_reading.specs.Store.{store_all, store}
use Rattle.plan_text.specs.Line.{form_by}
use Rattle.plan_text.specs.Text.{Draft, own, added, stored}
use Rattle.plan_text.specs.Drafting.{HopsWithin, Goes, idle, takes}
use Rattle.plan_text.specs.laws.Says.{most_hops}
use Rattle.plan_text.specs.declared.grammar.Kind.{Kind}

set_within : (l : List ℕ) (i v : ℕ) → v ≤ max_hops → HopsWithin l → HopsWithin (set l i v)
set_within l i v small h f less = go (ℕ_discrete f i) (dec_lt i (length l))
  where
    go : Dec (f ≡ i) → Dec (i < length l) → get_or (set l i v) f 0 ≤ max_hops
    go (no other) d = omega (arith, get_or-set_other l i f v 0 other, h f less)
    go (yes same) (yes inside) = omega (arith, ap (λ (k : ℕ). get_or (set l i v) k 0) same, get_or-set_same l i v 0 inside)
    go (yes same) (no past) = omega (arith, ap (λ (k : List ℕ). get_or k f 0) (set_out l i v (omega arith)), h f less)

pub added-within : (kind : Kind) (n : ℕ) (ns r : List ℕ) (d : Draft) → length r ≤ max_hops → HopsWithin d.tables.hops → HopsWithin (added kind n ns r d).tables.hops
unfolding added stored store_all store
added-within Kind.Guard n ns r d short h = h
added-within Kind.Top n ns r d short h = h
added-within Kind.Port n ns r d short h = h
added-within Kind.Flow n ns r d short h = set_within d.tables.hops (own ns - 1) (length r) short h
added-within Kind.Clocks n ns r d short h = h
added-within Kind.Format n ns r d short h = h
added-within Kind.Other n ns r d short h = h

pub goes_within : (n : ℕ) (d e : Draft) → Goes n d e → HopsWithin d.tables.hops → HopsWithin e.tables.hops
goes_within n d e (idle same) h = subst (λ (x : Draft). HopsWithin x.tables.hops) same h
goes_within n d e (takes kind ns r fits once same) h =
    subst (λ (x : Draft). HopsWithin x.tables.hops) same (added-within kind n ns r d (omega (arith, fits.hops, most_hops (form_by d.newer))) h)
