-- Laws of a line that is taken: its first number, and its last two tests.
use Rattle.std.specs.Prelude.{ℕ, ◌≡◌, refl, true, false, not, List, get_or}
use Rattle.std.proofs.Common.{sym, ap, true≢false, arith}
use Rattle.std.proofs.lemmas.Bool.{false≢true}
use Rattle.cqf.specs.Bounded.{distinct}
use Rattle.plan_text.specs.Kinds.{is_other, item_of}
use Rattle.plan_text.specs.Reading.{numbers_by}
use Rattle.plan_text.specs.Text.{Draft, stop, more, own, is_again, added, taken}
use Rattle.plan_text.specs.laws.Fits.{at_number}
use Rattle.plan_text.specs.declared.grammar.Item.{Item}
use Rattle.plan_text.specs.declared.grammar.Kind.{Kind}
use Rattle.plan_text.specs.declared.grammar.Fault.{Fault}

pub own-none : (kind : Kind) (numbers : List ℕ) → is_other kind ≡ true → own (numbers_by kind numbers) ≡ 0
own-none Kind.Guard numbers e = absurd (false≢true e)
own-none Kind.Top numbers e = absurd (false≢true e)
own-none Kind.Port numbers e = absurd (false≢true e)
own-none Kind.Flow numbers e = absurd (false≢true e)
own-none Kind.Clocks numbers e = absurd (false≢true e)
own-none Kind.Format numbers e = absurd (false≢true e)
own-none Kind.Other numbers e = refl

pub own_first : (kind : Kind) (numbers : List ℕ) → is_other kind ≡ false → own (numbers_by kind numbers) ≡ get_or numbers 0 0
own_first Kind.Guard numbers e = at_number Kind.Guard numbers 0 (omega arith)
own_first Kind.Top numbers e = at_number Kind.Top numbers 0 (omega arith)
own_first Kind.Port numbers e = at_number Kind.Port numbers 0 (omega arith)
own_first Kind.Flow numbers e = at_number Kind.Flow numbers 0 (omega arith)
own_first Kind.Clocks numbers e = at_number Kind.Clocks numbers 0 (omega arith)
own_first Kind.Format numbers e = at_number Kind.Format numbers 0 (omega arith)
own_first Kind.Other numbers e = absurd (true≢false e)

pub again_own : (kind : Kind) (numbers : List ℕ) (d : Draft) → is_again kind (get_or numbers 0 0) d ≡ is_again kind (own (numbers_by kind numbers)) d
again_own Kind.Guard numbers d = refl
again_own Kind.Top numbers d = refl
again_own Kind.Port numbers d = ap (λ (n : ℕ). is_again Kind.Port n d) (sym (at_number Kind.Port numbers 0 (omega arith)))
again_own Kind.Flow numbers d = ap (λ (n : ℕ). is_again Kind.Flow n d) (sym (at_number Kind.Flow numbers 0 (omega arith)))
again_own Kind.Clocks numbers d = refl
again_own Kind.Format numbers d = refl
again_own Kind.Other numbers d = refl

module _ (kind : Kind) (n : ℕ) (ns r : List ℕ) (d : Draft) where
  pub taken_again : is_again kind (own ns) d ≡ true → taken kind n ns r d ≡ stop Fault.Again (item_of kind) (own ns)
  unfolding taken
  taken_again e = rw e

  module _ (new : is_again kind (own ns) d ≡ false) where
    pub taken_twice : not (distinct r) ≡ true → taken kind n ns r d ≡ stop Fault.Twice Item.Route 0
    unfolding taken
    taken_twice e = rw (new, e)

    pub taken-added : not (distinct r) ≡ false → taken kind n ns r d ≡ more (added kind n ns r d)
    unfolding taken
    taken-added e = rw (new, e)
