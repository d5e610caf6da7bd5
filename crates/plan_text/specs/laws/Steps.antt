-- Laws of one line of a text.
use Prim.Native.Nat.{ℕ}
use Rattle.std.specs.Prelude.{◌≡◌, Bool, List, [], ◌∷◌}
use Rattle.std.proofs.Math.Path.{refl, sym}
use Rattle.std.proofs.Common.{ap, ◌∙◌, arith}
use Rattle.std.proofs.Math.Bool.{true, false, not, cond}
use Rattle.std.proofs.lemmas.Bool.{not-false}
use Rattle.cqf.specs.Bounded.{distinct}
use Rattle.words.specs.Words.{words}
use Rattle.plan_text.specs.Line.{Line, nothing, says, refused, form_by, line_of}
use Rattle.plan_text.specs.Reading.{Fits}
use Rattle.plan_text.specs.Text.{Draft, Step, stop, more, own, is_again, added, taken, step_at, rejected, closing, read_lines}
use Rattle.plan_text.specs.Kinds.{item_of}
use Rattle.plan_text.specs.Drafting.{idle, takes, StepsAs}
use Rattle.plan_text.specs.declared.grammar.Item.{Item}
use Rattle.plan_text.specs.declared.grammar.Kind.{Kind}
use Rattle.plan_text.specs.declared.grammar.Fault.{Fault}

-- the two cases of a step differ, and the draft of one that goes on is its own
abbrev draft_from : Draft → Step → Draft
draft_from d (stop f x v) = d
draft_from d (more e) = e

abbrev goes_on : Step → ℕ
goes_on (stop f x v) = 0
goes_on (more e) = 1

pub more_inj : (d e : Draft) → more d ≡ more e → d ≡ e
more_inj d e p = ap (draft_from d) p

pub stop_more : (f : Fault) (x : Item) (v : ℕ) (e : Draft) → stop f x v ≡ more e → ⊥
stop_more f x v e p = let z : ◌≡◌ {A = ℕ} 0 1 = ap goes_on p in absurd (omega arith)

module _ (n : ℕ) (d : Draft) (l : List ℕ) where
  abbrev pub line : Line
  line = line_of (form_by d.newer) d.begun (words l)

  pub step_nothing : line ≡ nothing → StepsAs n d l (more d)
  unfolding step_at
  step_nothing e = record { steps = sym (rw e); keeps = λ f p. idle (more_inj d f p) }

  pub step_refused : {f : Fault} {x : Item} {v : ℕ} → line ≡ refused f x v → StepsAs n d l (stop f x v)
  unfolding step_at
  step_refused {f} {x} {v} e = record { steps = sym (rw e); keeps = λ g p. absurd (stop_more f x v g p) }

  -- a line that is taken and goes on was new and had no port twice
  pub taken_more : (kind : Kind) (ns r : List ℕ) (e : Draft) → taken kind n ns r d ≡ more e → (distinct r ≡ true) × (added kind n ns r d ≡ e)
  unfolding taken
  taken_more kind ns r e = go (is_again kind (own ns) d) (not (distinct r)) refl
    where
      go
          : (again twice : Bool)
          → not (distinct r) ≡ twice
          → cond again (stop Fault.Again (item_of kind) (own ns)) (cond twice (stop Fault.Twice Item.Route 0) (more (added kind n ns r d))) ≡ more e
          → (distinct r ≡ true) × (added kind n ns r d ≡ e)
      go true twice t p = absurd (stop_more Fault.Again (item_of kind) (own ns) e p)
      go false true t p = absurd (stop_more Fault.Twice Item.Route 0 e p)
      go false false t p = (not-false (distinct r) t, more_inj (added kind n ns r d) e p)

  pub step_says : (kind : Kind) (ns r : List ℕ) → line ≡ says kind ns r → Fits (form_by d.newer) kind ns r → {s : Step} → s ≡ taken kind n ns r d → StepsAs n d l s
  unfolding step_at
  step_says kind ns r e fits {s} is =
      record {
        steps = is ∙ sym (rw e);
        keeps = λ f p. let t = taken_more kind ns r f (sym is ∙ p) in takes kind ns r fits t.0 t.1;
      }

-- the lines of a text
pub read_none : (d : Draft) (n : ℕ) → read_lines d n [] ≡ closing d n
unfolding read_lines
read_none d n = refl

module _ (d : Draft) (n : ℕ) (l : List ℕ) (ls : List (List ℕ)) where
  pub read_stop : {f : Fault} {x : Item} {v : ℕ} → stop f x v ≡ step_at n d l → read_lines d n (l ∷ ls) ≡ rejected n f x v
  unfolding read_lines
  read_stop e = rw (sym e, read_lines)

  pub read_more : {e : Draft} → more e ≡ step_at n d l → read_lines d n (l ∷ ls) ≡ read_lines e (Prim.Native.Nat.suc n) ls
  unfolding read_lines
  read_more e = rw (sym e, read_lines)
