-- Laws of the numbers of a line, read from the front.
use Rattle.std.specs.Prelude.{Some, None, ℕ, ◌+◌, ◌≤◌, ◌<◌, ◌≡◌, refl, length, get_or, take, set}
use Rattle.std.proofs.Common.{sym, ap₂, ◌∙◌, add-one, drop-cons, take-suc-set}
use Rattle.std.proofs.Math.Path.{ap}
use mathlib.Core.List.{List, [], ◌∷◌, ◌++◌, map, map-append, append_assoc, append-nil}
use Rattle.std.proofs.Math.Option.{Option}
use Rattle.std.proofs.Math.ListN.{drop}
use Rattle.std.proofs.Math.Seq.{drop-length}
use Rattle.words.specs.Words.{words}
use Rattle.plan_text.specs.Line.{Matched, wrong, matched, with, match}
use Rattle.plan_text.specs.Kinds.{items}
use Rattle.plan_text.specs.Reading.{decoded, ItemRead, Behind}
use Rattle.plan_text.specs.declared.grammar.Item.{Item}
use Rattle.plan_text.specs.declared.grammar.Kind.{Kind}
use Rattle.plan_text.specs.declared.line.Number.{Number}

-- numbers in front of what is matched behind them
abbrev pub after : List (Option ℕ) → Matched → Matched
after vs (wrong x) = wrong x
after vs (matched ns ws) = matched (vs ++ ns) ws

after_none : (m : Matched) → after [] m ≡ m
after_none (wrong x) = refl
after_none (matched ns ws) = refl

after-with : (vs : List (Option ℕ)) (n : Option ℕ) (m : Matched) → after vs (with n m) ≡ after (vs ++ (n ∷ [])) m
after-with vs n (wrong x) = refl
after-with vs n (matched ns ws) = ap (λ (l : List (Option ℕ)). matched l ws) (sym (append_assoc vs (n ∷ []) ns))

-- the first i numbers of a line, read to a position
pub record SoFar (kind : Kind) (line : List ℕ) (m : Matched) (numbers : List ℕ) (next i : ℕ) : Type 0 where
  pub within : next ≤ length line
  pub reads : m ≡ after (map decoded (take i numbers)) (match (drop i (items kind)) (words (drop next line)))

module _ (kind : Kind) (line : List ℕ) (at : ℕ) where
  abbrev whole : Matched
  whole = match (items kind) (words (drop at line))

  pub so_far_none : (numbers : List ℕ) → at ≤ length line → SoFar kind line whole numbers at 0
  so_far_none numbers inside =
      record { within = inside; reads = sym (after_none whole) }

  module _ (numbers : List ℕ) (next i : ℕ) (sf : SoFar kind line whole numbers next i) (x : Item) (here : x ≡ get_or (items kind) i Item.End) where
    front : i < length (items kind) → drop i (items kind) ≡ x ∷ drop (i + 1) (items kind)
    front inside = drop-cons (items kind) i Item.End inside ∙ ap₂ ◌∷◌ (sym here) (ap (λ (n : ℕ). drop n (items kind)) (sym (add-one i)))

    pub so_far_wrong : i < length (items kind) → ItemRead x line (words (drop next line)) None → whole ≡ wrong x
    so_far_wrong inside r =
        sf.reads
        ∙ ap (λ (l : List Item). after (map decoded (take i numbers)) (match l (words (drop next line)))) (front inside)
        ∙ ap (after (map decoded (take i numbers))) (r (drop (i + 1) (items kind)))

    -- one number more is stored
    one_more : (value : ℕ) → i < length numbers → map decoded (take i numbers) ++ (decoded value ∷ []) ≡ map decoded (take (i + 1) (set numbers i value))
    one_more value room =
        sym (map-append decoded (take i numbers) (value ∷ []))
        ∙ ap (map decoded) (sym (ap (λ (k : ℕ). take k (set numbers i value)) (add-one i) ∙ take-suc-set numbers i value room))

    pub so_far_more
        : {n : Number}
        → i < length (items kind)
        → i < length numbers
        → ItemRead x line (words (drop next line)) (Some n)
        → SoFar kind line whole (set numbers i n.value) n.next (i + 1)
    so_far_more {n} inside room r =
        record {
          within = r.within;
          reads =
              sf.reads
              ∙ ap (λ (l : List Item). after (map decoded (take i numbers)) (match l (words (drop next line)))) (front inside)
              ∙ ap (after (map decoded (take i numbers))) (r.reads (drop (i + 1) (items kind)))
              ∙ after-with (map decoded (take i numbers)) (decoded n.value) (match (drop (i + 1) (items kind)) (words (drop n.next line)))
              ∙ ap (λ (l : List (Option ℕ)). after l (match (drop (i + 1) (items kind)) (words (drop n.next line)))) (one_more n.value room);
        }

  pub so_far_all : (numbers : List ℕ) (next i : ℕ) → i ≡ length (items kind) → SoFar kind line whole numbers next i → Behind kind line whole numbers next
  unfolding match
  so_far_all numbers next i e sf =
      record {
        within = sf.within;
        reads =
            sf.reads
            ∙ ap (λ (l : List Item). after values (match l (words (drop next line)))) (ap (λ (k : ℕ). drop k (items kind)) e ∙ drop-length (items kind))
            ∙ ap (λ (l : List (Option ℕ)). matched l (words (drop next line))) (append-nil values ∙ ap (λ (k : ℕ). map decoded (take k numbers)) e);
      }
    where
      values : List (Option ℕ)
      values = map decoded (take i numbers)
