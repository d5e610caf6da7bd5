-- A line that says something passed its tests, and so a line that is taken.
use Rattle.std.specs.Prelude.{ℕ, suc, ◌≡◌, refl, Bool, cond, ◌&&◌, ◌||◌, List, [], ◌∷◌, map, leb, ltb, length, get_or}
use Rattle.std.proofs.Common.{ap, ◌∙◌, true≢false, ltb-false}
use Rattle.std.proofs.Math.Bool.{true, false}
use Rattle.std.proofs.Math.Option.{Option, some, none}
use Rattle.std.proofs.lemmas.List.{length-map}
use Rattle.cqf.specs.Form.{Form, most_hops_in}
use Rattle.words.specs.Words.{words}
use Rattle.words.specs.Decimal.{decimal_value}
use Rattle.plan_text.specs.Grammar.{absent_of}
use Rattle.plan_text.specs.Kinds.{items, is_routed, is_other, kind_in}
use Rattle.plan_text.specs.Line.{Word, Line, nothing, says, refused, coded, given, number_in, rest, Matched, wrong, matched, with, match_by, match, port_words, first_failing, item_at, number_test, range_test, port_test, form_by, ranges_in, any_none, lacks_ports, numbers_in, words_by, words_in, kindly, line_of}
use Rattle.plan_text.specs.Reading.{Fits}
use Rattle.plan_text.specs.Text.{Draft, more, step_by, step_at}
use Rattle.plan_text.specs.Drafting.{Goes, idle, takes}
use Rattle.plan_text.specs.laws.Steps.{more_inj, stop_more, taken_more}
use Rattle.plan_text.specs.declared.grammar.Item.{Item}
use Rattle.plan_text.specs.declared.grammar.Kind.{Kind}
use Rattle.plan_text.specs.declared.grammar.Fault.{Fault}

-- as many numbers as were sought
abbrev Many : ℕ → Matched → Type 0
Many n (wrong x) = Unit {0}
Many n (matched ns ws) = length ns ≡ n

with_many : (n : ℕ) (o : Option ℕ) (m : Matched) → Many n m → Many (suc n) (with o m)
with_many n o (wrong x) h = tt
with_many n o (matched ns ws) h = ap suc h

match_many : (xs : List Item) (ws : List Word) → Many (length xs) (match xs ws)
unfolding match
match_many [] ws = refl
match_many (x ∷ xs) ws = go (match_many xs) (given x ws) (absent_of x)
  where
    go
        : ((vs : List Word) → Many (length xs) (match xs vs))
        → (g : Option (List Word)) (absent : Option ℕ)
        → Many (suc (length xs)) (match_by g absent x (λ vs. match xs vs) ws)
    go ih (some vs) absent = with_many (length xs) (number_in vs) (match xs (rest vs)) (ih (rest vs))
    go ih none (some n) = with_many (length xs) (some n) (match xs ws) (ih ws)
    go ih none none = tt

neither : (a b : Bool) → a || b ≡ false → a ≡ false
neither true b e = absurd (true≢false e)
neither false b e = refl

-- what a line says passed its tests
abbrev FitsIn : Form → Line → Type 0
FitsIn form nothing = Unit {0}
FitsIn form (says kind ns r) = Fits form kind ns r
FitsIn form (refused fault item value) = Unit {0}

module _ (form : Form) (kind : Kind) where
  ranges_fit : (ns r : List ℕ) → length ns ≡ length (items kind) → (is_routed kind && leb (length r) 0) ≡ false → FitsIn form (ranges_in form kind ns r)
  ranges_fit ns r all routed =
      go (ltb (first_failing (range_test kind) ns) (length ns)) (ltb (most_hops_in form) (length r)) (ltb (first_failing port_test r) (length r)) refl refl refl
    where
      go
          : (a b c : Bool)
          → ltb (first_failing (range_test kind) ns) (length ns) ≡ a
          → ltb (most_hops_in form) (length r) ≡ b
          → ltb (first_failing port_test r) (length r) ≡ c
          → FitsIn form
          (cond a (refused Fault.Range (item_at kind (first_failing (range_test kind) ns)) (get_or ns (first_failing (range_test kind) ns) 0))
          (cond b (refused Fault.Range Item.Hops (length r))
          (cond c (refused Fault.Range Item.Route (get_or r (first_failing port_test r) 0)) (says kind ns r))))
      go true b c e f g = tt
      go false true c e f g = tt
      go false false true e f g = tt
      go false false false e f g =
          record {
            all = all;
            ranges = ltb-false (first_failing (range_test kind) ns) (length ns) e;
            hops = ltb-false (most_hops_in form) (length r) f;
            ports = ltb-false (first_failing port_test r) (length r) g;
            some = routed;
          }

  numbers_fit : (ns ps : List (Option ℕ)) → length ns ≡ length (items kind) → FitsIn form (numbers_in form kind ns ps)
  numbers_fit ns ps all = go (ltb (first_failing number_test ns) (length ns)) (lacks_ports kind ps) refl
    where
      go
          : (a b : Bool)
          → lacks_ports kind ps ≡ b
          → FitsIn form
          (cond a (refused Fault.Number (item_at kind (first_failing number_test ns)) 0)
          (cond b (refused Fault.Number Item.Route 0) (ranges_in form kind (map coded ns) (map coded ps))))
      go true b e = tt
      go false true e = tt
      go false false e =
          ranges_fit (map coded ns) (map coded ps) (length-map ns coded ∙ all)
          (ap (λ (n : ℕ). is_routed kind && leb n 0) (length-map ps coded) ∙ neither (is_routed kind && leb (length ps) 0) (any_none ps) e)

  words_fit : (m : Matched) → Many (length (items kind)) m → FitsIn form (words_in form kind m)
  words_fit (wrong x) many = tt
  words_fit (matched ns ws) many = go (port_words kind ws)
    where
      go : (o : Option (List Word)) → FitsIn form (words_by form kind ns o)
      go (some ps) = numbers_fit ns (map decimal_value ps) many
      go none = tt

  kind_fits : (ws : List Word) → FitsIn form (kindly form kind ws)
  unfolding kindly
  kind_fits ws = go (is_other kind)
    where
      go : (b : Bool) → FitsIn form (cond b (refused Fault.Word Item.First 0) (words_in form kind (match (items kind) ws)))
      go true = tt
      go false = words_fit (match (items kind) ws) (match_many (items kind) ws)

line_fits : (form : Form) (begun : Bool) (ws : List Word) → FitsIn form (line_of form begun ws)
unfolding line_of
line_fits form begun [] = tt
line_fits form begun (w ∷ ws) = kind_fits form (kind_in begun w) ws

-- a line that goes on
pub step_goes : (n : ℕ) (d : Draft) (l : List ℕ) (e : Draft) → step_at n d l ≡ more e → Goes n d e
unfolding step_at
step_goes n d l e = go (line_of (form_by d.newer) d.begun (words l)) (line_fits (form_by d.newer) d.begun (words l))
  where
    go : (x : Line) → FitsIn (form_by d.newer) x → step_by n d x ≡ more e → Goes n d e
    go nothing fits is = idle (more_inj d e is)
    go (refused fault item value) fits is = absurd (stop_more fault item value e is)
    go (says kind ns r) fits is = let t = taken_more n d l kind ns r e is in takes kind ns r fits t.0 t.1
