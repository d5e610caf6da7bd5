-- Laws of the lines of a text, read from a position on.
use Rattle.std.specs.Prelude.{ℕ, suc, ◌+◌, ◌-◌, ◌≤◌, ◌<◌, ◌≡◌, refl, Bool, true, false, cond, List, [], ◌∷◌, length, get_or, take, drop}
use Rattle.std.proofs.Common.{sym, ap, ap₂, subst, ◌∙◌, arith, length-drop, drop_of_length-le, drop-cons, drop-drop, le-leb, add-one}
use Rattle.std.proofs.lemmas.List.{get_or-replicate}
use Rattle.words.specs.Lines.{is_feed, lines, said_lines}
use Rattle.words.specs.Sizes.{said_size, line_size, LineAt}
use Rattle.words.specs.laws.Lines.{first_line, said_most}
use Rattle.std.proofs.lemmas.Bool.{lt-leb}
use Rattle.cqf.specs.Limits.{flow_slots}
use Rattle.cqf.specs.Plan.{no_plan}
use Rattle.plan_text.specs.Text.{Draft, Step, stop, more, blank, max_text, rejected, read_lines, read_text, closing}
use Rattle.plan_text.specs.Drafting.{HopsWithin, StepsAs}
use Rattle.plan_text.specs.laws.Steps.{read_none, read_more, read_stop}
use Rattle.plan_text.specs.laws.Hops.{goes_within}
use Rattle.plan_text.specs.declared.grammar.Item.{Item}
use Rattle.plan_text.specs.declared.grammar.Fault.{Fault}

line_most : (s : List ℕ) → line_size s ≤ length s
unfolding line_size
line_most [] = omega arith
line_most (c ∷ s) = go (line_most s) (is_feed c)
  where
    go : line_size s ≤ length s → (b : Bool) → cond b 1 (suc (line_size s)) ≤ suc (length s)
    go ih true = omega arith
    go ih false = omega arith

line_some : (c : ℕ) (s : List ℕ) → 1 ≤ line_size (c ∷ s)
unfolding line_size
line_some c s = go (is_feed c)
  where
    go : (b : Bool) → 1 ≤ cond b 1 (suc (line_size s))
    go true = omega arith
    go false = omega arith

no_lines : said_lines [] ≡ []
unfolding lines
no_lines = refl

-- the line at a position, and those behind it
module _ (text : List ℕ) (at : ℕ) (inside : at < length text) {end next : ℕ} (l : LineAt text at end next) where
  front : drop at text ≡ get_or text at 0 ∷ drop (suc at) text
  front = drop-cons text at 0 inside

  pub line_inside : (at ≤ end) × (end ≤ length text)
  line_inside = (omega (arith, l.says), omega (arith, l.says, said_most (drop at text), length-drop at text))

  pub line_onward : (at < next) × (next ≤ length text)
  line_onward =
      let some : 1 ≤ line_size (drop at text) = subst (λ (s : List ℕ). 1 ≤ line_size s) (sym front) (line_some (get_or text at 0) (drop (suc at) text)) in
      (omega (arith, l.goes, some), omega (arith, l.goes, line_most (drop at text), length-drop at text))

  pub next_line : said_lines (drop at text) ≡ take (end - at) (drop at text) ∷ said_lines (drop next text)
  next_line =
      let whole : said_lines (drop at text) ≡ take (said_size (drop at text)) (drop at text) ∷ said_lines (drop (line_size (drop at text)) (drop at text)) =
      subst (λ (s : List ℕ). said_lines s ≡ take (said_size s) s ∷ said_lines (drop (line_size s) s)) (sym front) (first_line (get_or text at 0) (drop (suc at) text)) in
      let size : said_size (drop at text) ≡ end - at = omega (arith, l.says) in
      let behind : drop (line_size (drop at text)) (drop at text) ≡ drop next text = drop-drop (line_size (drop at text)) at text ∙ ap (λ (n : ℕ). drop n text) (sym l.goes) in
      whole ∙ ap₂ ◌∷◌ (ap (λ (n : ℕ). take n (drop at text)) size) (ap said_lines behind)

-- behind the last line
pub read_end : (d : Draft) (n : ℕ) (text : List ℕ) (at : ℕ) → length text ≤ at → read_lines d n (said_lines (drop at text)) ≡ closing d n
read_end d n text at past = ap (λ (s : List ℕ). read_lines d n (said_lines s)) (drop_of_length-le text {i = at} past) ∙ ap (read_lines d n) no_lines ∙ read_none d n

-- a text of any length
pub text_long : (text : List ℕ) → max_text < length text → read_text text ≡ rejected 1 Fault.Size Item.First 0
unfolding read_text
text_long text long = rw (lt-leb (length text) max_text long)

pub text_short : (text : List ℕ) → length text ≤ max_text → read_text text ≡ read_lines blank 1 (said_lines text)
unfolding read_text
text_short text short = rw (le-leb (length text) max_text short)

-- the lines before this position are read, into this draft
pub record Reached (text : List ℕ) (d : Draft) (number at : ℕ) : Type 0 where
  pub inside : at ≤ length text
  pub few : number ≤ at + 1
  pub hops : HopsWithin d.tables.hops
  pub rest : read_lines blank 1 (said_lines text) ≡ read_lines d number (said_lines (drop at text))

none_within : HopsWithin blank.tables.hops
unfolding blank no_plan
none_within f less = omega (arith, get_or-replicate {A = ℕ} flow_slots f 0 0 less)

pub reached_first : (text : List ℕ) → Reached text blank 1 0
reached_first text = record { inside = omega arith; few = omega arith; hops = none_within; rest = refl }

-- one line more
module _ (text : List ℕ) (d : Draft) (number at : ℕ) (r : Reached text d number at) (inside : at < length text) {end next : ℕ} (l : LineAt text at end next) where
  pub reached_more : {e : Draft} {s : Step} → StepsAs number d (take (end - at) (drop at text)) s → s ≡ more e → Reached text e (number + 1) next
  reached_more {e} {s} steps is =
      record {
        inside = (line_onward text at inside l).1;
        few = omega (arith, r.few, (line_onward text at inside l).0);
        hops = goes_within number d e (steps.keeps e is) r.hops;
        rest =
            r.rest
            ∙ ap (read_lines d number) (next_line text at inside l)
            ∙ read_more d number (take (end - at) (drop at text)) (said_lines (drop next text)) (sym is ∙ steps.steps)
            ∙ ap (λ (n : ℕ). read_lines e n (said_lines (drop next text))) (sym (add-one number));
      }

  pub reached_stop : {f : Fault} {x : Item} {v : ℕ} {s : Step} → StepsAs number d (take (end - at) (drop at text)) s → s ≡ stop f x v → read_lines blank 1 (said_lines text) ≡ rejected number f x v
  reached_stop steps is =
      r.rest
      ∙ ap (read_lines d number) (next_line text at inside l)
      ∙ read_stop d number (take (end - at) (drop at text)) (said_lines (drop next text)) (sym is ∙ steps.steps)
