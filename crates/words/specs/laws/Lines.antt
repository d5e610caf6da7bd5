-- Laws of the lines of a text.
use Rattle.std.specs.Prelude.{ℕ, zero, suc, ◌+◌, ◌-◌, ◌≤◌, ◌<◌, ◌≡◌, refl, Bool, true, false, not, cond, ◌&&◌, ◌||◌, List, [], ◌∷◌, map, eqb, length, get_or, take, drop}
use Rattle.std.proofs.Common.{sym, ap, ◌∙◌, true≢false, arith, eq-eqb, eqb-true, drop-drop, get_or-drop}
use Rattle.std.proofs.Math.Bool.{and-eq-true_iff}
use Rattle.std.proofs.lemmas.Bool.{false≢true, not-true}
use Rattle.words.specs.Run.{run, begins, on_first}
use Rattle.words.specs.Lines.{line_feed, carriage_return, hash, is_feed, lines, uncommented, said_lines, is_in_line, is_plain}
use Rattle.words.specs.Sizes.{said_size, line_size}
use Rattle.words.specs.laws.Run.{run_yes, run_no}

-- one byte at the front: the end of a line, a carriage return before it, and any other
abbrev returns : ℕ → List ℕ → Bool
returns c s = eqb c carriage_return && begins is_feed s

abbrev stops : ℕ → List ℕ → Bool
stops c s = is_feed c || eqb c hash || returns c s

module _ (c : ℕ) (s : List ℕ) where
  lines_feed : is_feed c ≡ true → lines (c ∷ s) ≡ [] ∷ lines s
  unfolding lines
  lines_feed e = rw e

  lines_return : is_feed c ≡ false → returns c s ≡ true → lines (c ∷ s) ≡ lines s
  unfolding lines
  lines_return e f = rw (e, f)

  lines_on : is_feed c ≡ false → returns c s ≡ false → lines (c ∷ s) ≡ on_first c (lines s)
  unfolding lines
  lines_on e f = rw (e, f)

  said_stop : stops c s ≡ true → said_size (c ∷ s) ≡ 0
  unfolding said_size
  said_stop e = rw e

  said_on : stops c s ≡ false → said_size (c ∷ s) ≡ suc (said_size s)
  unfolding said_size
  said_on e = rw e

  line_feed_lem : is_feed c ≡ true → line_size (c ∷ s) ≡ 1
  unfolding line_size
  line_feed_lem e = rw e

  line_on : is_feed c ≡ false → line_size (c ∷ s) ≡ suc (line_size s)
  unfolding line_size
  line_on e = rw e

-- a byte in front of the first line
on_said : (c : ℕ) (ls : List (List ℕ)) {t : List ℕ} {ts : List (List ℕ)} → eqb c hash ≡ false → map uncommented ls ≡ t ∷ ts → map uncommented (on_first c ls) ≡ (c ∷ t) ∷ ts
unfolding uncommented
on_said c [] e h = let z : ◌≡◌ {A = ℕ} 0 1 = cc in absurd (omega arith)
on_said c (l ∷ ls) e h = rw e (cc)

on_comment : (c : ℕ) (ls : List (List ℕ)) {t : List ℕ} {ts : List (List ℕ)} → eqb c hash ≡ true → map uncommented ls ≡ t ∷ ts → map uncommented (on_first c ls) ≡ [] ∷ ts
unfolding uncommented
on_comment c [] e h = let z : ◌≡◌ {A = ℕ} 0 1 = cc in absurd (omega arith)
on_comment c (l ∷ ls) e h = rw e (cc)

none_said : uncommented [] ≡ []
unfolding uncommented
none_said = refl

-- a text that has a byte has a line
abbrev First : List ℕ → Type 0
First s = said_lines s ≡ take (said_size s) s ∷ said_lines (drop (line_size s) s)

pub first_line : (c : ℕ) (s : List ℕ) → First (c ∷ s)
unfolding lines uncommented said_size line_size
first_line c [] = go (is_feed c) (eqb c hash) (eqb c carriage_return) refl refl refl
  where
    go : (f h r : Bool) → is_feed c ≡ f → eqb c hash ≡ h → eqb c carriage_return ≡ r → First (c ∷ [])
    go true h r f≡ h≡ r≡ = rw f≡
    go false true true f≡ h≡ r≡ = rw (f≡, h≡, r≡) (rw h≡)
    go false true false f≡ h≡ r≡ = rw (f≡, h≡, r≡) (rw h≡)
    go false false true f≡ h≡ r≡ = rw (f≡, h≡, r≡) (rw h≡)
    go false false false f≡ h≡ r≡ = rw (f≡, h≡, r≡) (rw h≡)
first_line c (d ∷ s) = go (is_feed c) (eqb c hash) (returns c (d ∷ s)) refl refl refl (first_line d s)
  where
    after : is_feed c ≡ false → stops c (d ∷ s) ≡ true → returns c (d ∷ s) ≡ true → First (d ∷ s) → First (c ∷ (d ∷ s))
    after f≡ st r≡ ih =
        let feeds : is_feed d ≡ true = ((and-eq-true_iff (eqb c carriage_return) (is_feed d)).0 r≡).1 in
        let none : said_size (d ∷ s) ≡ 0 = said_stop d s (rw feeds) in
        rw (lines_return c (d ∷ s) f≡ r≡, said_stop c (d ∷ s) st, line_on c (d ∷ s) f≡) (ih ∙ rw none)

    go : (f h r : Bool) → is_feed c ≡ f → eqb c hash ≡ h → returns c (d ∷ s) ≡ r → First (d ∷ s) → First (c ∷ (d ∷ s))
    go true h r f≡ h≡ r≡ ih =
        rw (lines_feed c (d ∷ s) f≡, said_stop c (d ∷ s) (rw f≡), line_feed_lem c (d ∷ s) f≡) (rw none_said)
    go false true true f≡ h≡ r≡ ih = after f≡ (rw (f≡, h≡)) r≡ ih
    go false true false f≡ h≡ r≡ ih = rw (lines_on c (d ∷ s) f≡ r≡, said_stop c (d ∷ s) (rw (f≡, h≡)), line_on c (d ∷ s) f≡) (on_comment c (lines (d ∷ s)) h≡ ih)
    go false false true f≡ h≡ r≡ ih = after f≡ (rw (f≡, h≡, r≡)) r≡ ih
    go false false false f≡ h≡ r≡ ih = rw (lines_on c (d ∷ s) f≡ r≡, said_on c (d ∷ s) (rw (f≡, h≡, r≡)), line_on c (d ∷ s) f≡) (on_said c (lines (d ∷ s)) h≡ ih)

-- the whole line, from where what it says ends
pub said_most : (s : List ℕ) → said_size s ≤ length s
unfolding said_size
said_most [] = omega arith
said_most (c ∷ s) = go (said_most s) (is_feed c || eqb c hash || (eqb c carriage_return && begins is_feed s))
  where
    go : said_size s ≤ length s → (b : Bool) → cond b 0 (suc (said_size s)) ≤ suc (length s)
    go ih true = omega arith
    go ih false = omega arith

-- what a line says ends before the first byte that is not plain, or before a carriage return in front of it
module _ (c : ℕ) (s : List ℕ) (plain : is_plain c ≡ true) where
  not_feed : is_feed c ≡ false
  not_feed = not-true (is_feed c) ((and-eq-true_iff (is_in_line c) (not (eqb c hash))).0 plain).0

  not_hash : eqb c hash ≡ false
  not_hash = not-true (eqb c hash) ((and-eq-true_iff (is_in_line c) (not (eqb c hash))).0 plain).1

  stops-returns : {b : Bool} → returns c s ≡ b → stops c s ≡ b
  stops-returns e = rw (not_feed, not_hash, e)

not_plain_stops : (c : ℕ) (s : List ℕ) → is_plain c ≡ false → stops c s ≡ true
not_plain_stops c s e = go (is_feed c) (eqb c hash) refl refl
  where
    go : (f h : Bool) → is_feed c ≡ f → eqb c hash ≡ h → stops c s ≡ true
    go true h f≡ h≡ = rw f≡
    go false true f≡ h≡ = rw (f≡, h≡)
    go false false f≡ h≡ = let z : true ≡ false = sym (rw (f≡, h≡)) ∙ e in absurd (true≢false z)

feed_begins : (s : List ℕ) → get_or s 0 0 ≡ line_feed → begins is_feed s ≡ true
feed_begins [] e = absurd (omega arith)
feed_begins (d ∷ s) e = eq-eqb d line_feed e

begins_feed : (s : List ℕ) → begins is_feed s ≡ true → get_or s 0 0 ≡ line_feed
begins_feed [] e = absurd (false≢true e)
begins_feed (d ∷ s) e = eqb-true d line_feed e

feed_stops : (s : List ℕ) → begins is_feed s ≡ true → run is_plain s ≡ 0
feed_stops [] e = absurd (false≢true e)
feed_stops (d ∷ s) e = run_no is_plain d s (rw e)

abbrev Returns : List ℕ → ℕ → Type 0
Returns s k = (run is_plain s ≡ suc k) × (get_or s (suc k) 0 ≡ line_feed) × (get_or s k 0 ≡ carriage_return)

no_run : run is_plain [] ≡ 0
unfolding run
no_run = refl

none_size : said_size [] ≡ 0
unfolding said_size
none_size = refl

pub said_before : (s : List ℕ) (k : ℕ) → Returns s k → said_size s ≡ k
said_before [] k h = absurd (omega (arith, no_run, h.0))
said_before (c ∷ s) zero h = go (is_plain c) refl
  where
    go : (p : Bool) → is_plain c ≡ p → said_size (c ∷ s) ≡ zero
    go false p≡ = said_stop c s (not_plain_stops c s p≡)
    go true p≡ = said_stop c s (stops-returns c s p≡ (rw (eq-eqb c carriage_return h.2, feed_begins s h.1)))
said_before (c ∷ s) (suc k) h = go (said_before s k) (is_plain c) (returns c s) refl refl
  where
    go : (Returns s k → said_size s ≡ k) → (p r : Bool) → is_plain c ≡ p → returns c s ≡ r → said_size (c ∷ s) ≡ suc k
    go ih false r p≡ r≡ = absurd (omega (arith, run_no is_plain c s p≡, h.0))
    go ih true true p≡ r≡ =
        absurd (omega (arith, run_yes is_plain c s p≡, feed_stops s ((and-eq-true_iff (eqb c carriage_return) (begins is_feed s)).0 r≡).1, h.0))
    go ih true false p≡ r≡ =
        said_on c s (stops-returns c s p≡ r≡) ∙ ap suc (ih (omega (arith, run_yes is_plain c s p≡, h.0), h.1, h.2))

pub said_plain : (s : List ℕ) → ((k : ℕ) → Returns s k → ⊥) → said_size s ≡ run is_plain s
said_plain [] h = none_size ∙ sym no_run
said_plain (c ∷ s) h = go (said_plain s) (is_plain c) (returns c s) refl refl
  where
    go
        : (((k : ℕ) → Returns s k → ⊥) → said_size s ≡ run is_plain s)
        → (p r : Bool)
        → is_plain c ≡ p
        → returns c s ≡ r
        → said_size (c ∷ s) ≡ run is_plain (c ∷ s)
    go ih false r p≡ r≡ = said_stop c s (not_plain_stops c s p≡) ∙ sym (run_no is_plain c s p≡)
    go ih true true p≡ r≡ =
        let both = (and-eq-true_iff (eqb c carriage_return) (begins is_feed s)).0 r≡ in
        absurd (h 0 (omega (arith, run_yes is_plain c s p≡, feed_stops s both.1), begins_feed s both.1, eqb-true c carriage_return both.0))
    go ih true false p≡ r≡ =
        said_on c s (stops-returns c s p≡ r≡)
        ∙ ap suc (ih (λ k t. h (suc k) (omega (arith, run_yes is_plain c s p≡, t.0), t.1, t.2)))
        ∙ sym (run_yes is_plain c s p≡)

-- the whole line: to its end from where what it says ends, and past the line feed where there is one
pub line_more : (s : List ℕ) → run is_in_line s ≡ said_size s + run is_in_line (drop (said_size s) s)
line_more [] = rw none_size (omega arith)
line_more (c ∷ s) = go (line_more s) (stops c s) (is_feed c) refl refl
  where
    go
        : run is_in_line s ≡ said_size s + run is_in_line (drop (said_size s) s)
        → (t f : Bool)
        → stops c s ≡ t
        → is_feed c ≡ f
        → run is_in_line (c ∷ s) ≡ said_size (c ∷ s) + run is_in_line (drop (said_size (c ∷ s)) (c ∷ s))
    go ih true f t≡ f≡ = rw (said_stop c s t≡) (omega arith)
    go ih false true t≡ f≡ = let z : true ≡ false = sym (rw f≡) ∙ t≡ in absurd (true≢false z)
    go ih false false t≡ f≡ = rw (said_on c s t≡, run_yes is_in_line c s (ap not f≡)) (omega arith)

pub line_ended : (s : List ℕ) → run is_in_line s < length s → line_size s ≡ run is_in_line s + 1
unfolding run line_size
line_ended [] h = absurd (omega arith)
line_ended (c ∷ s) h = go (line_ended s) (is_feed c) refl h
  where
    go
        : (run is_in_line s < length s → line_size s ≡ run is_in_line s + 1)
        → (f : Bool)
        → is_feed c ≡ f
        → cond (not f) (suc (run is_in_line s)) 0 < suc (length s)
        → line_size (c ∷ s) ≡ run is_in_line (c ∷ s) + 1
    go ih true f≡ h = rw f≡
    go ih false f≡ h = rw f≡ (omega (arith, ih (omega arith)))

pub line_last : (s : List ℕ) → length s ≤ run is_in_line s → line_size s ≡ run is_in_line s
unfolding run line_size
line_last [] h = refl
line_last (c ∷ s) h = go (line_last s) (is_feed c) refl h
  where
    go
        : (length s ≤ run is_in_line s → line_size s ≡ run is_in_line s)
        → (f : Bool)
        → is_feed c ≡ f
        → suc (length s) ≤ cond (not f) (suc (run is_in_line s)) 0
        → line_size (c ∷ s) ≡ run is_in_line (c ∷ s)
    go ih true f≡ h = absurd (omega arith)
    go ih false f≡ h = rw f≡ (omega (arith, ih (omega arith)))

-- from a position on: to the end of the line from where what it says ends
pub to_end
    : (text : List ℕ) (at : ℕ) {end stop : ℕ}
    → end ≡ at + said_size (drop at text)
    → stop ≡ end + run is_in_line (drop end text)
    → stop ≡ at + run is_in_line (drop at text)
to_end text at {end} {stop} says e =
    let there : drop (said_size (drop at text)) (drop at text) ≡ drop end text = drop-drop (said_size (drop at text)) at text ∙ ap (λ (n : ℕ). drop n text) (sym says) in
    omega (arith, line_more (drop at text), ap (run is_in_line) there)

-- from a position on: where the plain bytes of a line end
module _ (text : List ℕ) (at : ℕ) {stop : ℕ} (plain : stop ≡ at + run is_plain (drop at text)) where
  pub said_here : (at < stop → get_or text stop 0 ≡ line_feed → get_or text (stop - 1) 0 ≡ carriage_return → ⊥) → stop ≡ at + said_size (drop at text)
  said_here none =
      omega (
        arith,
        said_plain (drop at text) (λ k t.
            let here : at + suc k ≡ stop = omega (arith, t.0) in
            let back : at + k ≡ stop - 1 = omega (arith, t.0) in
            none (omega arith) (ap (λ (n : ℕ). get_or text n 0) (sym here) ∙ sym (get_or-drop at text (suc k) 0) ∙ t.1)
            (ap (λ (n : ℕ). get_or text n 0) (sym back) ∙ sym (get_or-drop at text k 0) ∙ t.2)),
      )

  pub said_back : at < stop → get_or text stop 0 ≡ line_feed → get_or text (stop - 1) 0 ≡ carriage_return → stop - 1 ≡ at + said_size (drop at text)
  said_back more feed return =
      let k : ℕ = stop - 1 - at in
      let here : at + suc k ≡ stop = omega arith in
      let back : at + k ≡ stop - 1 = omega arith in
      let is : said_size (drop at text) ≡ k =
      said_before (drop at text) k
      (omega arith, get_or-drop at text (suc k) 0 ∙ ap (λ (n : ℕ). get_or text n 0) here ∙ feed, get_or-drop at text k 0 ∙ ap (λ (n : ℕ). get_or text n 0) back ∙ return) in
      omega arith
