-- The numbers of a line as it is written, read back one by one.
use Rattle.std.specs.Prelude.{ℕ, ◌≤◌, ◌≡◌, Bool, not, List, [], ◌∷◌, ◌++◌, eqb, ltb}
use Rattle.std.proofs.Math.Path.{refl}
use Rattle.std.proofs.Common.{sym, ap, ap₂, ◌∙◌, append-nil, arith, ltb-false, eqb-true, eq-eqb}
use Rattle.std.proofs.Math.Bool.{true, false}
use Rattle.std.proofs.Math.Option.{Option, some, none}
use Rattle.std.proofs.lemmas.Bool.{not-false}
use Rattle.words.specs.Words.{same_bytes}
use Rattle.plan_text.specs.Names.{rate_word, blocker_word, extra_word, period_word, count_word, length_word, jitter_word, route_word, drift_word, timing_word, sync_word}
use Rattle.plan_text.specs.Grammar.{word_of, is_own, absent_of}
use Rattle.plan_text.specs.Kinds.{items}
use Rattle.plan_text.specs.Line.{Word, behind, matched, with, match}
use Rattle.plan_text.specs.Print.{digits, word_when}
use Rattle.plan_text.specs.declared.grammar.Item.{Item}
use Rattle.plan_text.specs.declared.grammar.Kind.{Kind}
use Rattle.text_back.specs.laws.Digits.{max_number, digits_value}

pub same_itself : (w : Word) → same_bytes w w ≡ true
unfolding same_bytes
same_itself [] = refl
same_itself (c ∷ w) = rw (eq-eqb c c refl, same_itself w)

-- one number more in front: in its own place, behind its word, or left out
module _ (x : Item) (xs : List Item) (n : ℕ) (ws : List Word) {ns : List (Option ℕ)} {vs : List Word} (rest : match xs ws ≡ matched ns vs) where
  pub match-own : is_own x ≡ true → n ≤ max_number → match (x ∷ xs) (digits n ∷ ws) ≡ matched (some n ∷ ns) vs
  unfolding match
  match-own own most = rw own (ap₂ with (digits_value n most) rest)

  pub match_word : is_own x ≡ false → n ≤ max_number → match (x ∷ xs) (word_of x ∷ digits n ∷ ws) ≡ matched (some n ∷ ns) vs
  unfolding match
  match_word own most = rw (own, same_itself (word_of x)) (ap₂ with (digits_value n most) rest)

  match_absent : is_own x ≡ false → behind (word_of x) ws ≡ none → absent_of x ≡ some n → match (x ∷ xs) ws ≡ matched (some n ∷ ns) vs
  unfolding match
  match_absent own other left = rw (own, other, left) (ap (with (some n)) rest)

  pub match_may
      : is_own x ≡ false
      → n ≤ max_number
      → behind (word_of x) ws ≡ none
      → (test : Bool)
      → (test ≡ false → absent_of x ≡ some n)
      → match (x ∷ xs) (word_when test (word_of x) n ++ ws) ≡ matched (some n ∷ ns) vs
  match_may own most other true left = match_word own most
  match_may own most other false left = match_absent own other (left refl)

match_none : (ws : List Word) → match [] ws ≡ matched [] ws
unfolding match
match_none ws = refl

-- a number alone
pub match-one : (x : Item) (n : ℕ) → is_own x ≡ true → n ≤ max_number → match (x ∷ []) (digits n ∷ []) ≡ matched (some n ∷ []) []
match-one x n own most = match-own x [] n [] (match_none []) own most

-- what is left out is 0
zero_left : (n : ℕ) → ltb 0 n ≡ false → some 0 ≡ some n
zero_left n e = ap some (omega (arith, ltb-false 0 n e))

-- a port
module _ (n r b e : ℕ) (most : (n ≤ max_number) × (r ≤ max_number) × (b ≤ max_number) × (e ≤ max_number)) where
  abbrev extras : List Word
  extras = word_when (ltb 0 e) extra_word e

  extra-match : match (Item.Extra ∷ []) extras ≡ matched (some e ∷ []) []
  extra-match =
      ap (match (Item.Extra ∷ [])) (sym (append-nil extras))
      ∙ match_may Item.Extra [] e [] (match_none []) refl most.3 refl (ltb 0 e) (zero_left e)

  no_blocker : (test : Bool) → behind blocker_word (word_when test extra_word e) ≡ none
  unfolding same_bytes
  no_blocker true = refl
  no_blocker false = refl

  pub port-match
      : match (items Kind.Port) (digits n ∷ rate_word ∷ digits r ∷ (word_when (ltb 0 b) blocker_word b ++ extras))
      ≡ matched (some n ∷ some r ∷ some b ∷ some e ∷ []) []
  port-match =
      let blocker = match_may Item.Blocker (Item.Extra ∷ []) b extras extra-match refl most.2 (no_blocker (ltb 0 e)) (ltb 0 b) (zero_left b) in
      let rate = match_word Item.Rate (Item.Blocker ∷ Item.Extra ∷ []) r (word_when (ltb 0 b) blocker_word b ++ extras) blocker refl most.1 in
      match-own Item.Port (Item.Rate ∷ Item.Blocker ∷ Item.Extra ∷ []) n (rate_word ∷ digits r ∷ (word_when (ltb 0 b) blocker_word b ++ extras)) rate refl most.0

-- a flow, and its route behind
module _ (n t c l j : ℕ) (ps : List Word) (most : (n ≤ max_number) × (t ≤ max_number) × (c ≤ max_number) × (l ≤ max_number) × (j ≤ max_number)) where
  abbrev jitters : List Word
  jitters = word_when (ltb 0 j) jitter_word j ++ (route_word ∷ ps)

  abbrev lengths : List Word
  lengths = length_word ∷ digits l ∷ jitters

  no_jitter : behind jitter_word (route_word ∷ ps) ≡ none
  unfolding same_bytes
  no_jitter = refl

  no_count : behind count_word lengths ≡ none
  unfolding same_bytes
  no_count = refl

  one_left : not (eqb c 1) ≡ false → some 1 ≡ some c
  one_left e = ap some (sym (eqb-true c 1 (not-false (eqb c 1) e)))

  pub flow_match
      : match (items Kind.Flow) (digits n ∷ period_word ∷ digits t ∷ (word_when (not (eqb c 1)) count_word c ++ lengths))
      ≡ matched (some n ∷ some t ∷ some c ∷ some l ∷ some j ∷ []) (route_word ∷ ps)
  flow_match =
      let jitter = match_may Item.Jitter [] j (route_word ∷ ps) (match_none (route_word ∷ ps)) refl most.4 no_jitter (ltb 0 j) (zero_left j) in
      let bytes = match_word Item.Length (Item.Jitter ∷ []) l jitters jitter refl most.3 in
      let count = match_may Item.Count (Item.Length ∷ Item.Jitter ∷ []) c lengths bytes refl most.2 no_count (not (eqb c 1)) one_left in
      let period = match_word Item.Period (Item.Count ∷ Item.Length ∷ Item.Jitter ∷ []) t (word_when (not (eqb c 1)) count_word c ++ lengths) count refl most.1 in
      match-own Item.Flow (Item.Period ∷ Item.Count ∷ Item.Length ∷ Item.Jitter ∷ []) n (period_word ∷ digits t ∷ (word_when (not (eqb c 1)) count_word c ++ lengths)) period refl most.0

-- the clocks
pub clocks_match
    : (d t s : ℕ)
    → (d ≤ max_number) × (t ≤ max_number) × (s ≤ max_number)
    → match (items Kind.Clocks) (drift_word ∷ digits d ∷ timing_word ∷ digits t ∷ sync_word ∷ digits s ∷ [])
    ≡ matched (some d ∷ some t ∷ some s ∷ []) []
clocks_match d t s most =
    let sync = match_word Item.Sync [] s [] (match_none []) refl most.2 in
    let timing = match_word Item.Timing (Item.Sync ∷ []) t (sync_word ∷ digits s ∷ []) sync refl most.1 in
    match_word Item.Drift (Item.Timing ∷ Item.Sync ∷ []) d (timing_word ∷ digits t ∷ sync_word ∷ digits s ∷ []) timing refl most.0
