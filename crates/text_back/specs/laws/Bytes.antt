-- Words as a text is written in: of digits and letters, none empty.
use Rattle.std.specs.Prelude.{ℕ, ◌≤◌, ◌<◌, ◌≡◌, ◌⊎◌, Bool, true, false, ◌&&◌, List, [], ◌∷◌, ◌++◌, eqb, leb}
use Rattle.std.proofs.Common.{sym, ◌∙◌, inl, inr, arith, leb-true, ne_eqb}
use Rattle.std.proofs.Math.Bool.{and-eq-true_iff}
use Rattle.words.specs.Lines.{line_feed, carriage_return, hash}
use Rattle.words.specs.Words.{space, tab, is_blank}
use Rattle.words.specs.Decimal.{zero_digit}

-- bytes from the digit 0 on: digits and letters are among them; blanks, ends of lines and hashes are not
abbrev pub Solid : List ℕ → Type 0
Solid [] = Unit {0}
Solid (c ∷ s) = (zero_digit ≤ c) × Solid s

-- a word: some of these
abbrev pub IsWord : List ℕ → Type 0
IsWord [] = ⊥
IsWord (c ∷ s) = Solid (c ∷ s)

abbrev pub AreWords : List (List ℕ) → Type 0
AreWords [] = Unit {0}
AreWords (w ∷ ws) = IsWord w × AreWords ws

-- the bytes of a line without its end: these and spaces
abbrev pub InLine : ℕ → Type 0
InLine c = (c ≡ space) ⊎ (zero_digit ≤ c)

abbrev pub Calm : List ℕ → Type 0
Calm [] = Unit {0}
Calm (c ∷ s) = InLine c × Calm s

-- the same by a test, for words that are given
abbrev pub solid : List ℕ → Bool
solid [] = true
solid (c ∷ s) = leb zero_digit c && solid s

solid_by : (s : List ℕ) → solid s ≡ true → Solid s
solid_by [] e = tt
solid_by (c ∷ s) e =
    let t = (and-eq-true_iff (leb zero_digit c) (solid s)).0 e in
    (leb-true zero_digit c t.0, solid_by s t.1)

pub word_by : (c : ℕ) (s : List ℕ) → solid (c ∷ s) ≡ true → IsWord (c ∷ s)
word_by c s e = solid_by (c ∷ s) e

pub solid_append : (s t : List ℕ) → Solid s → Solid t → Solid (s ++ t)
solid_append [] t a b = b
solid_append (c ∷ s) t a b = (a.0, solid_append s t a.1 b)

pub calm_append : (s t : List ℕ) → Calm s → Calm t → Calm (s ++ t)
calm_append [] t a b = b
calm_append (c ∷ s) t a b = (a.0, calm_append s t a.1 b)

pub words_append : (vs ws : List (List ℕ)) → AreWords vs → AreWords ws → AreWords (vs ++ ws)
words_append [] ws a b = b
words_append (v ∷ vs) ws a b = (a.0, words_append vs ws a.1 b)

-- a word's bytes
pub word_solid : (w : List ℕ) → IsWord w → Solid w
word_solid [] a = absurd a
word_solid (c ∷ s) a = a

-- a word with a digit behind it
pub word_snoc : (s : List ℕ) (c : ℕ) → Solid s → zero_digit ≤ c → IsWord (s ++ (c ∷ []))
word_snoc [] c a b = (b, tt)
word_snoc (d ∷ s) c a b = (a.0, solid_append s (c ∷ []) a.1 (b, tt))

pub solid_calm : (s : List ℕ) → Solid s → Calm s
solid_calm [] a = tt
solid_calm (c ∷ s) a = (inr a.0, solid_calm s a.1)

pub solid-blank : (c : ℕ) → zero_digit ≤ c → is_blank c ≡ false
solid-blank c low = rw (ne_eqb c space (λ e. omega arith), ne_eqb c tab (λ e. omega arith))

-- a byte of a line is none of those that end it or a part of it
module _ (c : ℕ) where
  other : InLine c → (n : ℕ) → n < zero_digit → (n ≡ space → ⊥) → c ≡ n → ⊥
  other (inl is) n less apart same = apart (sym same ∙ is)
  other (inr low) n less apart same = omega arith

  pub no_feed : InLine c → eqb c line_feed ≡ false
  no_feed a = ne_eqb c line_feed (other a line_feed (omega arith) (λ e. omega arith))

  pub no_return : InLine c → eqb c carriage_return ≡ false
  no_return a = ne_eqb c carriage_return (other a carriage_return (omega arith) (λ e. omega arith))

  pub no_hash : InLine c → eqb c hash ≡ false
  no_hash a = ne_eqb c hash (other a hash (omega arith) (λ e. omega arith))
