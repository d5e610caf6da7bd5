-- Words with spaces between and a feed behind, read back: the words of a line, and the lines of a text.
use Rattle.std.specs.Prelude.{ℕ, ◌≡◌, refl, false, List, [], ◌∷◌, ◌++◌}
use Rattle.std.proofs.Common.{ap, ◌∙◌, inl}
use Rattle.words.specs.Run.{begins, on_first}
use Rattle.words.specs.Lines.{line_feed, lines, uncommented}
use Rattle.words.specs.Words.{space, is_blank, words}
use Rattle.text_back.specs.laws.Bytes.{Solid, AreWords, Calm, calm_append, word_solid, solid_calm, solid-blank, no_feed, no_return, no_hash}

-- a line without its end
abbrev pub joined : List (List ℕ) → List ℕ
joined [] = []
joined (w ∷ []) = w
joined (w ∷ v ∷ ws) = w ++ (space ∷ joined (v ∷ ws))

-- one byte more in front of a word
on_word : (c : ℕ) (s : List ℕ) → is_blank c ≡ false → begins is_blank s ≡ false → words (c ∷ s) ≡ on_first c (words s)
unfolding words
on_word c s e f = rw (e, f)

-- its first word, and the others
word_then : (c : ℕ) (w s : List ℕ) → Solid (c ∷ w) → words ((c ∷ w) ++ (space ∷ s)) ≡ (c ∷ w) ∷ words s
unfolding words
word_then c [] s a = rw (solid-blank c a.0)
word_then c (d ∷ w) s a =
    on_word c ((d ∷ w) ++ (space ∷ s)) (solid-blank c a.0) (solid-blank d a.1.0) ∙ ap (on_first c) (word_then d w s a.1)

word_last : (c : ℕ) (w : List ℕ) → Solid (c ∷ w) → words (c ∷ w) ≡ (c ∷ w) ∷ []
unfolding words
word_last c [] a = rw (solid-blank c a.0)
word_last c (d ∷ w) a = on_word c (d ∷ w) (solid-blank c a.0) (solid-blank d a.1.0) ∙ ap (on_first c) (word_last d w a.1)

pub joined_words : (ws : List (List ℕ)) → AreWords ws → words (joined ws) ≡ ws
unfolding words
joined_words [] a = refl
joined_words ([] ∷ ws) a = absurd a.0
joined_words ((c ∷ w) ∷ []) a = word_last c w a.0
joined_words ((c ∷ w) ∷ v ∷ ws) a =
    word_then c w (joined (v ∷ ws)) a.0 ∙ ap (λ (l : List (List ℕ)). (c ∷ w) ∷ l) (joined_words (v ∷ ws) a.1)

pub joined_calm : (ws : List (List ℕ)) → AreWords ws → Calm (joined ws)
joined_calm [] a = tt
joined_calm (w ∷ []) a = solid_calm w (word_solid w a.0)
joined_calm (w ∷ v ∷ ws) a =
    calm_append w (space ∷ joined (v ∷ ws)) (solid_calm w (word_solid w a.0)) (inl refl, joined_calm (v ∷ ws) a.1)

-- a line with its end, and the text behind it
pub line_then : (l s : List ℕ) → Calm l → lines (l ++ (line_feed ∷ s)) ≡ l ∷ lines s
unfolding lines
line_then [] s a = refl
line_then (c ∷ l) s a = rw (no_feed c a.0, no_return c a.0) (ap (on_first c) (line_then l s a.1))

pub no_comment : (l : List ℕ) → Calm l → uncommented l ≡ l
unfolding uncommented
no_comment [] a = refl
no_comment (c ∷ l) a = rw (no_hash c a.0) (ap (λ (s : List ℕ). c ∷ s) (no_comment l a.1))
