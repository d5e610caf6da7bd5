-- Laws of the bytes of words and lines.
use Rattle.std.specs.Prelude.{ℕ, ◌≡◌, refl, List, [], ◌∷◌, ◌++◌}
use Rattle.std.proofs.Common.{sym, ap, ◌∙◌, append_assoc, append-nil}
use Rattle.words.specs.Lines.{line_feed}
use Rattle.words.specs.Words.{space}
use Rattle.plan_text.specs.Line.{Word}
use Rattle.plan_text.specs.Print.{digits, line_bytes, lines_bytes}
use Rattle.text_writing.specs.Bytes.{spaced, number_bytes, pair_bytes}

pub spaced_append : (vs ws : List Word) → spaced (vs ++ ws) ≡ spaced vs ++ spaced ws
unfolding spaced
spaced_append [] ws = refl
spaced_append (v ∷ vs) ws = ap (λ (l : List ℕ). (space ∷ v) ++ l) (spaced_append vs ws) ∙ sym (append_assoc (space ∷ v) (spaced vs) (spaced ws))

pub spaced_number : (n : ℕ) → spaced (digits n ∷ []) ≡ number_bytes n
unfolding spaced
spaced_number n = append-nil (number_bytes n)

pub spaced-pair : (w : Word) (n : ℕ) → spaced (w ∷ digits n ∷ []) ≡ pair_bytes w n
unfolding spaced
spaced-pair w n = ap (λ (l : List ℕ). space ∷ (w ++ l)) (append-nil (number_bytes n))

-- a line by its first word
pub line_words : (w : Word) (ws : List Word) → line_bytes (w ∷ ws) ≡ (w ++ spaced ws) ++ (line_feed ∷ [])
unfolding line_bytes spaced
line_words w [] = ap (λ (l : List ℕ). l ++ (line_feed ∷ [])) (sym (append-nil w))
line_words w (v ∷ ws) =
    ap (λ (l : List ℕ). w ++ (space ∷ l)) (line_words v ws)
    ∙ sym (append_assoc w (spaced (v ∷ ws)) (line_feed ∷ []))

pub lines_append : (ks ls : List (List Word)) → lines_bytes (ks ++ ls) ≡ lines_bytes ks ++ lines_bytes ls
unfolding lines_bytes
lines_append [] ls = refl
lines_append (k ∷ ks) ls = ap (λ (l : List ℕ). line_bytes k ++ l) (lines_append ks ls) ∙ sym (append_assoc (line_bytes k) (lines_bytes ks) (lines_bytes ls))

-- a line of a word and a number
pub line_pair : (w : Word) (n : ℕ) → line_bytes (w ∷ digits n ∷ []) ≡ (w ++ number_bytes n) ++ (line_feed ∷ [])
line_pair w n = line_words w (digits n ∷ []) ∙ ap (λ (l : List ℕ). (w ++ l) ++ (line_feed ∷ [])) (spaced_number n)
