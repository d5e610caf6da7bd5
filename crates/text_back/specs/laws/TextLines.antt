-- The lines of a text as it is written, read back.
use Rattle.std.specs.Prelude.{ℕ, zero, suc, ◌<◌, ◌≡◌, refl, List, [], ◌∷◌, ◌++◌, map}
use Rattle.std.proofs.Common.{sym, ap, ap₂, ◌∙◌, append_assoc, arith}
use Rattle.words.specs.Lines.{line_feed, lines, uncommented, said_lines}
use Rattle.words.specs.Words.{space}
use Rattle.plan_text.specs.Line.{Word}
use Rattle.plan_text.specs.Print.{line_bytes, lines_bytes, lines_to}
use Rattle.text_back.specs.laws.Bytes.{AreWords}
use Rattle.text_back.specs.laws.Lines.{joined, joined_calm, line_then, no_comment}

-- lines of words
abbrev pub AreLines : List (List Word) → Type 0
AreLines [] = Unit {0}
AreLines (l ∷ ls) = AreWords l × AreLines ls

pub lines_append : (ls ms : List (List Word)) → AreLines ls → AreLines ms → AreLines (ls ++ ms)
lines_append [] ms a b = b
lines_append (l ∷ ls) ms a b = (a.0, lines_append ls ms a.1 b)

pub lines_to_lem : (n : ℕ) (at : ℕ → List (List Word)) → ((i : ℕ) → i < n → AreLines (at i)) → AreLines (lines_to n at)
unfolding lines_to
lines_to_lem zero at each = tt
lines_to_lem (suc n) at each = lines_append (lines_to n at) (at n) (lines_to_lem n at (λ i l. each i (omega arith))) (each n (omega arith))

-- a line is its words and its end
line_bytes_lem : (ws : List Word) → line_bytes ws ≡ joined ws ++ (line_feed ∷ [])
unfolding line_bytes
line_bytes_lem [] = refl
line_bytes_lem (w ∷ []) = refl
line_bytes_lem (w ∷ v ∷ ws) =
    ap (λ (s : List ℕ). w ++ (space ∷ s)) (line_bytes_lem (v ∷ ws)) ∙ sym (append_assoc w (space ∷ joined (v ∷ ws)) (line_feed ∷ []))

pub lines_said : (ls : List (List Word)) → AreLines ls → said_lines (lines_bytes ls) ≡ map joined ls
unfolding lines_bytes lines
lines_said [] a = refl
lines_said (l ∷ ls) a =
    let calm = joined_calm l a.0 in
    ap (λ (s : List ℕ). said_lines (s ++ lines_bytes ls)) (line_bytes_lem l)
    ∙ ap said_lines (append_assoc (joined l) (line_feed ∷ []) (lines_bytes ls))
    ∙ ap (map uncommented) (line_then (joined l) (lines_bytes ls) calm)
    ∙ ap₂ ◌∷◌ (no_comment (joined l) calm) (lines_said ls a.1)
