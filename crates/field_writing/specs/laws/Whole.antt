-- Laws of a call that writes a field: its answer by what is read, and a field's bytes in an array of their own.
use Rattle.std.specs.Prelude.{ℕ, ◌≤◌, ◌≡◌, refl, List, [], ◌∷◌, ◌++◌, Bool, true, false, leb, length, take, drop}
use Rattle.std.proofs.Math.Path.{sym, ap}
use Rattle.std.proofs.Common.{◌∙◌, subst, append-nil, arith, drop_of_length-le, take_at}
use Rattle.std.proofs.Math.Bool.{cond}
use Rattle.answers.specs.Answer.{Answer, result, refusal}
use Rattle.answers.specs.Refusals.{repeated_port, short_buffer}
use Rattle.cqf.specs.Form.{Form}
use Rattle.plan.specs.Layout.{Kind, layout}
use Rattle.plan.specs.Field.{Field, FieldRead, field, refused, field_at}
use Rattle.plan_reading.specs.Draft.{field_repeats}
use Rattle.plan_reading.specs.Reading.{route_at}
use Rattle.writing.specs.Fields.{routed_bytes}
use Rattle.writing.specs.Laid.{laid}
use Rattle.writing.specs.Answer.{written_answer, written_leaves}
use Rattle.writing.specs.laws.Laid.{laid-over}
use Rattle.field_writing.specs.Writes.{read_answer, bytes_answer, WritesBytes, Writes}

-- what is laid is what a written answer leaves
pub laid_written : (bs buffer : List ℕ) → laid bs buffer ≡ written_leaves bs buffer (written_answer bs buffer)
unfolding laid
laid_written bs buffer = go (leb (length bs) (length buffer)) refl
  where
    go
        : (b : Bool)
        → leb (length bs) (length buffer) ≡ b
        → laid bs buffer ≡ written_leaves bs buffer (cond b (result (length bs)) (refusal short_buffer (length bs ∷ [])))
    go true e = rw e refl
    go false e = rw e refl

module _ (form : Form) (bs buffer : List ℕ) where
  -- refused by the reading
  pub refused_writes : (number offset : ℕ) → field_at form bs 0 ≡ refused number offset → WritesBytes form bs buffer (refusal number (0 ∷ [])) buffer
  unfolding bytes_answer
  refused_writes number offset e =
      let is : refusal number (0 ∷ []) ≡ bytes_answer form bs buffer = sym (ap (λ (x : FieldRead). read_answer x bs buffer) e) in
      (is, ap (written_leaves bs buffer) is)

  module _ (x : Field) (next : ℕ) (e : field_at form bs 0 ≡ field x next) where
    by_route : (b : Bool) → field_repeats (route_at x.kind bs 0) ≡ b → cond b (refusal repeated_port (0 ∷ [])) (written_answer bs buffer) ≡ bytes_answer form bs buffer
    unfolding bytes_answer
    by_route b f = sym (ap (λ (y : FieldRead). read_answer y bs buffer) e ∙ ap (λ (t : Bool). cond t (refusal repeated_port (0 ∷ [])) (written_answer bs buffer)) f)

    -- a port twice in its route
    pub repeats_writes : field_repeats (route_at x.kind bs 0) ≡ true → WritesBytes form bs buffer (refusal repeated_port (0 ∷ [])) buffer
    repeats_writes f = (by_route true f, ap (written_leaves bs buffer) (by_route true f))

    -- and a field that is good
    pub good_writes
        : field_repeats (route_at x.kind bs 0) ≡ false
        → {answer : Answer ℕ} {exit : List ℕ}
        → answer ≡ written_answer bs buffer
        → exit ≡ laid bs buffer
        → WritesBytes form bs buffer answer exit
    good_writes f {answer} {exit} a l = (a ∙ by_route false f, l ∙ laid_written bs buffer ∙ ap (written_leaves bs buffer) (by_route false f))

-- bytes laid into an array of as many are those bytes, and into a longer one its first ones
pub laid_alone : (bs array : List ℕ) → length bs ≡ length array → laid bs array ≡ bs
laid_alone bs array e =
    laid-over bs array (omega arith)
    ∙ ap (λ (l : List ℕ). bs ++ l) (drop_of_length-le array {i = length bs} (omega arith))
    ∙ append-nil bs

pub laid_front : (bs array : List ℕ) (n : ℕ) → length bs ≡ n → n ≤ length array → take n (laid bs array) ≡ bs
laid_front bs array n e room = ap (take n) (laid-over bs array (omega arith)) ∙ take_at bs (drop (length bs) array) n e

-- a field that is written as these bytes is written
pub alone_writes
    : (k : Kind) (ns r buffer : List ℕ) {bs : List ℕ} {answer : Answer ℕ} {exit : List ℕ}
    → bs ≡ routed_bytes k ns r
    → WritesBytes (layout k).form bs buffer answer exit
    → Writes k ns r buffer answer exit
alone_writes k ns r buffer {answer = answer} {exit = exit} e w = subst (λ (l : List ℕ). WritesBytes (layout k).form l buffer answer exit) e w
