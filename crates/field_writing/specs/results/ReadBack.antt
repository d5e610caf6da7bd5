-- What is written is read back: the field of the kind with the very numbers and route that were given.
use Rattle.std.specs.Prelude.{ℕ, List, [], ◌∷◌, Bool, length, drop}
use Rattle.std.proofs.Math.Path.{◌≡◌, refl}
use Rattle.std.proofs.Common.{ap, ◌∙◌, arith}
use Rattle.std.proofs.Math.Bool.{true, false, cond}
use Rattle.answers.specs.Answer.{result, refusal}
use Rattle.answers.specs.Refusals.{repeated_port}
use Rattle.plan.specs.Layout.{Kind, layout}
use Rattle.plan.specs.Field.{FieldRead, field, refused, field_at}
use Rattle.plan_reading.specs.Draft.{field_repeats}
use Rattle.plan_reading.specs.Reading.{route_at}
use Rattle.plan_reading.specs.Strict.{Entry, entry_of}
use Rattle.plan_reading.specs.laws.rows.SavedRow.{EntryOk}
use Rattle.plan_reading.specs.laws.rows.EntryRead.{field_there, route_there}
use Rattle.writing.specs.Fields.{routed_bytes}
use Rattle.writing.specs.Answer.{written_answer, written_leaves}
use Rattle.writing.specs.laws.Answer.{written_size}
use Rattle.field_writing.specs.Writes.{read_answer, bytes_answer, write_answer, write_leaves}
use Rattle.field_writing.specs.laws.Accepted.{accepted_entry}

-- the field that stands first in the bytes left, and its route
pub record ReadsBack (k : Kind) (ns r : List ℕ) (n : ℕ) (exit : List ℕ) : Type 0 where
  pub reads : field_at (layout k).form exit 0 ≡ field (record { kind = k; numbers = ns; hops = length r }) n
  pub route : route_at k exit 0 ≡ r

module _ (k : Kind) (ns r buffer : List ℕ) (many : length ns ≡ length (layout k).numbers) where
  abbrev entry : Entry
  entry = entry_of (record { kind = k; numbers = ns; hops = length r }) r

  abbrev bs : List ℕ
  bs = routed_bytes k ns r

  back : (n : ℕ) → EntryOk (layout k).form entry → written_answer bs buffer ≡ result n → ReadsBack k ns r n (written_leaves bs buffer (result n))
  back n ok e =
      record {
        reads =
            field_there [] (drop (length bs) buffer) entry ok
            ∙ ap (field entry.field) (omega (arith, written_size bs buffer n e));
        route = route_there [] (drop (length bs) buffer) entry ok;
      }

  pub written_back : (n : ℕ) → write_answer k ns r buffer ≡ result n → ReadsBack k ns r n (write_leaves k ns r buffer)
  unfolding bytes_answer
  written_back n e = rw e (go (field_at (layout k).form bs 0) refl e)
    where
      go : (x : FieldRead) → field_at (layout k).form bs 0 ≡ x → read_answer x bs buffer ≡ result n → ReadsBack k ns r n (written_leaves bs buffer (result n))
      go (refused number offset) found h = let z : ◌≡◌ {A = ℕ} 0 1 = cc in absurd (omega arith)
      go (field x next) found h = route (field_repeats (route_at x.kind bs 0)) refl h
        where
          route
              : (b : Bool)
              → field_repeats (route_at x.kind bs 0) ≡ b
              → cond b (refusal repeated_port (0 ∷ [])) (written_answer bs buffer) ≡ result n
              → ReadsBack k ns r n (written_leaves bs buffer (result n))
          route true f h = let z : ◌≡◌ {A = ℕ} 0 1 = cc in absurd (omega arith)
          route false f h = back n (accepted_entry k ns r many x next found f) h
