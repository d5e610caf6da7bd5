-- What the converters mean: a converted plan is the plan that was read; an old plan in strict order comes back byte for byte, and so does a
-- new one.
use Rattle.std.specs.Prelude.{ℕ, ◌≤◌, ◌≡◌, refl, List, [], ◌∷◌, Bool, true, false, cond, ◌↔◌, leb, length, take}
use Rattle.std.proofs.Common.{sym, ◌∙◌, subst, arith, leb-false}
use Rattle.answers.specs.Answer.{result, refusal}
use Rattle.answers.specs.Refusals.{short_buffer}
use Rattle.cqf.specs.Form.{Form, older, newer, form_number, form_fits}
use Rattle.cqf.specs.Plan.{Plan}
use Rattle.plan.specs.Bytes.{Octets}
use Rattle.plan_reading.specs.Reading.{PlanRead, accepted, rejected, loose, strict, read_form, read_plan}
use Rattle.plan_reading.specs.Saved.{saved_bytes, form_bytes, NoneSaysNothing}
use Rattle.plan_reading.specs.laws.newer.Back.{newer_back}
use Rattle.plan_reading.specs.laws.reading.Fits.{form_told, form_accepted, few_fits}
use Rattle.plan_reading.specs.laws.saved.SavedBack.{saved_back}
use Rattle.plan_reading.specs.laws.saved.SavedLength.{fits_hops}
use Rattle.plan_reading.specs.results.StrictTheorem.{read_loosely}
use Rattle.writing.specs.Laid.{laid}
use Rattle.writing.specs.laws.Laid.{laid_short}
use Rattle.converting.specs.Convert.{converted_answer, converted_leaves, first_long, within_older, upgrade_answer, upgrade_leaves, downgrade_answer, downgrade_leaves}
use Rattle.converting.specs.Meaning.{Converted, Gives}
use Rattle.converting.specs.laws.Long.{none_fits, fits_none}
use Rattle.converting.specs.laws.Forms.{by_form, bytes_tell, Holds, older_few, newer_holds, older_holds, within_accepted, converted_means, converted_front, upgrade_gives, downgrade_gives}

-- Bytes that were written in the newer form hold the plan that was read in the older one, and no other; they are at most 13,399.
pub upgrade_means
    : (s buffer : List ℕ) (n : ℕ)
    → upgrade_answer s buffer ≡ result n
    → Converted newer (read_form older loose s) buffer (upgrade_leaves s buffer) n
unfolding upgrade_answer upgrade_leaves
upgrade_means s buffer n e = converted_means newer (read_form older loose s) buffer n (λ p m k is. newer_holds loose s p m k is) e

-- The same of the way back; they are at most 15,002.
pub downgrade_means
    : (s buffer : List ℕ) (n : ℕ)
    → downgrade_answer s buffer ≡ result n
    → Converted older (read_form newer strict s) buffer (downgrade_leaves s buffer) n
unfolding downgrade_answer downgrade_leaves
downgrade_means s buffer n e = go (within_older s (read_form newer strict s)) refl e
  where
    read : PlanRead
    read = read_form newer strict s

    holds : (p : Plan) (m k : ℕ) → within_older s read ≡ accepted p m k → Holds older p m k
    holds p m k is =
        let w = within_accepted s read p m k is in
        older_holds strict s p m k w.0 w.1

    go : (r : PlanRead) → within_older s read ≡ r → converted_answer older r buffer ≡ result n → Converted older read buffer (converted_leaves older (within_older s read) buffer) n
    go (accepted p m k) is e =
        subst (λ (r : PlanRead). Converted older r buffer (converted_leaves older (within_older s read) buffer) n) (is ∙ sym (within_accepted s read p m k is).0)
        (converted_means older (within_older s read) buffer n holds (rw is e))
    go (rejected number offset) is e = let z : ◌≡◌ {A = ℕ} 0 1 = cc in absurd (omega arith)

-- Of an accepted plan of the newer form the way back refuses a flow (16) exactly where the plan is none that the older form can hold.
pub long_exactly
    : (s : List ℕ) (p : Plan) (ports flows : ℕ)
    → read_form newer strict s ≡ accepted p ports flows
    → (length s ≤ first_long s) ↔ (form_fits (form_number older) p.hops ≡ true)
long_exactly s p m k e =
    (λ none. few_fits older p.hops (none_fits strict s p m k e none), λ fits. fits_none strict s p m k e (fits_hops older p.hops fits))

-- A refused conversion leaves the buffer as it was.
converted_keeps
    : (form : Form) (r : PlanRead) (buffer : List ℕ) (number : ℕ) (values : List ℕ)
    → converted_answer form r buffer ≡ refusal number values
    → converted_leaves form r buffer ≡ buffer
converted_keeps form (accepted p m k) buffer number values e = go (leb (length (form_bytes form p)) (length buffer)) refl e
  where
    go
        : (b : Bool)
        → leb (length (form_bytes form p)) (length buffer) ≡ b
        → cond b (result (length (form_bytes form p))) (refusal short_buffer (length (form_bytes form p) ∷ [])) ≡ refusal number values
        → laid (form_bytes form p) buffer ≡ buffer
    go true h e = let z : ◌≡◌ {A = ℕ} 0 1 = cc in absurd (omega arith)
    go false h e = laid_short (form_bytes form p) buffer (leb-false _ _ h)
converted_keeps form (rejected m o) buffer number values e = refl

pub upgrade_keeps : (s buffer : List ℕ) (number : ℕ) (values : List ℕ) → upgrade_answer s buffer ≡ refusal number values → upgrade_leaves s buffer ≡ buffer
unfolding upgrade_answer upgrade_leaves
upgrade_keeps s buffer number values e = converted_keeps newer (read_form older loose s) buffer number values e

pub downgrade_keeps : (s buffer : List ℕ) (number : ℕ) (values : List ℕ) → downgrade_answer s buffer ≡ refusal number values → downgrade_leaves s buffer ≡ buffer
unfolding downgrade_answer downgrade_leaves
downgrade_keeps s buffer number values e = converted_keeps older (within_older s (read_form newer strict s)) buffer number values e

-- There and back: bytes of the older form come back as those as which their plan is saved in it, and are never refused on the way back.
pub older_again
    : (s buffer : List ℕ) (n : ℕ) (p : Plan) (ports flows : ℕ)
    → read_form older loose s ≡ accepted p ports flows
    → upgrade_answer s buffer ≡ result n
    → (let t = take n (upgrade_leaves s buffer) in Gives (downgrade_answer t) (downgrade_leaves t) (form_bytes older p))
unfolding upgrade_answer upgrade_leaves
older_again s buffer n p m k e a =
    let front = converted_front newer (read_form older loose s) buffer n p m k e a in
    let t = form_bytes newer p in
    let reads = by_form newer strict t (bytes_tell newer p) ((newer_holds loose s p m k e).reads strict) in
    subst (λ (bs : List ℕ). Gives (downgrade_answer bs) (downgrade_leaves bs) (form_bytes older p)) (sym front)
    (downgrade_gives t p m k reads (fits_none strict t p m k reads (older_few loose s p m k e)))

-- So an old plan in strict order, in which no field says what its absence says, comes back byte for byte.
pub older_restored
    : (s buffer : List ℕ) (n : ℕ) (p : Plan) (ports flows : ℕ)
    → Octets s
    → read_form older strict s ≡ accepted p ports flows
    → NoneSaysNothing s
    → upgrade_answer s buffer ≡ result n
    → (let t = take n (upgrade_leaves s buffer) in Gives (downgrade_answer t) (downgrade_leaves t) s)
unfolding form_bytes saved_bytes read_plan
older_restored s buffer n p m k octets e none a =
    let told = form_told older strict s p m k e in
    let reads = form_accepted older strict s p m k e in
    let same : form_bytes older p ≡ s = saved_back s p m k octets reads told none in
    let t = take n (upgrade_leaves s buffer) in
    subst (λ (bs : List ℕ). Gives (downgrade_answer t) (downgrade_leaves t) bs) same
    (older_again s buffer n p m k (by_form older loose s told (read_loosely strict s p m k reads)) a)

-- And every new plan that goes back comes there again byte for byte.
pub newer_restored
    : (s buffer : List ℕ) (n : ℕ)
    → Octets s
    → downgrade_answer s buffer ≡ result n
    → (let t = take n (downgrade_leaves s buffer) in Gives (upgrade_answer t) (upgrade_leaves t) s)
unfolding downgrade_answer downgrade_leaves
newer_restored s buffer n octets a = go (within_older s read) refl a
  where
    read : PlanRead
    read = read_form newer strict s

    t : List ℕ
    t = take n (converted_leaves older (within_older s read) buffer)

    go : (r : PlanRead) → within_older s read ≡ r → converted_answer older r buffer ≡ result n → Gives (upgrade_answer t) (upgrade_leaves t) s
    go (accepted p m k) is e =
        let w = within_accepted s read p m k is in
        let bs = form_bytes older p in
        let front : t ≡ bs = converted_front older (within_older s read) buffer n p m k is (rw is e) in
        let same : form_bytes newer p ≡ s = newer_back strict s p m k (form_accepted newer strict s p m k w.0) (form_told newer strict s p m k w.0) octets in
        let reads = by_form older loose bs (bytes_tell older p) ((older_holds strict s p m k w.0 w.1).reads loose) in
        subst (λ (x : List ℕ). Gives (upgrade_answer x) (upgrade_leaves x) s) (sym front)
        (subst (λ (x : List ℕ). Gives (upgrade_answer bs) (upgrade_leaves bs) x) same (upgrade_gives bs p m k reads))
    go (rejected number offset) is e = let z : ◌≡◌ {A = ℕ} 0 1 = cc in absurd (omega arith)
