-- Laws of the bytes of a gate control list.
use Rattle.std.specs.Prelude.{ℕ, ◌+◌, ◌≤◌, ◌≡◌, Bool, List, [], ◌∷◌, ◌++◌, ltb}
use Rattle.std.proofs.Math.Path.{refl}
use Rattle.std.proofs.Common.{sym, ap, ap₂, ◌∙◌, append_assoc, append-nil, arith, lt-ltb, le-ltb, length-append}
use Rattle.std.proofs.Math.Bool.{true, false, cond}
use Rattle.std.proofs.Math.ListN.{length}
use Rattle.cqf.specs.Plan.{Plan}
use Rattle.cqf.specs.Port.{window, window_of}
use Rattle.plan.specs.Bytes.{head_size}
use Rattle.gate_lists.specs.GateList.{Gates, gate_size, gate_bytes, list_bytes, lasting, bit, both_closed, one_open, gate_cycle, gate_list, gate_list_bytes}
use Rattle.writing.specs.Laid.{laid}
use Rattle.writing.specs.laws.Laid.{laid_none}
use Rattle.gate_writing.specs.List.{gate_of, lasting_of, cycle_of, list_of, lasting_size, cycle_size, list_size_by}

-- bytes under another name
pub laid_as : (bs cs buffer : List ℕ) {exit : List ℕ} → bs ≡ cs → exit ≡ laid bs buffer → exit ≡ laid cs buffer
laid_as bs cs buffer same written = written ∙ ap (λ (l : List ℕ). laid l buffer) same

-- a field, by whether its interval is 0
module _ (states interval : ℕ) where
  lasting-none : interval ≡ 0 → lasting_of states interval ≡ []
  unfolding list_bytes
  lasting-none e = rw (le-ltb 0 interval (omega arith))

  lasting_some : (interval ≡ 0 → ⊥) → lasting_of states interval ≡ gate_of states interval
  unfolding list_bytes
  lasting_some ne = rw (lt-ltb 0 interval (omega arith)) (append-nil (gate_of states interval))

  -- and the buffer with it
  pub put-none : (buffer : List ℕ) → interval ≡ 0 → buffer ≡ laid (lasting_of states interval) buffer
  put-none buffer e = laid_as [] (lasting_of states interval) buffer (sym (lasting-none e)) (sym (laid_none buffer))

  pub put_some : (buffer : List ℕ) {exit : List ℕ} → (interval ≡ 0 → ⊥) → exit ≡ laid (gate_of states interval) buffer → exit ≡ laid (lasting_of states interval) buffer
  put_some buffer ne written = laid_as (gate_of states interval) (lasting_of states interval) buffer (sym (lasting_some ne)) written

  pub lasting_length : length (lasting_of states interval) ≡ lasting_size interval
  unfolding list_bytes
  lasting_length = go (ltb 0 interval)
    where
      go : (b : Bool) → length (list_bytes (cond b (record { states = states; interval = interval } ∷ []) [])) ≡ cond b (head_size + gate_size) 0
      go true = refl
      go false = refl

-- a field is at most 8 bytes, a cycle 24
pub size_most : (interval : ℕ) → lasting_size interval ≤ 8
size_most interval = go (ltb 0 interval)
  where
    go : (b : Bool) → cond b (head_size + gate_size) 0 ≤ 8
    go true = omega arith
    go false = omega arith

pub cycle_most : (guard window : ℕ) → cycle_size guard window ≤ 24
cycle_most guard window = omega (arith, size_most guard, size_most window)

-- a cycle, as it is written part by part
module _ (closed opened guard window : ℕ) where
  pub cycle_parts : (lasting_of closed guard ++ lasting_of opened window) ++ lasting_of closed guard ≡ cycle_of closed opened guard window
  cycle_parts = append_assoc (lasting_of closed guard) (lasting_of opened window) (lasting_of closed guard)

  pub front_length : length (lasting_of closed guard ++ lasting_of opened window) ≡ lasting_size guard + lasting_size window
  front_length = length-append (lasting_of closed guard) (lasting_of opened window) ∙ ap₂ ◌+◌ (lasting_length closed guard) (lasting_length opened window)

  pub cycle_length : length (cycle_of closed opened guard window) ≡ cycle_size guard window
  cycle_length =
      ap length (sym cycle_parts)
      ∙ length-append (lasting_of closed guard ++ lasting_of opened window) (lasting_of closed guard)
      ∙ ap₂ ◌+◌ front_length (lasting_length closed guard)

-- a cycle in which this queue is open
pub cycle_is
    : (even odd queue guard T : ℕ) {closed open-bit lasts : ℕ}
    → closed ≡ both_closed even odd
    → open-bit ≡ bit queue
    → lasts ≡ window_of guard T
    → cycle_of closed (closed + open-bit) guard lasts ≡ cycle_of (both_closed even odd) (one_open even odd queue) guard (window_of guard T)
unfolding one_open
cycle_is even odd queue guard T c b w = cc

-- the list
pub list_length : (guard T even odd : ℕ) → length (list_of guard T even odd) ≡ list_size_by guard T
unfolding list_of
list_length guard T even odd =
    let c = both_closed even odd in
    let w = window_of guard T in
    length-append (cycle_of c (one_open even odd even) guard w) (cycle_of c (one_open even odd odd) guard w)
    ∙ omega (arith, cycle_length c (one_open even odd even) guard w, cycle_length c (one_open even odd odd) guard w)

-- fields behind fields
bytes_more : (a b : List Gates) → list_bytes (a ++ b) ≡ list_bytes a ++ list_bytes b
unfolding list_bytes
bytes_more [] b = refl
bytes_more (g ∷ a) b = ap (λ (l : List ℕ). gate_bytes g ++ l) (bytes_more a b) ∙ sym (append_assoc (gate_bytes g) (list_bytes a) (list_bytes b))

bytes_three : (a b c : List Gates) → list_bytes (a ++ (b ++ c)) ≡ list_bytes a ++ (list_bytes b ++ list_bytes c)
bytes_three a b c = bytes_more a (b ++ c) ∙ ap (λ (l : List ℕ). list_bytes a ++ l) (bytes_more b c)

pub list_is : (p : Plan) (T even odd : ℕ) → gate_list_bytes p T even odd ≡ list_of p.guard T even odd
unfolding gate_list_bytes gate_list gate_cycle window list_of
list_is p T even odd =
    let closed = lasting (both_closed even odd) p.guard in
    let first = lasting (one_open even odd even) (window_of p.guard T) in
    let second = lasting (one_open even odd odd) (window_of p.guard T) in
    bytes_more (closed ++ (first ++ closed)) (closed ++ (second ++ closed))
    ∙ ap₂ ◌++◌ (bytes_three closed first closed) (bytes_three closed second closed)
