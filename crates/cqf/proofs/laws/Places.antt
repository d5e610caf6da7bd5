-- Where a frame is while the run goes on, in closed form: at its source up to its own cycle, then one port further each cycle.
use Rattle.std.specs.Prelude.{◌≡◌, ◌⊎◌, Bool, List, [], ◌∷◌, length, get_or, drop, eqb}
use Rattle.std.proofs.Math.Path.{refl, ap}
use Rattle.std.proofs.Common.{sym, ◌∙◌, inl, inr, add-zero, add-suc, le_refl, not-suc-le-zero, arith, drop_of_length-le, ne_eqb, eq-eqb, eqb-true}
use Rattle.std.proofs.Math.Bool.{true, false, cond}
use Rattle.std.proofs.lemmas.Bool.{false≢true}
use Prim.Native.Nat.{ℕ, zero, suc, ◌+◌, ◌-◌, ◌≤◌, ◌<◌}
use Rattle.std.proofs.Math.Decide.{dec_le}
use Rattle.cqf.specs.Plan.{Plan, route_of}
use Rattle.cqf.specs.Cycles.{Cycles}
use Rattle.cqf.specs.Run.{Place, source, Places, handed, advance, is_queued_at, is_gone, Network, running, stopped, overrun, next, run}

-- the places of a network, those of a start where it has stopped
abbrev places_of : Network → Places
places_of (running places) = places
places_of stopped = λ f k. source

-- running is not stopped
pub running≢stopped : (places : Places) → running places ≡ stopped → ⊥
running≢stopped places e = let z : ◌≡◌ {A = ℕ} 0 1 = cc in omega arith

-- one frame alone: its own cycle, its route, the cycle that starts
unfoldable pub track : ℕ → List ℕ → ℕ → Place
track own route zero = source
track own route (suc c) = advance (eqb own c) route (track own route c)

-- a frame is at its source up to its own cycle
pub track-before : (own : ℕ) (route : List ℕ) (c : ℕ) → c ≤ own → track own route c ≡ source
unfolding track
track-before own route zero l = refl
track-before own route (suc c) l =
    rw (track-before own route c (omega arith), ne_eqb own c (λ e. omega arith))

-- handed on once more
handed-next
    : (emitted : Bool) (route rest : List ℕ) (i : ℕ)
    → advance emitted route (handed (drop i rest)) ≡ handed (drop (suc i) rest)
handed-next emitted route [] zero = refl
handed-next emitted route [] (suc i) = refl
handed-next emitted route (x ∷ xs) zero = refl
handed-next emitted route (x ∷ xs) (suc i) = handed-next emitted route xs i

-- i cycles after the one behind its own it has been handed on i times
pub track-after : (own : ℕ) (route : List ℕ) (i : ℕ) → track own route (suc (own + i)) ≡ handed (drop i route)
unfolding track
track-after own route zero =
    rw (add-zero own, eq-eqb own own refl, track-before own route own (le_refl own))
track-after own route (suc i) =
    rw (add-suc own i)
    (ap (advance (eqb own (suc (own + i))) route) (track-after own route i)
    ∙ handed-next (eqb own (suc (own + i))) route route i)

-- a cycle is no later than the own one, or some number of cycles behind the one after it
since : (own c : ℕ) → (c ≤ own) ⊎ ((i : ℕ) × (c ≡ suc (own + i)))
since own c = go (dec_le c own)
  where
    go : Dec (c ≤ own) → (c ≤ own) ⊎ ((i : ℕ) × (c ≡ suc (own + i)))
    go (yes l) = inl l
    go (no n) = inr (c - suc own, omega arith)

-- handed on i times a frame is at port i of its route, and not gone while there is one
handed_queued
    : (n : ℕ) (route : List ℕ) (i : ℕ)
    → is_queued_at n (handed (drop i route)) ≡ true
    → (i < length route) × (get_or route i 0 ≡ n)
handed_queued n [] zero h = absurd (false≢true h)
handed_queued n [] (suc i) h = absurd (false≢true h)
handed_queued n (x ∷ xs) zero h = (omega arith, sym (eqb-true n x h))
handed_queued n (x ∷ xs) (suc i) h = let r = handed_queued n xs i h in (omega (arith, r.0), r.1)

queued_handed : (route : List ℕ) (i : ℕ) → i < length route → is_queued_at (get_or route i 0) (handed (drop i route)) ≡ true
queued_handed [] i l = absurd (not-suc-le-zero l)
queued_handed (x ∷ xs) zero l = eq-eqb x x refl
queued_handed (x ∷ xs) (suc i) l = queued_handed xs i (omega arith)

there_handed : (route : List ℕ) (i : ℕ) → i < length route → is_gone (handed (drop i route)) ≡ false
there_handed [] i l = absurd (not-suc-le-zero l)
there_handed (x ∷ xs) zero l = refl
there_handed (x ∷ xs) (suc i) l = there_handed xs i (omega arith)

-- a frame that is queued at port n has been handed on to where n stands on its route
pub track_queued
    : (n own : ℕ) (route : List ℕ) (c : ℕ)
    → is_queued_at n (track own route c) ≡ true
    → (i : ℕ) × (i < length route) × (get_or route i 0 ≡ n) × (c ≡ suc (own + i))
track_queued n own route c h = go (since own c)
  where
    go
        : (c ≤ own) ⊎ ((i : ℕ) × (c ≡ suc (own + i)))
        → (i : ℕ) × (i < length route) × (get_or route i 0 ≡ n) × (c ≡ suc (own + i))
    go (inl l) = absurd (false≢true (rw (track-before own route c l) at h))
    go (inr (i, e)) =
        let r = handed_queued n route i (rw (e, track-after own route i) at h) in
        (i, r.0, r.1, e)

-- and it is queued there then
pub queued_track
    : (own : ℕ) (route : List ℕ) (i : ℕ)
    → i < length route
    → is_queued_at (get_or route i 0) (track own route (suc (own + i))) ≡ true
queued_track own route i l = rw (track-after own route i) (queued_handed route i l)

-- it is gone once as many cycles as its route has ports lie between
pub track_there : (own : ℕ) (route : List ℕ) (c : ℕ) → c ≤ own + length route → is_gone (track own route c) ≡ false
track_there own route c l = go (since own c)
  where
    go : (c ≤ own) ⊎ ((i : ℕ) × (c ≡ suc (own + i))) → is_gone (track own route c) ≡ false
    go (inl k) = rw (track-before own route c k)
    go (inr (i, e)) = rw (e, track-after own route i) (there_handed route i (omega arith))

pub track_gone : (own : ℕ) (route : List ℕ) (c : ℕ) → own + length route < c → is_gone (track own route c) ≡ true
track_gone own route c l = go (since own c)
  where
    go : (c ≤ own) ⊎ ((i : ℕ) × (c ≡ suc (own + i))) → is_gone (track own route c) ≡ true
    go (inl k) = absurd (omega arith)
    go (inr (i, e)) = rw (e, track-after own route i, drop_of_length-le route {i = i} (omega arith))

module _ (p : Plan) (T : ℕ) (cycles : Cycles) where
  -- the places one cycle later
  abbrev pub moved : ℕ → Places → Places
  moved c before f k = advance (eqb (get_or (cycles f) k 0) c) (route_of p f) (before f k)

  -- a cycle in which no port leaves a frame unsent, and one in which some port does
  pub run_goes
      : (c : ℕ) (before : Places)
      → run p T cycles c ≡ running before
      → overrun p T cycles before ≡ false
      → run p T cycles (suc c) ≡ running (moved c before)
  unfolding run
  run_goes c before e o = rw (e, o)

  pub run-stops
      : (c : ℕ) (before : Places)
      → run p T cycles c ≡ running before
      → overrun p T cycles before ≡ true
      → run p T cycles (suc c) ≡ stopped
  unfolding run
  run-stops c before e o = rw (e, o)

  -- a run that goes on after a cycle went on before it
  run-before
      : (c : ℕ) (after : Places)
      → run p T cycles (suc c) ≡ running after
      → (before : Places) × (run p T cycles c ≡ running before) × ((f k : ℕ) → after f k ≡ moved c before f k)
  unfolding run
  run-before c after e = go (run p T cycles c) refl e
    where
      sent
          : (before : Places) (o : Bool)
          → cond o stopped (running (moved c before)) ≡ running after
          → (f k : ℕ)
          → after f k ≡ moved c before f k
      sent before true e f k = absurd (running≢stopped after (sym e))
      sent before false e f k = ap (λ (n : Network). places_of n f k) (sym e)

      go
          : (n : Network)
          → run p T cycles c ≡ n
          → next p T cycles c n ≡ running after
          → (before : Places) × (run p T cycles c ≡ running before) × ((f k : ℕ) → after f k ≡ moved c before f k)
      go (running before) e d = (before, e, sent before (overrun p T cycles before) d)
      go stopped e d = absurd (running≢stopped after (sym d))

  -- while the run goes on each frame is where it would be alone
  pub run-track
      : (c : ℕ) (places : Places)
      → run p T cycles c ≡ running places
      → (f k : ℕ)
      → places f k ≡ track (get_or (cycles f) k 0) (route_of p f) c
  unfolding run track
  run-track zero places e f k = ap (λ (n : Network). places_of n f k) (sym e)
  run-track (suc c) places e f k =
      let b = run-before c places e in
      b.2 f k
      ∙ ap (advance (eqb (get_or (cycles f) k 0) c) (route_of p f)) (run-track c b.0 b.1 f k)
