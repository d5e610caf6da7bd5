-- The parts of which a plan is saved are those that it says, and no others.
use Rattle.std.specs.Prelude.{ℕ, suc, ◌-◌, ◌<◌, ◌≡◌, refl, ◌⊎◌, Bool, not, ltb}
use Rattle.std.proofs.Common.{sym, ap, ◌∙◌, inl, inr, arith, le-leb, lt-ltb, ltb-true}
use Rattle.std.proofs.Math.Path.{subst}
use mathlib.Core.List.Memᴰ
use mathlib.Core.List.{List, ◌++◌, Memᴰ}
use Rattle.std.proofs.Math.Bool.{true}
use Rattle.cqf.specs.Bounded.{within}
use Rattle.cqf.specs.Limits.{port_slots, flow_slots}
use Rattle.cqf.specs.Plan.{Plan, clocks_equal, rate_of, blocking_of, extra_of, period_of, count_of, length_of, jitter_of, route_of}
use Rattle.plan.specs.Layout.{Kind}
use Rattle.plan_reading.specs.Part.{Part, header, port, flow, extra, jitter, clock}
use Rattle.plan_reading.specs.Rank.{number_of}
use Rattle.plan_reading.specs.Saved.{spell, when, collect, header_part, port_part, flow_part, extra_part, jitter_part, clock_part, port_parts, flow_parts, extra_parts, jitter_parts, clock_parts, saved_parts}
use Rattle.plan_reading.specs.laws.fields.Within.{within_low, slot_below}
use Rattle.plan_reading.specs.laws.saved.Entries.{Stands, Says, collect_slot, slot_collect, when_only, when_there, clocks_differ, differ_clocks}

-- the number of slot i, and its slot
pub numbered : (slots i : ℕ) → i < slots → within 1 slots (suc i) ≡ true
numbered slots i l = rw (le-leb 1 (suc i) (omega arith), le-leb (suc i) slots l)

pub back : (i : ℕ) → suc i - 1 ≡ i
back i = omega arith

module _ (p : Plan) where
  -- by kind and number
  abbrev said_at : Kind → ℕ → Part
  said_at Kind.header n = header_part p
  said_at Kind.port n = port_part p (n - 1)
  said_at Kind.flow n = flow_part p (n - 1)
  said_at Kind.extra n = extra_part p (n - 1)
  said_at Kind.jitter n = jitter_part p (n - 1)
  said_at Kind.clock n = clock_part p
  said_at Kind.header2 n = header_part p
  said_at Kind.port2 n = port_part p (n - 1)
  said_at Kind.flow2 n = flow_part p (n - 1)

  -- the parts from the jitters on, from the extra bytes on, from the flows on, and all but the header
  abbrev pub jitters_on : List Part
  jitters_on = collect flow_slots (jitter_parts p) ++ clock_parts p

  abbrev pub extras_on : List Part
  extras_on = collect port_slots (extra_parts p) ++ jitters_on

  abbrev pub flows_on : List Part
  flows_on = collect flow_slots (flow_parts p) ++ extras_on

  abbrev pub ports_on : List Part
  ports_on = collect port_slots (port_parts p) ++ flows_on

  -- each is said
  pub header_says : Says p (header_part p)
  header_says = record { stands = (refl, refl); tells = tt }

  pub port_says : (q : ℕ) → q < port_slots → ltb 0 (rate_of p q) ≡ true → Says p (port_part p q)
  port_says q l h =
      record {
        stands = (numbered port_slots q l, ap (rate_of p) (back q), ap (blocking_of p) (back q));
        tells = ltb-true 0 (rate_of p q) h;
      }

  pub flow_says : (f : ℕ) → f < flow_slots → ltb 0 (period_of p f) ≡ true → Says p (flow_part p f)
  flow_says f l h =
      record {
        stands = (
          numbered flow_slots f l,
          ap (period_of p) (back f),
          ap (count_of p) (back f),
          ap (length_of p) (back f),
          ap (route_of p) (back f),
        );
        tells = ltb-true 0 (period_of p f) h;
      }

  pub extra_says : (q : ℕ) → q < port_slots → ltb 0 (extra_of p q) ≡ true → Says p (extra_part p q)
  extra_says q l h = record { stands = (numbered port_slots q l, ap (extra_of p) (back q)); tells = ltb-true 0 (extra_of p q) h }

  pub jitter_says : (f : ℕ) → f < flow_slots → ltb 0 (jitter_of p f) ≡ true → Says p (jitter_part p f)
  jitter_says f l h = record { stands = (numbered flow_slots f l, ap (jitter_of p) (back f)); tells = ltb-true 0 (jitter_of p f) h }

  pub clock_says : not (clocks_equal p) ≡ true → Says p (clock_part p)
  clock_says h = record { stands = refl; tells = clocks_differ p h }

  -- each part that is saved is said
  pub saved_says : {x : Part} → Memᴰ x (saved_parts p) → Says p x
  unfolding saved_parts
  saved_says {x} m = first (Memᴰ.cases_cons m)
    where
      own : (test : Bool) (y : Part) → (test ≡ true → Says p y) → Memᴰ x (when test y) → Says p x
      own test y says m = let t = when_only test m in subst (Says p) (sym t.1) (says t.0)

      slots
          : (n : ℕ) (test : ℕ → Bool) (at : ℕ → Part)
          → ((i : ℕ) → i < n → test i ≡ true → Says p (at i))
          → Memᴰ x (collect n (λ i. when (test i) (at i)))
          → Says p x
      slots n test at says m =
          let s = collect_slot n (λ i. when (test i) (at i)) m in
          own (test s.0) (at s.0) (says s.0 s.1) s.2

      jitters : Memᴰ x (collect flow_slots (jitter_parts p)) ⊎ Memᴰ x (clock_parts p) → Says p x
      jitters (inl m) = slots flow_slots (λ f. ltb 0 (jitter_of p f)) (jitter_part p) jitter_says m
      jitters (inr m) = own (not (clocks_equal p)) (clock_part p) clock_says m

      extras : Memᴰ x (collect port_slots (extra_parts p)) ⊎ Memᴰ x jitters_on → Says p x
      extras (inl m) = slots port_slots (λ q. ltb 0 (extra_of p q)) (extra_part p) extra_says m
      extras (inr m) = jitters (Memᴰ.append_cases (collect flow_slots (jitter_parts p)) m)

      flows : Memᴰ x (collect flow_slots (flow_parts p)) ⊎ Memᴰ x extras_on → Says p x
      flows (inl m) = slots flow_slots (λ f. ltb 0 (period_of p f)) (flow_part p) flow_says m
      flows (inr m) = extras (Memᴰ.append_cases (collect port_slots (extra_parts p)) m)

      ports : Memᴰ x (collect port_slots (port_parts p)) ⊎ Memᴰ x flows_on → Says p x
      ports (inl m) = slots port_slots (λ q. ltb 0 (rate_of p q)) (port_part p) port_says m
      ports (inr m) = flows (Memᴰ.append_cases (collect flow_slots (flow_parts p)) m)

      first : (x ≡ header_part p) ⊎ Memᴰ x ports_on → Says p x
      first (inl same) = subst (Says p) (sym same) header_says
      first (inr m) = ports (Memᴰ.append_cases (collect port_slots (port_parts p)) m)

  -- each that stands in the tables is the one of its kind and number
  pub stands_at : (x : Part) → Stands p x → x ≡ said_at (spell x).field.kind (number_of (spell x).field)
  stands_at (header g t) h = sym (λ i. header (h.0 i) (h.1 i))
  stands_at (port n v b) h =
      let own : suc (n - 1) ≡ n = omega (arith, within_low 1 port_slots n h.0) in
      sym (λ i. port (own i) (h.1 i) (h.2 i))
  stands_at (flow n t c l r) h =
      let own : suc (n - 1) ≡ n = omega (arith, within_low 1 flow_slots n h.0) in
      sym (λ i. flow (own i) (h.1 i) (h.2 i) (h.3 i) (h.4 i))
  stands_at (extra n b) h =
      let own : suc (n - 1) ≡ n = omega (arith, within_low 1 port_slots n h.0) in
      sym (λ i. extra (own i) (h.1 i))
  stands_at (jitter n j) h =
      let own : suc (n - 1) ≡ n = omega (arith, within_low 1 flow_slots n h.0) in
      sym (λ i. jitter (own i) (h.1 i))
  stands_at (clock k) h = sym (λ i. clock (h i))

  -- of a kind and number one part stands there
  pub stands_once
      : (x y : Part)
      → Stands p x
      → Stands p y
      → (spell x).field.kind ≡ (spell y).field.kind
      → number_of (spell x).field ≡ number_of (spell y).field
      → x ≡ y
  stands_once x y h k kind number = stands_at x h ∙ (λ i. said_at (kind i) (number i)) ∙ sym (stands_at y k)

  -- and each that is said is saved: in its slot
  in_jitters : {x : Part} → Memᴰ x jitters_on → Memᴰ x (saved_parts p)
  unfolding saved_parts
  in_jitters m =
      Memᴰ.tail
      (Memᴰ.append_right (collect port_slots (port_parts p))
      (Memᴰ.append_right (collect flow_slots (flow_parts p)) (Memᴰ.append_right (collect port_slots (extra_parts p)) m)))

  pub says_saved : (x : Part) → Says p x → Memᴰ x (saved_parts p)
  unfolding saved_parts
  says_saved (header g t) h = Memᴰ.head (stands_at (header g t) h.stands)
  says_saved (port n v b) h =
      let there : 0 < rate_of p (n - 1) = omega (arith, h.tells, h.stands.1) in
      Memᴰ.tail
      (Memᴰ.append_left flows_on
      (slot_collect port_slots (port_parts p) (n - 1) (slot_below port_slots n h.stands.0)
      (when_there _ (lt-ltb 0 (rate_of p (n - 1)) there) (stands_at (port n v b) h.stands))))
  says_saved (flow n t c l r) h =
      let there : 0 < period_of p (n - 1) = omega (arith, h.tells, h.stands.1) in
      Memᴰ.tail
      (Memᴰ.append_right (collect port_slots (port_parts p))
      (Memᴰ.append_left extras_on
      (slot_collect flow_slots (flow_parts p) (n - 1) (slot_below flow_slots n h.stands.0)
      (when_there _ (lt-ltb 0 (period_of p (n - 1)) there) (stands_at (flow n t c l r) h.stands)))))
  says_saved (extra n b) h =
      let there : 0 < extra_of p (n - 1) = omega (arith, h.tells, h.stands.1) in
      Memᴰ.tail
      (Memᴰ.append_right (collect port_slots (port_parts p))
      (Memᴰ.append_right (collect flow_slots (flow_parts p))
      (Memᴰ.append_left jitters_on
      (slot_collect port_slots (extra_parts p) (n - 1) (slot_below port_slots n h.stands.0)
      (when_there _ (lt-ltb 0 (extra_of p (n - 1)) there) (stands_at (extra n b) h.stands))))))
  says_saved (jitter n j) h =
      let there : 0 < jitter_of p (n - 1) = omega (arith, h.tells, h.stands.1) in
      in_jitters
      (Memᴰ.append_left (clock_parts p)
      (slot_collect flow_slots (jitter_parts p) (n - 1) (slot_below flow_slots n h.stands.0)
      (when_there _ (lt-ltb 0 (jitter_of p (n - 1)) there) (stands_at (jitter n j) h.stands))))
  says_saved (clock k) h =
      in_jitters
      (Memᴰ.append_right (collect flow_slots (jitter_parts p))
      (when_there _ (differ_clocks p (λ e. h.tells (sym h.stands ∙ e))) (stands_at (clock k) h.stands)))
