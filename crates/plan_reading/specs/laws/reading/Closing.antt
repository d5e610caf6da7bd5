-- Laws of the tests 8 and 9, when all fields are read.
use Rattle.std.specs.Prelude.{ℕ, ◌≤◌, ◌<◌, ◌≡◌, List, true, false, not, length}
use Rattle.std.proofs.Math.Bool.{or-true}
use borrow.Author.Tests.{eq-eqb, ne_eqb, lt-ltb, le-ltb}
use Rattle.plan_reading.specs.Key.{header_key}
use Rattle.plan_reading.specs.Draft.{Draft, has_key}
use Rattle.plan_reading.specs.Reading.{accepted, rejected, first_absent, closing}

module _ (s : List ℕ) (d : Draft) where
  -- no header, or no flow
  pub close_headless : has_key d header_key ≡ false → closing s d ≡ rejected 8 (length s)
  unfolding closing
  close_headless e = rw e

  pub close_flowless : d.flows ≡ 0 → closing s d ≡ rejected 8 (length s)
  unfolding closing
  close_flowless e = rw (eq-eqb _ _ e, or-true (not (has_key d header_key)))

  -- both are there: the first field that names an absent port or flow decides
  module _ (h : has_key d header_key ≡ true) (g : d.flows ≡ 0 → ⊥) where
    pub close_absent
        : first_absent d.tables.rates d.tables.periods s < length s
        → closing s d ≡ rejected 9 (first_absent d.tables.rates d.tables.periods s)
    unfolding closing
    close_absent l = rw (h, ne_eqb _ _ g, lt-ltb _ _ l)

    pub close_accepted
        : length s ≤ first_absent d.tables.rates d.tables.periods s
        → closing s d ≡ accepted d.tables d.ports d.flows
    unfolding closing
    close_accepted l = rw (h, ne_eqb _ _ g, le-ltb _ _ l)
