-- Laws of the table of numbers.
use Rattle.std.specs.Prelude.{ℕ, ◌≡◌, refl, ◌&&◌, ◌||◌, eqb}
use Rattle.cqf.specs.Bounded.{within}
use Rattle.plan_text.specs.Grammar.{range_of, low_of, high_of, zero_too}
use Rattle.plan_text.specs.declared.grammar.Item.{Item}

-- every range goes from its least number to its largest
pub range_by : (x : Item) (n : ℕ) → range_of x n ≡ ((zero_too x && eqb n 0) || within (low_of x) (high_of x) n)
range_by Item.Guard n = refl
range_by Item.Top n = refl
range_by Item.Port n = refl
range_by Item.Rate n = refl
range_by Item.Blocker n = refl
range_by Item.Extra n = refl
range_by Item.Flow n = refl
range_by Item.Period n = refl
range_by Item.Count n = refl
range_by Item.Length n = refl
range_by Item.Jitter n = refl
range_by Item.Drift n = refl
range_by Item.Timing n = refl
range_by Item.Sync n = refl
range_by Item.Format n = refl
range_by Item.Route n = refl
range_by Item.Hops n = refl
range_by Item.First n = refl
range_by Item.End n = refl
