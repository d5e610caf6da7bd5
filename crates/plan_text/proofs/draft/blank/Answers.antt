-- `blank` meets its contract: the empty planner has empty columns.
use Rattle.std.proofs.Common.{false, replicate, ap}
use Rattle.cqf.specs.Limits.{flow_slots}
use Rattle.cqf.specs.Plan.{Plan, no_plan, equal_clocks}
use Rattle.tables.specs.Columns.{plan_by}
use Rattle.plan_text.specs.Text.{Draft, blank}
use Rattle.plan_text.proofs.draft.blank.Goals as goal

-- a draft in which nothing is said, with the columns of a plan
abbrev fresh : Plan → Draft
fresh p =
    record {
      newer = false;
      begun = false;
      guarded = false;
      topped = false;
      clocked = false;
      flowing = false;
      tables = plan_by 0 0 equal_clocks p.rates p.blockings p.extras p.periods p.counts p.lengths p.jitters p.hops p.routes;
      lines = replicate flow_slots 0;
    }

pub returns : goal.returns
unfolding blank no_plan
returns c = ap fresh c.empty.ensures.plan
