-- `tables::valid::valid_tables` meets its contract: each way out has decided the tests before it.
use borrow.Author.Rules.{rules}
use Rattle.cqf.specs.Plan.{valid_plan, valid_port, valid_flow}
use Rattle.tables.proofs.valid.valid_tables.Goals as goal

pub returns-then-valid_flows : goal.returns-then-valid_flows
unfolding valid_plan valid_port valid_flow
returns-then-valid_flows c = search rules

pub returns-else-valid_flows : goal.returns-else-valid_flows
unfolding valid_plan valid_port valid_flow
returns-else-valid_flows c = search rules
