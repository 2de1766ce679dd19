use Rattle.flow_rules.proofs.Told.{body_found}
use Rattle.flow_rules.proofs.block_laws.one_flow.Goals as goal

pub returns : goal.returns
returns c = body_found
