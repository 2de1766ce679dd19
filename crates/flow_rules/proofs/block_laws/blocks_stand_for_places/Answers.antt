use Rattle.flow_rules.proofs.BlockReports.{faults_by_blocks, least_by_blocks}
use Rattle.flow_rules.proofs.block_laws.blocks_stand_for_places.Goals as goal

pub returns-clause-least : goal.returns-clause-least
returns-clause-least c = least_by_blocks

pub returns-clause-faults : goal.returns-clause-faults
returns-clause-faults c = faults_by_blocks
