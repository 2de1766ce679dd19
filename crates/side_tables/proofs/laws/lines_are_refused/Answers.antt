use Rattle.side_tables.proofs.LineRefusals.{version_exact, tag_exact, file_exact, rest_exact}
use Rattle.side_tables.proofs.laws.lines_are_refused.Goals as goal

pub returns-clause-version : goal.returns-clause-version
returns-clause-version c = version_exact

pub returns-clause-item_tag : goal.returns-clause-item_tag
returns-clause-item_tag c = tag_exact

pub returns-clause-file_index : goal.returns-clause-file_index
returns-clause-file_index c = file_exact

pub returns-clause-rest : goal.returns-clause-rest
returns-clause-rest c = rest_exact
