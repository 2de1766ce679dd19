use Rattle.flow_rules.proofs.Opened.{module_reported}
use Rattle.flow_rules.proofs.report_laws.modules_have_reports.Goals as goal

pub returns : goal.returns
returns c =
    module_reported (record {
      plans = c.sound_instructions_have_plans.ensures;
      fit = c.sound_functions_fit.ensures;
      joins = c.joins_are_least.ensures;
      stand = c.functions_stand_in_their_code.ensures;
    })
