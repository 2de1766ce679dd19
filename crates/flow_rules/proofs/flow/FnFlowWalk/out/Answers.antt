use Rattle.std.proofs.lemmas.Result.{IfOk-weaker, on_err_weaker}
use Rattle.flow_rules.specs.FlowBody.{body_of}
use Rattle.flow_rules.specs.Appended.{appends_from, appends_part_from}
use Rattle.flow_rules.proofs.flow.FnFlowWalk.out.Goals as goal

pub returns-clause-ok : goal.returns-clause-ok
returns-clause-ok g c =
    let f = c.args.self.now in
    IfOk-weaker c.follow.result _ _ (λ done gains. appends_from (body_of f) f.fits c.args.place c.args.s.now c.requires.fit c.args.edges.now c.follow.new.edges gains) c.follow.ensures.ok

pub returns-clause-err : goal.returns-clause-err
returns-clause-err g c =
    let f = c.args.self.now in
    on_err_weaker c.follow.result (λ gains. appends_part_from (body_of f) f.fits c.args.place c.args.s.now c.requires.fit c.args.edges.now c.follow.new.edges gains) c.follow.ensures.err
