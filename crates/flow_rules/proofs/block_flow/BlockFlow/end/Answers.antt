use Rattle.std.proofs.Common.{◌∙◌, ◌+◌, length, arith}
use Rattle.label_fixpoint.specs.Heads.{heads_by}
use Rattle.flow_rules.specs.Blocks.{marks_in}
use Rattle.flow_rules.specs.Starts.{begins}
use Rattle.flow_rules.proofs.Walked.{end_found, end_past, few_blocks}
use Rattle.flow_rules.proofs.block_flow.BlockFlow.end.Goals as goal

pub overflow_add-block : goal.overflow_add-block
overflow_add-block c = let few = few_blocks c.args.self.now.flow.now c.args.block c.requires in omega (arith, few)

pub returns-in-Some : goal.returns-in-Some
returns-in-Some c =
    let f = c.args.self.now.flow.now in
    end_found c.args.self.now.heads (heads_by (begins (marks_in f)) (length f.plans)) (c.args.block + 1) (length f.plans) c.in-Some.next.now c.args.self.now.heads_are c.in-Some.ensures

pub returns-in-None : goal.returns-in-None
returns-in-None c =
    let f = c.args.self.now.flow.now in
    c.places.ensures ∙ end_past c.args.self.now.heads (heads_by (begins (marks_in f)) (length f.plans)) (c.args.block + 1) (length f.plans) c.args.self.now.heads_are c.in-None.ensures
