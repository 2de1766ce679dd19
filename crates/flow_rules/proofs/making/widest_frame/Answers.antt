use Rattle.std.proofs.Common.{◌≡◌, ◌∙◌, ap}
use Rattle.flow_rules.specs.Making.{widened_by, y_bound}
use Rattle.flow_rules.proofs.Widest.{next_frames}
use Rattle.flow_rules.proofs.making.widest_frame.Goals as goal

pub plans-preserved : goal.plans-preserved
plans-preserved c =
    let p = c.plan-item.result in
    let before : c.widened_by-widest.result ≡ widened_by c.plans.widest p.before = c.widened_by-widest.ensures ∙ ap (widened_by c.plans.widest) c.as_slice.ensures in
    let after : c.widened_by-widest-in-plans.result ≡ widened_by c.widened_by-widest.result p.after = c.widened_by-widest-in-plans.ensures ∙ ap (widened_by c.widened_by-widest.result) c.as_slice-in-plans.ensures in
    next_frames (y_bound c.args.plans.now) c.plans.widest _ _ c.args.plans.now c.plans.plan-index p c.plans.invariant c.plans-test.true c.plan-item.is before after
