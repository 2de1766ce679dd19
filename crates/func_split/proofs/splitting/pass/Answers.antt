use Rattle.std.proofs.Common.{◌≡◌, ◌+◌, ℕ, suc, List, drop, subst, sym, ◌∙◌, arith, inr}
use Rattle.func_split.specs.Marks.{marks_of}
use Rattle.func_split.specs.declared.splitting.Extent.{Extent}
use Rattle.func_split.specs.declared.before.Before.{Before}
use Rattle.func_split.specs.Fronts.{step}
use Rattle.func_split.proofs.Passing.{Passed, passed_more, passed_told, step_is}
use Rattle.func_split.proofs.splitting.pass.Goals as goal

pub returns-in-Some-clause-told : goal.returns-in-Some-clause-told
returns-in-Some-clause-told c =
    let l = c.loop-place in
    let one = step_is c.args.labels c.args.instrs.now l.place l.before l.places l.extents.items c.index-instrs-place.result c.of-mark.result c.fault_at.result c.loop-place-test.true c.index-instrs-place.is c.of-mark.ensures l.invariant c.fault_at.ensures in
    inr
    (passed_told c.args.labels (marks_of c.args.instrs.now) c.of-mark.result (marks_of (drop (l.place + 1) c.args.instrs.now)) l.place l.before l.places l.extents.items c.in-Some.why one.passed
    (sym one.told_is ∙ c.in-Some.is))

pub loop-place-preserved : goal.loop-place-preserved
loop-place-preserved c =
    let l = c.loop-place in
    let one = step_is c.args.labels c.args.instrs.now l.place l.before l.places l.extents.items c.index-instrs-place.result c.of-mark.result c.fault_at.result c.loop-place-test.true c.index-instrs-place.is c.of-mark.ensures l.invariant c.fault_at.ensures in
    let rest = marks_of (drop (l.place + 1) c.args.instrs.now) in
    let code = marks_of c.args.instrs.now in
    let more = passed_more c.args.labels code c.of-mark.result rest l.place l.before l.places c.note_label.new.places l.extents.items one.passed (sym one.told_is ∙ c.in_default.is) c.in_ok-note_label.ensures.ok in
    let next : suc l.place ≡ l.place + 1 = omega arith in
    subst (λ (n : ℕ). Passed c.args.labels code rest n c.after-before.result c.note_label.new.places c.note_function.new.extents.items) next
    (subst (λ (b : Before). Passed c.args.labels code rest (suc l.place) b c.note_label.new.places c.note_function.new.extents.items) (sym c.after-before.ensures)
    (subst (λ (es : List Extent). Passed c.args.labels code rest (suc l.place) (step l.before l.place c.of-mark.result) c.note_label.new.places es) (sym c.in_ok-note_function.ensures.ok) more))
