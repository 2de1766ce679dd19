use Rattle.std.proofs.Common.{◌∙◌, ◌+◌, ◌<◌, Bool, if◌then◌else◌, Some, None, length, sym, ap, subst, arith}
use Rattle.reg_state.specs.declared.state.State.{State}
use Rattle.reg_state.specs.States.{store_of}
use Rattle.label_fixpoint.specs.Heads.{head_at}
use Rattle.code_faults.specs.Faults.{faults_at}
use Rattle.flow_rules.specs.Blocks.{marks_in}
use Rattle.flow_rules.specs.FlowBody.{body_of, need_at}
use Rattle.flow_rules.specs.KnownEdges.{goes_at}
use Rattle.flow_rules.specs.Starts.{begins}
use Rattle.flow_rules.proofs.Added.{on_err}
use Rattle.flow_rules.proofs.Walked.{Reaches, adds_last, adds_next, adds_none, adds_nothing, adds_part, block_end, block_rises, reaches_first, reaches_next, state_fits}
use Rattle.flow_rules.proofs.block_flow.BlockFlow.faults.Goals as goal

pub loop-place-init : goal.loop-place-init
loop-place-init c =
    let f = c.args.self.now.flow.now in
    let b = body_of f in
    let s = store_of c.args.s.now in
    let head = head_at (begins (marks_in f)) (length f.plans) c.args.block in
    let end = head_at (begins (marks_in f)) (length f.plans) (c.args.block + 1) in
    let rises = block_rises f c.args.block c.requires in
    let from = c.head-place.ensures in
    let to = c.end-end.ensures in
    record {
      high = omega (arith, rises, from, to);
      reached = subst (λ (d : State). Reaches (goes_at b) head c.head-place.result s (store_of d)) (sym c.in_ok-state.ensures) (reaches_first (goes_at b) head s c.head-place.result from);
      told = λ fit. adds_none (goes_at b) (λ place known. faults_at f.number (f.function.first + place) (need_at b place known)) head end s rises c.args.out.now c.head-place.result from;
    }

pub add_fault-requires : goal.add_fault-requires
add_fault-requires c =
    let most = block_end c.args.self.now.flow.now c.args.block c.requires in
    let to = c.end-end.ensures in
    let inside = c.loop-place-test.true in
    omega (arith, most, to, inside)

pub advance-requires : goal.advance-requires
advance-requires c =
    let most = block_end c.args.self.now.flow.now c.args.block c.requires in
    let to = c.end-end.ensures in
    let inside = c.loop-place-test.true in
    omega (arith, most, to, inside)

pub returns-in_err-add_fault-clause-err : goal.returns-in_err-add_fault-clause-err
returns-in_err-add_fault-clause-err c fit =
    let f = c.args.self.now.flow.now in
    let b = body_of f in
    let head = head_at (begins (marks_in f)) (length f.plans) c.args.block in
    let end = head_at (begins (marks_in f)) (length f.plans) (c.args.block + 1) in
    let to = c.end-end.ensures in
    let test = c.loop-place-test.true in
    let inside : c.loop-place.place < end = omega (arith, to, test) in
    on_err c.from_residual-in_err-add_fault.result
    (adds_nothing (goes_at b) (λ place known. faults_at f.number (f.function.first + place) (need_at b place known)) head end (store_of c.args.s.now) (block_rises f c.args.block c.requires) c.args.out.now c.loop-place.place
    (store_of c.loop-place.state) c.loop-place.out c.add_fault.new.out c.loop-place.invariant.reached (c.loop-place.invariant.told fit) inside c.in_err-add_fault.ensures.err)

pub returns-in_err-advance-clause-err : goal.returns-in_err-advance-clause-err
returns-in_err-advance-clause-err c fit =
    let f = c.args.self.now.flow.now in
    let b = body_of f in
    let head = head_at (begins (marks_in f)) (length f.plans) c.args.block in
    let end = head_at (begins (marks_in f)) (length f.plans) (c.args.block + 1) in
    let to = c.end-end.ensures in
    let test = c.loop-place-test.true in
    let inside : c.loop-place.place < end = omega (arith, to, test) in
    let fit_now = state_fits f head c.loop-place.place c.args.s.now c.loop-place.state c.loop-place.invariant.reached fit in
    on_err c.from_residual-in_err-advance.result
    (adds_part (goes_at b) (λ place known. faults_at f.number (f.function.first + place) (need_at b place known)) head end (store_of c.args.s.now) (block_rises f c.args.block c.requires) c.args.out.now c.loop-place.place
    (store_of c.loop-place.state) c.loop-place.out c.add_fault.new.out c.loop-place.invariant.reached (c.loop-place.invariant.told fit) inside (c.in_ok-add_fault.ensures.ok fit_now))

pub returns-then-not-branch-clause-ok : goal.returns-then-not-branch-clause-ok
returns-then-not-branch-clause-ok c fit =
    let f = c.args.self.now.flow.now in
    let b = body_of f in
    let head = head_at (begins (marks_in f)) (length f.plans) c.args.block in
    let end = head_at (begins (marks_in f)) (length f.plans) (c.args.block + 1) in
    let to = c.end-end.ensures in
    let test = c.loop-place-test.true in
    let inside : c.loop-place.place < end = omega (arith, to, test) in
    let fit_now = state_fits f head c.loop-place.place c.args.s.now c.loop-place.state c.loop-place.invariant.reached fit in
    let none = c.in_ok-advance.ensures ∙ ap (λ (on : Bool). if on then Some (store_of c.advance.new.s) else None) c.if-not-branch.true in
    adds_last (goes_at b) (λ place known. faults_at f.number (f.function.first + place) (need_at b place known)) head end (store_of c.args.s.now) (block_rises f c.args.block c.requires) c.args.out.now c.loop-place.place
    (store_of c.loop-place.state) c.loop-place.out c.add_fault.new.out c.loop-place.invariant.reached (c.loop-place.invariant.told fit) inside none (c.in_ok-add_fault.ensures.ok fit_now)

pub loop-place-preserved : goal.loop-place-preserved
loop-place-preserved c =
    let f = c.args.self.now.flow.now in
    let b = body_of f in
    let s = store_of c.args.s.now in
    let head = head_at (begins (marks_in f)) (length f.plans) c.args.block in
    let end = head_at (begins (marks_in f)) (length f.plans) (c.args.block + 1) in
    let t = store_of c.loop-place.state in
    let u = store_of c.advance.new.s in
    let test = c.loop-place-test.true in
    let on = c.in_ok-advance.ensures ∙ ap (λ (on : Bool). if on then Some u else None) c.if-not-branch.false in
    record {
      high = omega (arith, test);
      reached = reaches_next (goes_at b) head s c.loop-place.place t u c.loop-place.invariant.reached on;
      told = λ fit.
          let fit_now = state_fits f head c.loop-place.place c.args.s.now c.loop-place.state c.loop-place.invariant.reached fit in
          adds_next (goes_at b) (λ place known. faults_at f.number (f.function.first + place) (need_at b place known)) head end s (block_rises f c.args.block c.requires) c.args.out.now c.loop-place.place t c.loop-place.out
          c.add_fault.new.out c.loop-place.invariant.reached (c.loop-place.invariant.told fit) (c.in_ok-add_fault.ensures.ok fit_now);
    }
