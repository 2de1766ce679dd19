use Rattle.std.proofs.Common.{◌≡◌, ◌∙◌, ◌+◌, ◌-◌, ◌<◌, Bool, if◌then◌else◌, Some, None, List, ℕ, length, refl, sym, ap, subst, arith}
use Rattle.std.proofs.lemmas.Result.{on_ok_weaker}
use Rattle.reg_state.specs.States.{Known, store_of}
use Rattle.label_fixpoint.specs.declared.edge.Edge.{Edge}
use Rattle.label_fixpoint.specs.Cut.{gathered}
use Rattle.label_fixpoint.specs.Heads.{head_at}
use Rattle.flow_rules.specs.Blocks.{known_cut, marks_in, numbered}
use Rattle.flow_rules.specs.FlowBody.{body_of}
use Rattle.flow_rules.specs.Gaining.{Gains, GainsPart}
use Rattle.flow_rules.specs.Gathering.{Gains-none}
use Rattle.flow_rules.specs.KnownEdges.{goes_at, jumps_at}
use Rattle.flow_rules.specs.Starts.{begins}
use Rattle.flow_rules.proofs.Added.{on_err}
use Rattle.flow_rules.proofs.Walked.{Reaches, block_end, block_rises, few_blocks, reaches_first, reaches_next, read_none, walk_ends, walk_next, walk_part, walk_stops}
use Rattle.flow_rules.proofs.block_flow.BlockFlow.walk.Goals as goal

pub overflow_add-block : goal.overflow_add-block
overflow_add-block c = let few = few_blocks c.args.self.now.flow.now c.args.block c.requires in omega (arith, few)

pub loop-place-init : goal.loop-place-init
loop-place-init c =
    let f = c.args.self.now.flow.now in
    let b = body_of f in
    let s = store_of c.args.first in
    let head = head_at (begins (marks_in f)) (length f.plans) c.args.block in
    let rises = block_rises f c.args.block c.requires in
    let from = c.head-place.ensures in
    let to = c.end-end.ensures in
    let none = read_none (goes_at b) head s (known_cut b (marks_in f)).jumps c.head-place.result from in
    record {
      high = omega (arith, rises, from, to);
      reached = reaches_first (goes_at b) head s c.head-place.result from;
      gained = subst (λ (wanted : List (Edge Known)). Gains c.args.edges.now wanted c.args.edges.now) (sym none) (Gains-none c.args.edges.now);
    }

pub step-requires : goal.step-requires
step-requires c =
    let most = block_end c.args.self.now.flow.now c.args.block c.requires in
    let to = c.end-end.ensures in
    let inside = c.loop-place-test.true in
    omega (arith, most, to, inside)

pub returns-in_err-step-clause-err : goal.returns-in_err-step-clause-err
returns-in_err-step-clause-err c =
    let f = c.args.self.now.flow.now in
    let b = body_of f in
    let ms = marks_in f in
    let head = head_at (begins ms) (length f.plans) c.args.block in
    let end = head_at (begins ms) (length f.plans) (c.args.block + 1) in
    let t = store_of c.loop-place.state in
    let to = c.end-end.ensures in
    let test = c.loop-place-test.true in
    let inside : c.loop-place.place < end = omega (arith, to, test) in
    let numbers = c.as_slice-numbers.ensures ∙ c.args.self.now.numbers_are in
    let put = subst (λ (ns : List ℕ). GainsPart c.loop-place.edges (jumps_at (numbered ns b) c.loop-place.place t) c.step.new.edges) numbers c.in_err-step.ensures.err in
    on_err c.from_residual.result
    (walk_part (goes_at b) (known_cut b ms).jumps head end (c.args.block + 1) (store_of c.args.first) (block_rises f c.args.block c.requires) c.args.edges.now c.loop-place.place t c.loop-place.edges c.step.new.edges
    c.loop-place.invariant.reached inside c.loop-place.invariant.gained put)

pub returns-then-not-branch-clause-ok : goal.returns-then-not-branch-clause-ok
returns-then-not-branch-clause-ok c =
    let f = c.args.self.now.flow.now in
    let b = body_of f in
    let ms = marks_in f in
    let head = head_at (begins ms) (length f.plans) c.args.block in
    let end = head_at (begins ms) (length f.plans) (c.args.block + 1) in
    let t = store_of c.loop-place.state in
    let to = c.end-end.ensures in
    let test = c.loop-place-test.true in
    let inside : c.loop-place.place < end = omega (arith, to, test) in
    let numbers = c.as_slice-numbers.ensures ∙ c.args.self.now.numbers_are in
    let put = subst (λ (ns : List ℕ). Gains c.loop-place.edges (jumps_at (numbered ns b) c.loop-place.place t) c.step.new.edges) numbers c.in_ok-step.ensures.ok in
    let none = c.in_ok-step.ensures.on ∙ ap (λ (on : Bool). if on then Some (store_of c.step.new.s) else None) c.if-not-branch.true in
    walk_stops (goes_at b) (known_cut b ms).jumps head end (c.args.block + 1) (store_of c.args.first) (block_rises f c.args.block c.requires) c.args.edges.now c.loop-place.place t c.loop-place.edges c.step.new.edges
    c.loop-place.invariant.reached inside none c.loop-place.invariant.gained put

pub loop-place-preserved : goal.loop-place-preserved
loop-place-preserved c =
    let f = c.args.self.now.flow.now in
    let b = body_of f in
    let ms = marks_in f in
    let s = store_of c.args.first in
    let head = head_at (begins ms) (length f.plans) c.args.block in
    let end = head_at (begins ms) (length f.plans) (c.args.block + 1) in
    let t = store_of c.loop-place.state in
    let u = store_of c.step.new.s in
    let test = c.loop-place-test.true in
    let numbers = c.as_slice-numbers.ensures ∙ c.args.self.now.numbers_are in
    let put = subst (λ (ns : List ℕ). Gains c.loop-place.edges (jumps_at (numbered ns b) c.loop-place.place t) c.step.new.edges) numbers c.in_ok-step.ensures.ok in
    let on = c.in_ok-step.ensures.on ∙ ap (λ (on : Bool). if on then Some u else None) c.if-not-branch.false in
    record {
      high = omega (arith, test);
      reached = reaches_next (goes_at b) head s c.loop-place.place t u c.loop-place.invariant.reached on;
      gained = walk_next (goes_at b) (known_cut b ms).jumps head end (c.args.block + 1) s (block_rises f c.args.block c.requires) c.args.edges.now c.loop-place.place t c.loop-place.edges c.step.new.edges
          c.loop-place.invariant.reached c.loop-place.invariant.gained put;
    }

pub returns-clause-ok : goal.returns-clause-ok
returns-clause-ok c =
    let f = c.args.self.now.flow.now in
    let b = body_of f in
    let ms = marks_in f in
    let s = store_of c.args.first in
    let head = head_at (begins ms) (length f.plans) c.args.block in
    let end = head_at (begins ms) (length f.plans) (c.args.block + 1) in
    let t = store_of c.loop-place.state in
    let to = c.end-end.ensures in
    let test = c.loop-place-test.false in
    let high = c.loop-place.invariant.high in
    let at : c.loop-place.place ≡ end = omega (arith, to, test, high) in
    let so = subst (λ (q : ℕ). Reaches (goes_at b) head q s t) at c.loop-place.invariant.reached in
    let gained = subst (λ (q : ℕ). Gains c.args.edges.now (gathered (goes_at b) (known_cut b ms).jumps head (q - head) s) c.loop-place.edges) at c.loop-place.invariant.gained in
    on_ok_weaker c.push.result
    (λ pushed. walk_ends (goes_at b) (known_cut b ms).jumps head end (c.args.block + 1) s (block_rises f c.args.block c.requires) c.args.edges.now t so c.loop-place.edges gained c.loop-place.state c.push.new.self refl pushed)
    c.push.ensures.ok
