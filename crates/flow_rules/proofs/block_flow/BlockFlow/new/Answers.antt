use Rattle.std.proofs.Common.{◌≡◌, ◌∙◌, ◌<◌, Bool, if◌then◌else◌, List, [], ◌∷◌, ◌++◌, length, get_or, sym, ap, subst, arith}
use Rattle.std.proofs.lemmas.List.{append-nil}
use Rattle.op_table.specs.Instruction.{Instruction}
use Rattle.flow_rules.specs.Blocks.{marks_in}
use Rattle.flow_rules.specs.Starts.{begins}
use Rattle.flow_rules.proofs.Walked.{begins_at, heads_next, numbers_next}
use Rattle.flow_rules.proofs.block_flow.BlockFlow.new.Goals as goal
use Rattle.flow_rules.proofs.block_flow.BlockFlow.new.Goals.{then-is_label+in_ok-push-2, else-is_label}

pub instrs-preserved : goal.instrs-preserved
instrs-preserved c =
    let f = c.args.f.now in
    let place = c.instrs.place in
    let heads = c.instrs.heads in
    let instr = c.instr-item.result in
    let below : place < length f.function.instrs = subst (λ (is : List Instruction). place < length is) c.instrs-instr-items.ensures c.instrs-test.true in
    let at = c.instr-item.is ∙ ap (λ (is : List Instruction). get_or is place instr) c.instrs-instr-items.ensures in
    let test : begins (marks_in f) place ≡ c.is_label.result = begins_at f.function.instrs place instr below at ∙ sym c.is_label.ensures in
    let put = λ (b : Bool). heads ++ (if b then place ∷ [] else []) in
    let gained : c.if-is_label.heads ≡ put c.is_label.result = elim c.if-is_label.branch [
      | then-is_label+in_ok-push-2 w ↦ w.heads-is ∙ (w.in_ok-push-2.ensures.ok ∙ ap put (sym w.if-is_label.true))
      | else-is_label w ↦ w.heads-is ∙ (sym (append-nil heads) ∙ ap put (sym w.if-is_label.false))
    ] in
    record {
      within = omega (arith, below);
      heads_so_far = heads_next (begins (marks_in f)) place heads c.if-is_label.heads c.is_label.result c.instrs.invariant.heads_so_far test gained;
      numbers_so_far = numbers_next (begins (marks_in f)) place heads c.instrs.numbers c.push.new.self c.len.result c.instrs.invariant.heads_so_far c.instrs.invariant.numbers_so_far c.len.ensures c.in_ok-push.ensures.ok;
    }
