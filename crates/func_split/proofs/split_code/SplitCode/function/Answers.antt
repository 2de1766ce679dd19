use Rattle.std.proofs.Common.{◌≡◌, ◌↔◌, ℕ, ◌<◌, List, Some, length, slice_get, ◌+◌, ◌-◌, ◌≤◌, drop, take, arith, sym, ap, ◌∙◌, subst}
use Rattle.std.specs.BTreeMap.{get}
use Rattle.std.specs.Ordering.{nat_cmp}
use Rattle.std.proofs.lemmas.Option.{slice_get_past}
use Rattle.op_table.specs.Instruction.{Instruction}
use Rattle.func_split.specs.Functions.{IsSplit, Piece, SplitValue}
use Rattle.func_split.specs.Marks.{marks_of, IsLabelAt}
use Rattle.func_split.proofs.Methods.{cut, cut_read, splits}
use Rattle.func_split.proofs.Standing.{length-pieces_of, stands_in}
use Rattle.func_split.proofs.split_code.SplitCode.function.Goals as goal

pub returns-in_err-extent-clause-same : goal.returns-in_err-extent-clause-same
returns-in_err-extent-clause-same c =
    let inside = c.self.inside in
    let past : length inside.extents.items ≤ c.args.i = omega (arith, c.in_err-extent.ensures.lookup.3, ap length c.deref.ensures.value) in
    c.from_residual.ensures
    ∙ sym (ap (λ (s : SplitValue). slice_get s.functions c.args.i) (sym c.self.view_is) ∙ slice_get_past _ c.args.i (omega (arith, past, length-pieces_of inside.instrs inside.extents.items)))

pub overflow_add-result : goal.overflow_add-result
overflow_add-result c =
    let inside = c.self.inside in
    let found = c.in_ok-extent.ensures.lookup in
    let is = cut_read c.splitting_is_exact.ensures.accepted inside.labels inside.instrs inside.extents.items inside.places c.self.invariant c.deref.result.now c.as_slice.result.now c.args.i c.in_ok-extent.extent.now c.end_before-end.result c.deref.ensures.value found.3.0 found.1 c.as_slice.ensures.value c.end_before-end.ensures in
    omega (arith, is.placed.info_end, c.end_before-end.type_inv)

pub overflow_sub-result : goal.overflow_sub-result
overflow_sub-result c =
    let inside = c.self.inside in
    let found = c.in_ok-extent.ensures.lookup in
    let is = cut_read c.splitting_is_exact.ensures.accepted inside.labels inside.instrs inside.extents.items inside.places c.self.invariant c.deref.result.now c.as_slice.result.now c.args.i c.in_ok-extent.extent.now c.end_before-end.result c.deref.ensures.value found.3.0 found.1 c.as_slice.ensures.value c.end_before-end.ensures in
    omega (arith, is.placed.first_info)

pub part-requires : goal.part-requires
part-requires c =
    let inside = c.self.inside in
    let found = c.in_ok-extent.ensures.lookup in
    let is = cut_read c.splitting_is_exact.ensures.accepted inside.labels inside.instrs inside.extents.items inside.places c.self.invariant c.deref.result.now c.as_slice.result.now c.args.i c.in_ok-extent.extent.now c.end_before-end.result c.deref.ensures.value found.3.0 found.1 c.as_slice.ensures.value c.end_before-end.ensures in
    (omega (arith, is.placed.first_end), omega (arith, is.placed.end_code, ap length c.as_slice-2.ensures))

pub invariant_of-result : goal.invariant_of-result
invariant_of-result c =
    let inside = c.self.inside in
    let found = c.in_ok-extent.ensures.lookup in
    let is = cut_read c.splitting_is_exact.ensures.accepted inside.labels inside.instrs inside.extents.items inside.places c.self.invariant c.deref.result.now c.as_slice.result.now c.args.i c.in_ok-extent.extent.now c.end_before-end.result c.deref.ensures.value found.3.0 found.1 c.as_slice.ensures.value c.end_before-end.ensures in
    let e = c.in_ok-extent.extent.now in
    let end = c.end_before-end.result in
    let instrs : c.part.result.now ≡ (cut inside.instrs e end).instrs = c.part.ensures ∙ ap (λ (t : List Instruction). take (end - e.first) (drop e.first t)) c.as_slice-2.ensures in
    subst (λ (t : List Instruction). (label place : ℕ) → place < length t → (get nat_cmp inside.places label ≡ Some (e.first + place)) ↔ IsLabelAt (marks_of t) place label) (sym instrs) is.labels

pub returns-clause-same : goal.returns-clause-same
returns-clause-same c =
    let inside = c.self.inside in
    let found = c.in_ok-extent.ensures.lookup in
    let is = cut_read c.splitting_is_exact.ensures.accepted inside.labels inside.instrs inside.extents.items inside.places c.self.invariant c.deref.result.now c.as_slice.result.now c.args.i c.in_ok-extent.extent.now c.end_before-end.result c.deref.ensures.value found.3.0 found.1 c.as_slice.ensures.value c.end_before-end.ensures in
    let e = c.in_ok-extent.extent.now in
    let end = c.end_before-end.result in
    let instrs : c.part.result.now ≡ (cut inside.instrs e end).instrs = c.part.ensures ∙ ap (λ (t : List Instruction). take (end - e.first) (drop e.first t)) c.as_slice-2.ensures in
    ap (λ (t : List Instruction). let f : Piece = record { first = e.first; instrs = t; entry = e.info + 1 - e.first; name = e.name; arity = e.arity } in Some f) instrs
    ∙ is.piece
    ∙ ap (λ (s : SplitValue). slice_get s.functions c.args.i) c.self.view_is

pub returns-clause-stands : goal.returns-clause-stands
returns-clause-stands c =
    let inside = c.self.inside in
    let split = splits c.splitting_is_exact.ensures.accepted inside.labels inside.instrs inside.extents.items inside.places c.self.invariant in
    stands_in _ _ _ (subst (λ (s : SplitValue). IsSplit s.labels s.instrs s.functions) c.self.view_is split) c.args.i _ (sym (returns-clause-same c))
