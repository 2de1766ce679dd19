use Rattle.std.proofs.Common.{◌≡◌, ℕ, ◌+◌, ◌∙◌, Bool, false, ◌++◌, ap, sym, take, arith}
use Rattle.compact_term.specs.declared.operand.Operand.{Operand}
use Rattle.listing_out.specs.Comments.{is_import_place, items_from, operand_items}
use Rattle.listing_out.proofs.Items.{items_more, operands_more}
use Rattle.listing_out.proofs.comments.put_comment.Goals as goal

pub loop-place-preserved : goal.loop-place-preserved
loop-place-preserved c =
    let names = c.args.names.now in
    let op = c.args.instr.now.op in
    let operands = c.as_slice-operand-items.result.now in
    let i = c.loop-place.place in
    let operand = c.operand-item.result in
    let before = items_from names op 0 (take i operands) in
    let from : i ≡ 0 + i = omega arith in
    let place_is : c.is_import_place-is_import.result ≡ is_import_place op (0 + i) =
    c.is_import_place-is_import.ensures ∙ ap (λ (n : ℕ). is_import_place n i) c.op.ensures.same ∙ ap (is_import_place op) from in
    let more : items_from names op 0 (take (i + 1) operands) ≡ before ++ operand_items names c.is_import_place-is_import.result operand =
    operands_more names op 0 operands i operand c.loop-place-test.true ∙ ap (λ (o : Operand). before ++ operand_items names (is_import_place op (0 + i)) o) (sym c.operand-item.is)
    ∙ ap (λ (b : Bool). before ++ operand_items names b operand) (sym place_is) in
    items_more false before (operand_items names c.is_import_place-is_import.result operand) (items_from names op 0 (take (i + 1) operands)) c.args.out.now.items c.loop-place.out.items c.put_items.new.out.items c.loop-place.any c.in_ok-any.any
    c.loop-place.invariant more c.in_ok-any.ensures.text c.in_ok-any.ensures.any
