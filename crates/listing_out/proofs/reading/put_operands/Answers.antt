use Rattle.std.proofs.Common.{◌≡◌, ◌∙◌, ◌++◌, ℕ, Bool, false, Ok, [], subst}
use Rattle.std.proofs.lemmas.Result.{err_from_is_err_and}
use Rattle.bk_codec.specs.Reading.{many_at, Fails}
use Rattle.bk_base.specs.Place.{end_of}
use Rattle.code_chunk.specs.declared.refusal.CodeRefusal.TheVariants.{NoMemory}
use Rattle.code_chunk.specs.Reading.{operand_in}
use Rattle.listing_out.specs.Comments.{any_behind, items_text, operand_items}
use Rattle.listing_out.specs.Reading.{operands_behind}
use Rattle.listing_out.proofs.Read.{one_more, one_refused, all_read, place_is}
use Rattle.listing_out.proofs.reading.put_operands.Goals as goal

pub loop-place-preserved : goal.loop-place-preserved
loop-place-preserved c =
    let names = c.args.names.now in
    let row = c.args.row.now in
    let one = operand_in (end_of c.args.cur.now) in
    let operand = c.in_ok-operand.operand in
    let any = c.loop-place.any in
    let read : one c.loop-place.cur.rest ≡ Ok (operand, c.next_operand.new.cur.rest) =
    subst (λ (size : ℕ). operand_in size c.loop-place.cur.rest ≡ Ok (operand, c.next_operand.new.cur.rest)) c.loop-place.invariant.same c.in_ok-operand.ensures.read in
    let at = place_is row c.loop-place.place c.from.result c.is_import_of-is_import.result c.requires c.from.ensures c.is_import_of-is_import.ensures in
    let items = subst (λ (b : Bool). c.put_both.new.comment.items ≡ c.loop-place.comment.items ++ items_text any (operand_items names b operand)) at c.in_ok-any.ensures.items in
    let some = subst (λ (b : Bool). c.in_ok-any.any ≡ any_behind any (operand_items names b operand)) at c.in_ok-any.ensures.any in
    record {
      put =
          one_more names row.op c.loop-place.place any c.in_ok-any.any c.loop-place.out.items c.loop-place.comment.items c.put_both.new.out.items c.put_both.new.comment.items operand one row.arity c.loop-place.cur.rest c.next_operand.new.cur.rest
          (operands_behind names row.op 0 false c.args.out.now.items [] (many_at one row.arity c.args.cur.now.rest)) c.loop-place-test.true read c.in_ok-any.ensures.operand items some c.loop-place.invariant.put;
      same = c.in_ok-operand.ensures.end ∙ c.loop-place.invariant.same;
    }

pub returns-in_err-operand-clause-put : goal.returns-in_err-operand-clause-put
returns-in_err-operand-clause-put c =
    let p = err_from_is_err_and c.from_residual.result c.from_residual.ensures.1 in
    let row = c.args.row.now in
    let one = operand_in (end_of c.args.cur.now) in
    let refused : Fails NoMemory c.in_err-operand.field-0.0 (one c.loop-place.cur.rest) =
    subst (λ (size : ℕ). Fails NoMemory c.in_err-operand.field-0.0 (operand_in size c.loop-place.cur.rest)) c.loop-place.invariant.same c.in_err-operand.ensures.read in
    rw (p.1, p.2)
    (one_refused c.args.names.now row.op c.loop-place.place c.loop-place.any c.loop-place.out.items c.loop-place.comment.items one row.arity c.loop-place.cur.rest c.in_err-operand.field-0.0
    (operands_behind c.args.names.now row.op 0 false c.args.out.now.items [] (many_at one row.arity c.args.cur.now.rest)) c.loop-place-test.true refused c.loop-place.invariant.put)

pub returns-clause-put : goal.returns-clause-put
returns-clause-put c =
    let row = c.args.row.now in
    let one = operand_in (end_of c.args.cur.now) in
    all_read c.args.names.now row.op c.loop-place.place c.loop-place.any c.loop-place.out.items c.loop-place.comment.items one row.arity c.loop-place.cur.rest
    (operands_behind c.args.names.now row.op 0 false c.args.out.now.items [] (many_at one row.arity c.args.cur.now.rest)) c.loop-place-test.false c.loop-place.invariant.put
