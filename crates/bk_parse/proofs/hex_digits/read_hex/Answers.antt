use Rattle.std.proofs.Common.{◌≡◌, ◌∙◌, ap, sym, length, min, rules}
use Rattle.std.specs.Result.{result_ok}
use Rattle.hex.specs.Hex.{decode_of}
use Rattle.std.proofs.lemmas.List.{nil_from_length}
use Rattle.std.proofs.lemmas.Result.{err_from_is_err_and}
use Rattle.std.specs.Slice.Iter.{chunks_rest}
use Rattle.bk_parse.proofs.HexRows.{row_put, row_answers, rows_end, no_upper}
use Rattle.bk_parse.proofs.hex_digits.read_hex.Goals as goal

pub loop-row-preserved : goal.loop-row-preserved
loop-row-preserved c =
    let steps = c.in-Some.ensures.steps in (
      search rules,
      tt,
      steps.0 ∙ c.loop-row.invariant.2,
      row_put c.loop-row.out.items c.read_row.new.out.items c.in-Some.row.now (chunks_rest c.next.new.self) (chunks_rest c.loop-row.row-iterator) _ c.in_ok-read_row.ensures steps.1.0 c.loop-row.invariant.3,
    )

pub returns-in_err-read_row : goal.returns-in_err-read_row
returns-in_err-read_row c =
    let steps = c.in-Some.ensures.steps in
    let p = err_from_is_err_and c.from_residual.result c.from_residual.ensures.1 in
    let lower = no_upper c.args.digits.now (sym c.has_upper.ensures ∙ c.if-has_upper.false) in
    let size : length c.in-Some.row.now ≡ min 64 (length (chunks_rest c.loop-row.row-iterator)) = steps.1.1 ∙ ap (λ n. min n (length (chunks_rest c.loop-row.row-iterator))) c.loop-row.invariant.2 in
    rw (p.1, p.2, lower)
    (row_answers c.in_err-read_row.field-0.0 c.loop-row.out.items c.read_row.new.out.items c.in-Some.row.now (chunks_rest c.next.new.self) (chunks_rest c.loop-row.row-iterator) c.args.out.now.items _ _
    c.in_err-read_row.ensures steps.1.0 size c.loop-row.invariant.3)

pub returns : goal.returns
returns c =
    let none = nil_from_length _ c.in-None.ensures.steps.1.0 in
    let lower = no_upper c.args.digits.now (sym c.has_upper.ensures ∙ c.if-has_upper.false) in
    rw lower (rows_end c.loop-row.out.items c.args.out.now.items (result_ok (decode_of c.args.digits.now)) (rw none at c.loop-row.invariant.3))
