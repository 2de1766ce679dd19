use Rattle.std.proofs.Common.{◌≡◌, ◌++◌, ◌∙◌, ℕ, List, ap}
use Rattle.std.proofs.lemmas.Result.{err_from_is_err_and}
use Rattle.std.specs.Prelude.{codes}
use Rattle.bk_base.specs.Place.{end_of}
use Rattle.listing_out.proofs.Read.{line_read, line_refused, put_behind}
use Rattle.listing_out.proofs.reading.put_instruction.Goals as goal

pub returns-clause-line : goal.returns-clause-line
returns-clause-line c =
    let row = c.args.row.now in
    let front : c.extend-2.new.self.items ≡ c.args.out.now.items ++ (codes "  " ++ row.name.now) =
    put_behind c.args.out.now.items (codes "  ") row.name.now c.extend.new.self.items c.extend-2.new.self.items c.in_ok-extend.ensures.ok (c.in_ok-extend-2.ensures.ok ∙ ap (λ (t : List ℕ). c.extend.new.self.items ++ t) c.as_bytes.ensures.value) in
    let comment = c.in_ok-extend-3.ensures.ok ∙ ap (λ (t : List ℕ). c.put_operands.new.out.items ++ t) c.as_slice.ensures in
    line_read c.args.names.now (end_of c.args.cur.now) row c.args.cur.now.rest c.put_operands.new.cur.rest c.args.out.now.items c.extend-2.new.self.items c.put_operands.new.out.items c.in_ok-comment.comment.items c.push.new.self.items
    c.requires front c.in_ok-comment.ensures.put (c.in_ok-push.ensures.ok ∙ ap (λ (t : List ℕ). t ++ codes "\n") comment)

pub returns-in_err-comment-clause-line : goal.returns-in_err-comment-clause-line
returns-in_err-comment-clause-line c =
    let p = err_from_is_err_and c.from_residual-in_err-comment.result c.from_residual-in_err-comment.ensures.1 in
    rw (p.1, p.2)
    (line_refused c.args.names.now (end_of c.args.cur.now) c.args.row.now c.args.cur.now.rest c.args.out.now.items c.extend-2.new.self.items c.in_err-comment.field-0.0 c.requires c.in_err-comment.ensures.put)
