use Rattle.std.proofs.Common.{◌≡◌, ◌∙◌, ℕ, List, Result, length, subst, ap, arith}
use Rattle.std.proofs.lemmas.Result.{err_from_is_err_and}
use Rattle.bk_base.specs.Place.{end_of}
use Rattle.bk_codec.specs.Reading.{GivesAll}
use Rattle.code_chunk.specs.declared.refusal.CodeRefusal.{CodeRefusal}
use Rattle.code_chunk.specs.declared.refusal.CodeRefusal.TheVariants.{NoMemory}
use Rattle.listing_out.specs.Reading.{instrs_behind}
use Rattle.listing_out.proofs.Read.{code_read, code_refused}
use Rattle.listing_out.proofs.reading.put_code.Goals as goal

pub returns-in_err-head : goal.returns-in_err-head
returns-in_err-head c =
    let p = err_from_is_err_and c.from_residual.result c.from_residual.ensures.1 in
    rw (p.1, p.2) (code_refused c.args.names.now c.args.payload.now c.args.out.now.items c.in_err-head.field-0.0 (rw c.new-cur.ensures.rest at c.in_err-head.ensures.read))

pub returns : goal.returns
returns c =
    let names = c.args.names.now in
    let lengths = ap length c.new-cur.ensures.rest in
    let size : end_of c.read_head.new.cur ≡ length c.args.payload.now = c.in_ok-head.ensures.end ∙ omega arith in
    let whole =
    ap (λ (n : ℕ). instrs_behind names c.put_header.new.out.items n c.read_head.new.cur.rest) size
    ∙ code_read names c.args.payload.now c.read_head.new.cur.rest c.args.out.now.items c.put_header.new.out.items c.in_ok-head.head (rw c.new-cur.ensures.rest at c.in_ok-head.ensures.read) c.in_ok-put_header.ensures in
    subst (λ (r : Result (List ℕ) CodeRefusal). GivesAll NoMemory (λ _. c.put_instructions.new.out.items) c.put_instructions.result r) whole c.put_instructions.ensures
