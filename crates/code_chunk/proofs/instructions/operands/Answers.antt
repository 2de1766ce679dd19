use Rattle.std.proofs.Common.{◌≡◌, ◌∙◌, subst, ℕ, Ok}
use Rattle.std.proofs.lemmas.Result.{err_from_is_err_and}
use Rattle.bk_codec.specs.Reading.{many_at, Fails}
use Rattle.bk_codec.proofs.Loop.{goes_on, ends, is_done}
use Rattle.code_chunk.specs.declared.refusal.CodeRefusal.TheVariants.{NoMemory}
use Rattle.bk_base.specs.Place.{end_of}
use Rattle.code_chunk.specs.Reading.{operand_in}
use Rattle.code_chunk.proofs.instructions.operands.Goals as goal

pub returns-in_err-operand-clause-read : goal.returns-in_err-operand-clause-read
returns-in_err-operand-clause-read c =
    let p = err_from_is_err_and c.from_residual-in_err-operand.result c.from_residual-in_err-operand.ensures.1 in
    let one = operand_in (end_of c.args.cur.now) in
    let refused : Fails NoMemory c.in_err-operand.field-0.0 (one c.loop.cur.rest) =
    subst (λ (size : ℕ). Fails NoMemory c.in_err-operand.field-0.0 (operand_in size c.loop.cur.rest)) c.loop.invariant.same c.in_err-operand.ensures.read in
    rw (p.1, p.2) (ends NoMemory one c.loop.list c.args.arity c.loop.counter c.loop.cur.rest c.in_err-operand.field-0.0 (many_at one c.args.arity c.args.cur.now.rest) c.loop-test.true refused c.loop.invariant.read)

pub returns-in_err-operand-clause-end : goal.returns-in_err-operand-clause-end
returns-in_err-operand-clause-end c = c.in_err-operand.ensures.end ∙ c.loop.invariant.same

pub loop-preserved : goal.loop-preserved
loop-preserved c =
    let one = operand_in (end_of c.args.cur.now) in
    let read : one c.loop.cur.rest ≡ Ok (c.in_ok-operand.operand, c.next_operand.new.cur.rest) =
    subst (λ (size : ℕ). operand_in size c.loop.cur.rest ≡ Ok (c.in_ok-operand.operand, c.next_operand.new.cur.rest)) c.loop.invariant.same c.in_ok-operand.ensures.read in
    record {
      read =
          rw c.in_ok-push.ensures.ok
          (goes_on one c.loop.list c.args.arity c.loop.counter c.loop.cur.rest c.next_operand.new.cur.rest c.in_ok-operand.operand (many_at one c.args.arity c.args.cur.now.rest) c.loop-test.true read c.loop.invariant.read);
      same = c.in_ok-operand.ensures.end ∙ c.loop.invariant.same;
    }

pub returns-clause-read : goal.returns-clause-read
returns-clause-read c =
    let one = operand_in (end_of c.args.cur.now) in
    is_done one c.loop.list c.args.arity c.loop.counter c.loop.cur.rest (many_at one c.args.arity c.args.cur.now.rest) c.loop-test.false c.loop.invariant.read
