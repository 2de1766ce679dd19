use Rattle.std.proofs.Common.{rules, ◌≡◌, ◌∙◌, subst, ℕ, Ok}
use Rattle.std.proofs.lemmas.Result.{err_from_is_err_and}
use Rattle.bk_codec.specs.Reading.{many_at, Fails}
use Rattle.bk_codec.proofs.Loop.{goes_on, ends}
use Rattle.ext_term.specs.declared.refusal.TermRefusal.TheVariants.{NoMemory}
use Rattle.bk_base.specs.Place.{end_of}
use Rattle.ext_term.specs.Reading.{pair_at, term_at}
use Rattle.ext_term.proofs.Levels.{term_at-is}
use Rattle.ext_term.proofs.reading.+reading.Goals as goal

pub pairs-returns-in_err-p-clause-read : goal.pairs-returns-in_err-p-clause-read
pairs-returns-in_err-p-clause-read t c =
    let p = err_from_is_err_and c.from_residual.result c.from_residual.ensures.1 in
    let one = pair_at (term_at (end_of c.args.cur.now) c.args.levels) in
    let refused : Fails NoMemory c.in_err-p.field-0.0 (one c.loop.cur.rest) =
    subst (λ (end : ℕ). Fails NoMemory c.in_err-p.field-0.0 (pair_at (term_at end c.args.levels) c.loop.cur.rest)) c.loop.invariant.same c.in_err-p.ensures.read in
    rw (p.1, p.2) (ends NoMemory one c.loop.pairs.items c.args.count c.loop.counter c.loop.cur.rest c.in_err-p.field-0.0 (many_at one c.args.count c.args.cur.now.rest) c.loop-test.true refused c.loop.invariant.read)

pub pairs-loop-preserved : goal.pairs-loop-preserved
pairs-loop-preserved t c =
    let one = pair_at (term_at (end_of c.args.cur.now) c.args.levels) in
    let read : one c.loop.cur.rest ≡ Ok (c.in_ok-p.p, c.pair.new.cur.rest) =
    subst (λ (end : ℕ). pair_at (term_at end c.args.levels) c.loop.cur.rest ≡ Ok (c.in_ok-p.p, c.pair.new.cur.rest)) c.loop.invariant.same c.in_ok-p.ensures.read in
    record {
      read = rw c.in_ok-push.ensures.items (goes_on one c.loop.pairs.items c.args.count c.loop.counter c.loop.cur.rest c.pair.new.cur.rest c.in_ok-p.p (many_at one c.args.count c.args.cur.now.rest) c.loop-test.true read c.loop.invariant.read);
      same = c.in_ok-p.ensures.end ∙ c.loop.invariant.same;
    }

pub terms-returns-in_err-t-clause-read : goal.terms-returns-in_err-t-clause-read
terms-returns-in_err-t-clause-read t c =
    let p = err_from_is_err_and c.from_residual.result c.from_residual.ensures.1 in
    let one = term_at (end_of c.args.cur.now) c.args.levels in
    let refused : Fails NoMemory c.in_err-t.field-0.0 (one c.loop.cur.rest) =
    subst (λ (end : ℕ). Fails NoMemory c.in_err-t.field-0.0 (term_at end c.args.levels c.loop.cur.rest)) c.loop.invariant.same c.in_err-t.ensures.read in
    rw (p.1, p.2) (ends NoMemory one c.loop.items.items c.args.count c.loop.counter c.loop.cur.rest c.in_err-t.field-0.0 (many_at one c.args.count c.args.cur.now.rest) c.loop-test.true refused c.loop.invariant.read)

pub terms-loop-preserved : goal.terms-loop-preserved
terms-loop-preserved t c =
    let one = term_at (end_of c.args.cur.now) c.args.levels in
    let read : one c.loop.cur.rest ≡ Ok (c.in_ok-t.t, c.term.new.cur.rest) =
    subst (λ (end : ℕ). term_at end c.args.levels c.loop.cur.rest ≡ Ok (c.in_ok-t.t, c.term.new.cur.rest)) c.loop.invariant.same c.in_ok-t.ensures.read in
    record {
      read = rw c.in_ok-push.ensures.items (goes_on one c.loop.items.items c.args.count c.loop.counter c.loop.cur.rest c.term.new.cur.rest c.in_ok-t.t (many_at one c.args.count c.args.cur.now.rest) c.loop-test.true read c.loop.invariant.read);
      same = c.in_ok-t.ensures.end ∙ c.loop.invariant.same;
    }

pub term-returns-in_err-tag-clause-read : goal.term-returns-in_err-tag-clause-read
term-returns-in_err-tag-clause-read t c = rw (term_at-is (end_of c.args.cur.now) c.args.levels c.args.cur.now.rest) (search rules)

pub term-returns-clause-read : goal.term-returns-clause-read
term-returns-clause-read t c = rw (term_at-is (end_of c.args.cur.now) c.args.levels c.args.cur.now.rest) (search rules)
