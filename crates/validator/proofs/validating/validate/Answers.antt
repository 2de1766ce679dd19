use Rattle.std.proofs.Common.{◌+◌, ◌<◌, ◌≤◌, ℕ, List, length, slice_get, subst, arith}
use Rattle.std.proofs.lemmas.List.{take_all}
use Rattle.func_split.specs.Functions.{Piece}
use Rattle.flow_rules.specs.Reporting.{AreReported}
use Rattle.validator.specs.Counted.{least_of, most_of}
use Rattle.validator.proofs.Covered.{covers_step, report_in, summed_most, summed_next}
use Rattle.validator.proofs.validating.validate.Goals as goal

pub functions-preserved : goal.functions-preserved
functions-preserved g c =
    let m = c.args.m.now in
    let i = c.functions.i in
    let inside : i < length m.code.functions = subst (λ (n : ℕ). i < n) c.functions-i-end.ensures.count c.functions-test.true in
    let most = summed_next (λ number. most_of m number (slice_get m.code.functions number)) i in
    let least = summed_next (λ number. least_of m number (slice_get m.code.functions number)) i in
    let before = c.functions.invariant in
    let upper = before.at_most in
    let lower = before.at_least in
    let up = c.in_ok-add_report.ensures.at_most in
    let low = c.in_ok-add_report.ensures.at_least in
    record {
      within = omega (arith, inside);
      covers = covers_step m i c.functions.report c.add_report.new.report inside c.in_ok-add_report.ensures.report before.covers;
      at_most = omega (arith, most, upper, up);
      at_least = omega (arith, least, lower, low);
    }

pub returns-in_err-add_report-clause-at_most : goal.returns-in_err-add_report-clause-at_most
returns-in_err-add_report-clause-at_most g c =
    let m = c.args.m.now in
    let i = c.functions.i in
    let inside : i < length m.code.functions = subst (λ (n : ℕ). i < n) c.functions-i-end.ensures.count c.functions-test.true in
    let most = summed_next (λ number. most_of m number (slice_get m.code.functions number)) i in
    let all = summed_most (λ number. most_of m number (slice_get m.code.functions number)) (i + 1) (length m.code.functions) (omega (arith, inside)) in
    let upper = c.functions.invariant.at_most in
    let up = c.in_err-add_report.ensures.at_most in
    omega (arith, most, all, upper, up)

pub returns-clause-named : goal.returns-clause-named
returns-clause-named g c =
    let m = c.args.m.now in
    let outside : length m.code.functions ≤ c.functions.i = subst (λ (n : ℕ). n ≤ c.functions.i) c.functions-i-end.ensures.count c.functions-test.false in
    report_in m c.functions.report (subst (λ (functions : List Piece). AreReported m 0 functions c.functions.report) (take_all c.functions.i m.code.functions outside) c.functions.invariant.covers.reported)

pub returns-clause-at_most : goal.returns-clause-at_most
returns-clause-at_most g c =
    let m = c.args.m.now in
    let within = c.functions.invariant.within in
    let all = summed_most (λ number. most_of m number (slice_get m.code.functions number)) c.functions.i (length m.code.functions) within in
    let upper = c.functions.invariant.at_most in
    omega (arith, all, upper)

pub returns-clause-at_least : goal.returns-clause-at_least
returns-clause-at_least g c =
    let m = c.args.m.now in
    let outside : length m.code.functions ≤ c.functions.i = subst (λ (n : ℕ). n ≤ c.functions.i) c.functions-i-end.ensures.count c.functions-test.false in
    let all = summed_most (λ number. least_of m number (slice_get m.code.functions number)) (length m.code.functions) c.functions.i outside in
    let lower = c.functions.invariant.at_least in
    omega (arith, all, lower)
