use Rattle.std.proofs.Common.{◌+◌, ◌≤◌, length, take, slice_get}
use Rattle.validator.specs.Counted.{least_of, most_of, summed}
use Rattle.validator.proofs.Covered.{Covers}
use Rattle.validator.proofs.validating.validate.Given as goal

abbrev pub invariant-functions : goal.invariant-functions
invariant-functions g l = record {
  within : l.i ≤ length l.m.code.functions;
  covers : Covers l.m 0 (take l.i l.m.code.functions) l.report;
  at_most : l.steps ≤ l.fn.steps + summed (λ number. most_of l.m number (slice_get l.m.code.functions number)) l.i;
  at_least : l.fn.steps + summed (λ number. least_of l.m number (slice_get l.m.code.functions number)) l.i ≤ l.steps;
}
