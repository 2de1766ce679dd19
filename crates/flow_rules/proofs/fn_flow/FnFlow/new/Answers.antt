use Rattle.std.proofs.Common.{◌≡◌, ◌∙◌, ◌+◌, ◌<◌, ◌^◌, true, [], length, ℕ, List, Some, refl, sym, ap, subst}
use Rattle.std.specs.List.{AllZip}
use Rattle.std.proofs.lemmas.Slice.Zip.{AllZip-long}
use Rattle.code_faults.specs.Registers.{x_bound}
use Rattle.func_split.specs.Functions.{StandsIn}
use Rattle.flow_rules.specs.AllPlans.{plans_steady}
use Rattle.flow_rules.specs.Body.{body_fits, body_from}
use Rattle.flow_rules.specs.Making.{HasPlan, handlers_of, y_bound}
use Rattle.flow_rules.proofs.Headed.{function_entered}
use Rattle.flow_rules.proofs.Judged.{faults_are, flow_is}
use Rattle.flow_rules.proofs.fn_flow.FnFlow.new.Goals as goal

pub invariant_of-result : goal.invariant_of-result
invariant_of-result c =
    let m = c.args.m.now in
    let f = c.unwrap-function.result in
    let plans = c.in_ok-found.found.plans in
    let there : c.function.result ≡ Some f = c.unwrap-function.ensures in
    let stands : StandsIn m.code.instrs c.args.i f = rw there at c.function.ensures.stands in
    let places : (c.args.i < 2 ^ 32) × (f.first + length f.instrs < 2 ^ 32) = rw there at c.function.ensures.places in
    let none : c.in_ok-found.found.faults ≡ [] = c.if-not-is_empty.ensures.0 refl in
    let have : AllZip (HasPlan m f) f.instrs plans = c.in_ok-found.ensures.plans none in
    let handlers : c.in_ok-handlers.handlers ≡ handlers_of plans = c.in_ok-handlers.ensures ∙ ap handlers_of c.as_slice.ensures in
    record {
      fits = subst (λ (hs : List ℕ). body_fits (body_from f plans hs (x_bound f) (y_bound plans)) ≡ true) (sym handlers) (c.sound_functions_fit.ensures m f plans have stands.entry);
      steady = plans_steady m f f.instrs plans c.plans_are_steady.ensures have;
      low = subst (λ (n : ℕ). n < 4_294_967_296) (c.widest_frame-widest.ensures ∙ ap y_bound c.as_slice-2.ensures) c.widest_frame-widest.type_inv;
      sized = AllZip-long (HasPlan m f) f.instrs plans have;
      entered = function_entered f stands.is;
      short = places.1;
    }

pub returns-clause-flow : goal.returns-clause-flow
returns-clause-flow c =
    let m = c.args.m.now in
    let f = c.unwrap-function.result in
    let plans = c.in_ok-found.found.plans in
    let is = sym c.function.ensures.same ∙ c.unwrap-function.ensures in
    let none : c.in_ok-found.found.faults ≡ [] = c.if-not-is_empty.ensures.0 refl in
    let have : AllZip (HasPlan m f) f.instrs plans = c.in_ok-found.ensures.plans none in
    let handlers : c.in_ok-handlers.handlers ≡ handlers_of plans = c.in_ok-handlers.ensures ∙ ap handlers_of c.as_slice.ensures in
    (faults_are m c.args.i f is ∙ (sym c.in_ok-found.ensures.faults ∙ none), flow_is m c.args.i f plans c.in_ok-handlers.handlers is have handlers)
