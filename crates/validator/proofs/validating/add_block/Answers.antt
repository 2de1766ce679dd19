use Rattle.std.proofs.Common.{◌≡◌, ◌∙◌, ◌++◌, Some, None, Option, slice_get, unwrap_or, sym, ap, arith}
use Rattle.std.proofs.lemmas.List.{append-nil}
use Rattle.std.proofs.lemmas.Grind.{common_steps}
use Rattle.std.proofs.lemmas.Option.{get_or_from_slice_get, gets, unwrap_or-slice_get}
use Rattle.reg_state.specs.declared.state.State.{State}
use Rattle.reg_state.specs.States.{store_of}
use Rattle.label_fixpoint.specs.Cut.{at_state}
use Rattle.label_fixpoint.specs.Typing.{typing_of}
use Rattle.flow_rules.specs.Blocks.{block_faults}
use Rattle.validator.proofs.Covered.{on_ok}
use Rattle.validator.proofs.validating.add_block.Goals as goal

pub returns-in-Some-Some : goal.returns-in-Some-Some
returns-in-Some-Some c =
    let f = c.args.blocks.now.flow.now in
    let state = c.in-Some-Some.state in
    let held : slice_get c.args.states.now c.args.block ≡ Some (Some state) = sym c.in-Some-Some.ensures ∙ ap Some c.in-Some-Some.field-0-is in
    let is : typing_of c.args.states.now c.args.block ≡ Some state = get_or_from_slice_get c.args.states.now c.args.block (Some state) None held in
    let fit = c.requires.least.consistent.fits c.args.block state c.requires.inside is in
    on_ok c.faults.result (λ added. added ∙ ap (λ (o : Option State). c.args.report.now ++ at_state (λ s. block_faults f c.args.block (store_of s)) o) (sym is)) (c.faults.ensures.ok fit)

pub returns-in-Some-None-2 : goal.returns-in-Some-None-2
returns-in-Some-None-2 c =
    let f = c.args.blocks.now.flow.now in
    let states = c.args.states.now in
    let is : typing_of states c.args.block ≡ None = sym (unwrap_or-slice_get states c.args.block None) ∙ ap (λ (o : Option (Option State)). unwrap_or o None) (sym c.in-Some-None.ensures) in
    sym (append-nil c.args.report.now) ∙ ap (λ (o : Option State). c.args.report.now ++ at_state (λ s. block_faults f c.args.block (store_of s)) o) (sym is)

pub returns-in-Some-None : goal.returns-in-Some-None
returns-in-Some-None c =
    let f = c.args.blocks.now.flow.now in
    let put = λ (o : Option State). c.args.report.now ++ at_state (λ s. block_faults f c.args.block (store_of s)) o in
    let is : typing_of c.args.states.now c.args.block ≡ None = grind (arith, common_steps, gets, c.in-Some-None.ensures, c.get.ensures) in
    sym (append-nil c.args.report.now) ∙ ap put (sym is)
