use Rattle.std.proofs.Common.{◌≡◌, ◌++◌}
use Rattle.reg_state.specs.States.{store_of}
use Rattle.label_fixpoint.specs.Cut.{read}
use Rattle.label_fixpoint.specs.Typing.{typing_of}
use Rattle.flow_rules.specs.Blocks.{block_faults}
use Rattle.validator.proofs.validating.add_blocks.Given as goal

abbrev pub invariant-each : goal.invariant-each
invariant-each l = l.report ≡ l.fn.report ++ read (typing_of l.states) (λ block s. block_faults l.blocks.flow.now block (store_of s)) l.block
