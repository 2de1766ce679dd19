use Rattle.std.proofs.Common.{◌≡◌, drop}
use Rattle.beam_module.specs.Canonical.{code_in}
use Rattle.beam_module.proofs.writing.code_of.Given as goal

abbrev pub invariant-loop-value : goal.invariant-loop-value
invariant-loop-value l = code_in (drop l.value-index l.value-items) ≡ code_in l.value-items
