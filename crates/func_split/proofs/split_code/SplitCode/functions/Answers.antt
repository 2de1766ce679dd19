use Rattle.std.proofs.Common.{◌∙◌, length, sym, ap, subst}
use Rattle.func_split.specs.Functions.{IsSplit, SplitValue}
use Rattle.func_split.proofs.Standing.{length-pieces_of}
use Rattle.func_split.proofs.Methods.{splits}
use Rattle.func_split.proofs.split_code.SplitCode.functions.Goals as goal

pub returns-clause-count : goal.returns-clause-count
returns-clause-count c = ap length c.as_slice.ensures.value ∙ sym (length-pieces_of c.self.inside.instrs c.self.inside.extents.items) ∙ ap (λ (s : SplitValue). length s.functions) c.self.view_is

pub returns-clause-split : goal.returns-clause-split
returns-clause-split c =
    let inside = c.self.inside in
    subst (λ (s : SplitValue). IsSplit s.labels s.instrs s.functions) c.self.view_is (splits c.splitting_is_exact.ensures.accepted inside.labels inside.instrs inside.extents.items inside.places c.self.invariant)
