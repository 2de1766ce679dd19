use Rattle.std.proofs.Common.{◌≡◌, ◌++◌, ◌∙◌, OnOk, ℕ, List, Some, sym, subst, slice_get}
use Rattle.validator.proofs.Covered.{line_found}
use Rattle.validator.proofs.text.put_fault.Goals as goal

pub returns : goal.returns
returns c =
    let m = c.args.m.now in
    let fault = c.args.fault.now in
    let f = c.unwrap-f.result in
    let there : slice_get m.code.functions fault.function ≡ Some f = sym c.function.ensures.same ∙ c.unwrap-f.ensures in
    let line = line_found m fault f c.instrs.result.now c.first.result c.index-instrs-place.result c.requires there c.instrs.ensures c.first.ensures c.index-instrs-place.is in
    subst (λ (text : List ℕ). OnOk c.put_line.result (c.put_line.new.out.items ≡ c.args.out.now.items ++ text)) line c.put_line.ensures
