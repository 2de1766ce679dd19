use Rattle.std.proofs.Common.{◌≡◌, ◌∙◌, ℕ, Some, length, sym, ap}
use Rattle.listing_in.proofs.instruction.instruction_of.Goals as goal

pub new-requires : goal.new-requires
new-requires c =
    let count : c.in-Some-op_by_name.row.now.arity ≡ length c.in-Ok.operands = sym c.from.ensures ∙ sym c.if-len-from.false ∙ c.len.ensures in
    c.in-Some-op_by_name.ensures.arity ∙ ap (λ (n : ℕ). Some n) count
