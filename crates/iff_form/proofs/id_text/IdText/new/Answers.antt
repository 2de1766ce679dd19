use Rattle.std.proofs.Common.{◌∙◌, sym, ap, Bool, cond, ◌∷◌, [], ◌++◌}
use Rattle.std.specs.Prelude.{codes}
use Rattle.std.proofs.lemmas.List.{take_at}
use Rattle.hex.specs.Hex.{encode_lower}
use Rattle.iff_form.proofs.id_text.IdText.new.Goals as goal

pub returns-then-is_plain : goal.returns-then-is_plain
returns-then-is_plain c =
    take_at c.copy_from_slice.new.self (35 ∷ 35 ∷ 35 ∷ 35 ∷ 35 ∷ []) 4 c.copy_from_slice.ensures.len
    ∙ c.copy_from_slice.ensures.after
    ∙ ap (λ (b : Bool). cond b c.args.id.0 (codes "#" ++ encode_lower c.args.id.0)) (sym c.if-is_plain.true ∙ c.is_plain.ensures)
