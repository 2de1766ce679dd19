use Rattle.std.proofs.Common.{◌∙◌, List, ℕ, sym, ap}
use Rattle.bk_parse.specs.Parts.{all_of}
use Rattle.operand_text.specs.Reading.{operand_of}
use Rattle.listing_in.proofs.Loops.{front_more, with_front}
use Rattle.listing_in.proofs.instruction.operands_of.Goals as goal

pub texts-preserved : goal.texts-preserved
texts-preserved c =
    ap (λ (os : _). with_front os (all_of operand_of c.next.new.self)) c.in_ok-push.ensures.ok
    ∙ sym (front_more operand_of c.texts.operands c.in_ok-read_operand_text.field-0 c.in-Some.text.now c.next.new.self c.in_ok-read_operand_text.ensures)
    ∙ ap (λ (texts : List (List ℕ)). with_front c.texts.operands (all_of operand_of texts)) (sym c.in-Some.ensures)
    ∙ c.texts.invariant
