use Rattle.std.proofs.Common.{◌≡◌, length}
use Rattle.bk_parse.specs.Parts.{all_of}
use Rattle.operand_text.specs.Reading.{operand_of}
use Rattle.listing_in.proofs.Loops.{with_front}
use Rattle.listing_in.proofs.instruction.operands_of.Given as goal

abbrev pub invariant-texts : goal.invariant-texts
invariant-texts l = with_front l.operands (all_of operand_of l.texts) ≡ all_of operand_of l.fn.texts

abbrev pub decreases-texts : goal.decreases-texts
decreases-texts l = length l.texts
