use Rattle.std.proofs.Common.{◌≡◌, ◌++◌, length, option_map}
use Rattle.bk_parse.specs.Parts.{parts_at, all_of}
use Rattle.operand_text.proofs.reading.members.Given as goal

abbrev pub invariant-loop-part : goal.invariant-loop-part
invariant-loop-part g l = option_map (λ others. l.list ++ others) (all_of g.T.Member.member_of l.parts) ≡ all_of g.T.Member.member_of (parts_at 44 l.inner)

abbrev pub decreases-loop-part : goal.decreases-loop-part
decreases-loop-part g l = length l.parts
