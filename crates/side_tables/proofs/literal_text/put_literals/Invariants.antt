use Rattle.std.proofs.Common.{◌≡◌, ◌++◌, take}
use Rattle.bk_text.specs.Lines.{numbered_lines}
use Rattle.side_tables.specs.LiteralText.{literal_line}
use Rattle.side_tables.proofs.literal_text.put_literals.Given as goal

abbrev pub invariant-loop-i : goal.invariant-loop-i
invariant-loop-i l = l.out.items ≡ l.fn.out.items ++ numbered_lines 0 literal_line (take l.i l.literals)
