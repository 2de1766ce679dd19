use Rattle.std.proofs.Common.{◌≡◌, ◌++◌, take}
use Rattle.bk_text.specs.Lines.{numbered_lines}
use Rattle.side_tables.specs.LineText.{file_line}
use Rattle.side_tables.proofs.line_text.put_files.Given as goal

abbrev pub invariant-loop-i : goal.invariant-loop-i
invariant-loop-i l = l.out.items ≡ l.fn.out.items ++ numbered_lines 1 file_line (take l.i l.l.files)
