use Rattle.std.proofs.Common.{◌≡◌, take}
use Rattle.bk_text.specs.Lines.{numbered_lines}
use Rattle.index_tables.proofs.text.entry_lines.Given as goal

abbrev pub invariant-loop-number : goal.invariant-loop-number
invariant-loop-number g l = l.out.items ≡ numbered_lines 0 (g.T.EntryLine.line l.atoms) (take l.number l.t)
