use Rattle.std.proofs.Common.{◌≡◌, take}
use Rattle.bk_text.specs.Lines.{numbered_lines}
use Rattle.index_tables.specs.Text.{atom_line}
use Rattle.index_tables.proofs.text.atoms_text.Given as goal

abbrev pub invariant-loop-i : goal.invariant-loop-i
invariant-loop-i l = l.out.items ≡ numbered_lines 1 atom_line (take l.i l.t)
