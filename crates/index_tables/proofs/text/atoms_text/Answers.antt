use Rattle.std.proofs.Common.{◌+◌, [], arith}
use Rattle.index_tables.specs.Text.{atom_line}
use Rattle.bk_text.proofs.Lines.{line_written}
use Rattle.index_tables.proofs.text.atoms_text.Goals as goal

pub loop-i-preserved : goal.loop-i-preserved
loop-i-preserved c =
    line_written 1 atom_line c.args.t.now c.as_slice-name-items.result.now c.loop-i.i (c.loop-i.i + 1) c.name-item.result c.name-item.result [] c.loop-i.out.items c.put_atom_line.new.out.items
    (omega arith) c.as_slice-name-items.ensures c.name-item.is (omega arith) c.loop-i.invariant (rw c.as_bytes.ensures.same at c.in_ok-put_atom_line.ensures)
