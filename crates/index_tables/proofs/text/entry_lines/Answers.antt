use Rattle.std.proofs.Common.{[], arith}
use Rattle.bk_text.proofs.Lines.{line_written}
use Rattle.index_tables.proofs.text.entry_lines.Goals as goal

pub loop-number-preserved : goal.loop-number-preserved
loop-number-preserved g c =
    line_written 0 (g.T.EntryLine.line c.args.atoms.now) c.args.t.now c.as_slice-entry-items.result.now c.loop-number.number c.loop-number.number c.entry-item.result c.entry-item.result [] c.loop-number.out.items c.put_line.new.out.items
    (omega arith) c.as_slice-entry-items.ensures c.entry-item.is (omega arith) c.loop-number.invariant c.in_ok-put_line.ensures
