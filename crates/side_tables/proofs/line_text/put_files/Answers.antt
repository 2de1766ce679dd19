use Rattle.std.proofs.Common.{◌+◌, arith}
use Rattle.side_tables.specs.LineText.{file_line}
use Rattle.bk_text.proofs.Lines.{line_written}
use Rattle.side_tables.proofs.line_text.put_files.Goals as goal

pub loop-i-preserved : goal.loop-i-preserved
loop-i-preserved c =
    line_written 1 file_line c.args.l.now.files c.as_slice-name-items.result.now c.loop-i.i (c.loop-i.i + 1) c.name-item.result c.name-item.result c.args.out.now.items c.loop-i.out.items c.put_file.new.out.items
    (omega arith) c.as_slice-name-items.ensures c.name-item.is (omega arith) c.loop-i.invariant (rw c.as_slice.ensures at c.in_ok-put_file.ensures)
