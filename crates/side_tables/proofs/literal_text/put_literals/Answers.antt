use Rattle.std.proofs.Common.{arith}
use Rattle.side_tables.specs.LiteralText.{literal_line}
use Rattle.bk_text.proofs.Lines.{line_written}
use Rattle.side_tables.proofs.literal_text.put_literals.Goals as goal

pub loop-i-preserved : goal.loop-i-preserved
loop-i-preserved c =
    line_written 0 literal_line c.args.literals.now c.as_slice-literal-items.result.now c.loop-i.i c.loop-i.i c.literal-item.result c.literal-item.result c.args.out.now.items c.loop-i.out.items c.put_literal.new.out.items
    (omega arith) c.as_slice-literal-items.ensures c.literal-item.is (omega arith) c.loop-i.invariant c.in_ok-put_literal.ensures
