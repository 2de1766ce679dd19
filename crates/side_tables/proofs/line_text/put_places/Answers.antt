use Rattle.std.proofs.Common.{◌+◌, pos, get_or, refl, arith}
use Rattle.side_tables.specs.LineText.{place_line}
use Rattle.bk_text.proofs.Lines.{line_written}
use Rattle.side_tables.proofs.line_text.put_places.Goals as goal

pub loop-i-preserved : goal.loop-i-preserved
loop-i-preserved c =
    let items = c.as_slice-place-items.result.now in
    line_written 1 place_line c.args.l.now.lines items c.loop-i.i (c.loop-i.i + 1) (get_or items c.loop-i.i (0, pos 0)) (0, pos 0) c.args.out.now.items c.loop-i.out.items c.put_place.new.out.items
    (omega arith) c.as_slice-place-items.ensures refl (omega arith) c.loop-i.invariant c.in_ok-put_place.ensures
