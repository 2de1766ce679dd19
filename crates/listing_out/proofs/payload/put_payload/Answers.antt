use Rattle.std.proofs.Common.{◌∙◌, ap, rules, ◌++◌}
use Rattle.std.specs.Prelude.{codes}
use Rattle.std.specs.Slice.Iter.{chunks_rest}
use Rattle.hex.specs.Hex.{encode_lower}
use Rattle.listing_out.specs.Lines.{payload_lines, text_of}
use Rattle.bk_text.proofs.Digits.{first_put}
use Rattle.listing_out.proofs.Rows.{lines-first}
use Rattle.listing_out.proofs.payload.put_payload.Goals as goal

pub loop-row-preserved : goal.loop-row-preserved
loop-row-preserved c =
    let steps = c.in-Some.ensures.steps in
    let row = c.in-Some.row.now in
    let size = c.loop-row.invariant.2 in (
      search rules,
      tt,
      steps.0 ∙ size,
      first_put c.loop-row.out.items c.put_payload_line.new.out.items ((codes "  " ++ encode_lower row) ++ codes "\n") (text_of (payload_lines (chunks_rest c.next.new.self))) (text_of (payload_lines (chunks_rest c.loop-row.row-iterator))) _
          c.in_ok-put_payload_line.ensures (ap text_of (lines-first _ row (chunks_rest c.next.new.self) steps.1.0 (rw size at steps.1.1) steps.1.2)) c.loop-row.invariant.3,
    )
