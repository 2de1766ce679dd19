use Rattle.std.proofs.Common.{◌∙◌, ap, append-nil, rules}
use Rattle.std.proofs.lemmas.List.{nil_from_length}
use Rattle.std.specs.Slice.Iter.{chunks_rest}
use Rattle.hex.specs.Hex.{encode_lower}
use Rattle.bk_text.proofs.Digits.{digits-append, digits-nil, first_put}
use Rattle.bk_text.proofs.hex_digits.put_hex.Goals as goal

pub loop-row-preserved : goal.loop-row-preserved
loop-row-preserved c =
    let steps = c.in-Some.ensures.steps in (
      search rules,
      tt,
      steps.0 ∙ c.loop-row.invariant.2,
      first_put c.loop-row.out.items c.put_row.new.out.items (encode_lower c.in-Some.row.now) (encode_lower (chunks_rest c.next.new.self)) (encode_lower (chunks_rest c.loop-row.row-iterator)) _
          c.in_ok-put_row.ensures (ap encode_lower steps.1.0 ∙ digits-append c.in-Some.row.now (chunks_rest c.next.new.self)) c.loop-row.invariant.3,
    )

pub returns : goal.returns
returns c =
    let none = nil_from_length _ c.in-None.ensures.steps.1.0 in
    rw (none, digits-nil, append-nil) at c.loop-row.invariant.3
