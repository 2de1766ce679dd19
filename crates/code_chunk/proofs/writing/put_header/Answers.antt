use Rattle.std.proofs.Common.{append_assoc, ◌∙◌}
use Rattle.std.proofs.lemmas.Result.{on_ok_weaker}
use Rattle.code_chunk.proofs.writing.put_header.Goals as goal

pub returns : goal.returns
returns c =
    on_ok_weaker c.extend-6.result (λ e. e ∙ simp (
      c.in_ok-extend-5.ensures.ok,
      c.in_ok-extend-4.ensures.ok,
      c.in_ok-extend-3.ensures.ok,
      c.in_ok-extend-2.ensures.ok,
      c.in_ok-extend.ensures.ok,
      c.to_be_bytes.ensures,
      c.to_be_bytes-2.ensures,
      c.to_be_bytes-3.ensures,
      c.to_be_bytes-4.ensures,
      c.to_be_bytes-5.ensures,
      c.len.ensures,
      c.as_slice.ensures,
      append_assoc,
    )) c.extend-6.ensures.ok
