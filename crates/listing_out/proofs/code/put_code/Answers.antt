use Rattle.std.proofs.Common.{List, ℕ, ◌++◌, ◌∙◌, ap, append_assoc, arith}
use Rattle.std.proofs.lemmas.List.Folds.{flat_map-map}
use Rattle.std.specs.Prelude.{codes}
use Rattle.std.specs.List.{flat_map}
use Rattle.listing_out.specs.Lines.{code_line}
use Rattle.listing_out.specs.Comments.{commented_instruction}
use Rattle.listing_out.specs.Reading.{line_of}
use Rattle.listing_out.proofs.Texts.{all_put}
use Rattle.listing_out.proofs.code.put_code.Goals as goal

pub returns : goal.returns
returns c =
    let line = line_of c.args.names.now in
    let code = c.args.code.now in
    let instructions = all_put line code.instrs c.as_slice-instr-items.result.now c.loop-instr.instr-index c.put_header.new.out.items c.loop-instr.out.items (omega arith) c.as_slice-instr-items.ensures c.loop-instr.invariant in
    rw (flat_map-map (λ line. line ++ codes "\n") (commented_instruction c.args.names.now) code.instrs) (
    instructions ∙ ap (λ (t : List ℕ). t ++ flat_map line code.instrs) c.in_ok-put_header.ensures
    ∙ append_assoc c.args.out.now.items (code_line code ++ codes "\n") (flat_map line code.instrs))
