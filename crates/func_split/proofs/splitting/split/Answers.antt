use Rattle.std.proofs.Common.{◌≡◌, ◌∙◌, ◌⊎◌, subst, List, Ok, Err, inr, sym}
use Rattle.std.proofs.lemmas.Result.{err_from_is_err_and}
use Rattle.op_table.specs.Instruction.{Instruction}
use Rattle.bk_codec.specs.Reading.{Fails}
use Rattle.func_split.specs.declared.refusal.FunctionWhy.TheVariants as whys
use Rattle.func_split.specs.declared.refusal.SplitRefusal.TheVariants as refusals
use Rattle.func_split.specs.Functions.{SplitValue}
use Rattle.func_split.specs.Fronts.{TellsFirst}
use Rattle.func_split.specs.Marks.{marks_of}
use Rattle.func_split.specs.Reading.{pieces_of, split_of}
use Rattle.func_split.proofs.Answering.{fails_of, found_in, only_of, reads_empty, reads_miscounted, reads_split, told_of}
use Rattle.func_split.proofs.splitting.split.Goals as goal

-- ---- no instruction

empty : (c : goal.After-drop-code-then-is_empty) → split_of c.args.code.labels c.args.code.functions c.args.code.instrs ≡ Err (refusals.Functions 0 whys.Start)
empty c = reads_empty c.args.code.labels c.args.code.functions c.args.code.instrs (c.is_empty.ensures.0 c.if-is_empty.true)

pub returns-then-is_empty-clause-exact : goal.returns-then-is_empty-clause-exact
returns-then-is_empty-clause-exact c = inr (empty c)

pub returns-then-is_empty-clause-only : goal.returns-then-is_empty-clause-only
returns-then-is_empty-clause-only c =
    only_of c.args.code.labels c.args.code.functions c.args.code.instrs (refusals.Functions 0 whys.Start) c.splitting_is_exact.ensures.accepted (inr (empty c))

-- ---- something is wrong

fails : (c : goal.After-drop-code-in_err-extents-2) → Fails refusals.NoMemory c.in_err-extents.field-0.0 (split_of c.args.code.labels c.args.code.functions c.args.code.instrs)
fails c =
    let e = c.in_err-extents.field-0.0 in
    fails_of c.args.code.labels c.args.code.functions c.args.code.instrs e
    (subst (λ (instrs : List Instruction). (e ≡ refusals.NoMemory) ⊎ TellsFirst c.args.code.labels (marks_of instrs) e) c.as_slice.ensures c.in_err-extents.ensures.told)

pub returns-in_err-extents-clause-exact : goal.returns-in_err-extents-clause-exact
returns-in_err-extents-clause-exact c =
    let p = err_from_is_err_and c.from_residual.result c.from_residual.ensures.1 in
    rw (p.1, p.2) (fails c)

pub returns-in_err-extents-clause-only : goal.returns-in_err-extents-clause-only
returns-in_err-extents-clause-only c =
    let p = err_from_is_err_and c.from_residual.result c.from_residual.ensures.1 in
    rw (p.1, p.2) (only_of c.args.code.labels c.args.code.functions c.args.code.instrs c.in_err-extents.field-0.0 c.splitting_is_exact.ensures.accepted (fails c))

pub returns-in_err-extents-clause-refused : goal.returns-in_err-extents-clause-refused
returns-in_err-extents-clause-refused c =
    let p = err_from_is_err_and c.from_residual.result c.from_residual.ensures.1 in
    rw (p.1, p.2) (told_of c.args.code.labels c.args.code.functions c.args.code.instrs c.in_err-extents.field-0.0 c.splitting_is_exact.ensures.refused (fails c))

-- ---- another count of functions

miscounted : (c : goal.After-drop-code-then-len-code-2) → split_of c.args.code.labels c.args.code.functions c.args.code.instrs ≡ Err (refusals.Functions 0 whys.Count)
miscounted c =
    let p = c.in_ok-extents.field-0 in
    let found = found_in c.args.code.labels c.args.code.instrs c.as_slice.result.now p.extents.items p.places c.is_empty.result c.is_empty.ensures.1 c.if-is_empty.false c.as_slice.ensures c.in_ok-extents.ensures.found in
    reads_miscounted c.args.code.labels c.args.code.functions c.args.code.instrs p.extents.items p.places found (λ e. c.if-len-code.true (c.len.ensures ∙ p.extents.ok.0 ∙ e))

pub returns-then-len-code-clause-exact : goal.returns-then-len-code-clause-exact
returns-then-len-code-clause-exact c = inr (miscounted c)

pub returns-then-len-code-clause-only : goal.returns-then-len-code-clause-only
returns-then-len-code-clause-only c =
    only_of c.args.code.labels c.args.code.functions c.args.code.instrs (refusals.Functions 0 whys.Count) c.splitting_is_exact.ensures.accepted (inr (miscounted c))

pub returns-then-len-code-clause-refused : goal.returns-then-len-code-clause-refused
returns-then-len-code-clause-refused c =
    told_of c.args.code.labels c.args.code.functions c.args.code.instrs (refusals.Functions 0 whys.Count) c.splitting_is_exact.ensures.refused (inr (miscounted c))

-- ---- the functions

split_is : (c : goal.After-drop-code-2) → split_of c.args.code.labels c.args.code.functions c.args.code.instrs ≡ Ok (record { instrs = c.args.code.instrs; labels = c.args.code.labels; functions = pieces_of c.args.code.instrs c.in_ok-extents.field-0.extents.items })
split_is c =
    let p = c.in_ok-extents.field-0 in
    let found = found_in c.args.code.labels c.args.code.instrs c.as_slice.result.now p.extents.items p.places c.is_empty.result c.is_empty.ensures.1 c.if-is_empty.false c.as_slice.ensures c.in_ok-extents.ensures.found in
    reads_split c.args.code.labels c.args.code.functions c.args.code.instrs p.extents.items p.places found (sym p.extents.ok.0 ∙ sym c.len.ensures ∙ c.if-len-code.false)

pub returns-clause-exact : goal.returns-clause-exact
returns-clause-exact c = split_is c

pub returns-clause-found : goal.returns-clause-found
returns-clause-found c =
    let s : SplitValue = record { instrs = c.args.code.instrs; labels = c.args.code.labels; functions = pieces_of c.args.code.instrs c.in_ok-extents.field-0.extents.items } in
    (c.splitting_is_exact.ensures.accepted c.args.code.labels c.args.code.functions c.args.code.instrs s).0 (split_is c)
