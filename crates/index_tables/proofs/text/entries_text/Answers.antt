use Rattle.std.proofs.Common.{◌≡◌, ◌∙◌}
use Rattle.std.proofs.lemmas.Result.{IfOk-weaker}
use Rattle.bk_text.specs.Lines.{numbered_lines}
use Rattle.index_tables.proofs.text.entries_text.Goals as goal

pub returns : goal.returns
returns g c =
    let line = g.T.EntryLine.line c.args.atoms.now in
    let text = g.T.EntryLine.text c.args.atoms.now c.args.t.now in
    IfOk-weaker c.entry_lines.result (λ out. out.items ≡ numbered_lines 0 line c.args.t.now) (λ out. out.items ≡ text)
    (λ out is. is ∙ g.met.T.EntryLine.is_text c.args.atoms.now c.args.t.now) c.entry_lines.ensures
