use Rattle.std.proofs.Common.{ℕ, ◌+◌, ◌*◌, List, [], ◌∷◌, ◌++◌, codes, decimal}
use Rattle.beam_cli.proofs.Behind.{marked_behind, nothing_behind, put_behind}
use Rattle.beam_cli.proofs.generating.put_summary.Goals as goal

pub returns : goal.returns
returns c =
    let old : List ℕ = c.args.out.now.items in
    let first : List ℕ = codes "module gen\nfunctions " ++ decimal c.args.functions in
    let second : List ℕ = first ++ codes "\ninstructions " ++ decimal (16 * c.args.functions + 1) in
    let third : List ℕ = second ++ codes "\nbytes " ++ decimal c.args.size in
    let one = marked_behind old [] (codes "module gen\nfunctions ") (decimal c.args.functions) _ _ (nothing_behind old) c.in_ok-put_marked.ensures in
    let two = marked_behind old first (codes "\ninstructions ") (decimal (16 * c.args.functions + 1)) _ _ one c.in_ok-put_marked-2.ensures in
    let three = marked_behind old second (codes "\nbytes ") (decimal c.args.size) _ _ two c.in_ok-put_marked-3.ensures in
    put_behind old third (10 ∷ []) _ _ three c.in_ok-push.ensures.ok
