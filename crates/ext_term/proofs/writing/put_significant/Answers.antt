use Rattle.std.proofs.Common.{◌≡◌, ◌++◌, List, ℕ, take, ap, ◌∙◌}
use Rattle.std.proofs.lemmas.Result.{on_ok_weaker}
use Rattle.ext_term.specs.Writing.{big_bytes_of, significant}
use Rattle.ext_term.proofs.Magnitude.{significant_front}
use Rattle.ext_term.proofs.writing.put_significant.Goals as goal

pub returns : goal.returns
returns c =
    let front : take c.significant_len.result c.to_le_bytes-bytes.result ≡ significant 16 c.args.mag = rw (c.to_le_bytes-bytes.ensures, c.significant_len.ensures.value) (significant_front 16 c.args.mag) in
    on_ok_weaker c.put_big.result (λ e. e ∙ ap (λ (s : List ℕ). c.args.out.now.items ++ big_bytes_of c.args.neg s) front) c.put_big.ensures
