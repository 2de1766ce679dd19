use Rattle.std.proofs.Common.{◌≡◌, ℕ, List, ◌++◌, append_assoc}
use Rattle.std.specs.Prelude.{codes}
use Rattle.std.proofs.lemmas.Result.{on_ok_weaker}
use Rattle.byteorder.specs.Endian.{big_bytes}
use Rattle.iff_form.proofs.writing.put_head.Goals as goal

three_parts : (old a b c first second third : List ℕ) → first ≡ old ++ a → second ≡ first ++ b → third ≡ second ++ c → third ≡ old ++ (a ++ (b ++ c))
three_parts old a b c first second third p q r = rw (r, q, p) (simp append_assoc)

pub returns : goal.returns
returns c =
    on_ok_weaker c.extend-2.result
    (three_parts c.args.out.now.items (codes "FOR1") (big_bytes 4 c.args.size) (codes "BEAM") c.extend.new.self.items c.put_word.new.out.items c.extend-2.new.self.items
    c.in_ok-extend.ensures.ok c.in_ok-put_word.ensures)
    c.extend-2.ensures.ok
