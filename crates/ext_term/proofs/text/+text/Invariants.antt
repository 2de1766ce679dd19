use Rattle.std.proofs.Common.{◌≡◌, ◌++◌, take}
use Rattle.ext_term.specs.Text.{commas, term_text, pair_text}
use Rattle.ext_term.proofs.text.+text.Given as goal

abbrev pub invariant-put_items-loop-i : goal.invariant-put_items-loop-i
invariant-put_items-loop-i l = l.out.items ≡ l.initial.out.items ++ commas term_text (take l.i l.items)

abbrev pub invariant-put_pairs-loop-i : goal.invariant-put_pairs-loop-i
invariant-put_pairs-loop-i l = l.out.items ≡ l.initial.out.items ++ commas pair_text (take l.i l.pairs)
