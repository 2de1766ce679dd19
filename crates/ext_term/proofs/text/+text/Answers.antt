use Rattle.std.proofs.Common.{arith}
use Rattle.std.proofs.lemmas.Grind.{common_steps}
use Rattle.ext_term.specs.Text.{term_text, pair_text}
use Rattle.ext_term.proofs.Commas.{commas_put, tuple_text, list_text, map_text}
use Rattle.ext_term.proofs.text.+text.Goals as goal

pub put_items-loop-i-preserved : goal.put_items-loop-i-preserved
put_items-loop-i-preserved t c =
    commas_put term_text c.args.items.now c.loop-i.i c.index-items-i.result c.args.out.now.items c.loop-i.out.items c.put_comma.new.out.items c.put_term.new.out.items
    (omega arith) c.index-items-i.is c.loop-i.invariant c.in_ok-put_comma.ensures c.in_ok-put_term.ensures

pub put_pairs-loop-i-preserved : goal.put_pairs-loop-i-preserved
put_pairs-loop-i-preserved t c =
    commas_put pair_text c.args.pairs.now c.loop-i.i c.index-pairs-i.result c.args.out.now.items c.loop-i.out.items c.put_comma.new.out.items c.put_term-in-loop-i.new.out.items
    (omega arith) c.index-pairs-i.is c.loop-i.invariant c.in_ok-put_comma.ensures (grind (arith, common_steps))

pub put_term-returns-in_ok-put_items-in-Tuple : goal.put_term-returns-in_ok-put_items-in-Tuple
put_term-returns-in_ok-put_items-in-Tuple t c = rw (c.in-Tuple.is, tuple_text) (grind (arith, common_steps))

pub put_term-returns-in_ok-put_tail-in-List : goal.put_term-returns-in_ok-put_tail-in-List
put_term-returns-in_ok-put_tail-in-List t c = rw (c.in-List.is, list_text) (grind (arith, common_steps))

pub put_term-returns-in_ok-put_pairs-in-Map : goal.put_term-returns-in_ok-put_pairs-in-Map
put_term-returns-in_ok-put_pairs-in-Map t c = rw (c.in-Map.is, map_text) (grind (arith, common_steps))
