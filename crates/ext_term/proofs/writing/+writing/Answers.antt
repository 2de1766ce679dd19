use Rattle.std.proofs.Common.{rules, ◌∙◌, sym, ap, arith}
use Rattle.std.proofs.lemmas.Grind.{common_steps}
use Rattle.ext_term.specs.declared.term.Term.{the_lemmas}
use Rattle.ext_term.specs.Writing.{spelling}
use Rattle.ext_term.proofs.Written.{tuple_spelling, map_spelling, general_spelling}
use Rattle.ext_term.proofs.Writable.{can_wide, can_atom, can_tuple, can_list, can_binary, can_bits, can_map, can_export}
use Rattle.ext_term.proofs.writing.+writing.Goals as goal

pub put_term-put_big-requires : goal.put_term-put_big-requires
put_term-put_big-requires t c = can_wide _ _ _ _ c.in-Wide.is c.as_slice.ensures c.requires

pub put_term-put_atom-requires : goal.put_term-put_atom-requires
put_term-put_atom-requires t c = can_atom _ _ _ c.in-Atom.is c.as_bytes.ensures.same c.requires

-- ---- tuples

pub put_term-put_tuple_head-requires : goal.put_term-put_tuple_head-requires
put_term-put_tuple_head-requires t c = rw c.len.ensures (can_tuple _ c.in-Tuple.items c.in-Tuple.is c.requires).0

pub put_term-put_terms-requires : goal.put_term-put_terms-requires
put_term-put_terms-requires t c = (search (rules, the_lemmas), rw c.as_slice-in-Tuple.ensures (can_tuple _ c.in-Tuple.items c.in-Tuple.is c.requires).1)

pub put_term-returns-in_ok-put_tuple_head-in-Tuple : goal.put_term-returns-in_ok-put_tuple_head-in-Tuple
put_term-returns-in_ok-put_tuple_head-in-Tuple t c =
    let e = ap spelling c.in-Tuple.is ∙ tuple_spelling c.in-Tuple.items in
    grind (arith, common_steps)

-- ---- lists

pub put_term-put_count-requires : goal.put_term-put_count-requires
put_term-put_count-requires t c =
    let general = rw (c.as_slice-items.ensures, c.get-tail.ensures) at (sym c.is_string.ensures ∙ c.if-is_string.false) in
    rw c.as_slice-items.ensures (can_list _ c.in-List.items c.in-List.tail c.in-List.is general c.requires).0

pub put_term-put_terms-requires-in-List : goal.put_term-put_terms-requires-in-List
put_term-put_terms-requires-in-List t c =
    let general = rw (c.as_slice-items.ensures, c.get-tail.ensures) at (sym c.is_string.ensures ∙ c.if-is_string.false) in
    (search (rules, the_lemmas), rw c.as_slice-items.ensures (can_list _ c.in-List.items c.in-List.tail c.in-List.is general c.requires).1)

pub put_term-put_term-requires : goal.put_term-put_term-requires
put_term-put_term-requires t c =
    let general = rw (c.as_slice-items.ensures, c.get-tail.ensures) at (sym c.is_string.ensures ∙ c.if-is_string.false) in
    (search (rules, the_lemmas), rw c.get-tail.ensures (can_list _ c.in-List.items c.in-List.tail c.in-List.is general c.requires).2)

pub put_term-returns-in_ok-put_terms-in-List : goal.put_term-returns-in_ok-put_terms-in-List
put_term-returns-in_ok-put_terms-in-List t c =
    let general = rw (c.as_slice-items.ensures, c.get-tail.ensures) at (sym c.is_string.ensures ∙ c.if-is_string.false) in
    let e = ap spelling c.in-List.is ∙ general_spelling c.in-List.items c.in-List.tail general in
    grind (arith, common_steps)

-- ---- bytes

pub put_term-put_binary-requires : goal.put_term-put_binary-requires
put_term-put_binary-requires t c = can_binary _ _ _ c.in-Binary.is c.as_slice-in-Binary.ensures c.requires

pub put_term-put_bits-requires : goal.put_term-put_bits-requires
put_term-put_bits-requires t c = can_bits _ _ _ _ c.in-Bits.is c.as_slice-in-Bits.ensures c.requires

-- ---- maps

pub put_term-put_count-requires-in-Map : goal.put_term-put_count-requires-in-Map
put_term-put_count-requires-in-Map t c = rw c.len-in-Map.ensures (can_map _ c.in-Map.pairs c.in-Map.is c.requires).0

pub put_term-put_pairs-requires : goal.put_term-put_pairs-requires
put_term-put_pairs-requires t c = (search (rules, the_lemmas), rw c.as_slice-in-Map.ensures (can_map _ c.in-Map.pairs c.in-Map.is c.requires).1)

pub put_term-returns-in_ok-put_count-in-Map : goal.put_term-returns-in_ok-put_count-in-Map
put_term-returns-in_ok-put_count-in-Map t c =
    let e = ap spelling c.in-Map.is ∙ map_spelling c.in-Map.pairs in
    grind (arith, common_steps)

-- ---- external functions

pub put_term-put_export-requires-clause-owner : goal.put_term-put_export-requires-clause-owner
put_term-put_export-requires-clause-owner t c = rw c.as_bytes-in-Export.ensures.same (can_export _ _ _ _ c.in-Export.is c.requires).0

pub put_term-put_export-requires-clause-name : goal.put_term-put_export-requires-clause-name
put_term-put_export-requires-clause-name t c = rw c.as_bytes-in-Export-2.ensures.same (can_export _ _ _ _ c.in-Export.is c.requires).1
