use Rattle.std.proofs.Common.{arith}
use Rattle.ext_term.proofs.Writable.{writable_binary, writable_wide, writable_atom, writable_tuple}
use Rattle.ext_term.proofs.tests.long_terms_are_written.Goals as goal

pub writes_long-requires : goal.writes_long-requires
writes_long-requires g c = writable_binary 255 _ (omega (arith, c.in_ok-bytes.ensures))

pub writes_long-requires-2 : goal.writes_long-requires-2
writes_long-requires-2 g c = writable_wide 255 _ _ (omega (arith, c.in_ok-mag.ensures)) (omega (arith, c.in_ok-mag.ensures))

pub writes_long-requires-3 : goal.writes_long-requires-3
writes_long-requires-3 g c = writable_wide 255 _ _ (omega (arith, c.in_ok-mag-2.ensures)) (omega (arith, c.in_ok-mag-2.ensures))

pub writes_long-requires-4 : goal.writes_long-requires-4
writes_long-requires-4 g c = writable_atom 255 _ (rw (c.in_ok-name.ensures.same, c.as_slice.ensures.value) (omega (arith, c.in_ok-alike.ensures)))

pub writes_long-requires-5 : goal.writes_long-requires-5
writes_long-requires-5 g c = writable_tuple 255 _ (omega (arith, c.in_ok-items.ensures.len)) (c.in_ok-items.ensures.each 254)
