use Rattle.std.proofs.Common.{◌≡◌, ℕ, zero, suc, ◌<◌, List, [], ◌∷◌, length, All, subst, sym, arith}
use Rattle.ext_term.specs.declared.term.Term.{Term}
use Rattle.ext_term.specs.Writing.{FitsName, IsWritable}
use Rattle.ext_term.proofs.Writable.{writable_nil, writable_atom, writable_tuple, writable_list, writable_bits, writable_map, writable_export}
use Rattle.ext_term.proofs.tests.terms_are_written.Goals as goal

name_fits : (name s : List ℕ) → name ≡ s → length s < 65536 → FitsName name
name_fits name s same short = subst FitsName (sym same) short

pub writes-requires : goal.writes-requires
writes-requires g c = writable_nil 255

pub writes-requires-2 : goal.writes-requires-2
writes-requires-2 g c =
    writable_atom 255 _ (name_fits _ _ c.in_ok-from_bytes.ensures.same (omega arith))

pub writes-requires-3 : goal.writes-requires-3
writes-requires-3 g c = rw c.new.ensures (writable_tuple 255 [] (omega arith) (λ k d lt. absurd (omega arith)))

pub writes-requires-4 : goal.writes-requires-4
writes-requires-4 g c = rw c.in_ok-from_slice.ensures (writable_bits 255 _ 3 (omega arith) (omega arith) (omega arith) (omega arith))

pub writes-requires-5 : goal.writes-requires-5
writes-requires-5 g c =
    writable_list 255 _ _ (rw c.in_ok-ints.ensures.len (omega arith)) (c.in_ok-ints.ensures.each 254) (rw c.in_ok-new.ensures (writable_nil 254))

pub writes-requires-6 : goal.writes-requires-6
writes-requires-6 g c =
    writable_list 255 _ _ (rw c.in_ok-ints-2.ensures.len (omega arith)) (c.in_ok-ints-2.ensures.each 254) (rw c.in_ok-new-2.ensures (c.int.ensures 254))

pub writes-requires-7 : goal.writes-requires-7
writes-requires-7 g c =
    writable_export 255 _ _ 1
    (name_fits _ _ c.in_ok-from_bytes-2.ensures.same (omega arith))
    (name_fits _ _ c.in_ok-from_bytes-3.ensures.same (omega arith))
    (omega arith)

one_pair : (n : ℕ) (key value : Term) → IsWritable n key → IsWritable n value → All (λ (pair : Term × Term). IsWritable n pair.0 × IsWritable n pair.1) ((key, value) ∷ [])
one_pair n key value k v zero d lt = (k, v)
one_pair n key value k v (suc i) d lt = absurd (omega arith)

pub writes-requires-8 : goal.writes-requires-8
writes-requires-8 g c =
    rw (c.in_ok-push.ensures.ok, c.new-pairs.ensures) (writable_map 255 _ (omega arith) (one_pair 255 _ _ (c.int-2.ensures 254) (c.int-3.ensures 254)))
