-- The rows stand in the order of their numbers, and the data are the table.
use Rattle.std.proofs.Common.{◌≡◌, ℕ, zero, suc, ◌+◌, ◌-◌, ◌<◌, Bool, true, eqb, ◌&&◌, List, [], ◌∷◌, map, length, Option, Some, None, refl, sym, ap, ◌∙◌, arith, inl, inr}
use Rattle.std.specs.List.{find, slice_get}
use Rattle.std.specs.Borrow.{Bor}
use Rattle.std.specs.Option.{option_map, option_copied, IfSome}
use Rattle.std.specs.Slice.{IsItemAt}
use Rattle.std.proofs.lemmas.Option.{slice_get-map, slice_get_past, slice_get_read}
use Rattle.std.proofs.lemmas.Bool.{and_parts, cases_lt, ltb-true, eqb-true, eq-eqb, ne_eqb}
use Rattle.op_table.specs.declared.row.OpRow.{OpRow}
use Rattle.op_table.specs.Table.{Row, table, row_with, row_of, arity_of, roles_in, roles_of}

-- the numbers count up from k
numbered : ℕ → List Row → Bool
numbered k [] = true
numbered k (r ∷ rows) = eqb r.op k && numbered (suc k) rows

find-numbered : (k i op : ℕ) (rows : List Row) → op ≡ k + i → numbered k rows ≡ true → find (λ r. eqb r.op op) rows ≡ slice_get rows i
unfolding numbered
find-numbered k i op [] e counts = refl
find-numbered k zero op (r ∷ rows) e counts =
    let parts = and_parts (eqb r.op k) (numbered (suc k) rows) counts in
    let is = eqb-true r.op k parts.0 in
    let same : r.op ≡ op = omega arith in
    rw (eq-eqb _ _ same) refl
find-numbered k (suc i) op (r ∷ rows) e counts =
    let parts = and_parts (eqb r.op k) (numbered (suc k) rows) counts in
    let is = eqb-true r.op k parts.0 in
    let other : r.op ≡ op → ⊥ = omega arith in
    rw (ne_eqb _ _ other) (find-numbered (suc k) i op rows (omega arith) parts.1)

numbered_at : (k i : ℕ) (rows : List Row) (r : Row) → numbered k rows ≡ true → slice_get rows i ≡ Some r → r.op ≡ k + i
unfolding numbered
numbered_at k i [] r counts found = absurd cc
numbered_at k zero (q ∷ rows) r counts found =
    let parts = and_parts (eqb q.op k) (numbered (suc k) rows) counts in
    let is = eqb-true q.op k parts.0 in
    let same : q ≡ r = cc in
    let op = ap (λ (x : Row). x.op) same in
    omega arith
numbered_at k (suc i) (q ∷ rows) r counts found =
    let parts = and_parts (eqb q.op k) (numbered (suc k) rows) counts in
    let is = numbered_at (suc k) i rows r parts.1 found in
    omega arith

table-numbered : numbered 1 table ≡ true
unfolding numbered table
table-numbered = refl

row_with-zero : row_with 0 ≡ None
unfolding table
row_with-zero = refl

-- the row of an opcode above 0
pub row_with-place : (op i : ℕ) (rows : List OpRow) → op ≡ i + 1 → map row_of rows ≡ table → option_map row_of (slice_get rows i) ≡ row_with op
row_with-place op i rows place same =
    sym (slice_get-map row_of rows i) ∙ ap (λ (t : List Row). slice_get t i) same ∙ sym (find-numbered 1 i op table (omega arith) table-numbered)

pub row_with-none : (op : ℕ) → op < 1 → None ≡ row_with op
row_with-none op none = let zero_is : op ≡ 0 = omega arith in sym (ap row_with zero_is ∙ row_with-zero)

-- each row of the table is the one with its number
pub row_with-own : (i : ℕ) (r : Row) → slice_get table i ≡ Some r → row_with r.op ≡ Some r
row_with-own i r found = find-numbered 1 i r.op table (numbered_at 1 i table r table-numbered found) table-numbered ∙ found

-- what a look-up of an item gives
pub copied_at : (rows : List OpRow) (i : ℕ) (r : Option (Bor OpRow)) → IsItemAt rows i r → option_copied r ≡ slice_get rows i
copied_at rows i None item = sym (slice_get_past rows i item.3)
copied_at rows i (Some x) item = sym (slice_get_read rows (length rows) i x.now refl (ltb-true i (length rows) (sym item.0)) item.1)

pub arity_in : (op : ℕ) (r : Option (Bor OpRow)) → option_map row_of (option_copied r) ≡ row_with op → IfSome r (λ x. arity_of op ≡ Some x.now.arity)
arity_in op None row = tt
arity_in op (Some x) row = ap (option_map (λ (q : Row). q.arity)) (sym row)

pub roles_are : (op : ℕ) (r : Option (Bor OpRow)) → option_map row_of (option_copied r) ≡ row_with op → IfSome r (λ x. roles_of op ≡ x.now.roles.now)
roles_are op None row = tt
roles_are op (Some x) row = ap roles_in (sym row)

-- an opcode is a byte
pub opcode_below : (op n : ℕ) → arity_of op ≡ Some n → op < 256
unfolding table
opcode_below op n has =
    elim (cases_lt op 256) [
      | inl lt ↦ lt
      | inr le ↦
          let none : row_with op ≡ None = find-numbered 1 (op - 1) op table (omega arith) table-numbered ∙ slice_get_past table (op - 1) (omega arith) in
          let same : None ≡ Some n = sym (ap (option_map (λ (r : Row). r.arity)) none) ∙ has in
          absurd cc
    ]
