-- The canonical spelling of an operand takes at most 18 bytes for each byte of its text.
use Rattle.std.proofs.Common.{◌≡◌, ℕ, zero, suc, ◌+◌, ◌*◌, ◌/◌, ◌%◌, ◌<◌, ◌≤◌, ℤ, pos, negsuc, Bool, false, eqb, List, [], ◌∷◌, ◌++◌, length, length-append, codes, refl, arith, inl, inr}
use Rattle.std.specs.Fmt.{decimal, digits, digits_onto, digit_glyph, signed_decimal}
use Rattle.std.specs.List.{flat_map, join_by}
use Rattle.std.proofs.lemmas.Bool.{cases_Bool}
use Rattle.hex.specs.Hex.{lower_digits}
use Rattle.hex.proofs.HexLemmas.{length-encode_with}
use Rattle.compact_term.specs.declared.operand.Reg.{Reg}
use Rattle.compact_term.specs.declared.operand.Reg.TheVariants as regs
use Rattle.compact_term.specs.declared.operand.Plain.{Plain}
use Rattle.compact_term.specs.declared.operand.Plain.TheVariants as plains
use Rattle.compact_term.specs.declared.operand.Operand.{Operand}
use Rattle.compact_term.specs.declared.operand.Operand.TheVariants as operands
use Rattle.compact_term.specs.Canonical.{in_many_bytes, canonical_number, canonical_u, canonical_z, canonical_reg, canonical_plain, canonical_pair, canonical}
use Rattle.operand_text.specs.Operand.{register_text, plain_text, pair_text, operand_text}

-- ---- a number has a digit at least

digits_more : (k base : ℕ) (upper : Bool) (n : ℕ) (acc : List ℕ) → length acc ≤ length (digits_onto k base upper n acc)
digits_more zero base upper n acc = omega arith
digits_more (suc k) base upper n acc =
    elim (cases_Bool (eqb (n / base) 0)) [
      | inl last ↦ rw last (omega arith)
      | inr more ↦ let longer = digits_more k base upper (n / base) (digit_glyph upper (n % base) ∷ acc) in rw more (omega arith)
    ]

decimal_some : (n : ℕ) → 0 < length (decimal n)
unfolding digits
decimal_some n =
    elim (cases_Bool (eqb (n / 10) 0)) [
      | inl last ↦ rw last (omega arith)
      | inr more ↦ let longer = digits_more 63 10 false (n / 10) (digit_glyph false (n % 10) ∷ []) in rw more (omega arith)
    ]

signed_some : (z : ℤ) → 0 < length (signed_decimal z)
signed_some (pos n) = decimal_some n
signed_some (negsuc n) = omega arith

-- ---- members behind commas

each_near : {A : Type 0} (f g : A → List ℕ) → ((x : A) → length (f x) ≤ 18 * length (g x)) → (xs : List A) → length (flat_map f xs) ≤ 18 * length (flat_map (λ x. codes "," ++ g x) xs)
each_near f g near [] = omega arith
each_near f g near (x ∷ xs) =
    let one = near x in
    let others = each_near f g near xs in
    omega (arith, length-append (f x) (flat_map f xs), length-append (codes "," ++ g x) (flat_map (λ x. codes "," ++ g x) xs))

joined_near : {A : Type 0} (f g : A → List ℕ) → ((x : A) → length (f x) ≤ 18 * length (g x)) → (xs : List A) → length (flat_map f xs) ≤ 18 * length (join_by g (codes ",") xs)
joined_near f g near [] = omega arith
joined_near f g near (x ∷ xs) =
    let one = near x in
    let others = each_near f g near xs in
    omega (arith, length-append (f x) (flat_map f xs), length-append (g x) (flat_map (λ x. codes "," ++ g x) xs))

-- ---- operands

module _ (number : (tag : ℕ) (z : ℤ) → length (canonical_number tag z) ≤ 18) (integer : (w : List ℕ) → length (in_many_bytes 1 w) ≤ length w + 18) where
  -- a number behind a mark
  marked_near : (tag n : ℕ) → length (canonical_number tag (pos n)) ≤ 18 * suc (length (decimal n))
  marked_near tag n = omega (arith, number tag (pos n))

  -- two numbers
  two_near : (z n k : ℕ) → 2 ≤ k → length (canonical_z z ++ canonical_u n) ≤ 18 * k
  two_near z n k some = omega (arith, length-append (canonical_z z) (canonical_u n), number 7 (pos z), number 0 (pos n))

  reg_near : (r : Reg) → length (canonical_reg r) ≤ 18
  reg_near (regs.X n) = number 3 (pos n)
  reg_near (regs.Y n) = number 4 (pos n)

  reg_some : (r : Reg) → 2 ≤ length (register_text r)
  reg_some (regs.X n) = omega (arith, decimal_some n)
  reg_some (regs.Y n) = omega (arith, decimal_some n)

  typed_near : (r : Reg) (n : ℕ) → length (canonical_z 5 ++ (canonical_reg r ++ canonical_u n)) ≤ 18 * length (register_text r ++ codes "/" ++ decimal n)
  typed_near r n =
      let register = reg_near r in
      let some = reg_some r in
      omega (
        arith,
        length-append (canonical_z 5) (canonical_reg r ++ canonical_u n),
        length-append (canonical_reg r) (canonical_u n),
        length-append (register_text r ++ codes "/") (decimal n),
        length-append (register_text r) (codes "/"),
        number 7 (pos 5),
        number 0 (pos n),
      )

  texts_near : (k n : ℕ) → length (canonical_u k ++ canonical_u n) ≤ 18 * length (decimal k ++ codes ":" ++ decimal n)
  texts_near k n =
      let some = decimal_some k in
      omega (
        arith,
        length-append (canonical_u k) (canonical_u n),
        length-append (decimal k ++ codes ":") (decimal n),
        length-append (decimal k) (codes ":"),
        number 0 (pos k),
        number 0 (pos n),
      )

  plain_near : (p : Plain) → length (canonical_plain p) ≤ 18 * length (plain_text p)
  plain_near (plains.U n) = marked_near 0 n
  plain_near (plains.I z) = omega (arith, number 1 z)
  plain_near (plains.Wide w) = omega (arith, integer w, length-encode_with lower_digits w)
  plain_near (plains.A n) = marked_near 2 n
  plain_near (plains.X n) = marked_near 3 n
  plain_near (plains.Y n) = marked_near 4 n
  plain_near (plains.F n) = marked_near 5 n
  plain_near (plains.H n) = marked_near 6 n
  plain_near (plains.Fr n) = two_near 2 n (suc (suc (length (decimal n)))) (omega arith)
  plain_near (plains.Lit n) = two_near 4 n (suc (length (decimal n))) (omega (arith, decimal_some n))
  plain_near (plains.Typed r n) = typed_near r n

  pair_near : (p : ℕ × ℕ) → length (canonical_pair p) ≤ 18 * length (pair_text p)
  pair_near (k, n) = texts_near k n

  -- a list in brackets or braces, with the number of its members before them
  list_near : {A : Type 0} (f g : A → List ℕ) (z : ℕ) (close : List ℕ) → ((x : A) → length (f x) ≤ 18 * length (g x)) → (xs : List A) → length close ≡ 1
      → length (canonical_z z ++ (canonical_u (length xs) ++ flat_map f xs)) ≤ 18 * suc (length (join_by g (codes ",") xs ++ close))
  list_near f g z close near xs one =
      let joined = joined_near f g near xs in
      omega (
        arith,
        length-append (canonical_z z) (canonical_u (length xs) ++ flat_map f xs),
        length-append (canonical_u (length xs)) (flat_map f xs),
        length-append (join_by g (codes ",") xs) close,
        number 7 (pos z),
        number 0 (pos (length xs)),
      )

  pub operand_near : (o : Operand) → length (canonical o) ≤ 18 * length (operand_text o)
  operand_near (operands.One p) = plain_near p
  operand_near (operands.List ps) = list_near canonical_plain plain_text 1 (codes "]") plain_near ps refl
  operand_near (operands.Alloc ps) = list_near canonical_pair pair_text 3 (codes "}") pair_near ps refl
