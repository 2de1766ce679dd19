-- Numbers in the forms of up to eight bytes, under each tag.
use Rattle.std.proofs.Common.{◌≡◌, ℕ, suc, ◌+◌, ◌%◌, ◌<◌, ◌≤◌, pos, List, [], ◌∷◌, length, get_or, drop, Ok, refl, ap, subst, ◌∙◌, arith}
use Rattle.std.proofs.lemmas.Bool.{lt-ltb}
use Rattle.bk_codec.specs.Reading.{giving}
use Rattle.compact_term.specs.declared.operand.Plain.{Plain}
use Rattle.compact_term.specs.declared.operand.Plain.TheVariants as plains
use Rattle.compact_term.specs.declared.operand.Operand.TheVariants as operands
use Rattle.compact_term.specs.declared.reader.Head.TheVariants as heads
use Rattle.compact_term.specs.Reading.{short_at, whole_at, below_at, integer_at, tagged, head_at, operand_at}

pub short_below : (limit first n : ℕ) (bytes rest : List ℕ) → first < 248 → n < limit → short_at first bytes ≡ giving (pos n) rest → below_at limit first bytes ≡ giving n rest
unfolding below_at whole_at
short_below limit first n bytes rest short few read = rw (lt-ltb first 248 short, read, lt-ltb n limit few) refl

pub short_integer : (first n : ℕ) (bytes rest : List ℕ) → first < 248 → short_at first bytes ≡ giving (pos n) rest → integer_at first bytes ≡ giving (plains.I (pos n)) rest
unfolding integer_at
short_integer first n bytes rest short read = rw (lt-ltb first 248 short, read) refl

-- ---- an operand of a number in such a form

small_behind : (first n more : ℕ) (rest : List ℕ) (p : Plain) → short_at first rest ≡ giving (pos n) (drop more rest)
    → ((bytes behind : List ℕ) → short_at first bytes ≡ giving (pos n) behind → tagged (first % 8) first bytes ≡ giving (heads.Plain p) behind)
    → operand_at (first ∷ rest) ≡ Ok (operands.One p, drop more rest)
unfolding operand_at head_at
small_behind first n more rest p read made = rw (made rest (drop more rest) read) refl

pub small_read : (bytes rest : List ℕ) (n more : ℕ) (p : Plain) → 1 ≤ length bytes → rest ≡ drop 1 bytes → short_at (get_or bytes 0 0) rest ≡ giving (pos n) (drop more rest)
    → ((more behind : List ℕ) → short_at (get_or bytes 0 0) more ≡ giving (pos n) behind → tagged (get_or bytes 0 0 % 8) (get_or bytes 0 0) more ≡ giving (heads.Plain p) behind)
    → operand_at bytes ≡ Ok (operands.One p, drop (1 + more) bytes)
small_read [] rest n more p some same read made = absurd (omega arith)
small_read (first ∷ bytes) rest n more p some same read made =
    let count : suc more ≡ 1 + more = omega arith in
    small_behind first n more bytes p (subst (λ (r : List ℕ). short_at first r ≡ giving (pos n) (drop more r)) same read) made
    ∙ ap (λ (k : ℕ). Ok (operands.One p, drop k (first ∷ bytes))) count
