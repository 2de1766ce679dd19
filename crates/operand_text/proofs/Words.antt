-- Which bytes stand in the texts of operands.
use Rattle.std.proofs.Common.{◌≡◌, ℕ, ◌<◌, Bool, true, ◌||◌, List, [], ◌∷◌, ◌++◌, length, codes, decimal, refl, arith}
use Rattle.std.proofs.lemmas.Bool.Decides.{nat_tests}
use Rattle.std.proofs.lemmas.Bool.{and_from}
use Rattle.std.proofs.lemmas.List.{length-append}
use Rattle.std.specs.Char.{is_ascii_digit}
use Rattle.std.specs.Fmt.{signed_decimal}
use Rattle.std.specs.Int.{is_in_range}
use Rattle.std.specs.List.{list_all, join_by}
use Rattle.hex.specs.Hex.{encode_lower}
use Rattle.bk_parse.specs.Parts.{Lacks}
use Rattle.bk_parse.proofs.Passing.{passes_append, passes_weaker, passes_joined, lacks_from, decimal_passes, signed_passes, encoded_passes, is_signed_byte, is_lower_digit}
use Rattle.compact_term.specs.Operand.{PairMeetsType}
use Rattle.compact_term.specs.declared.operand.Reg.{Reg}
use Rattle.compact_term.specs.declared.operand.Reg.TheVariants as regs
use Rattle.compact_term.specs.declared.operand.Plain.{Plain}
use Rattle.compact_term.specs.declared.operand.Plain.TheVariants as plains
use Rattle.compact_term.specs.declared.operand.Operand.{Operand}
use Rattle.compact_term.specs.declared.operand.Operand.TheVariants as operands
use Rattle.operand_text.specs.Listed.{PlainIsListed, IsListed}
use Rattle.operand_text.specs.Operand.{register_text, plain_text, pair_text, operand_text}
use Rattle.operand_text.specs.Words.{is_word_byte}

-- ---- operands that hold no others: a minus, a slash, digits and small letters

abbrev is_plain_byte : ℕ → Bool
is_plain_byte b = is_in_range 45 57 b || is_in_range 97 122 b

digit_is_plain : (b : ℕ) → is_ascii_digit b ≡ true → is_plain_byte b ≡ true
digit_is_plain b e = grind (arith, nat_tests)

signed_is_plain : (b : ℕ) → is_signed_byte b ≡ true → is_plain_byte b ≡ true
signed_is_plain b e = grind (arith, nat_tests)

lower_is_plain : (b : ℕ) → is_lower_digit b ≡ true → is_plain_byte b ≡ true
lower_is_plain b e = grind (arith, nat_tests)

number_passes : (n : ℕ) → list_all is_plain_byte (decimal n) ≡ true
number_passes n = passes_weaker is_ascii_digit is_plain_byte digit_is_plain (decimal n) (decimal_passes n)

register_passes : (r : Reg) → list_all is_plain_byte (register_text r) ≡ true
register_passes (regs.X n) = number_passes n
register_passes (regs.Y n) = number_passes n

plain_passes : (p : Plain) → PlainIsListed p → list_all is_plain_byte (plain_text p) ≡ true
plain_passes (plains.U n) h = number_passes n
plain_passes (plains.I z) h = passes_weaker is_signed_byte is_plain_byte signed_is_plain (signed_decimal z) (signed_passes z)
plain_passes (plains.Wide bytes) h = passes_weaker is_lower_digit is_plain_byte lower_is_plain (encode_lower bytes) (encoded_passes bytes h.0)
plain_passes (plains.A n) h = number_passes n
plain_passes (plains.X n) h = number_passes n
plain_passes (plains.Y n) h = number_passes n
plain_passes (plains.F n) h = number_passes n
plain_passes (plains.H n) h = number_passes n
plain_passes (plains.Fr n) h = number_passes n
plain_passes (plains.Lit n) h = number_passes n
plain_passes (plains.Typed r n) h =
    passes_append is_plain_byte (register_text r ++ codes "/") (decimal n) (passes_append is_plain_byte (register_text r) (codes "/") (register_passes r) refl) (number_passes n)

pub plain_lacks : (p : Plain) → PlainIsListed p → Lacks 44 (plain_text p)
plain_lacks p h = lacks_from is_plain_byte 44 (plain_text p) refl (plain_passes p h)

pub plain_some : (p : Plain) → PlainIsListed p → 0 < length (plain_text p)
plain_some (plains.U n) h = omega arith
plain_some (plains.I z) h = omega arith
plain_some (plains.Wide bytes) h = omega arith
plain_some (plains.A n) h = omega arith
plain_some (plains.X n) h = omega arith
plain_some (plains.Y n) h = omega arith
plain_some (plains.F n) h = omega arith
plain_some (plains.H n) h = omega arith
plain_some (plains.Fr n) h = omega arith
plain_some (plains.Lit n) h = omega arith
plain_some (plains.Typed r n) h = omega (arith, length-append (register_text r ++ codes "/") (decimal n), length-append (register_text r) (codes "/"))

-- ---- pairs: digits and a colon

abbrev is_pair_byte : ℕ → Bool
is_pair_byte b = is_in_range 48 58 b

digit_in_pair : (b : ℕ) → is_ascii_digit b ≡ true → is_pair_byte b ≡ true
digit_in_pair b e = grind (arith, nat_tests)

pair_passes : (p : ℕ × ℕ) → list_all is_pair_byte (pair_text p) ≡ true
pair_passes p =
    let each : (n : ℕ) → list_all is_pair_byte (decimal n) ≡ true = λ n. passes_weaker is_ascii_digit is_pair_byte digit_in_pair (decimal n) (decimal_passes n) in
    passes_append is_pair_byte (decimal p.0 ++ codes ":") (decimal p.1) (passes_append is_pair_byte (decimal p.0) (codes ":") (each p.0) refl) (each p.1)

pub pair_lacks : (p : ℕ × ℕ) → Lacks 44 (pair_text p)
pair_lacks p = lacks_from is_pair_byte 44 (pair_text p) refl (pair_passes p)

pub pair_some : (p : ℕ × ℕ) → 0 < length (pair_text p)
pair_some p = omega (arith, length-append (decimal p.0 ++ codes ":") (decimal p.1), length-append (decimal p.0) (codes ":"))

-- ---- all operands

plain_in_word : (b : ℕ) → is_plain_byte b ≡ true → is_word_byte b ≡ true
plain_in_word b e = grind (arith, nat_tests)

pair_in_word : (b : ℕ) → is_pair_byte b ≡ true → is_word_byte b ≡ true
pair_in_word b e = grind (arith, nat_tests)

-- a text in brackets
enclosed_passes : (first last : ℕ) (inner : List ℕ) → is_word_byte first ≡ true → is_word_byte last ≡ true → list_all is_word_byte inner ≡ true → list_all is_word_byte (first ∷ inner ++ last ∷ []) ≡ true
enclosed_passes first last inner p q h =
    and_from (is_word_byte first) (list_all is_word_byte (inner ++ last ∷ [])) p (passes_append is_word_byte inner (last ∷ []) h (and_from (is_word_byte last) true q refl))

pub operand_passes : (o : Operand) → IsListed o → list_all is_word_byte (operand_text o) ≡ true
operand_passes (operands.One p) h = passes_weaker is_plain_byte is_word_byte plain_in_word (plain_text p) (plain_passes p h)
operand_passes (operands.List ps) h =
    enclosed_passes 91 93 (join_by plain_text (codes ",") ps) refl refl
    (passes_joined is_word_byte PlainIsListed plain_text (codes ",") refl (λ p listed. passes_weaker is_plain_byte is_word_byte plain_in_word (plain_text p) (plain_passes p listed)) ps h)
operand_passes (operands.Alloc ps) h =
    enclosed_passes 123 125 (join_by pair_text (codes ",") ps) refl refl
    (passes_joined is_word_byte PairMeetsType pair_text (codes ",") refl (λ p fits. passes_weaker is_pair_byte is_word_byte pair_in_word (pair_text p) (pair_passes p)) ps h)

pub operand_some : (o : Operand) → IsListed o → 0 < length (operand_text o)
operand_some (operands.One p) h = plain_some p h
operand_some (operands.List ps) h = omega arith
operand_some (operands.Alloc ps) h = omega arith
