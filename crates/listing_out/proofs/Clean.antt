-- Texts by tests of their bytes: the bytes of lines, the bytes of words, and all but a newline.
use Rattle.std.proofs.Common.{◌≡◌, ℕ, zero, suc, ◌==◌, ◌&&◌, Bool, true, false, not, List, [], ◌∷◌, ◌++◌, take, map, refl, sym, ap, ◌∙◌, arith}
use Rattle.std.proofs.lemmas.Bool.{and_from, and_parts, ne_eqb, not_from_false, true≢false}
use Rattle.std.proofs.lemmas.Bool.Decides.{nat_tests}
use Rattle.std.specs.Prelude.{nat_le, decimal}
use Rattle.std.specs.Char.{is_ascii_alphanumeric, is_ascii_digit}
use Rattle.std.specs.List.{flat_map, list_all}
use Rattle.hex.specs.Hex.{encode_lower, encode_with}
use Rattle.bk_codec.specs.Spelling.{IsBytes}
use Rattle.bk_parse.proofs.Passing.{decimal_passes, encoded_passes, is_lower_digit, passes_append, passes_weaker}
use Rattle.op_table.specs.Table.{is_name_byte}
use Rattle.operand_text.specs.Words.{is_word_byte}
use Rattle.listing_out.specs.Listing.{has_text}

-- ---- tests of the bytes of a text

module _ {A : Type 0} (p : A → Bool) where
  pub passes_front : (n : ℕ) (xs : List A) → list_all p xs ≡ true → list_all p (take n xs) ≡ true
  passes_front zero xs h = refl
  passes_front (suc n) [] h = refl
  passes_front (suc n) (x ∷ xs) h =
      let parts = and_parts (p x) (list_all p xs) h in
      and_from (p x) (list_all p (take n xs)) parts.0 (passes_front n xs parts.1)

  pub passes_map : {B : Type 0} (f : B → A) → ((y : B) → p (f y) ≡ true) → (ys : List B) → list_all p (map f ys) ≡ true
  passes_map f each [] = refl
  passes_map f each (y ∷ ys) = and_from (p (f y)) (list_all p (map f ys)) (each y) (passes_map f each ys)

  pub passes_flat : {B : Type 0} (f : B → List A) → ((y : B) → list_all p (f y) ≡ true) → (ys : List B) → list_all p (flat_map f ys) ≡ true
  passes_flat f each [] = refl
  passes_flat f each (y ∷ ys) = passes_append p (f y) (flat_map f ys) (each y) (passes_flat f each ys)

-- ---- the tests

-- a byte of a line without comments: it is no control, and no semicolon
abbrev pub is_line_byte : ℕ → Bool
is_line_byte b = nat_le 32 b && not (b == 59)

-- a byte that doesn't end a line
abbrev pub is_inline : ℕ → Bool
is_inline b = not (b == 10)

-- what passes a test that a newline fails
pub no_newline : (p : ℕ → Bool) → p 10 ≡ false → (b : ℕ) → p b ≡ true → is_inline b ≡ true
no_newline p fails b h = not_from_false (b == 10) (ne_eqb b 10 (λ e. true≢false (sym h ∙ ap p e ∙ fails)))

pub alphanumeric_word : (b : ℕ) → is_ascii_alphanumeric b ≡ true → is_word_byte b ≡ true
alphanumeric_word b h = grind (arith, nat_tests)

pub name_byte_word : (b : ℕ) → is_name_byte b ≡ true → is_word_byte b ≡ true
name_byte_word b h = grind (arith, nat_tests)

pub word_line : (b : ℕ) → is_word_byte b ≡ true → is_line_byte b ≡ true
word_line b h = grind (arith, nat_tests)

digit_word : (b : ℕ) → is_ascii_digit b ≡ true → is_word_byte b ≡ true
digit_word b h = grind (arith, nat_tests)

lower_digit_word : (b : ℕ) → is_lower_digit b ≡ true → is_word_byte b ≡ true
lower_digit_word b h = grind (arith, nat_tests)

word_is_no_space : (b : ℕ) → is_word_byte b ≡ true → not (b == 32) ≡ true
word_is_no_space b h = grind (arith, nat_tests)

-- ---- numbers and hexadecimal digits are words

pub decimal_word : (n : ℕ) → list_all is_word_byte (decimal n) ≡ true
decimal_word n = passes_weaker is_ascii_digit is_word_byte digit_word (decimal n) (decimal_passes n)

pub hex_word : (bytes : List ℕ) → IsBytes bytes → list_all is_word_byte (encode_lower bytes) ≡ true
hex_word bytes fits = passes_weaker is_lower_digit is_word_byte lower_digit_word (encode_lower bytes) (encoded_passes bytes fits)

pub hex_some : (b : ℕ) (bytes : List ℕ) → has_text (encode_lower (b ∷ bytes)) ≡ true
unfolding encode_with
hex_some b bytes = refl

-- ---- lines that are not changed where spaces and a comment at their end are dropped

-- the last byte is no space
abbrev pub ends : List ℕ → Bool
ends [] = false
ends (b ∷ []) = not (b == 32)
ends (b ∷ c ∷ text) = ends (c ∷ text)

pub record IsClean (line : List ℕ) : Type 0 where
  pub bytes : list_all is_line_byte line ≡ true
  pub ended : ends line ≡ true

ends_behind : (front back : List ℕ) → ends back ≡ true → ends (front ++ back) ≡ true
ends_behind [] back h = h
ends_behind (x ∷ []) [] h = absurd (true≢false (sym h))
ends_behind (x ∷ []) (y ∷ back) h = h
ends_behind (x ∷ y ∷ front) back h = ends_behind (y ∷ front) back h

ends_word : (text : List ℕ) → has_text text ≡ true → list_all is_word_byte text ≡ true → ends text ≡ true
ends_word [] some h = some
ends_word (b ∷ []) some h = word_is_no_space b (and_parts (is_word_byte b) true h).0
ends_word (b ∷ c ∷ text) some h = ends_word (c ∷ text) refl (and_parts (is_word_byte b) (list_all is_word_byte (c ∷ text)) h).1

pub has_text_ended : (line : List ℕ) → ends line ≡ true → has_text line ≡ true
has_text_ended [] h = h
has_text_ended (b ∷ line) h = refl

pub word_clean : (text : List ℕ) → has_text text ≡ true → list_all is_word_byte text ≡ true → IsClean text
word_clean text some h = record { bytes = passes_weaker is_word_byte is_line_byte word_line text h; ended = ends_word text some h }

pub clean_behind : (front back : List ℕ) → list_all is_line_byte front ≡ true → IsClean back → IsClean (front ++ back)
clean_behind front back h clean = record { bytes = passes_append is_line_byte front back h clean.bytes; ended = ends_behind front back clean.ended }
