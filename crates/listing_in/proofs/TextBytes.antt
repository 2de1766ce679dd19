-- Which bytes stand in the texts of lines.
use Rattle.std.proofs.Common.{◌≡◌, ℕ, zero, suc, ◌<◌, Bool, true, List, [], ◌∷◌, arith, refl}
use Rattle.std.specs.Prelude.{decimal}
use Rattle.std.specs.Char.{is_ascii_alphanumeric, is_ascii_digit}
use Rattle.std.specs.List.{list_all}
use Rattle.std.proofs.lemmas.Bool.{and_parts}
use Rattle.std.proofs.lemmas.Bool.Decides.{nat_tests}
use Rattle.hex.specs.Hex.{encode_lower}
use Rattle.bk_codec.specs.Spelling.{IsBytes}
use Rattle.bk_parse.specs.Parts.{Lacks}
use Rattle.bk_parse.proofs.Passing.{decimal_passes, encoded_passes, is_lower_digit, lacks_from}

pub no_bytes : IsBytes []
no_bytes i = omega arith

pub bytes_from : (test : ℕ → Bool) → ((b : ℕ) → test b ≡ true → b < 256) → (text : List ℕ) → list_all test text ≡ true → IsBytes text
bytes_from test small [] all i = no_bytes i
bytes_from test small (b ∷ text) all zero = small b (and_parts (test b) (list_all test text) all).0
bytes_from test small (b ∷ text) all (suc i) = bytes_from test small text (and_parts (test b) (list_all test text) all).1 i

pub alphanumeric_small : (b : ℕ) → is_ascii_alphanumeric b ≡ true → b < 256
alphanumeric_small b passes = grind (arith, nat_tests)

-- no space stands in a number, nor in hexadecimal digits
pub decimal_lacks : (n : ℕ) → Lacks 32 (decimal n)
decimal_lacks n = lacks_from is_ascii_digit 32 (decimal n) refl (decimal_passes n)

pub hex_lacks : (bytes : List ℕ) → IsBytes bytes → Lacks 32 (encode_lower bytes)
hex_lacks bytes fit = lacks_from is_lower_digit 32 (encode_lower bytes) refl (encoded_passes bytes fit)
