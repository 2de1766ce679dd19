use Rattle.std.specs.Prelude.{◌≡◌, ℕ, ◌+◌, ◌-◌, ◌≤◌, min, List, ◌++◌, take, drop, length, Option, Some, None, option_map}
use Rattle.std.proofs.Common.{refl, ap, sym, ◌∙◌, inr, arith, length-append, length-take}
use Rattle.std.proofs.Math.Seq.{drop-append_seam}
use Rattle.bk_port.specs.Known.{before_known}
use Rattle.bk_port.specs.Reading.{IsLeftAfter}
use Rattle.bk_port.proofs.KnownBytes.{before_known-append}

-- what is left, told from what was held
pub left-held : (bytes : List ℕ) (left : Option (List ℕ)) → left ≡ option_map (λ all. drop (length bytes) all) (before_known bytes left)
left-held bytes None = refl
left-held bytes (Some rest) = ap (λ (l : List ℕ). Some l) (sym (drop-append_seam bytes rest))

-- at most n bytes were taken of what the name holds
pub left_over : (n : ℕ) (bytes : List ℕ) (held old left : Option (List ℕ)) → held ≡ before_known bytes left → length bytes ≤ n → IsLeftAfter n held old left
left_over n bytes held old left is few = inr (length bytes, few, left-held bytes left ∙ ap (λ o. option_map (λ all. drop (length bytes) all) o) (sym is))

-- the same after one more read of m bytes
pub left_more : (n m : ℕ) (bytes buf : List ℕ) (held old before left : Option (List ℕ)) → held ≡ before_known bytes before → before ≡ before_known (take m buf) left → length bytes + m ≤ n → IsLeftAfter n held old left
left_more n m bytes buf held old before left is more few =
    left_over n (bytes ++ take m buf) held old left
    (is ∙ ap (λ o. before_known bytes o) more ∙ before_known-append bytes (take m buf) left)
    (grind (arith, length-append, length-take))

-- a read of a buffer that was cut to what may still be read
pub within : (most have len room count : ℕ) (piece buf : List ℕ) → count ≤ length buf → length buf ≡ length (take room piece) → room ≡ min 65536 (most + 1 - len) → len ≡ have → have ≤ most → have + count ≤ most + 1
within most have len room count piece buf bound cut is_room is_len size =
    let fits : length (take room piece) ≤ room = grind (arith, length-take) in omega (arith, bound, cut, is_room, is_len, size, fits)
