-- How a started file is read: piece by piece from its front, with a count of the bytes.
use Rattle.std.specs.Prelude.{◌≡◌, ℕ, ◌+◌, ◌-◌, ◌^◌, ◌<◌, ◌≤◌, ◌⊎◌, min, List, [], take, drop, length, Option, IfSome, option_map}
use Rattle.bk_port.specs.Known.{before_known}

-- n more bytes were read, in a count that stands still at the last value of a `u64`
abbrev pub counted : ℕ → ℕ → ℕ
counted before n = min (before + n) (2 ^ 64 - 1)

-- n bytes were put at the front of the buffer: they are the first of what was left, and the rest is
-- left now; none were put into a buffer that has room only where none was left
pub record Reads (old_left new_left : Option (List ℕ)) (old_count new_count : ℕ) (buf : List ℕ) (n : ℕ) : Type 0 where
  pub bound : n ≤ length buf
  pub bytes : old_left ≡ before_known (take n buf) new_left
  pub at_end : n ≡ 0 → 0 < length buf → IfSome new_left (λ rest. rest ≡ [])
  pub count : new_count ≡ counted old_count n

-- what is left is as before, or what the name holds without at most n of its first bytes
abbrev pub IsLeftAfter : ℕ → Option (List ℕ) → Option (List ℕ) → Option (List ℕ) → Type 0
IsLeftAfter n held old new = (new ≡ old) ⊎ ((k : ℕ) × (k ≤ n) × (new ≡ option_map (λ all. drop k all) held))

-- at most n bytes were read since the last start, or nothing was read and the count is as before
abbrev pub HasReadAtMost : ℕ → ℕ → ℕ → Type 0
HasReadAtMost n before now = (now ≤ n) ⊎ (now ≡ before)
