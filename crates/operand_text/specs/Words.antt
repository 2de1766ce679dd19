-- Which bytes stand in words, of which lines are made.
use Rattle.std.specs.Prelude.{ℕ, Bool, ◌&&◌, not, ◌==◌}
use Rattle.std.specs.Char.{is_ascii_graphic}

-- a printable byte, but no space and no semicolon, at which comments begin
abbrev pub is_word_byte : ℕ → Bool
is_word_byte b = is_ascii_graphic b && not (b == 59)
