-- The words of the tables.
use Rattle.std.specs.Prelude.{◌≢◌, ℕ, List, Result}
use Rattle.bk_codec.specs.Reading.{number_at}
use Rattle.bk_codec.specs.Spelling.{Then, SpellsWord}
use Rattle.side_tables.specs.declared.refusal.SideRefusal.{SideRefusal}
use Rattle.side_tables.specs.declared.refusal.SideRefusal.TheVariants.{Cut}

-- a word; `Cut` where it isn't whole
abbrev pub word_at : List ℕ → Result (ℕ × List ℕ) SideRefusal
word_at = number_at Cut 4

-- a word that isn't 0, and any bytes
pub record BeginsNonzero (bytes : List ℕ) : Type 0 where
  pub first : ℕ
  pub other : first ≢ 0
  pub spelled : Then (SpellsWord first) (λ behind. Unit {0}) bytes
