-- What a form that was read keeps of its chunks.
use Rattle.std.specs.Prelude.{◌≡◌, ℕ, ◌^◌, ◌<◌, List, map}
use Rattle.iff_form.specs.declared.chunk.Chunk.{Chunk}
use Rattle.iff_form.specs.Chunk.{plains}
use Rattle.iff_form.specs.Form.{AreDistinct, form_size, offsets_from}

-- where the chunks lie, that their ids differ, and the size word that they make, which is a word
pub record IsKept (chunks : List Chunk) (size : ℕ) : Type 0 where
  pub offsets : map (λ c. c.at) chunks ≡ offsets_from 12 (plains chunks)
  pub distinct : AreDistinct (plains chunks)
  pub size_is : size ≡ form_size (plains chunks)
  pub fits : form_size (plains chunks) < 2 ^ 32
