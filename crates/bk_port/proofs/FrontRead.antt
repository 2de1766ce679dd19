use Rattle.std.proofs.Common.{◌≡◌, ℕ, ◌+◌, ◌^◌, ◌<◌, ◌≤◌, List, ◌++◌, length, take, drop, Some, ap, sym, ◌∙◌, arith, take-append-drop}
use Rattle.std.proofs.lemmas.Grind.{common_steps}
use Rattle.bk_port.specs.Reading.{Reads}

-- the first n bytes of what is left of a file were put into a buffer
pub reads_front : (file buf copied : List ℕ) (i n : ℕ) → n ≤ length (drop i file) → n ≤ length buf → (n ≡ 0 → 0 < length buf → length (drop i file) ≡ 0) → copied ≡ take n (drop i file) → i + n < 2 ^ 64 → Reads (Some (drop i file)) (Some (drop (i + n) file)) i (i + n) (copied ++ drop n buf) n
reads_front file buf copied i n there room at_end is_front fits =
    let all : length copied ≡ n = grind (arith, common_steps) in
    let same : take n (copied ++ drop n buf) ≡ take n (drop i file) = grind (arith, common_steps) in
    let next : drop n (drop i file) ≡ drop (i + n) file = grind (arith, common_steps) in
    let length_of : length (copied ++ drop n buf) ≡ length buf = grind (arith, common_steps) in
    record {
      bound = grind (arith, common_steps);
      bytes = ap (λ (l : List ℕ). Some l) (sym (ap (λ l. l ++ drop (i + n) file) same ∙ ap (λ l. take n (drop i file) ++ l) (sym next) ∙ take-append-drop n (drop i file)));
      at_end = λ none some.
          let ended : length (drop i file) ≡ 0 = at_end none (grind arith) in
          grind (arith, common_steps);
      count = omega arith;
    }
