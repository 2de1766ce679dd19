use Rattle.std.specs.Prelude.{◌≡◌, ℕ, ◌+◌, ◌<◌, List, [], length, get_or, drop, Some, true, if◌then◌else◌, bytes_eq}
use Rattle.std.specs.Option.{option_map_or}
use Rattle.std.proofs.Common.{refl, ap, sym, ◌∙◌, rules}
use Rattle.std.proofs.lemmas.List.{at_drop_more}
use Rattle.std.proofs.lemmas.Option.{slice_get_read}
use Rattle.bk_port.specs.Listed.{bytes_held, bytes_at}
use Rattle.bk_port.proofs.file_list.FileList.position.Goals as goal

-- the file at i has the name, and none before it
found_at : (files : List (List ℕ × List ℕ)) (file : List ℕ × List ℕ) (name : List ℕ) (i : ℕ) → i < length files → file ≡ get_or files i file → bytes_eq file.0 name ≡ true → bytes_held files name ≡ bytes_held (drop i files) name → bytes_at files (Some i) ≡ bytes_held files name
found_at files file name i below is same before =
    ap (λ o. option_map_or (λ (f : List ℕ × List ℕ). f.1) o []) (slice_get_read files (length files) i file refl below is)
    ∙ sym (before ∙ at_drop_more (λ l. bytes_held l name) files i file below
    ∙ ap (λ (f : List ℕ × List ℕ). if bytes_eq f.0 name then f.1 else bytes_held (drop (i + 1) files) name) (sym is)
    ∙ ap (λ b. if b then file.1 else bytes_held (drop (i + 1) files) name) same)

pub returns-then-eq-clause-bytes : goal.returns-then-eq-clause-bytes
returns-then-eq-clause-bytes c = search (rules, found_at)
