-- How far a name in quotes was written.
use Rattle.std.proofs.Common.{◌≡◌, ℕ, ◌-◌, ◌≤◌, false, ◌&&◌, List, [], ◌∷◌, ◌++◌, length, get_or, take, drop, refl, sym, ap, ◌∙◌, append_assoc, arith}
use Rattle.std.specs.List.{flat_map, list_all}
use Rattle.std.specs.Char.{is_ascii_lowercase}
use Rattle.std.proofs.lemmas.List.{take_all, take-append-drop}
use Rattle.std.proofs.lemmas.List.Concat.{flat_map-append}
use Rattle.ext_term.specs.Name.{is_name_byte, is_bare, escaped, name_text}
use Rattle.bk_text.specs.Fronts.{AddsFront}

-- a name by its first byte and the others, which the code cuts off so
pub bare_split : (name : List ℕ) → 1 ≤ length name → is_bare name ≡ is_ascii_lowercase (get_or name 0 0) && list_all is_name_byte (take (length name - 1) (drop 1 name))
bare_split [] some = absurd (omega arith)
bare_split (b ∷ bytes) some =
    let others : take (length (b ∷ bytes) - 1) bytes ≡ bytes = take_all (length (b ∷ bytes) - 1) bytes (omega arith) in
    rw others refl

-- the quote in front and i bytes were written
pub part_added : (name old new : List ℕ) (i : ℕ) → is_bare name ≡ false → new ≡ (old ++ 39 ∷ []) ++ flat_map escaped (take i name) → AddsFront (name_text name) old new
part_added name old new i quoted written =
    let whole : flat_map escaped name ≡ flat_map escaped (take i name) ++ flat_map escaped (drop i name) =
    ap (flat_map escaped) (sym (take-append-drop i name)) ∙ flat_map-append escaped (take i name) (drop i name) in
    record {
      front = 39 ∷ flat_map escaped (take i name);
      back = flat_map escaped (drop i name) ++ 39 ∷ [];
      text_is = rw (quoted, whole) (ap (λ (t : List ℕ). 39 ∷ t) (append_assoc (flat_map escaped (take i name)) (flat_map escaped (drop i name)) (39 ∷ [])));
      new_is = written ∙ append_assoc old (39 ∷ []) (flat_map escaped (take i name));
    }
