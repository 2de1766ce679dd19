-- Places are read where they are spelled.
use Rattle.std.proofs.Common.{◌≡◌, ℕ, zero, suc, ◌+◌, ◌<◌, ◌≤◌, ℤ, List, [], ◌∷◌, ◌++◌, length, Result, Ok, Err, refl, sym, ap, subst, ◌∙◌, append_assoc, arith, length-append}
use Rattle.bk_codec.specs.Reading.{made_of}
use Rattle.bk_codec.specs.Spelling.{IsBytes, Then, SpellsMany}
use Rattle.bk_codec.proofs.Steps.{bind_ok, made_ok, ok_is, err_is}
use Rattle.bk_codec.proofs.Agreement.{Takes, Takes-then, Takes-weaker}
use Rattle.compact_term.specs.declared.operand.Plain.TheVariants.{I, A}
use Rattle.compact_term.specs.declared.operand.Operand.TheVariants.{One}
use Rattle.side_tables.specs.declared.line_item.Item.{Item}
use Rattle.side_tables.specs.declared.line_item.Item.TheVariants as items
use Rattle.side_tables.specs.declared.refusal.SideRefusal.{SideRefusal}
use Rattle.side_tables.specs.declared.refusal.SideRefusal.TheVariants.{Cut}
use Rattle.side_tables.specs.LineSpelling.{SpellsSwitch, SpellsLine, SpellsItem, file_behind, SpellsPlace, SpellsPlaces}
use Rattle.side_tables.specs.LineReading.{item_at, Placed, placed, place_by, place_at, places_at}
use Rattle.side_tables.proofs.LineItems.{operand_some, no_item, item_agrees}

-- ---- a place

-- without a switch
unswitched : (files file : ℕ) (line : ℤ) (text : List ℕ) → SpellsLine line text → SpellsPlace files file (file, line) text
unswitched files file line text is = record {
  switches = [];
  current = refl;
  spelled = record { front = []; back = text; front_is = refl; back_is = is; joined = refl };
}

-- with one switch more in front
switched : (files file n : ℕ) (p : ℕ × ℤ) (text : List ℕ) → Then (SpellsSwitch files n) (SpellsPlace files n p) text → SpellsPlace files file p text
switched files file n p text t =
    let place = t.back_is in
    record {
      switches = n ∷ place.switches;
      current = place.current;
      spelled = record {
        front = t.front ++ place.spelled.front;
        back = place.spelled.back;
        front_is = record { front = t.front; back = place.spelled.front; front_is = t.front_is; back_is = place.spelled.front_is; joined = refl };
        back_is = place.spelled.back_is;
        joined = t.joined ∙ ap (λ (b : List ℕ). t.front ++ b) place.spelled.joined ∙ sym (append_assoc t.front place.spelled.front place.spelled.back);
      };
    }

-- what reads the rest of a place behind a switch
abbrev Rest : Type 0
Rest = ℕ → ℕ → List ℕ → Result (Placed × List ℕ) SideRefusal

abbrev TakesPlaces : ℕ → Rest → Type 0
TakesPlaces files others =
    (file item : ℕ) (bytes : List ℕ) (p : Placed) (rest : List ℕ) → IsBytes bytes → others file item bytes ≡ Ok (p, rest) → Takes (SpellsPlace files file p.place) bytes rest

place_by_takes : (files file next : ℕ) (others : Rest) → TakesPlaces files others
    → (x : Item) (bytes after : List ℕ) (p : Placed) (rest : List ℕ) → Takes (SpellsItem files x) bytes after → place_by others file next x after ≡ Ok (p, rest) → Takes (SpellsPlace files file p.place) bytes rest
place_by_takes files file next others takes (items.Line line) bytes after p rest took e =
    subst (λ (q : Placed × List ℕ). Takes (SpellsPlace files file q.0.place) bytes q.1) (ok_is {E = SideRefusal} (placed next (file, line), after) (p, rest) e)
    (Takes-weaker (unswitched files file line) took)
place_by_takes files file next others takes (items.File n) bytes after p rest took e =
    Takes-weaker (switched files file n p.place) (Takes-then took (takes n next after p rest took.fits e))

place_takes : (files most : ℕ) → TakesPlaces files (place_at files most)
place_takes files zero file item bytes p rest fits e = absurd cc
place_takes files (suc most) file item bytes p rest fits e =
    let x = bind_ok (item_at files item bytes) (λ (x : Item × List ℕ). place_by (place_at files most) file (item + 1) x.0 x.1) (p, rest) e in
    let took = (item_agrees files item).takes bytes x.0.0 x.0.1 fits x.1 in
    place_by_takes files file (item + 1) (place_at files most) (place_takes files most) x.0.0 bytes x.0.1 p rest took x.2

items_again : (files most file item : ℕ) (switches : List ℕ) (line : ℤ) (front back rest : List ℕ) → length front + length back ≤ most
    → SpellsMany (SpellsSwitch files) switches front → SpellsLine line back
    → (next : ℕ) × (place_at files most file item (front ++ (back ++ rest)) ≡ Ok (placed next (file_behind file switches, line), rest))
items_again files zero file item switches line front back rest few is last =
    let some : 0 < length back = operand_some (One (I line)) back last.spelled in
    absurd (omega arith)
items_again files (suc most) file item [] line front back rest few is last =
    let read : item_at files item (back ++ rest) ≡ Ok (items.Line line, rest) = (item_agrees files item).again (items.Line line) back rest last in
    (item + 1, rw (is, read) refl)
items_again files (suc most) file item (n ∷ switches) line front back rest few is last =
    let some : 0 < length is.front = operand_some (One (A n)) is.front is.front_is.spelled in
    let lengths : length front ≡ length is.front + length is.back = ap length is.joined ∙ length-append is.front is.back in
    let whole : front ++ (back ++ rest) ≡ is.front ++ (is.back ++ (back ++ rest)) =
    ap (λ (t : List ℕ). t ++ (back ++ rest)) is.joined ∙ append_assoc is.front is.back (back ++ rest) in
    let read : item_at files item (is.front ++ (is.back ++ (back ++ rest))) ≡ Ok (items.File n, is.back ++ (back ++ rest)) =
    (item_agrees files item).again (items.File n) is.front (is.back ++ (back ++ rest)) is.front_is in
    let others = items_again files most n (item + 1) switches line is.back back rest (omega arith) is.back_is last in
    (others.0, rw (whole, read) others.1)

place_again : (files most file item : ℕ) (p : ℕ × ℤ) (text rest : List ℕ) → length text ≤ most → SpellsPlace files file p text
    → (next : ℕ) × (place_at files most file item (text ++ rest) ≡ Ok (placed next p, rest))
place_again files most file item p text rest few is =
    let parts = is.spelled in
    let lengths : length text ≡ length parts.front + length parts.back = ap length parts.joined ∙ length-append parts.front parts.back in
    let whole : text ++ rest ≡ parts.front ++ (parts.back ++ rest) = ap (λ (t : List ℕ). t ++ rest) parts.joined ∙ append_assoc parts.front parts.back rest in
    let read = items_again files most file item is.switches p.1 parts.front parts.back rest (omega arith) parts.front_is parts.back_is in
    (read.0, ap (place_at files most file item) whole ∙ read.1 ∙ ap (λ (n : ℕ). Ok (placed read.0 (n, p.1), rest)) is.current)

-- an item is refused, and there are no more items than bytes
pub place_refused : (files most file item : ℕ) (rest : List ℕ) (e : SideRefusal) → length rest ≤ most → item_at files item rest ≡ Err e → place_at files most file item rest ≡ Err e
place_refused files zero file item [] e enough read = ap (λ (d : SideRefusal). Err d) (err_is {A = Item × List ℕ} Cut e (sym (no_item files item) ∙ read))
place_refused files zero file item (b ∷ rest) e enough read = absurd (omega arith)
place_refused files (suc most) file item rest e enough read = rw read refl

-- ---- places one after another

pub places_take : (files count file item : ℕ) (bytes : List ℕ) (ps : List (ℕ × ℤ)) (rest : List ℕ) → IsBytes bytes → places_at files count file item bytes ≡ Ok (ps, rest)
    → (length ps ≡ count) × Takes (SpellsPlaces files file ps) bytes rest
places_take files zero file item bytes ps rest fits e =
    let is = ok_is {E = SideRefusal} ([], bytes) (ps, rest) e in
    subst (λ (q : List (ℕ × ℤ) × List ℕ). (length q.0 ≡ 0) × Takes (SpellsPlaces files file q.0) bytes q.1) is (refl, record { text = []; is = refl; joined = refl; fits = fits })
places_take files (suc count) file item bytes ps rest fits e =
    let p = bind_ok (place_at files (length bytes) file item bytes) (λ (p : Placed × List ℕ). made_of (λ qs. p.0.place ∷ qs) (places_at files count p.0.place.0 p.0.next p.1)) (ps, rest) e in
    let qs = made_ok (λ (qs : List (ℕ × ℤ)). p.0.0.place ∷ qs) (places_at files count p.0.0.place.0 p.0.0.next p.0.1) ps rest p.2 in
    let first = place_takes files (length bytes) file item bytes p.0.0 p.0.1 fits p.1 in
    let others = places_take files count p.0.0.place.0 p.0.0.next p.0.1 qs.0 rest first.fits qs.1 in
    subst (λ (xs : List (ℕ × ℤ)). (length xs ≡ suc count) × Takes (SpellsPlaces files file xs) bytes rest) qs.2 (ap suc others.0, Takes-then first others.1)

pub places_again : (files file item : ℕ) (ps : List (ℕ × ℤ)) (text rest : List ℕ) → SpellsPlaces files file ps text → places_at files (length ps) file item (text ++ rest) ≡ Ok (ps, rest)
places_again files file item [] text rest is = rw is refl
places_again files file item (p ∷ ps) text rest is =
    let whole : text ++ rest ≡ is.front ++ (is.back ++ rest) = ap (λ (t : List ℕ). t ++ rest) is.joined ∙ append_assoc is.front is.back rest in
    let first = place_again files (length (is.front ++ (is.back ++ rest))) file item p is.front (is.back ++ rest) (omega (arith, length-append is.front (is.back ++ rest))) is.front_is in
    let read : place_at files (length (is.front ++ (is.back ++ rest))) file item (is.front ++ (is.back ++ rest)) ≡ Ok (placed first.0 p, is.back ++ rest) = first.1 in
    let others : places_at files (length ps) p.0 first.0 (is.back ++ rest) ≡ Ok (ps, rest) = places_again files p.0 first.0 ps is.back rest is.back_is in
    rw (whole, read, others) refl
