-- Where the reading of places stops short.
use Rattle.std.proofs.Common.{◌≡◌, ℕ, zero, suc, ◌+◌, ◌<◌, ◌≤◌, ℤ, List, [], ◌∷◌, ◌++◌, length, Result, Ok, Err, refl, sym, ap, subst, ◌∙◌, append_assoc, arith, inl, inr, length-append}
use Rattle.bk_codec.specs.Reading.{◌>>=◌, made_of}
use Rattle.bk_codec.specs.Spelling.{IsBytes, SpellsMany}
use Rattle.bk_codec.proofs.Steps.{bind_ok, bind_err, made_err, ok_is, err_is}
use Rattle.bk_codec.proofs.Agreement.{Takes, Takes-then, Takes-weaker}
use Rattle.side_tables.specs.declared.line_item.Item.{Item}
use Rattle.side_tables.specs.declared.line_item.Item.TheVariants as items
use Rattle.side_tables.specs.declared.refusal.SideRefusal.{SideRefusal}
use Rattle.side_tables.specs.declared.refusal.SideRefusal.TheVariants.{Cut}
use Rattle.side_tables.specs.LineSpelling.{SpellsItem}
use Rattle.side_tables.specs.LineReading.{item_at, Placed, placed, place_by, place_at, places_at}
use Rattle.side_tables.specs.LineRefusal.{lines_in}
use Rattle.side_tables.proofs.LineItems.{item_some, item_agrees, no_item}
use Rattle.side_tables.proofs.LinePlaces.{place_refused}

-- ---- items one after another

-- the bytes begin with these items
abbrev pub TakesItems : ℕ → List Item → List ℕ → List ℕ → Type 0
TakesItems files xs bytes rest = Takes (SpellsMany (SpellsItem files) xs) bytes rest

takes_none : (files : ℕ) (bytes : List ℕ) → IsBytes bytes → TakesItems files [] bytes bytes
takes_none files bytes fits = record { text = []; is = refl; joined = refl; fits = fits }

SpellsMany-append : {A : Type 0} (R : A → List ℕ → Type 0) (xs ys : List A) (a b : List ℕ) → SpellsMany R xs a → SpellsMany R ys b → SpellsMany R (xs ++ ys) (a ++ b)
SpellsMany-append R [] ys a b first second = rw first second
SpellsMany-append R (x ∷ xs) ys a b first second = record {
  front = first.front;
  back = first.back ++ b;
  front_is = first.front_is;
  back_is = SpellsMany-append R xs ys first.back b first.back_is second;
  joined = ap (λ (t : List ℕ). t ++ b) first.joined ∙ append_assoc first.front first.back b;
}

takes_both : (files : ℕ) (xs ys : List Item) (a b c : List ℕ) → TakesItems files xs a b → TakesItems files ys b c → TakesItems files (xs ++ ys) a c
takes_both files xs ys a b c first second =
    Takes-weaker (λ text is. subst (SpellsMany (SpellsItem files) (xs ++ ys)) (sym is.joined) (SpellsMany-append (SpellsItem files) xs ys is.front is.back is.front_is is.back_is)) (Takes-then first second)

lines_in-append : (xs ys : List Item) → lines_in (xs ++ ys) ≡ lines_in xs + lines_in ys
lines_in-append [] ys = omega arith
lines_in-append (items.Line line ∷ xs) ys = omega (arith, lines_in-append xs ys)
lines_in-append (items.File n ∷ xs) ys = lines_in-append xs ys

-- ---- the items of a place that was read

record IsPlace (files item next : ℕ) (bytes rest : List ℕ) : Type 0 where
  its : List Item
  took : TakesItems files its bytes rest
  one : lines_in its ≡ 1
  number : next ≡ item + length its

place_by_items : (files file item : ℕ) (others : ℕ → ℕ → List ℕ → Result (Placed × List ℕ) SideRefusal)
    → ((file item : ℕ) (bytes : List ℕ) (p : Placed) (rest : List ℕ) → IsBytes bytes → others file item bytes ≡ Ok (p, rest) → IsPlace files item p.next bytes rest)
    → (x : Item) (bytes after : List ℕ) (p : Placed) (rest : List ℕ) → Takes (SpellsItem files x) bytes after → place_by others file (item + 1) x after ≡ Ok (p, rest) → IsPlace files item p.next bytes rest
place_by_items files file item others are (items.Line line) bytes after p rest took e =
    let one : IsPlace files item (item + 1) bytes after =
    record { its = items.Line line ∷ []; took = Takes-then took (takes_none files after took.fits); one = refl; number = refl } in
    subst (λ (q : Placed × List ℕ). IsPlace files item q.0.next bytes q.1) (ok_is {E = SideRefusal} (placed (item + 1) (file, line), after) (p, rest) e) one
place_by_items files file item others are (items.File n) bytes after p rest took e =
    let place = are n (item + 1) after p rest took.fits e in
    let number : p.next ≡ item + suc (length place.its) = omega (arith, place.number) in
    record { its = items.File n ∷ place.its; took = Takes-then took place.took; one = place.one; number = number }

place_items : (files most file item : ℕ) (bytes : List ℕ) (p : Placed) (rest : List ℕ) → IsBytes bytes → place_at files most file item bytes ≡ Ok (p, rest) → IsPlace files item p.next bytes rest
place_items files zero file item bytes p rest fits e = absurd cc
place_items files (suc most) file item bytes p rest fits e =
    let x = bind_ok (item_at files item bytes) (λ (x : Item × List ℕ). place_by (place_at files most) file (item + 1) x.0 x.1) (p, rest) e in
    let took = (item_agrees files item).takes bytes x.0.0 x.0.1 fits x.1 in
    place_by_items files file item (place_at files most) (place_items files most) x.0.0 bytes x.0.1 p rest took x.2

-- ---- where places stop

-- items of which fewer than a count are lines, and then bytes that are refused as the next item
pub record Stops (files count item : ℕ) (bytes : List ℕ) (e : SideRefusal) : Type 0 where
  pub before : List Item
  pub rest : List ℕ
  pub took : TakesItems files before bytes rest
  pub fewer : lines_in before < count
  pub refused : item_at files (item + length before) rest ≡ Err e

stops_here : (files count item : ℕ) (bytes : List ℕ) (e : SideRefusal) → IsBytes bytes → 0 < count → item_at files item bytes ≡ Err e → Stops files count item bytes e
stops_here files count item bytes e fits some refused =
    let number : item ≡ item + 0 = omega arith in
    record { before = []; rest = bytes; took = takes_none files bytes fits; fewer = some; refused = subst (λ (n : ℕ). item_at files n bytes ≡ Err e) number refused }

place_by_stops : (files file item : ℕ) (others : ℕ → ℕ → List ℕ → Result (Placed × List ℕ) SideRefusal) (after : List ℕ) (e : SideRefusal)
    → ((file item : ℕ) → others file item after ≡ Err e → Stops files 1 item after e)
    → (x : Item) (bytes : List ℕ) → Takes (SpellsItem files x) bytes after → place_by others file (item + 1) x after ≡ Err e → Stops files 1 item bytes e
place_by_stops files file item others after e stop (items.Line line) bytes took h = absurd cc
place_by_stops files file item others after e stop (items.File n) bytes took h =
    let later = stop n (item + 1) h in
    let number : item + 1 + length later.before ≡ item + suc (length later.before) = omega arith in
    record {
      before = items.File n ∷ later.before;
      rest = later.rest;
      took = Takes-then took later.took;
      fewer = later.fewer;
      refused = subst (λ (i : ℕ). item_at files i later.rest ≡ Err e) number later.refused;
    }

place_stops : (files most file item : ℕ) (bytes : List ℕ) (e : SideRefusal) → length bytes ≤ most → IsBytes bytes → place_at files most file item bytes ≡ Err e → Stops files 1 item bytes e
place_stops files zero file item [] e enough fits h =
    let cut : Cut ≡ e = err_is {A = Placed × List ℕ} Cut e h in
    stops_here files 1 item [] e fits (omega arith) (no_item files item ∙ ap (λ (d : SideRefusal). Err d) cut)
place_stops files zero file item (b ∷ bytes) e enough fits h = absurd (omega arith)
place_stops files (suc most) file item bytes e enough fits h =
    elim (bind_err (item_at files item bytes) (λ (x : Item × List ℕ). place_by (place_at files most) file (item + 1) x.0 x.1) e h) [
      | inl refused ↦ stops_here files 1 item bytes e fits (omega arith) refused
      | inr x ↦
          let took = (item_agrees files item).takes bytes x.0.0 x.0.1 fits x.1 in
          let some : 0 < length took.text = item_some files x.0.0 took.text took.is in
          let lengths : length bytes ≡ length took.text + length x.0.1 = ap length took.joined ∙ length-append took.text x.0.1 in
          let left : length x.0.1 ≤ most = omega arith in
          place_by_stops files file item (place_at files most) x.0.1 e (λ n next refused. place_stops files most n next x.0.1 e left took.fits refused) x.0.0 bytes took x.2
    ]

stops_later : (files count item next : ℕ) (bytes after : List ℕ) (e : SideRefusal) → IsPlace files item next bytes after → Stops files count next after e → Stops files (suc count) item bytes e
stops_later files count item next bytes after e place later =
    let lines : lines_in (place.its ++ later.before) ≡ lines_in place.its + lines_in later.before = lines_in-append place.its later.before in
    let fewer : lines_in (place.its ++ later.before) < suc count = omega (arith, place.one, later.fewer) in
    let number : next + length later.before ≡ item + length (place.its ++ later.before) = omega (arith, place.number, length-append place.its later.before) in
    record {
      before = place.its ++ later.before;
      rest = later.rest;
      took = takes_both files place.its later.before bytes after later.rest place.took later.took;
      fewer = fewer;
      refused = subst (λ (i : ℕ). item_at files i later.rest ≡ Err e) number later.refused;
    }

more_lines : (files count item : ℕ) (bytes : List ℕ) (e : SideRefusal) → Stops files 1 item bytes e → Stops files (suc count) item bytes e
more_lines files count item bytes e s =
    let fewer : lines_in s.before < suc count = omega (arith, s.fewer) in
    record { before = s.before; rest = s.rest; took = s.took; fewer = fewer; refused = s.refused }

pub places_stop : (files count file item : ℕ) (bytes : List ℕ) (e : SideRefusal) → IsBytes bytes → places_at files count file item bytes ≡ Err e → Stops files count item bytes e
places_stop files zero file item bytes e fits h = absurd cc
places_stop files (suc count) file item bytes e fits h =
    elim (bind_err (place_at files (length bytes) file item bytes) (λ (p : Placed × List ℕ). made_of (λ ps. p.0.place ∷ ps) (places_at files count p.0.place.0 p.0.next p.1)) e h) [
      | inl refused ↦ more_lines files count item bytes e (place_stops files (length bytes) file item bytes e (omega arith) fits refused)
      | inr p ↦
          let place = place_items files (length bytes) file item bytes p.0.0 p.0.1 fits p.1 in
          let refused : places_at files count p.0.0.place.0 p.0.0.next p.0.1 ≡ Err e = made_err (λ (ps : List (ℕ × ℤ)). p.0.0.place ∷ ps) (places_at files count p.0.0.place.0 p.0.0.next p.0.1) e p.2 in
          stops_later files count item p.0.0.next bytes p.0.1 e place (places_stop files count p.0.0.place.0 p.0.0.next p.0.1 e place.took.fits refused)
    ]

-- ---- and where they stop, they are refused

-- the next place, and the places behind it
abbrev places_from : ℕ → ℕ → ℕ → ℕ → ℕ → List ℕ → Result (List (ℕ × ℤ) × List ℕ) SideRefusal
places_from files count most file item bytes = place_at files most file item bytes >>= λ p. made_of (λ ps. p.0.place ∷ ps) (places_at files count p.0.place.0 p.0.next p.1)

stops_again : (files count most file item : ℕ) (before : List Item) (front rest : List ℕ) (e : SideRefusal) → length (front ++ rest) ≤ most
    → SpellsMany (SpellsItem files) before front → lines_in before < suc count → item_at files (item + length before) rest ≡ Err e → places_from files count most file item (front ++ rest) ≡ Err e
stops_again files count most file item [] front rest e enough is fewer refused =
    let number : item + 0 ≡ item = omega arith in
    let here : item_at files item rest ≡ Err e = subst (λ (i : ℕ). item_at files i rest ≡ Err e) number refused in
    let left : length rest ≤ most = subst (λ (t : List ℕ). length (t ++ rest) ≤ most) is enough in
    rw (is, place_refused files most file item rest e left here) refl
stops_again files count zero file item (x ∷ before) front rest e enough is fewer refused =
    let some : 0 < length is.front = item_some files x is.front is.front_is in
    let lengths : length front ≡ length is.front + length is.back = ap length is.joined ∙ length-append is.front is.back in
    absurd (omega (arith, length-append front rest))
stops_again files zero (suc most) file item (items.Line line ∷ before) front rest e enough is fewer refused = absurd (omega arith)
stops_again files (suc count) (suc most) file item (items.Line line ∷ before) front rest e enough is fewer refused =
    let whole : front ++ rest ≡ is.front ++ (is.back ++ rest) = ap (λ (t : List ℕ). t ++ rest) is.joined ∙ append_assoc is.front is.back rest in
    let read : item_at files item (is.front ++ (is.back ++ rest)) ≡ Ok (items.Line line, is.back ++ rest) = (item_agrees files item).again (items.Line line) is.front (is.back ++ rest) is.front_is in
    let number : item + suc (length before) ≡ item + 1 + length before = omega arith in
    let others : places_at files (suc count) file (item + 1) (is.back ++ rest) ≡ Err e =
    stops_again files count (length (is.back ++ rest)) file (item + 1) before is.back rest e (omega arith) is.back_is (omega arith) (subst (λ (i : ℕ). item_at files i rest ≡ Err e) number refused) in
    rw (whole, read, others) refl
stops_again files count (suc most) file item (items.File n ∷ before) front rest e enough is fewer refused =
    let whole : front ++ rest ≡ is.front ++ (is.back ++ rest) = ap (λ (t : List ℕ). t ++ rest) is.joined ∙ append_assoc is.front is.back rest in
    let read : item_at files item (is.front ++ (is.back ++ rest)) ≡ Ok (items.File n, is.back ++ rest) = (item_agrees files item).again (items.File n) is.front (is.back ++ rest) is.front_is in
    let some : 0 < length is.front = item_some files (items.File n) is.front is.front_is in
    let lengths : length (front ++ rest) ≡ length is.front + length (is.back ++ rest) = ap length whole ∙ length-append is.front (is.back ++ rest) in
    let number : item + suc (length before) ≡ item + 1 + length before = omega arith in
    let others : places_from files count most n (item + 1) (is.back ++ rest) ≡ Err e =
    stops_again files count most n (item + 1) before is.back rest e (omega arith) is.back_is fewer (subst (λ (i : ℕ). item_at files i rest ≡ Err e) number refused) in
    rw (whole, read, others) refl

pub places_refused : (files count file item : ℕ) (before : List Item) (front rest : List ℕ) (e : SideRefusal) → SpellsMany (SpellsItem files) before front → lines_in before < count
    → item_at files (item + length before) rest ≡ Err e → places_at files count file item (front ++ rest) ≡ Err e
places_refused files zero file item before front rest e is fewer refused = absurd (omega arith)
places_refused files (suc count) file item before front rest e is fewer refused = stops_again files count (length (front ++ rest)) file item before front rest e (omega arith) is fewer refused
