-- Where functions stand one behind another, nothing is wrong, and they are those that are found.
use Rattle.std.proofs.Common.{◌≡◌, ℕ, zero, suc, ◌+◌, ◌≤◌, true, false, not, ◌&&◌, Some, None, List, [], ◌∷◌, ◌++◌, length, nat_lt, refl, sym, ap, subst, ◌∙◌, arith, le-ltb}
use Rattle.std.specs.List.{AllByRecursion}
use Rattle.std.proofs.lemmas.Bool.{and_left, and_right}
use Rattle.func_split.specs.declared.mark.Mark.{Mark}
use Rattle.func_split.specs.declared.mark.Mark.TheVariants as marks
use Rattle.func_split.specs.declared.refusal.FunctionWhy.{FunctionWhy}
use Rattle.func_split.specs.declared.refusal.FunctionWhy.TheVariants as whys
use Rattle.func_split.specs.declared.splitting.Extent.{Extent}
use Rattle.func_split.specs.Functions.{IsInBody, size_limit}
use Rattle.func_split.specs.Faults.{has_own, holds, is_headed, is_misshaped, is_nil, is_out_of_range, is_second, is_too_long, is_wrong_end, lacks_entry, lacks_label, leads, may_start, order, size_from}
use Rattle.func_split.specs.Reading.{extents, fault, first_fault, own_place}
use Rattle.func_split.proofs.Walk.{finds_none}
use Rattle.func_split.proofs.Following.{Follows, Front, behind_label, body_apart, follows_apart, lines_lead}
use Rattle.func_split.proofs.LabelPlaces.{AreNew}

-- nothing is wrong with these marks, and these functions are found, the first of them so far behind
pub record Joined (labels : ℕ) (back ms : List Mark) (xs : List Extent) (size : ℕ) : Type 0 where
  pub sound : first_fault labels back ms ≡ None
  pub found : extents back ms ≡ xs
  pub long : size_from back ms ≡ size
  pub some : is_nil ms ≡ false

-- nothing is wrong here and behind
passed : (labels : ℕ) (back : List Mark) (m : Mark) (rest : List Mark)
    → (is_nil back && not (may_start m rest)) ≡ false → lacks_label back m ≡ false → lacks_entry m rest ≡ false → is_misshaped m ≡ false
    → is_second back m ≡ false → is_out_of_range labels m ≡ false → is_wrong_end m rest ≡ false → is_too_long back m rest ≡ false
    → first_fault labels (m ∷ back) rest ≡ None → first_fault labels back (m ∷ rest) ≡ None
passed labels back m rest start label entry shape twice range end long later =
    let none : fault labels back m rest ≡ None = finds_none (holds labels back m rest) order clear in
    rw none later
  where
    clear : (why : FunctionWhy) → holds labels back m rest why ≡ false
    clear whys.Start = start
    clear whys.NoLabel = label
    clear whys.NoEntry = entry
    clear whys.Shape = shape
    clear whys.LabelTwice = twice
    clear whys.LabelRange = range
    clear whys.End = end
    clear whys.Long = long
    clear whys.Count = refl

module _ (labels place : ℕ) (rest : List Mark) (xs : List Extent) (apart : leads rest ≡ false) (next : (back : List Mark) → length back ≡ place → is_headed back ≡ false → AreNew labels back rest → Joined labels back rest xs 0) where
  joined_body : (body back : List Mark) → length back + length body ≡ place → is_nil back ≡ false → is_headed back ≡ false → AllByRecursion IsInBody body → AreNew labels back (body ++ rest) → Joined labels back (body ++ rest) xs (length body)
  joined_body [] back long some headed all new = next back (omega arith) headed new
  joined_body (marks.Label (Some number) ∷ body) back long some headed all new =
      let m : Mark = marks.Label (Some number) in
      let j = joined_body body (marks.Label (Some number) ∷ back) (omega arith) refl refl all.1 new.2 in
      let none : leads (body ++ rest) ≡ false = body_apart body rest all.1 apart in
      record {
        sound = passed labels back m (body ++ rest) (and_left _ _ some) refl refl refl new.0 new.1 j.some (rw none) j.sound;
        found = j.found;
        long = rw none (ap suc j.long);
        some = refl;
      }
  joined_body (marks.Line ∷ body) back long some headed all new =
      let j = joined_body body (marks.Line ∷ back) (omega arith) refl refl all.1 new.2 in
      record {
        sound = passed labels back marks.Line (body ++ rest) (and_left _ _ some) refl refl refl refl refl j.some refl j.sound;
        found = j.found;
        long = ap suc j.long;
        some = refl;
      }
  joined_body (marks.Other ∷ body) back long some headed all new =
      let j = joined_body body (marks.Other ∷ back) (omega arith) refl refl all.1 new.2 in
      record {
        sound = passed labels back marks.Other (body ++ rest) (and_left _ _ some) refl refl refl refl refl j.some refl j.sound;
        found = j.found;
        long = ap suc j.long;
        some = refl;
      }
  joined_body (marks.Label None ∷ body) back long some headed all new = absurd all.0
  joined_body (marks.Func head ∷ body) back long some headed all new = absurd all.0
  joined_body (marks.Close ∷ body) back long some headed all new = absurd all.0

  joined_lines : (x : Extent) (entry : ℕ) (body : List Mark) → AllByRecursion IsInBody body → x.info + (2 + length body) ≡ place
      → (lines : ℕ) (back : List Mark) → length back + lines ≡ x.info → is_nil back ≡ false → has_own back ≡ true → own_place back ≡ Some x.first
      → AreNew labels back (behind_label lines x.name x.arity entry (body ++ rest)) → Joined labels back (behind_label lines x.name x.arity entry (body ++ rest)) (x ∷ xs) (lines + (2 + length body))
  joined_lines x entry body all end zero back long some own first new =
      let f : Mark = marks.Func (Some (x.name, x.arity)) in
      let l : Mark = marks.Label (Some entry) in
      let j = joined_body body (l ∷ f ∷ back) (omega arith) refl refl all new.2.2 in
      let none : leads (body ++ rest) ≡ false = body_apart body rest all apart in
      let info : length back ≡ x.info = omega arith in
      record {
        sound = passed labels back f (l ∷ (body ++ rest)) (and_left _ _ some) (rw own) refl refl refl refl refl refl
            (passed labels (f ∷ back) l (body ++ rest) refl refl refl refl new.2.0 new.2.1 j.some (rw none) j.sound);
        found = rw (first, info) (ap (λ (ys : List Extent). x ∷ ys) j.found);
        long = rw none (let behind = j.long in omega arith);
        some = refl;
      }
  joined_lines x entry body all end (suc lines) back long some own first new =
      let tail = behind_label lines x.name x.arity entry (body ++ rest) in
      let j = joined_lines x entry body all end lines (marks.Line ∷ back) (omega arith) refl own first new.2 in
      let behind = j.long in
      record {
        sound = passed labels back marks.Line tail (and_left _ _ some) refl refl refl refl refl j.some refl j.sound;
        found = j.found;
        long = omega arith;
        some = refl;
      }

closed : (labels : ℕ) (back : List Mark) → Joined labels back (marks.Close ∷ []) [] 0
closed labels back = record { sound = passed labels back marks.Close [] (and_right _ _ refl) refl refl refl refl refl refl refl refl; found = refl; long = refl; some = refl }

-- functions that stand one behind another
pub joined_from : (labels : ℕ) (xs : List Extent) (place : ℕ) (ms back : List Mark) → length back ≡ place → is_headed back ≡ false → Follows place xs ms → AreNew labels back ms → Joined labels back ms xs 0
joined_from labels [] place ms back long headed f new = subst (λ (ms : List Mark). Joined labels back ms [] 0) (sym f) (closed labels back)
joined_from labels (x ∷ xs) place ms back long headed f new =
    let front : Front place x ms = f.0 in
    let m : Mark = marks.Label (Some front.label) in
    let tail = behind_label front.lines x.name x.arity front.entry (front.body ++ front.rest) in
    let end = place + (front.lines + (3 + length front.body)) in
    let first : x.first ≡ place = front.first in
    let info : x.info ≡ place + suc front.lines = front.info in
    let here : AreNew labels back (m ∷ tail) = subst (λ (ms : List Mark). AreNew labels back ms) front.joined new in
    let apart = follows_apart end xs front.rest f.1 in
    let size : front.lines + (3 + length front.body) ≤ size_limit = front.size in
    let j : Joined labels (m ∷ back) tail (x ∷ xs) (front.lines + (2 + length front.body)) =
    joined_lines labels end front.rest xs apart (λ back long headed new. joined_from labels xs end front.rest back long headed f.1 new)
    x front.entry front.body front.body_is (omega arith) front.lines (m ∷ back) (omega arith) refl (rw headed) (rw headed (ap (λ (n : ℕ). Some n) (long ∙ sym first))) here.2 in
    let behind : size_from (m ∷ back) tail ≡ front.lines + (2 + length front.body) = j.long in
    let led : leads tail ≡ true = lines_lead front.lines x.name x.arity front.entry (front.body ++ front.rest) in
    let short : nat_lt size_limit (suc (size_from (m ∷ back) tail)) ≡ false = le-ltb _ _ (omega arith) in
    subst (λ (ms : List Mark). Joined labels back ms (x ∷ xs) 0) (sym front.joined) (record {
      sound = passed labels back m tail (and_right _ _ (ap not led)) refl refl refl here.0 here.1 j.some (and_right _ _ short) j.sound;
      found = j.found;
      long = rw (led, headed);
      some = refl;
    })
