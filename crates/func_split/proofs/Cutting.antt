-- Where nothing is wrong, the functions that are found stand one behind another.
use Rattle.std.proofs.Common.{◌≡◌, ℕ, suc, ◌+◌, ◌≤◌, Bool, true, false, not, ◌&&◌, Some, None, List, [], ◌∷◌, ◌++◌, length, nat_lt, refl, sym, ap, subst, ◌∙◌, arith, ltb-false}
use Rattle.std.specs.List.{AllByRecursion}
use Rattle.std.proofs.lemmas.Bool.{and_left, and_right, not-false}
use Rattle.func_split.specs.declared.mark.Mark.{Mark}
use Rattle.func_split.specs.declared.mark.Mark.TheVariants as marks
use Rattle.func_split.specs.declared.refusal.FunctionWhy.{FunctionWhy}
use Rattle.func_split.specs.declared.refusal.FunctionWhy.TheVariants as whys
use Rattle.func_split.specs.declared.splitting.Extent.{Extent}
use Rattle.func_split.specs.Functions.{IsInBody, size_limit}
use Rattle.func_split.specs.Faults.{has_own, holds, is_headed, is_nil, is_too_long, leads, size_from}
use Rattle.func_split.specs.Reading.{extents, fault, first_fault, own_place}
use Rattle.func_split.proofs.Walk.{later_none, quiet}
use Rattle.func_split.proofs.Following.{Follows, Front, behind_label}

-- nothing is wrong here, and nothing is told of what is behind
record Stepped (labels : ℕ) (back : List Mark) (m : Mark) (rest : List Mark) : Type 0 where
  here : (why : FunctionWhy) → holds labels back m rest why ≡ false
  later : first_fault labels (m ∷ back) rest ≡ None

stepped : (labels : ℕ) (back : List Mark) (m : Mark) (rest : List Mark) → first_fault labels back (m ∷ rest) ≡ None → Stepped labels back m rest
stepped labels back m rest e =
    let both = later_none (length back) (fault labels back m rest) (first_fault labels (m ∷ back) rest) e in
    record { here = quiet labels back m rest both.0; later = both.1 }

-- a body, and the functions behind it
record Bodied (back ms : List Mark) : Type 0 where
  body : List Mark
  rest : List Mark
  joined : ms ≡ body ++ rest
  body_is : AllByRecursion IsInBody body
  long : size_from back ms ≡ length body
  follows : Follows (length back + length body) (extents back ms) rest

-- what is behind the first label of a function that stands there, and the functions behind
record Lined (back ms : List Mark) (first : ℕ) : Type 0 where
  x : Extent
  lines : ℕ
  entry : ℕ
  body : List Mark
  rest : List Mark
  later : List Extent
  joined : ms ≡ behind_label lines x.name x.arity entry (body ++ rest)
  first_is : x.first ≡ first
  info : x.info ≡ length back + lines
  found : extents back ms ≡ x ∷ later
  body_is : AllByRecursion IsInBody body
  long : size_from back ms ≡ lines + (2 + length body)
  follows : Follows (length back + (lines + (2 + length body))) later rest

abbrev HasBody : ℕ → List Mark → Type 0
HasBody labels ms = (back : List Mark) → first_fault labels back ms ≡ None → is_nil ms ≡ false → is_headed back ≡ false → (leads ms && has_own back) ≡ false → Bodied back ms

abbrev HasLines : ℕ → List Mark → Type 0
HasLines labels ms = (back : List Mark) (first : ℕ) → first_fault labels back ms ≡ None → has_own back ≡ true → own_place back ≡ Some first → leads ms ≡ true → Lined back ms first

-- behind a label
abbrev HasBehind : ℕ → List Mark → Type 0
HasBehind labels ms = (entry : ℕ) (rest : List Mark) → ms ≡ marks.Label (Some entry) ∷ rest → HasBody labels rest

-- ---- bodies

grown : (back : List Mark) (m : Mark) (ms : List Mark) → IsInBody m → extents back (m ∷ ms) ≡ extents (m ∷ back) ms → size_from back (m ∷ ms) ≡ suc (size_from (m ∷ back) ms) → Bodied (m ∷ back) ms → Bodied back (m ∷ ms)
grown back m ms is same long b =
    let at : length (m ∷ back) + length b.body ≡ length back + length (m ∷ b.body) = omega arith in
    record {
      body = m ∷ b.body;
      rest = b.rest;
      joined = ap (λ (l : List Mark). m ∷ l) b.joined;
      body_is = (is, b.body_is);
      long = long ∙ ap suc b.long;
      follows = subst (λ (xs : List Extent). Follows (length back + length (m ∷ b.body)) xs b.rest) (sym same) (subst (λ (n : ℕ). Follows n (extents (m ∷ back) ms) b.rest) at b.follows);
    }

-- the functions, behind an empty body
bare : (back ms : List Mark) → size_from back ms ≡ 0 → Follows (length back) (extents back ms) ms → Bodied back ms
bare back ms long f =
    let at : length back ≡ length back + 0 = omega arith in
    record { body = []; rest = ms; joined = refl; body_is = tt; long = long; follows = subst (λ (n : ℕ). Follows n (extents back ms) ms) at f }

-- a function from its first label on
begun : (labels : ℕ) (back : List Mark) (label : ℕ) (ms : List Mark) → is_too_long back (marks.Label (Some label)) ms ≡ false → is_headed back ≡ false → leads ms ≡ true
    → Lined (marks.Label (Some label) ∷ back) ms (length back) → Follows (length back) (extents back (marks.Label (Some label) ∷ ms)) (marks.Label (Some label) ∷ ms)
begun labels back label ms short headed led l =
    let m : Mark = marks.Label (Some label) in
    let test : nat_lt size_limit (suc (size_from (m ∷ back) ms)) ≡ false = rw (led, headed) at short in
    let within : suc (size_from (m ∷ back) ms) ≤ size_limit = ltb-false _ _ test in
    let long : size_from (m ∷ back) ms ≡ l.lines + (2 + length l.body) = l.long in
    let info : l.x.info ≡ length (m ∷ back) + l.lines = l.info in
    let at : length (m ∷ back) + (l.lines + (2 + length l.body)) ≡ length back + (l.lines + (3 + length l.body)) = omega arith in
    let front : Front (length back) l.x (m ∷ ms) = record { label = label; lines = l.lines; entry = l.entry; body = l.body; rest = l.rest; joined = ap (λ (t : List Mark). m ∷ t) l.joined; first = l.first_is; info = omega arith; body_is = l.body_is; size = omega arith } in
    subst (λ (xs : List Extent). Follows (length back) xs (m ∷ ms)) (sym l.found) (front, subst (λ (n : ℕ). Follows n l.later l.rest) at l.follows)

-- a function begins, or the body goes on
body_label : (labels label : ℕ) (ms : List Mark) → HasBody labels ms → HasLines labels ms → HasBody labels (marks.Label (Some label) ∷ ms)
body_label labels label ms body lines back sound some headed apart = by (leads ms) refl
  where
    by : (b : Bool) → leads ms ≡ b → Bodied back (marks.Label (Some label) ∷ ms)
    by true led =
        let s = stepped labels back (marks.Label (Some label)) ms sound in
        let l = lines (marks.Label (Some label) ∷ back) (length back) s.later (ap not headed) (rw headed) led in
        bare back (marks.Label (Some label) ∷ ms) (rw (led, headed)) (begun labels back label ms (s.here whys.Long) headed led l)
    by false led =
        let s = stepped labels back (marks.Label (Some label)) ms sound in
        grown back (marks.Label (Some label)) ms tt refl (rw led) (body (marks.Label (Some label) ∷ back) s.later (s.here whys.End) refl (and_left _ _ led))

body_close : (labels : ℕ) (ms : List Mark) → HasBody labels (marks.Close ∷ ms)
body_close labels [] back sound some headed apart = bare back (marks.Close ∷ []) refl refl
body_close labels (m ∷ ms) back sound some headed apart = let wrong : true ≡ false = (stepped labels back marks.Close (m ∷ ms) sound).here whys.End in absurd cc

-- ---- from the first label on

lines_more : (labels : ℕ) (ms : List Mark) → HasLines labels ms → HasLines labels (marks.Line ∷ ms)
lines_more labels ms lines back first sound own place led =
    let s = stepped labels back marks.Line ms sound in
    let l = lines (marks.Line ∷ back) first s.later own place led in
    let long : size_from (marks.Line ∷ back) ms ≡ l.lines + (2 + length l.body) = l.long in
    let info : l.x.info ≡ length (marks.Line ∷ back) + l.lines = l.info in
    let at : length (marks.Line ∷ back) + (l.lines + (2 + length l.body)) ≡ length back + (suc l.lines + (2 + length l.body)) = omega arith in
    record {
      x = l.x;
      lines = suc l.lines;
      entry = l.entry;
      body = l.body;
      rest = l.rest;
      later = l.later;
      joined = ap (λ (t : List Mark). marks.Line ∷ t) l.joined;
      first_is = l.first_is;
      info = omega arith;
      found = l.found;
      body_is = l.body_is;
      long = omega arith;
      follows = subst (λ (n : ℕ). Follows n l.later l.rest) at l.follows;
    }

head_found : (labels name arity entry : ℕ) (ms : List Mark) → HasBody labels ms → HasLines labels (marks.Func (Some (name, arity)) ∷ marks.Label (Some entry) ∷ ms)
head_found labels name arity entry ms body back first sound own place led =
    let f : Mark = marks.Func (Some (name, arity)) in
    let m : Mark = marks.Label (Some entry) in
    let head = stepped labels back f (m ∷ ms) sound in
    let s = stepped labels (f ∷ back) m ms head.later in
    let b = body (m ∷ f ∷ back) s.later (s.here whys.End) refl (and_right _ _ (ap not own)) in
    let skipped : (leads ms && not (has_own back)) ≡ false = and_right _ _ (ap not own) in
    let behind : size_from (m ∷ f ∷ back) ms ≡ length b.body = b.long in
    let at : length (m ∷ f ∷ back) + length b.body ≡ length back + (0 + (2 + length b.body)) = omega arith in
    record {
      x = record { first = first; info = length back; name = name; arity = arity };
      lines = 0;
      entry = entry;
      body = b.body;
      rest = b.rest;
      later = extents (m ∷ f ∷ back) ms;
      joined = ap (λ (t : List Mark). f ∷ m ∷ t) b.joined;
      first_is = refl;
      info = omega arith;
      found = rw place;
      body_is = b.body_is;
      long = rw skipped (omega arith);
      follows = subst (λ (n : ℕ). Follows n (extents (m ∷ f ∷ back) ms) b.rest) at b.follows;
    }

-- a `func_info` with nothing wrong stands before a label
lines_head : (labels : ℕ) (head : _) (ms : List Mark) → HasBehind labels ms → HasLines labels (marks.Func head ∷ ms)
lines_head labels None ms body back first sound own place led = let wrong : true ≡ false = (stepped labels back (marks.Func None) ms sound).here whys.Shape in absurd cc
lines_head labels (Some head) (marks.Label (Some entry) ∷ rest) body back first sound own place led = head_found labels head.0 head.1 entry rest (body entry rest refl) back first sound own place led
lines_head labels (Some head) (marks.Label None ∷ rest) body back first sound own place led =
    let s = stepped labels back (marks.Func (Some head)) (marks.Label None ∷ rest) sound in
    let wrong : true ≡ false = (stepped labels (marks.Func (Some head) ∷ back) (marks.Label None) rest s.later).here whys.Shape in absurd cc
lines_head labels (Some head) [] body back first sound own place led = let wrong : true ≡ false = (stepped labels back (marks.Func (Some head)) [] sound).here whys.NoEntry in absurd cc
lines_head labels (Some head) (marks.Line ∷ rest) body back first sound own place led = let wrong : true ≡ false = (stepped labels back (marks.Func (Some head)) (marks.Line ∷ rest) sound).here whys.NoEntry in absurd cc
lines_head labels (Some head) (marks.Func other ∷ rest) body back first sound own place led = let wrong : true ≡ false = (stepped labels back (marks.Func (Some head)) (marks.Func other ∷ rest) sound).here whys.NoEntry in absurd cc
lines_head labels (Some head) (marks.Close ∷ rest) body back first sound own place led = let wrong : true ≡ false = (stepped labels back (marks.Func (Some head)) (marks.Close ∷ rest) sound).here whys.NoEntry in absurd cc
lines_head labels (Some head) (marks.Other ∷ rest) body back first sound own place led = let wrong : true ≡ false = (stepped labels back (marks.Func (Some head)) (marks.Other ∷ rest) sound).here whys.NoEntry in absurd cc

no_own : (labels : ℕ) (head : _) (ms : List Mark) → HasBody labels (marks.Func head ∷ ms)
no_own labels head ms back sound some headed apart =
    let wrong : not (has_own back) ≡ false = (stepped labels back (marks.Func head) ms sound).here whys.NoLabel in
    let none : not (has_own back) ≡ true = ap not apart in
    absurd cc

-- ---- all code

-- what is at each rest of the code
record Rest (labels : ℕ) (ms : List Mark) : Type 0 where
  body : HasBody labels ms
  lines : HasLines labels ms
  behind : HasBehind labels ms

each_rest : (labels : ℕ) (ms : List Mark) → Rest labels ms
each_rest labels [] = record { body = λ back sound some headed apart. absurd cc; lines = λ back first sound own place led. absurd cc; behind = λ entry rest e. absurd cc }
each_rest labels (marks.Line ∷ ms) =
    let r = each_rest labels ms in
    record {
      body = λ back sound some headed apart. let s = stepped labels back marks.Line ms sound in grown back marks.Line ms tt refl refl (r.body (marks.Line ∷ back) s.later (s.here whys.End) refl apart);
      lines = lines_more labels ms r.lines;
      behind = λ entry rest e. absurd cc;
    }
each_rest labels (marks.Other ∷ ms) =
    let r = each_rest labels ms in
    record {
      body = λ back sound some headed apart. let s = stepped labels back marks.Other ms sound in grown back marks.Other ms tt refl refl (r.body (marks.Other ∷ back) s.later (s.here whys.End) refl (and_right _ _ refl));
      lines = λ back first sound own place led. absurd cc;
      behind = λ entry rest e. absurd cc;
    }
each_rest labels (marks.Close ∷ ms) = record { body = body_close labels ms; lines = λ back first sound own place led. absurd cc; behind = λ entry rest e. absurd cc }
each_rest labels (marks.Label (Some label) ∷ ms) =
    let r = each_rest labels ms in
    record {
      body = body_label labels label ms r.body r.lines;
      lines = λ back first sound own place led. absurd cc;
      behind = λ entry rest e. let same : ms ≡ rest = cc in subst (λ (t : List Mark). HasBody labels t) same r.body;
    }
each_rest labels (marks.Label None ∷ ms) =
    record {
      body = λ back sound some headed apart. let wrong : true ≡ false = (stepped labels back (marks.Label None) ms sound).here whys.Shape in absurd cc;
      lines = λ back first sound own place led. absurd cc;
      behind = λ entry rest e. absurd cc;
    }
each_rest labels (marks.Func head ∷ ms) =
    let r = each_rest labels ms in
    record { body = no_own labels head ms; lines = lines_head labels head ms r.behind; behind = λ entry rest e. absurd cc }

-- the functions that are found in code with nothing wrong
pub code_follows : (labels : ℕ) (code : List Mark) → is_nil code ≡ false → first_fault labels [] code ≡ None → Follows 0 (extents [] code) code
code_follows labels [] some sound = absurd cc
code_follows labels (marks.Label (Some label) ∷ ms) some sound =
    let s = stepped labels [] (marks.Label (Some label)) ms sound in
    let led : leads ms ≡ true = not-false (leads ms) (s.here whys.Start) in
    begun labels [] label ms (s.here whys.Long) refl led ((each_rest labels ms).lines (marks.Label (Some label) ∷ []) 0 s.later refl refl led)
code_follows labels (marks.Label None ∷ ms) some sound = let wrong : true ≡ false = (stepped labels [] (marks.Label None) ms sound).here whys.Shape in absurd cc
code_follows labels (marks.Line ∷ ms) some sound = let wrong : true ≡ false = (stepped labels [] marks.Line ms sound).here whys.Start in absurd cc
code_follows labels (marks.Func head ∷ ms) some sound = let wrong : true ≡ false = (stepped labels [] (marks.Func head) ms sound).here whys.Start in absurd cc
code_follows labels (marks.Other ∷ ms) some sound = let wrong : true ≡ false = (stepped labels [] marks.Other ms sound).here whys.Start in absurd cc
code_follows labels (marks.Close ∷ []) some sound = refl
code_follows labels (marks.Close ∷ m ∷ ms) some sound = let wrong : true ≡ false = (stepped labels [] marks.Close (m ∷ ms) sound).here whys.End in absurd cc
