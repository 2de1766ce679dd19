-- Where the functions of split code are entered.
use Rattle.std.proofs.Common.{◌≡◌, ◌↔◌, ℕ, zero, suc, ◌+◌, ◌-◌, ◌<◌, ◌≤◌, ◌⊎◌, inl, inr, List, [], ◌∷◌, ◌++◌, length, replicate, Option, Some, None, refl, sym, ap, ◌∙◌, arith}
use Rattle.std.specs.BTreeMap.{BTreeMap, get}
use Rattle.std.specs.Ordering.{nat_cmp}
use Rattle.std.specs.List.{slice_get, AllByRecursion}
use Rattle.std.specs.Option.{option_map}
use Rattle.std.proofs.lemmas.Bool.{cases_lt}
use Rattle.std.proofs.lemmas.Option.{none-some, same_Some, slice_get-map}
use Rattle.op_table.specs.Instruction.{Instruction}
use Rattle.func_split.specs.declared.mark.Mark.{Mark}
use Rattle.func_split.specs.declared.mark.Mark.TheVariants as marks
use Rattle.func_split.specs.Marks.{marks_of, mark_of}
use Rattle.func_split.specs.Functions.{Piece, IsFunction, IsInBody, AreFrom, IsEntry, IsSplit}
use Rattle.func_split.specs.Reading.{place_in}
use Rattle.func_split.proofs.Standing.{Stands, stands_at, inside, size_is, each_at, slice_get-behind}
use Rattle.func_split.proofs.Known.{place_is, known}

no_label-func : (label : Option ℕ) (head : Option (ℕ × ℕ)) → Some (marks.Label label) ≡ Some (marks.Func head) → ⊥
no_label-func label head e = grind arith

no_line-func : (head : Option (ℕ × ℕ)) → Some marks.Line ≡ Some (marks.Func head) → ⊥
no_line-func head e = grind arith

no_close-func : (head : Option (ℕ × ℕ)) → Some marks.Close ≡ Some (marks.Func head) → ⊥
no_close-func head e = grind arith

same_head : (given head : Option (ℕ × ℕ)) → Some (marks.Func given) ≡ Some (marks.Func head) → head ≡ given
same_head given head e = grind arith

-- a function has one `func_info`
func_behind : (lines : ℕ) (given : Option (ℕ × ℕ)) (label : Option ℕ) (body : List Mark) → AllByRecursion IsInBody body → (k : ℕ) (head : Option (ℕ × ℕ))
    → slice_get (replicate lines marks.Line ++ marks.Func given ∷ marks.Label label ∷ body) k ≡ Some (marks.Func head) → (k ≡ lines) × (head ≡ given)
func_behind zero given label body all zero head e = (refl, same_head given head e)
func_behind zero given label body all (suc zero) head e = absurd (no_label-func label head e)
func_behind zero given label body all (suc (suc k)) head e = absurd (each_at IsInBody body all k (marks.Func head) e)
func_behind (suc lines) given label body all zero head e = absurd (no_line-func head e)
func_behind (suc lines) given label body all (suc k) head e =
    let later = func_behind lines given label body all k head e in
    (ap suc later.0, later.1)

func_in : (f : Piece) (is : IsFunction f) (k : ℕ) (head : Option (ℕ × ℕ)) → slice_get (marks_of f.instrs) k ≡ Some (marks.Func head) → (f.entry ≡ suc k) × (head ≡ Some (f.name, f.arity))
func_in f is k head e = go k (sym (ap (λ (ms : List Mark). slice_get ms k) is.marks) ∙ e)
  where
    go : (k : ℕ) → slice_get (marks.Label (Some is.label) ∷ (replicate is.lines marks.Line ++ marks.Func (Some (f.name, f.arity)) ∷ marks.Label (Some is.entry_label) ∷ is.body)) k ≡ Some (marks.Func head) → (f.entry ≡ suc k) × (head ≡ Some (f.name, f.arity))
    go zero at = absurd (no_label-func (Some is.label) head at)
    go (suc k) at =
        let found = func_behind is.lines (Some (f.name, f.arity)) (Some is.entry_label) is.body is.body_is k head at in
        (is.entry ∙ omega (arith, found.0), found.1)

behind_front : (code front rest : List Instruction) (k n : ℕ) → code ≡ front ++ rest → n ≡ length front + k → slice_get (marks_of code) n ≡ slice_get (marks_of rest) k
behind_front code front rest k n joined e =
    let there : slice_get code n ≡ slice_get rest k = ap (λ (t : List Instruction). slice_get t n) joined ∙ slice_get-behind front rest k n e in
    slice_get-map mark_of code n ∙ ap (option_map mark_of) there ∙ sym (slice_get-map mark_of rest k)

-- the function whose `func_info` stands at a place
record Enters (fs : List Piece) (place : ℕ) (head : Option (ℕ × ℕ)) : Type 0 where
  number : ℕ
  function : Piece
  is_there : slice_get fs number ≡ Some function
  place_is : function.first + function.entry ≡ suc place
  head_is : head ≡ Some (function.name, function.arity)

first_stands : (f : Piece) (fs : List Piece) (at : ℕ) (code : List Instruction) → AreFrom at (f ∷ fs) code → Stands at code f
first_stands f fs at code are = stands_at (f ∷ fs) at code are 0 f refl

enters : (fs : List Piece) (at : ℕ) (code : List Instruction) → AreFrom at fs code → AllByRecursion IsFunction fs → (n : ℕ) (head : Option (ℕ × ℕ)) → slice_get (marks_of code) n ≡ Some (marks.Func head) → Enters fs (at + n) head
enters [] at code are all zero head e = absurd (no_close-func head (sym (ap (λ (ms : List Mark). slice_get ms 0) are) ∙ e))
enters [] at code are all (suc n) head e = absurd (none-some (marks.Func head) (sym (ap (λ (ms : List Mark). slice_get ms (suc n)) are) ∙ e))
enters (f ∷ fs) at code are all n head e = go (λ m later. enters fs (at + length f.instrs) are.1.0 are.1.2 all.1 m head later) (cases_lt n (length f.instrs))
  where
    go : ((m : ℕ) → slice_get (marks_of are.1.0) m ≡ Some (marks.Func head) → Enters fs (at + length f.instrs + m) head) → (n < length f.instrs) ⊎ (length f.instrs ≤ n) → Enters (f ∷ fs) (at + n) head
    go again (inl below) =
        let same = inside at code f (first_stands f fs at code are) n n below (omega (arith, are.0)) in
        let is = func_in f all.0 n head (sym same ∙ e) in
        record { number = 0; function = f; is_there = refl; place_is = omega (arith, is.0, are.0); head_is = is.1 }
    go again (inr above) =
        let m = n - length f.instrs in
        let same = behind_front code f.instrs are.1.0 m n are.1.1 (omega arith) in
        let later = again m (sym same ∙ e) in
        let place : later.function.first + later.function.entry ≡ suc (at + n) = omega (arith, later.place_is) in
        record { number = suc later.number; function = later.function; is_there = later.is_there; place_is = place; head_is = later.head_is }

-- a label is an entry label where a `func_info` stands right before its place
pub record IsEntered (code : List Mark) (places : BTreeMap ℕ ℕ) (label arity : ℕ) : Type 0 where
  pub before : ℕ
  pub name : ℕ
  pub place_is : get nat_cmp places label ≡ Some (suc before)
  pub func_is : slice_get code before ≡ Some (marks.Func (Some (name, arity)))

pub entered_is : (labels : ℕ) (code : List Instruction) (fs : List Piece) (places : BTreeMap ℕ ℕ) → IsSplit labels code fs → ((number : ℕ) → get nat_cmp places number ≡ place_in (marks_of code) number)
    → (label arity : ℕ) → IsEntered (marks_of code) places label arity → IsEntry fs label arity
entered_is labels code fs places split are label arity is =
    let e = enters fs 0 code split.pieces split.each is.before (Some (is.name, arity)) is.func_is in
    let f = e.function in
    let function = each_at IsFunction fs split.each e.number f e.is_there in
    let stands = stands_at fs 0 code split.pieces e.number f e.is_there in
    let same = inside 0 code f stands f.entry (suc is.before) (omega (arith, function.entry, size_is f function)) (omega (arith, e.place_is)) in
    let at = place_is (marks_of code) label (suc is.before) (sym (are label) ∙ is.place_is) in
    record { number = e.number; function = f; is_there = e.is_there; stands = sym same ∙ at; arity_is = grind (arith, e.head_is) }

func_at : (lines : ℕ) (m : Mark) (ms : List Mark) → slice_get (replicate lines marks.Line ++ m ∷ ms) lines ≡ Some m
func_at zero m ms = refl
func_at (suc lines) m ms = func_at lines m ms

pub is_entered : (labels : ℕ) (code : List Instruction) (fs : List Piece) (places : BTreeMap ℕ ℕ) → IsSplit labels code fs → ((number : ℕ) → get nat_cmp places number ≡ place_in (marks_of code) number)
    → (label arity : ℕ) → IsEntry fs label arity → IsEntered (marks_of code) places label arity
is_entered labels code fs places split are label arity is =
    let f = is.function in
    let function = each_at IsFunction fs split.each is.number f is.is_there in
    let stands = stands_at fs 0 code split.pieces is.number f is.is_there in
    let size = size_is f function in
    let before = f.first + suc function.lines in
    let next : suc before ≡ f.first + f.entry = omega (arith, function.entry) in
    let label_same = inside 0 code f stands f.entry (suc before) (omega (arith, function.entry)) (omega arith) in
    let func_same = inside 0 code f stands (suc function.lines) before (omega arith) (omega arith) in
    let heads = marks.Label (Some function.entry_label) ∷ function.body in
    let func : slice_get (marks_of f.instrs) (suc function.lines) ≡ Some (marks.Func (Some (f.name, f.arity))) = ap (λ (ms : List Mark). slice_get ms (suc function.lines)) function.marks ∙ func_at function.lines (marks.Func (Some (f.name, f.arity))) heads in
    record {
      before = before;
      name = f.name;
      place_is = are label ∙ known (marks_of code) split.once label (suc before) (label_same ∙ is.stands);
      func_is = func_same ∙ func ∙ ap (λ (n : ℕ). Some (marks.Func (Some (f.name, n)))) is.arity_is;
    }

-- ---- what the method answers

pub no_answer : (code : List Mark) (places : BTreeMap ℕ ℕ) (label : ℕ) (r : Option ℕ) → r ≡ None → ((arity : ℕ) → IsEntered code places label arity → ⊥) → (arity : ℕ) → (r ≡ Some arity) ↔ IsEntered code places label arity
no_answer code places label r none isnt arity = ((λ e. absurd (none-some arity (sym none ∙ e))), (λ is. absurd (isnt arity is)))

pub no_place : (code : List Mark) (places : BTreeMap ℕ ℕ) (label : ℕ) → None ≡ get nat_cmp places label → (arity : ℕ) → IsEntered code places label arity → ⊥
no_place code places label none arity is = none-some (suc is.before) (none ∙ is.place_is)

pub no_before : (code : List Mark) (places : BTreeMap ℕ ℕ) (label place : ℕ) → Some place ≡ get nat_cmp places label → (1 ≤ place → ⊥) → (arity : ℕ) → IsEntered code places label arity → ⊥
no_before code places label place found isnt arity is = isnt (omega (arith, same_Some place (suc is.before) (found ∙ is.place_is)))

before_is : (code : List Mark) (places : BTreeMap ℕ ℕ) (label place at arity : ℕ) → Some place ≡ get nat_cmp places label → at ≡ place - 1 → (is : IsEntered code places label arity) → is.before ≡ at
before_is code places label place at arity found e is = omega (arith, same_Some place (suc is.before) (found ∙ is.place_is))

pub no_instr : (code : List Instruction) (places : BTreeMap ℕ ℕ) (label place at : ℕ) → Some place ≡ get nat_cmp places label → at ≡ place - 1 → None ≡ slice_get code at → (arity : ℕ) → IsEntered (marks_of code) places label arity → ⊥
no_instr code places label place at found e none arity is =
    let same = before_is (marks_of code) places label place at arity found e is in
    none-some (marks.Func (Some (is.name, arity))) (ap (option_map mark_of) none ∙ sym (slice_get-map mark_of code at) ∙ ap (λ (n : ℕ). slice_get (marks_of code) n) (sym same) ∙ is.func_is)

pub some_instr : (code : List Instruction) (places : BTreeMap ℕ ℕ) (label place at : ℕ) (before : Instruction) (m : Mark) (r : Option ℕ) → Some place ≡ get nat_cmp places label → 1 ≤ place → at ≡ place - 1 → Some before ≡ slice_get code at → m ≡ mark_of before
    → ((arity : ℕ) → (r ≡ Some arity) ↔ ((name : ℕ) × (m ≡ marks.Func (Some (name, arity))))) → (arity : ℕ) → (r ≡ Some arity) ↔ IsEntered (marks_of code) places label arity
some_instr code places label place at before m r found some e there same answers arity =
    let mark : slice_get (marks_of code) at ≡ Some m = slice_get-map mark_of code at ∙ ap (option_map mark_of) (sym there) ∙ ap (λ (x : Mark). Some x) (sym same) in
    let one : place ≡ suc at = omega arith in (
      (λ given.
          let head = (answers arity).0 given in
          record { before = at; name = head.0; place_is = sym found ∙ ap (λ (n : ℕ). Some n) one; func_is = mark ∙ ap (λ (x : Mark). Some x) head.1 }),
      (λ is.
          let where_is = before_is (marks_of code) places label place at arity found e is in
          (answers arity).1 (is.name, same_Some m (marks.Func (Some (is.name, arity))) (sym mark ∙ ap (λ (n : ℕ). slice_get (marks_of code) n) (sym where_is) ∙ is.func_is))),
    )
