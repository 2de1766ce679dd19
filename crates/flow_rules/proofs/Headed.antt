-- The entry label of a function is its second label.
use Rattle.std.proofs.Common.{◌≡◌, ◌∙◌, ℕ, zero, suc, ◌≤◌, Bool, true, false, if◌then◌else◌, List, [], ◌∷◌, ◌++◌, length, replicate, Some, refl, sym, ap, subst, arith}
use Rattle.std.proofs.lemmas.List.{append-nil}
use Rattle.label_fixpoint.specs.Heads.{heads_by}
use Rattle.func_split.specs.declared.mark.Mark.{Mark}
use Rattle.func_split.specs.declared.mark.Mark.TheVariants as marks
use Rattle.func_split.specs.Marks.{marks_of}
use Rattle.func_split.specs.Functions.{IsFunction, Piece}
use Rattle.flow_rules.specs.Starts.{begins, HasEntry}

-- what stands before the entry label
abbrev before_entry : ℕ → ℕ × ℕ → ℕ → List Mark → List Mark
before_entry lines head label body = replicate lines marks.Line ++ marks.Func (Some head) ∷ marks.Label (Some label) ∷ body

none_before : (lines : ℕ) (head : ℕ × ℕ) (label : ℕ) (body : List Mark) (p : ℕ) → p ≤ lines → begins (before_entry lines head label body) p ≡ false
none_before zero head label body zero low = refl
none_before zero head label body (suc p) low = absurd (omega (arith, low))
none_before (suc lines) head label body zero low = refl
none_before (suc lines) head label body (suc p) low = none_before lines head label body p (omega (arith, low))

entry_begins : (lines : ℕ) (head : ℕ × ℕ) (label : ℕ) (body : List Mark) → begins (before_entry lines head label body) (suc lines) ≡ true
entry_begins zero head label body = refl
entry_begins (suc lines) head label body = entry_begins lines head label body

one_before : (first : ℕ) (lines : ℕ) (head : ℕ × ℕ) (label : ℕ) (body : List Mark) (p : ℕ) → p ≤ suc lines → heads_by (begins (marks.Label (Some first) ∷ before_entry lines head label body)) (suc p) ≡ 0 ∷ []
one_before first lines head label body zero low = refl
one_before first lines head label body (suc p) low =
    let none = none_before lines head label body p (omega (arith, low)) in
    let all = heads_by (begins (marks.Label (Some first) ∷ before_entry lines head label body)) (suc p) in
    ap (λ (b : Bool). all ++ (if b then suc p ∷ [] else [])) none ∙ (append-nil all ∙ one_before first lines head label body p (omega (arith, low)))

pub function_entered : (f : Piece) → IsFunction f → HasEntry (marks_of f.instrs) f.entry
function_entered f is =
    let ms : List Mark = marks.Label (Some is.label) ∷ before_entry is.lines (f.name, f.arity) is.entry_label is.body in
    let there : HasEntry ms (suc (suc is.lines)) = record {
      first = refl;
      entered = entry_begins is.lines (f.name, f.arity) is.entry_label is.body;
      second = ap (λ (hs : List ℕ). length hs) (one_before is.label is.lines (f.name, f.arity) is.entry_label is.body (suc is.lines) (omega arith));
    } in
    let place : suc (suc is.lines) ≡ f.entry = let at = is.entry in omega (arith, at) in
    subst (HasEntry (marks_of f.instrs)) place (subst (λ (xs : List Mark). HasEntry xs (suc (suc is.lines))) (sym is.marks) there)
