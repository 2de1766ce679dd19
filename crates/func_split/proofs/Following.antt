-- Functions that stand one behind another, told by their marks.
use Rattle.std.proofs.Common.{◌≡◌, ℕ, zero, suc, ◌+◌, ◌≤◌, true, false, Some, List, [], ◌∷◌, ◌++◌, length, replicate, refl, ap}
use Rattle.std.specs.List.{AllByRecursion}
use Rattle.func_split.specs.declared.mark.Mark.{Mark}
use Rattle.func_split.specs.declared.mark.Mark.TheVariants as marks
use Rattle.func_split.specs.declared.splitting.Extent.{Extent}
use Rattle.func_split.specs.Functions.{IsInBody, size_limit}
use Rattle.func_split.specs.Faults.{leads}

-- what stands behind the first label of a function
abbrev pub behind_label : ℕ → ℕ → ℕ → ℕ → List Mark → List Mark
behind_label lines name arity entry rest = replicate lines marks.Line ++ marks.Func (Some (name, arity)) ∷ marks.Label (Some entry) ∷ rest

-- the marks begin with this function, which stands at this place
pub record Front (place : ℕ) (x : Extent) (ms : List Mark) : Type 0 where
  pub label : ℕ
  pub lines : ℕ
  pub entry : ℕ
  pub body : List Mark
  pub rest : List Mark
  pub joined : ms ≡ marks.Label (Some label) ∷ behind_label lines x.name x.arity entry (body ++ rest)
  pub first : x.first ≡ place
  pub info : x.info ≡ place + suc lines
  pub body_is : AllByRecursion IsInBody body
  pub size : lines + (3 + length body) ≤ size_limit

-- from this place on there are these functions, and then the end
abbrev pub Follows : ℕ → List Extent → List Mark → Type 0
Follows place [] ms = ms ≡ marks.Close ∷ []
Follows place (x ∷ xs) ms = (f : Front place x ms) × Follows (place + (f.lines + (3 + length f.body))) xs f.rest

-- no `func_info` follows where a function begins, behind the body of one neither
pub follows_apart : (place : ℕ) (xs : List Extent) (ms : List Mark) → Follows place xs ms → leads ms ≡ false
follows_apart place [] ms f = ap leads f
follows_apart place (x ∷ xs) ms f = ap leads f.0.joined

pub body_apart : (body rest : List Mark) → AllByRecursion IsInBody body → leads rest ≡ false → leads (body ++ rest) ≡ false
body_apart [] rest all apart = apart
body_apart (marks.Line ∷ body) rest all apart = body_apart body rest all.1 apart
body_apart (marks.Label number ∷ body) rest all apart = refl
body_apart (marks.Other ∷ body) rest all apart = refl
body_apart (marks.Func head ∷ body) rest all apart = absurd all.0
body_apart (marks.Close ∷ body) rest all apart = absurd all.0

-- it follows the first label
pub lines_lead : (lines name arity entry : ℕ) (rest : List Mark) → leads (behind_label lines name arity entry rest) ≡ true
lines_lead zero name arity entry rest = refl
lines_lead (suc lines) name arity entry rest = lines_lead lines name arity entry rest
