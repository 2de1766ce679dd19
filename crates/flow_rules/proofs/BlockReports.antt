-- A function's report, read off its blocks.
use Rattle.std.proofs.Common.{◌≡◌, ◌∙◌, ℕ, zero, suc, ◌+◌, ◌<◌, Option, Some, None, List, ◌++◌, length, refl, sym, ap, arith}
use Rattle.reg_state.specs.declared.state.State.{State}
use Rattle.reg_state.specs.States.{store_of}
use Rattle.label_fixpoint.specs.Cut.{at_state, block_read, read, size_of, spread}
use Rattle.label_fixpoint.specs.HeadLaws.{head_of_number}
use Rattle.label_fixpoint.specs.Spreading.{read_by_blocks, spread_least}
use Rattle.label_fixpoint.specs.Typing.{IsLeast, Typing}
use Rattle.code_faults.specs.declared.fault.Fault.{Fault}
use Rattle.code_faults.specs.Faults.{faults_at}
use Rattle.flow_rules.specs.declared.fn_flow.FnFlow.{FnFlow}
use Rattle.flow_rules.specs.Blocks.{block_faults, blocks_in, cut_of, marks_in}
use Rattle.flow_rules.specs.BlockLaws.{flow_cut}
use Rattle.flow_rules.specs.BlockViews.{read_viewed}
use Rattle.flow_rules.specs.Body.{Body}
use Rattle.flow_rules.specs.EdgeLaws.{fit_body}
use Rattle.flow_rules.specs.Flow.{FitsBody, meaning_of}
use Rattle.flow_rules.specs.FlowBody.{body_of, need_at}
use Rattle.flow_rules.specs.Lawful.{body_lawful}
use Rattle.flow_rules.specs.Reporting.{faults_in, typed_faults}
use Rattle.flow_rules.specs.Starts.{begins}

read_same : {A S : Type 0} (t : Typing S) (f g : ℕ → S → List A) (n : ℕ) → ((p : ℕ) (s : S) → p < n → t p ≡ Some s → f p s ≡ g p s) → read t f n ≡ read t g n
read_same t f g zero same = refl
read_same {A} {S} t f g (suc n) same =
    ap (λ (xs : List A). xs ++ at_state (f n) (t n)) (read_same t f g n (λ p s inside is. same p s (omega (arith, inside)) is))
    ∙ ap (λ (xs : List A). read t g n ++ xs) (last (t n) refl) where
      last : (o : Option S) → t n ≡ o → at_state (f n) o ≡ at_state (g n) o
      last None is = refl
      last (Some s) is = same n s (omega arith) is

typed_read : (number first : ℕ) (b : Body) (t : Typing State) (n : ℕ) → typed_faults number first b t n ≡ read t (λ place s. faults_at number (first + place) (need_at b place (store_of s))) n
typed_read number first b t zero = refl
typed_read number first b t (suc n) =
    ap (λ (xs : List Fault). xs ++ faults_in number first b n (t n)) (typed_read number first b t n)
    ∙ ap (λ (xs : List Fault). read t (λ place s. faults_at number (first + place) (need_at b place (store_of s))) n ++ xs) (last (t n)) where
      last : (o : Option State) → faults_in number first b n o ≡ at_state (λ s. faults_at number (first + n) (need_at b n (store_of s))) o
      last None = refl
      last (Some s) = refl

module _ (f : FnFlow) (t : Typing State) (least : IsLeast (blocks_in f) t) where
  pub least_by_blocks : IsLeast (meaning_of (body_of f)) (spread (cut_of (body_of f) (marks_in f)) t)
  least_by_blocks = spread_least State (meaning_of (body_of f)) (cut_of (body_of f) (marks_in f)) (body_lawful (body_of f) f.fits) (flow_cut f) t least

  at_block : (block : ℕ) (s : State) → block < (blocks_in f).place_count → t block ≡ Some s
      → block_read (cut_of (body_of f) (marks_in f)) (λ place d. faults_at f.number (f.function.first + place) (need_at (body_of f) place (store_of d))) block s ≡ block_faults f block (store_of s)
  unfolding FitsBody
  at_block block s inside is =
      let fit = least.consistent.fits block s inside is in
      let cut = cut_of (body_of f) (marks_in f) in
      read_viewed (body_of f) (fit_body (body_of f) f.fits) (marks_in f) (λ place known. faults_at f.number (f.function.first + place) (need_at (body_of f) place known)) (cut.head block) (size_of cut block) s fit

  pub faults_by_blocks : read t (λ block s. block_faults f block (store_of s)) (blocks_in f).place_count ≡ typed_faults f.number f.function.first (body_of f) (spread (cut_of (body_of f) (marks_in f)) t) (length f.plans)
  faults_by_blocks =
      let b = body_of f in
      let cut = cut_of b (marks_in f) in
      let entry = (fit_body b f.fits).entry in
      let first : cut.head 0 ≡ 0 = head_of_number (begins (marks_in f)) (length f.plans) 0 f.entered.first (omega (arith, entry)) in
      let told = read_by_blocks State (meaning_of b) cut (body_lawful b f.fits) (flow_cut f) t (λ place s. faults_at f.number (f.function.first + place) (need_at b place (store_of s))) first in
      let blocks = read_same t (block_read cut (λ place s. faults_at f.number (f.function.first + place) (need_at b place (store_of s)))) (λ block s. block_faults f block (store_of s)) (blocks_in f).place_count at_block in
      sym (typed_read f.number f.function.first b (spread cut t) (length f.plans) ∙ (told ∙ blocks))
