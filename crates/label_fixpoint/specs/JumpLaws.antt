-- The laws of the small flow for the tests.
use Rattle.std.proofs.Common.{◌≡◌, ℕ, ◌<◌, ◌≤◌, Bool, true, false, ltb, List, [], Contains, length, slice_index, refl, subst, arith}
use Rattle.std.proofs.lemmas.Bool.{ltb-true}
use Rattle.std.proofs.lemmas.List.Elements.{Contains-push}
use Rattle.label_fixpoint.specs.declared.edge.Edge.{Edge}
use Rattle.label_fixpoint.specs.Meaning.{LeadsAbove, IsLawful}
use Rattle.label_fixpoint.specs.Singles.{nothing_in, only_in}
use Rattle.label_fixpoint.specs.Jumps.{edge_to, edge_within, edges_from, jumps_of}

-- which edge there can be
only : (within : Bool) (target state : ℕ) (e : Edge ℕ) → Contains (edge_within within target state) e → (within ≡ true) × (edge_to target state ≡ e)
only true target state e held = (refl, only_in (edge_to target state) e held)
only false target state e held = nothing_in e held

leads : (numbers : List ℕ) (within : Bool) (target a b : ℕ) → a ≤ b → within ≡ true → LeadsAbove (jumps_of numbers) (edge_within within target b) target (edge_to target a).state
leads numbers true target a b le is = (edge_to target b, Contains-push [] (edge_to target b), refl, omega (arith, le))
leads numbers false target a b le is = absurd (cc)

pub jumps_of-lawful : (numbers : List ℕ) → 0 < length numbers → IsLawful (jumps_of numbers)
jumps_of-lawful numbers any = record {
  first_fits = omega arith;
  entry_is_place = any;
  reflexive = λ a fit. omega arith;
  transitive = λ a b c fit_a fit_b fit_c ab bc. omega (arith, ab, bc);
  targets = λ p a e inside fit held.
      let edge = only (ltb (slice_index numbers p) (length numbers)) (slice_index numbers p) a e held in
      subst (λ (x : Edge ℕ). x.target < length numbers) edge.1 (ltb-true (slice_index numbers p) (length numbers) edge.0);
  edges_fit = λ p a e inside fit held.
      let edge = only (ltb (slice_index numbers p) (length numbers)) (slice_index numbers p) a e held in
      let low : (edge_to (slice_index numbers p) a).state < 4 = omega arith in
      subst (λ (x : Edge ℕ). x.state < 4) edge.1 low;
  monotone = λ p a b e inside fit_a fit_b le held.
      let edge = only (ltb (slice_index numbers p) (length numbers)) (slice_index numbers p) a e held in
      subst (λ (x : Edge ℕ). LeadsAbove (jumps_of numbers) (edges_from numbers p b) x.target x.state) edge.1
      (leads numbers (ltb (slice_index numbers p) (length numbers)) (slice_index numbers p) a b le edge.0);
  rank_bound = λ a fit. fit;
  rank_keeps = λ a b fit_a fit_b le. le;
  rank_rises = λ a b fit_a fit_b le above. omega (arith, le, above);
}
