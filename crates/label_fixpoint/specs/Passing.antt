-- What comes to a place of a consistent typing goes on below what the typing has.
use Rattle.std.proofs.Common.{◌≡◌, ℕ, ◌<◌, Contains, subst}
use Rattle.label_fixpoint.specs.declared.edge.Edge.{Edge}
use Rattle.label_fixpoint.specs.Meaning.{Meaning, IsLawful}
use Rattle.label_fixpoint.specs.Typing.{Typing, HasAbove, IsConsistent}

pub passed : (S : Type 0) (m : Meaning S) → IsLawful m → (u : Typing S) → IsConsistent m u → (p : ℕ) (s : S) (e : Edge S) → p < m.place_count → m.IsFit s → HasAbove m u p s → Contains (m.edges_of p s) e → HasAbove m u e.target e.state
passed S m law u consistent p s e inside fit top held =
    let fit_top = consistent.fits p top.0 inside top.1 in
    let grown = law.monotone p s top.0 e inside fit fit_top top.2 held in
    let met = consistent.follows p top.0 grown.0 inside top.1 grown.1 in
    let within = law.targets p top.0 grown.0 inside fit_top grown.1 in
    let fit_met = consistent.fits grown.0.target met.0 within met.1 in
    let fit_grown = law.edges_fit p top.0 grown.0 inside fit_top grown.1 in
    let over = law.transitive e.state grown.0.state met.0 (law.edges_fit p s e inside fit held) fit_grown fit_met grown.3 met.2 in
    subst (λ (q : ℕ). HasAbove m u q e.state) grown.2 (met.0, met.1, over)
