-- A term that meets its type: what is known of its layer, and of the terms in it.
use Rattle.std.proofs.Common.{get_or, All, subst}
use Rattle.std.proofs.lemmas.List.Elements.{All-map}
use Rattle.ext_term.specs.declared.term.Term.{Term, out-Term, map-Term, every_here-Term, every_held-Term}
use Rattle.ext_term.specs.declared.term.Term.TheOpen.{Term-F}
use Rattle.ext_term.specs.Writing.{LayerMeetsType, MeetsType}

-- the terms of a layer meet their type
abbrev pub InsideMeetsType : Term-F Term → Type 0
InsideMeetsType (Term-F.Tuple items) = All MeetsType items
InsideMeetsType (Term-F.List items tail) = All MeetsType items × MeetsType tail
InsideMeetsType (Term-F.Map pairs) = All (λ pair. MeetsType pair.0 × MeetsType pair.1) pairs
InsideMeetsType _ = Unit {0}

-- a term with the fact
abbrev pub Met : Type 0
Met = (t : Term) × MeetsType t

inside : (f : Term-F Met) → InsideMeetsType (map-Term Met Term (λ e. e.0) f)
inside (Term-F.Int neg mag) = tt
inside (Term-F.Wide neg mag) = tt
inside (Term-F.Atom name) = tt
inside (Term-F.Tuple items) = All-map MeetsType (λ e. e.0) items (λ k d lt. (get_or items k d).1)
inside Term-F.Nil = tt
inside (Term-F.List items tail) = (All-map MeetsType (λ e. e.0) items (λ k d lt. (get_or items k d).1), tail.1)
inside (Term-F.Binary s) = tt
inside (Term-F.Bits s last) = tt
inside (Term-F.Map pairs) =
    All-map (λ (pair : Term × Term). MeetsType pair.0 × MeetsType pair.1) (λ (pair : Met × Met). (pair.0.0, pair.1.0)) pairs
    (λ k d lt. ((get_or pairs k d).0.1, (get_or pairs k d).1.1))
inside (Term-F.Export m f arity) = tt

pub meets_here : (t : Term) → MeetsType t → LayerMeetsType (out-Term t)
meets_here t meets = every_here-Term LayerMeetsType t meets

pub meets_inside : (t : Term) → MeetsType t → InsideMeetsType (out-Term t)
meets_inside t meets = let held = every_held-Term LayerMeetsType t meets in subst InsideMeetsType held.1 (inside held.0)
