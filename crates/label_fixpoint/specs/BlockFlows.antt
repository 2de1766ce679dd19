-- The blocks of a lawful flow are a lawful flow.
use Rattle.std.proofs.Common.{◌≡◌, ◌∙◌, ℕ, ◌+◌, Contains, refl, sym, ap, subst, arith}
use Rattle.label_fixpoint.specs.declared.edge.Edge.{Edge}
use Rattle.label_fixpoint.specs.Meaning.{Meaning, LeadsAbove, IsLawful}
use Rattle.label_fixpoint.specs.Cut.{Cut, IsCut, aimed, along, block_edges, blocks_of}
use Rattle.label_fixpoint.specs.Leaving.{edge, along_fits, along_rises, comes, lands, place_inside}

module _ (S : Type 0) (m : Meaning S) (c : Cut S) (law : IsLawful m) (cut : IsCut m c) where
  pub blocks_lawful : IsLawful (blocks_of m c)
  blocks_lawful = record {
    first_fits = law.first_fits;
    entry_is_place = cut.within m.entry_place law.entry_is_place;
    reflexive = law.reflexive;
    transitive = law.transitive;
    targets = λ b s e inside fit held. (comes S m c law cut b inside s e fit held).5;
    edges_fit = λ b s e inside fit held.
        let was = comes S m c law cut b inside s e fit held in
        let place = place_inside S m c law cut b inside was.0 was.2 in
        let fit_there = along_fits S m c law cut (c.head b) was.0 s was.1 (omega (arith, place)) fit was.3 in
        law.edges_fit (c.head b + was.0) was.1 (aimed c.head e) place fit_there was.4;
    monotone = λ b s t e inside fit_s fit_t below held.
        let was = comes S m c law cut b inside s e fit_s held in
        let place = place_inside S m c law cut b inside was.0 was.2 in
        let up = along_rises S m c law cut b inside was.0 s t was.1 was.2 fit_s fit_t below was.3 in
        let fit_was = along_fits S m c law cut (c.head b) was.0 s was.1 (omega (arith, place)) fit_s was.3 in
        let fit_up = along_fits S m c law cut (c.head b) was.0 t up.0 (omega (arith, place)) fit_t up.1 in
        let grown = law.monotone (c.head b + was.0) was.1 up.0 (aimed c.head e) place fit_was fit_up up.2 was.4 in
        (edge e.target grown.0.state, lands S m c law cut b inside t was.0 up.0 grown.0 e.target fit_t was.2 up.1 grown.1 (sym grown.2) was.5, refl, grown.3);
    rank_bound = law.rank_bound;
    rank_keeps = law.rank_keeps;
    rank_rises = law.rank_rises;
  }
