use Rattle.std.proofs.Common.{◌≡◌, ◌∙◌, ℕ, take, sym, ap, arith, ne_eqb}
use Rattle.listing_out.specs.Listing.{trimmed}
use Rattle.listing_in.proofs.Trimming.{trimmed_less, trimmed_whole}
use Rattle.listing_in.proofs.bare.trimmed.Goals as goal
use Rattle.listing_in.proofs.bare.trimmed.Goals.{then-spaces-test+else-line-end-eq32, else-spaces-test}

pub spaces-preserved : goal.spaces-preserved
spaces-preserved c =
    let within = c.spaces.invariant.within in
    record {
      same = trimmed_less c.args.line.now c.spaces.end c.spaces-test.true within c.if-line-end-eq32.true ∙ c.spaces.invariant.same;
      within = omega arith;
    }

pub returns : goal.returns
returns c = elim c.spaces-test.branch [
  | then-spaces-test+else-line-end-eq32 w ↦ sym (trimmed_whole c.args.line.now c.spaces.end w.spaces-test.true c.spaces.invariant.within (ne_eqb _ 32 w.if-line-end-eq32.false)) ∙ c.spaces.invariant.same
  | else-spaces-test w ↦
      let ended = w.spaces-test.false in
      let none : c.spaces.end ≡ 0 = omega arith in
      ap (λ (n : ℕ). take n c.args.line.now) none ∙ ap (λ (n : ℕ). trimmed (take n c.args.line.now)) (sym none) ∙ c.spaces.invariant.same
]
