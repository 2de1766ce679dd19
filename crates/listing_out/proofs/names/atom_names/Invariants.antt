use Rattle.std.proofs.Common.{◌≡◌, map, take}
use Rattle.ext_term.specs.Name.{name_text}
use Rattle.listing_out.specs.Comments.{shortened}
use Rattle.listing_out.proofs.names.atom_names.Given as goal

abbrev pub invariant-loop-atom : goal.invariant-loop-atom
invariant-loop-atom l = l.names ≡ map (λ name. shortened (name_text name)) (take l.atom-index l.atom-items)
