use Rattle.std.proofs.Common.{◌≡◌, ◌++◌, ◌∷◌, [], take}
use Rattle.std.specs.List.{flat_map}
use Rattle.ext_term.specs.Name.{escaped}
use Rattle.ext_term.proofs.name.name_text.Given as goal

abbrev pub invariant-loop-b : goal.invariant-loop-b
invariant-loop-b l = l.out.items ≡ (l.fn.out.items ++ 39 ∷ []) ++ flat_map escaped (take l.b-index l.name)
