use Rattle.std.proofs.Common.{◌∙◌, [], sym, ap}
use Rattle.std.specs.Option.{option_map_or}
use Rattle.bk_parse.specs.Parts.{parts_at}
use Rattle.bk_parse.proofs.Splitting.{found_first, found_none}
use Rattle.bk_parse.proofs.parts.Parts.next.Goals as goal

pub returns-in-Some : goal.returns-in-Some
returns-in-Some c =
    let separator = c.self.inside.separator in
    sym c.self.view_is
    ∙ ap (λ (r : _). option_map_or (λ rest. parts_at separator rest.now) r []) c.in_ok-rest.was
    ∙ found_first separator c.in_ok-rest.rest.now c.in-Some.at c.in-Some.ensures.0 c.in-Some.ensures.1

pub returns-in-None : goal.returns-in-None
returns-in-None c =
    let separator = c.self.inside.separator in
    sym c.self.view_is
    ∙ ap (λ (r : _). option_map_or (λ rest. parts_at separator rest.now) r []) c.in_ok-rest.was
    ∙ found_none separator c.in_ok-rest.rest.now c.in-None.ensures
