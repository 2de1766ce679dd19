use Rattle.std.proofs.Common.{◌∙◌, not, sym, rules, tests}
use Rattle.std.proofs.lemmas.Iterator.{YieldsList-from_slice}
use Rattle.std.proofs.lemmas.Iterator.Search.{all_from_yields_List}
use Rattle.std.proofs.lemmas.List.Folds.{list_all-map}
use Rattle.reg_state.specs.declared.state.Slot.{Slot}
use Rattle.reg_state.specs.Store.{SlotOf}
use Rattle.reg_state.specs.declared.kind.Kind.{Kind}
use Rattle.reg_state.specs.States.{slot_of}
use Rattle.action_rules.specs.Needs.{is_tagged}
use Rattle.action_rules.proofs.needs.none_tagged.Goals as goal

pub returns : goal.returns
returns c =
    let untagged = λ (slot : Slot). not (is_tagged (slot_of slot)) in
    all_from_yields_List untagged _ _ c.all.result c.all.ensures.ran (YieldsList-from_slice c.args.slots.now cc) (λ x b q k. search (rules, tests))
    ∙ sym (list_all-map (λ (slot : SlotOf Kind). not (is_tagged slot)) slot_of c.args.slots.now)
