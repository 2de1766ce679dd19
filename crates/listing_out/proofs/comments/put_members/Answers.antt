use Rattle.std.proofs.Common.{◌+◌, false, ◌++◌, ap, ◌∙◌, take, List}
use Rattle.std.proofs.lemmas.List.{take_all}
use Rattle.std.specs.List.{flat_map}
use Rattle.compact_term.specs.declared.operand.Plain.{Plain}
use Rattle.listing_out.specs.Comments.{any_behind, called, item_of, items_text}
use Rattle.listing_out.proofs.Items.{items_more, members_more}
use Rattle.listing_out.proofs.comments.put_members.Goals as goal

pub loop-plain-preserved : goal.loop-plain-preserved
loop-plain-preserved c =
    let items = λ (plain : Plain). item_of (called c.args.names.now false plain) in
    let members = c.args.members.now in
    let i = c.loop-plain.plain-index in
    items_more c.args.any (flat_map items (take i members)) (items c.plain-item.result) (flat_map items (take (i + 1) members)) c.args.out.now.items c.loop-plain.out.items c.put_item.new.out.items c.loop-plain.some c.in_ok-some.some
    c.loop-plain.invariant (members_more items members i c.plain-item.result c.loop-plain-test.true c.plain-item.is) c.in_ok-some.ensures.text c.in_ok-some.ensures.any

pub returns-clause-text : goal.returns-clause-text
returns-clause-text c =
    let items = λ (plain : Plain). item_of (called c.args.names.now false plain) in
    c.loop-plain.invariant.text ∙ ap (λ (xs : List Plain). c.args.out.now.items ++ items_text c.args.any (flat_map items xs)) (take_all c.loop-plain.plain-index c.args.members.now c.loop-plain-test.false)

pub returns-clause-any : goal.returns-clause-any
returns-clause-any c =
    let items = λ (plain : Plain). item_of (called c.args.names.now false plain) in
    c.loop-plain.invariant.any_is ∙ ap (λ (xs : List Plain). any_behind c.args.any (flat_map items xs)) (take_all c.loop-plain.plain-index c.args.members.now c.loop-plain-test.false)
