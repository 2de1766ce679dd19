use Rattle.std.proofs.Common.{◌≡◌, ◌∙◌, ◌<◌, ◌≢◌, length, get_or, ap, below_more, length-set, get_or-set_same, get_or-set_other, arith}
use Rattle.std.proofs.lemmas.List.{get_or_default}
use Rattle.reg_state.specs.declared.state.Slot.TheVariants.{Is}
use Rattle.reg_state.specs.declared.kind.Kind.TheVariants.{Context}
use Rattle.reg_state.specs.States.{slot_of}
use Rattle.reg_state.specs.Join.{joined_slot}
use Rattle.reg_state.proofs.Slotwise.{joined_from}
use Rattle.reg_state.proofs.join.join_slots.Goals as goal

pub loop-i-preserved : goal.loop-i-preserved
loop-i-preserved c =
    let inside : c.loop-i.i < length c.loop-i.a = omega (arith, c.loop-i.invariant.size) in
    let other : c.loop-i.i < length c.args.b.now = omega (arith, c.loop-i.invariant.size) in
    let first : c.loop-i.i < length c.args.a.now = omega (arith, c.loop-i.invariant.size) in
    let before = c.loop-i.invariant.left c.loop-i.i (omega arith) (Is Context) in
    let here : slot_of c.joined_slot-joined.result ≡ joined_slot (slot_of (get_or c.args.a.now c.loop-i.i (Is Context))) (slot_of (get_or c.args.b.now c.loop-i.i (Is Context))) = cc in
    record {
      size = ap length c.set.ensures ∙ length-set c.loop-i.a c.loop-i.i c.joined_slot-joined.result ∙ c.loop-i.invariant.size;
      done =
          rw c.set.ensures
          (below_more _ _
          (λ k earlier d. let ne : k ≢ c.loop-i.i = omega arith in rw get_or-set_other (c.loop-i.invariant.done k earlier d))
          (λ d. rw (get_or-set_same, get_or_default c.args.a.now c.loop-i.i d (Is Context) first, get_or_default c.args.b.now c.loop-i.i d (Is Context) other) here));
      left = λ k later d. let ne : k ≢ c.loop-i.i = omega arith in rw (c.set.ensures, get_or-set_other) (c.loop-i.invariant.left k (omega arith) d);
    }

pub returns : goal.returns
returns c =
    joined_from c.loop-i.a c.args.a.now c.args.b.now c.loop-i.invariant.size c.requires (λ k inside d. c.loop-i.invariant.done k (omega arith) d)
