use Rattle.std.proofs.Common.{◌∙◌, ℕ, List, refl, sym, ap}
use Rattle.std.proofs.lemmas.Bool.{false≢true}
use Rattle.reg_state.specs.declared.kind.Kind.{Kind}
use Rattle.reg_state.specs.Kinds.{joined_kind}
use Rattle.reg_state.specs.States.{Known, x_of, frame_of, store_of}
use Rattle.reg_state.specs.Ordered.{reflexive, transitive}
use Rattle.reg_state.proofs.Joins.{joined_below, parts_of_least}
use Rattle.reg_state.proofs.join.join_into.Goals as goal

pub returns-then-below-clause-joined : goal.returns-then-below-clause-joined
returns-then-below-clause-joined c = joined_below (store_of c.args.a.now) (store_of c.args.b.now) (c.if-below.ensures.0 refl)

pub returns-then-below-clause-least : goal.returns-then-below-clause-least
returns-then-below-clause-least c = record {
  first = reflexive (store_of c.args.a.now);
  second = c.if-below.ensures.0 refl;
  below = λ u first _. first;
}

pub returns-then-below-clause-unchanged : goal.returns-then-below-clause-unchanged
returns-then-below-clause-unchanged c = (λ _. reflexive (store_of c.args.a.now), λ _. refl)

pub returns-clause-least : goal.returns-clause-least
returns-clause-least c =
    let new : Known = record { x = x_of c.join_kinds.new.a; frame = frame_of c.join_frame.new.a; words = c.joined_number-a.result; funs = c.joined_number-a-2.result } in
    let x = λ (i : ℕ). c.join_kinds.ensures i ∙ ap (λ (kinds : List Kind). joined_kind (x_of c.args.a.now.x i) (x_of kinds i)) c.as_slice.ensures in
    parts_of_least (store_of c.args.a.now) (store_of c.args.b.now) new x c.join_frame.ensures c.joined_number-a.ensures c.joined_number-a-2.ensures

pub returns-clause-unchanged : goal.returns-clause-unchanged
returns-clause-unchanged c =
    let least = returns-clause-least c in
    (λ e. absurd (false≢true (sym e)), λ back. absurd (false≢true (c.if-below.ensures.1 (transitive _ _ _ least.second back))))
