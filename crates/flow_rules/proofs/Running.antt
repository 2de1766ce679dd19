-- No state of a run is stuck where each function has a typing with which no need fails.
use Rattle.std.proofs.Common.{◌≡◌, None, List, [], ◌∷◌, refl, sym, subst, true, inl}
use Rattle.std.specs.List.{AllByRecursion}
use Rattle.reg_state.specs.Related.{FrameRel, StoreRel}
use Rattle.reg_state.specs.Related.FrameRel.{both_absent}
use Rattle.func_split.specs.Functions.{IsSplit}
use Rattle.beam_module.specs.Module.{ModuleValue}
use Rattle.flow_rules.specs.Conforming.{AllTyped, Conforms, IsCall, IsKnown, tags_are_own}
use Rattle.flow_rules.specs.KnownEdges.{first_known}
use Rattle.flow_rules.specs.Making.{body_with}
use Rattle.flow_rules.specs.Values.{Frame}
use Rattle.flow_rules.specs.Machine.{Machine, stop}
use Rattle.flow_rules.specs.Runs.{AreSteps, IsFirst, NeverStuck}
use Rattle.flow_rules.proofs.Agreeing.{agrees_above}
use Rattle.flow_rules.proofs.Stepping.{Laws, arguments_agree, not_stuck, outcome_good}

module _ (laws : Laws) (m : ModuleValue) (split : IsSplit m.code.labels m.code.instrs m.code.functions) (typed : AllTyped m) where
  first_is_known : (s : Machine) → IsFirst m s → IsKnown m typed s
  first_is_known s is =
      let t = typed is.number is.function is.is_there in
      let has = t.enters in
      let given : StoreRel Conforms s.local (first_known is.function.arity) = record {
        x = (arguments_agree s.local.x is.function.arity is.arguments).x;
        frame = subst (λ (frame : Frame). FrameRel Conforms frame (first_known is.function.arity).frame) (sym is.frame) both_absent;
        words = inl is.words;
        funs = inl is.funs;
      } in
      record {
        number = is.number;
        function = is.function;
        is_there = is.is_there;
        at = is.function.entry;
        place = is.place;
        known = has.0;
        known_is = has.1;
        local = agrees_above s.local (first_known is.function.arity) has.0 given has.2;
        tags = subst (λ (frame : Frame). tags_are_own (body_with is.function t.plans).bounds frame ≡ true) (sym is.frame) refl;
        waiting = subst (AllByRecursion (IsCall m typed)) (sym is.waiting) tt;
      }

  from_known : (s : Machine) → IsKnown m typed s → (states : List Machine) → AreSteps m s states → AllByRecursion (λ u. stop m u ≡ None) states
  from_known s known [] steps = tt
  from_known s known (next ∷ states) steps =
      let goes = steps.0.1 in
      let there = outcome_good laws m split typed s known goes.0 next goes.1 in
      (not_stuck laws m split typed next there, from_known next there states steps.1)

  pub never_stuck : NeverStuck m
  unfolding NeverStuck
  never_stuck [] run = tt
  never_stuck (s ∷ states) run =
      let known = first_is_known s run.0 in
      (not_stuck laws m split typed s known, from_known s known states run.1)
