-- What a function is entered with fits it, and is the first state of its flow.
use Rattle.std.proofs.Common.{◌≡◌, ◌∙◌, true, sym, subst}
use Rattle.reg_state.specs.declared.state.State.{State}
use Rattle.reg_state.specs.States.{Known, store_of, IsBelow}
use Rattle.reg_state.specs.Ordered.{reflexive}
use Rattle.action_rules.specs.Fitting.{Fits}
use Rattle.flow_rules.specs.Body.{Body, body_fits}
use Rattle.flow_rules.specs.KnownEdges.{first_known}
use Rattle.flow_rules.specs.Stating.{state_from}
use Rattle.flow_rules.specs.EdgeLaws.{fit_body}
use Rattle.flow_rules.specs.Lawful.{first_fits}
use Rattle.flow_rules.specs.Views.{state_viewed}

module _ (b : Body) (fits : body_fits b ≡ true) (s : State) (is : store_of s ≡ first_known b.arity) where
  same_first : store_of s ≡ store_of (state_from b.bounds.x (first_known b.arity))
  same_first = is ∙ sym (state_viewed b.bounds (first_known b.arity) (first_fits b (fit_body b fits)))

  pub entry_fits : Fits b.bounds (store_of s)
  entry_fits = subst (Fits b.bounds) (sym is) (first_fits b (fit_body b fits))

  pub entry_below : IsBelow (store_of s) (store_of (state_from b.bounds.x (first_known b.arity)))
  entry_below = subst (IsBelow (store_of s)) same_first (reflexive (store_of s))

  pub entry_above : IsBelow (store_of (state_from b.bounds.x (first_known b.arity))) (store_of s)
  entry_above = subst (λ (t : Known). IsBelow t (store_of s)) same_first (reflexive (store_of s))
