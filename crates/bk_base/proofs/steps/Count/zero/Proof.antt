-- The new count is at zero.
use Rattle.bk_base.proofs.Walks.{[], ◌∷◌, refl, proved, ftrue, ‵, raw, ◌$◌, ◌∵◌, !, qed, drop, fjoin, suffices, done, agg, enter, no_more, returns, alloc_all, pass_all, free_all, look_at, sets, nothing, on_entry, Stays, walk_of, says, ends_at, empty_val, made}
use Rattle.bk_base.specs.contracts.steps.Count.{the_row as Row}
use Rattle.bk_base.specs.contracts.steps.Count.zero as f
use Rattle.bk_base.proofs.steps.Count.zero.Statement.{statement}
use Rattle.bk_base.proofs.steps.Count.zero.Code as code

abbrev stayed : Stays f.ended.signature.params f.ended.kept
stayed = tt

pub zero_spec : {M : Type 1} → statement M
zero_spec 𝓤 𝓛 𝓜 𝓡 wired =
    let c = f.clauses 𝓛 𝓜.mem 𝓡.returns in let W = walk_of 𝓛 f.ended stayed c in
    proved 𝓛 f.ended stayed c 𝓜 𝓡 tt
    f.Key.name code.function (code.unfolded 𝓤 𝓛.H 𝓜 𝓡 wired)
    (λ κs. tt) (λ κs. tt) (λ κs qs bounds a _ are.
    let y : W.Ghost = ((κs, qs, bounds, a, tt), tt) in
    let count : Row.Denot = record { number = 0 } in
    qed 𝓛 (raw (on_entry 𝓛 f.signature κs qs a tt) ∷ ‵ ftrue ∷ []) ∵ drop ! $ drop ! $
    enter ! _ _ _ _ _ $ alloc_all ! (λ l. pass_all ! refl tt $
    sets ! (agg ! (no_more !)) refl (tt, tt) $
    returns ! (look_at ! 0 refl) $ free_all ! refl $
    suffices ! _ (ends_at 𝓛 f.ended stayed c y empty_val count tt tt) $ says ! refl $
    nothing ! $ made ! $ fjoin ! $ nothing ! $ nothing ! $ done !))
