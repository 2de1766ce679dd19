-- The next count is one more.
use Rattle.bk_base.proofs.Walks.{◌+◌, [], ◌∷◌, refl, proved, ftrue, ‵, raw, ◌⊛◌, ◌$◌, ◌∵◌, !, qed, move, keep, split, join, fjoin, suffices, done, agg, enter, no_more, returns, alloc_all, pass_all, free_all, look_at, sets, yes, shr_vals, shr_Tells, plain, RefOf, nothing, alive, owns, types_at, Stays, walk_of, says, stay_dropped, Goes-dropped, ends_at, empty_val, made}
use mir.Syntax.{named}
use Rattle.bk_base.specs.contracts.steps.Count.{the_row as Row}
use Rattle.bk_base.specs.contracts.steps.Count.next as f
use Rattle.bk_base.proofs.steps.Count.next.Statement.{statement}
use Rattle.bk_base.proofs.steps.Count.next.Code as code

abbrev stayed : Stays f.ended.signature.params f.ended.kept
stayed = (stay_dropped _ yes, tt)

pub next_spec : {M : Type 1} → statement M
next_spec 𝓤 𝓛 𝓜 𝓡 wired =
    let c = f.clauses 𝓛 𝓜.mem 𝓡.returns in let W = walk_of 𝓛 f.ended stayed c in
    proved 𝓛 f.ended stayed c 𝓜 𝓡 (Goes-dropped 𝓛 1 (RefOf (0 ∷ []) tt (plain (λ _. Row)) (λ _. tt)) yes (λ κs x w. refl), tt)
    f.Key.name code.function (code.unfolded 𝓤 𝓛.H 𝓜 𝓡 wired)
    (λ κs. (shr_vals, tt)) (λ κs. (shr_Tells (named 0) κs.0 Row, tt)) (λ κs qs bounds a _ are.
    let y : W.Ghost = ((κs, qs, bounds, a, (shr_vals a.0, tt)), tt) in
    let count : Row.Denot = record { number = a.0.now.number + 1 } in
    qed 𝓛 ((raw (alive 𝓛 f.signature κs qs) ⊛ ‵ (owns (types_at f.signature.params κs) a y.0.4)) ∷ ‵ ftrue ∷ []) ∵ split ! $ keep ! (0 ∷ []) $
    enter ! _ _ _ _ _ $ alloc_all ! (λ l. pass_all ! refl ((tt, tt), tt) $
    sets ! (agg ! (no_more !)) refl (tt, tt) $
    returns ! (look_at ! 0 refl) $ free_all ! refl $
    suffices ! _ (ends_at 𝓛 f.ended stayed c y empty_val count (tt, tt) (tt, tt)) $ says ! refl $
    nothing ! $ made ! $ fjoin ! $ nothing ! $ nothing ! $ join ! $ move ! (2 ∷ []) $ done !))
