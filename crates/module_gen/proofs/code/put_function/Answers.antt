use Rattle.std.proofs.Common.{◌≡◌, ℕ, ◌+◌, ◌*◌, List, [], ◌∷◌, ◌++◌, refl, sym, ap, ◌∙◌, append_assoc}
use Rattle.compact_term.specs.declared.operand.Plain.TheVariants.{F, U}
use Rattle.op_table.specs.Table.{table}
use Rattle.module_gen.specs.Code.{instr}
use Rattle.module_gen.proofs.Appending.{behind, nothing_behind}
use Rattle.module_gen.proofs.code.put_function.Goals as goal

pub one-requires : goal.one-requires
unfolding table
one-requires c = refl

pub three-requires : goal.three-requires
unfolding table
three-requires c = refl

pub one-requires-2 : goal.one-requires-2
unfolding table
one-requires-2 c = refl

pub two-requires : goal.two-requires
unfolding table
two-requires c = refl

pub two-requires-2 : goal.two-requires-2
unfolding table
two-requires-2 c = refl

pub one-requires-3 : goal.one-requires-3
unfolding table
one-requires-3 c = refl

pub two-requires-3 : goal.two-requires-3
unfolding table
two-requires-3 c = refl

pub two-requires-4 : goal.two-requires-4
unfolding table
two-requires-4 c = refl

pub two-requires-5 : goal.two-requires-5
unfolding table
two-requires-5 c = refl

pub two-requires-6 : goal.two-requires-6
unfolding table
two-requires-6 c = refl

pub one-requires-4 : goal.one-requires-4
unfolding table
one-requires-4 c = refl

pub one-requires-5 : goal.one-requires-5
unfolding table
one-requires-5 c = refl

pub two-requires-7 : goal.two-requires-7
unfolding table
two-requires-7 c = refl

pub three-requires-2 : goal.three-requires-2
unfolding table
three-requires-2 c = refl

pub one-requires-6 : goal.one-requires-6
unfolding table
one-requires-6 c = refl

pub none-requires : goal.none-requires
unfolding table
none-requires c = refl

pub returns : goal.returns
returns c =
    behind c.args.out.now _ _ _ _ _ (behind c.args.out.now _ _ _ _ _ (behind c.args.out.now _ _ _ _ _ (behind c.args.out.now _ _ _ _ _ (behind c.args.out.now _ _ _ _ _ (behind c.args.out.now _ _ _ _ _ (behind c.args.out.now _ _ _ _ _ (behind c.args.out.now _ _ _ _ _ (behind c.args.out.now _ _ _ _ _ (behind c.args.out.now _ _ _ _ _ (behind c.args.out.now _ _ _ _ _ (behind c.args.out.now _ _ _ _ _ (behind c.args.out.now _ _ _ _ _ (behind c.args.out.now _ _ _ _ _ (behind c.args.out.now _ _ _ _ _ (behind c.args.out.now _ _ _ _ _ (nothing_behind c.args.out.now)
    c.in_ok-push.ensures.ok (c.in_ok-one.ensures ∙ ap (λ (n : ℕ). instr 1 (U n ∷ [])) c.from.ensures))
    c.in_ok-push-2.ensures.ok c.in_ok-three.ensures)
    c.in_ok-push-3.ensures.ok (c.in_ok-one-2.ensures ∙ ap (λ (n : ℕ). instr 1 (U n ∷ [])) c.from-2.ensures))
    c.in_ok-push-4.ensures.ok c.in_ok-two.ensures)
    c.in_ok-push-5.ensures.ok c.in_ok-two-2.ensures)
    c.in_ok-push-6.ensures.ok (c.in_ok-one-3.ensures ∙ ap (λ (n : ℕ). instr 1 (U n ∷ [])) c.from-3.ensures))
    c.in_ok-push-7.ensures.ok c.in_ok-two-3.ensures)
    c.in_ok-push-8.ensures.ok c.in_ok-two-4.ensures)
    c.in_ok-push-9.ensures.ok c.in_ok-two-5.ensures)
    c.in_ok-push-10.ensures.ok (c.in_ok-two-6.ensures ∙ ap (λ (k : ℕ). instr 4 (U 1 ∷ F (4 * k + 2) ∷ [])) c.callee.ensures))
    c.in_ok-push-11.ensures.ok c.in_ok-one-4.ensures)
    c.in_ok-push-12.ensures.ok (c.in_ok-one-5.ensures ∙ ap (λ (n : ℕ). instr 1 (U n ∷ [])) c.from-4.ensures))
    c.in_ok-push-13.ensures.ok c.in_ok-two-7.ensures)
    c.in_ok-push-14.ensures.ok c.in_ok-three-2.ensures)
    c.in_ok-push-15.ensures.ok c.in_ok-one-6.ensures)
    c.in_ok-push-16.ensures.ok c.none.ensures
