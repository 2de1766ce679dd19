use Rattle.std.proofs.Common.{◌≡◌, ◌∙◌, refl, sym, Bool, true, false, not, length, drop}
use Rattle.std.proofs.lemmas.Result.{err_from_is_err_and}
use Rattle.iff_form.proofs.Loop.{walks_first, walks_more, some_left, none_left_over, cut_there, twice_there, all_there}
use Rattle.iff_form.proofs.reading.read_chunks.Goals as goal

not_of : (b r : Bool) → r ≡ not b → r ≡ true → b ≡ false
not_of true r e t = sym t ∙ e
not_of false r e t = refl

not_in : (b r : Bool) → r ≡ not b → r ≡ false → b ≡ true
not_in true r e t = refl
not_in false r e t = sym t ∙ e

pub chunks-init : goal.chunks-init
chunks-init c =
    walks_first c.args.bytes.now c.new-cursor.result c.take.new.self c.new-chunks.result.items c.new-seen.result.keys c.take.result c.requires
    c.new-cursor.ensures.rest c.new-cursor.ensures.offset c.take.ensures.none c.take.ensures.moves c.new-chunks.ensures.items c.new-seen.ensures.empty

pub returns-in_err-chunk-clause-chunks : goal.returns-in_err-chunk-clause-chunks
returns-in_err-chunk-clause-chunks c =
    let p = err_from_is_err_and c.from_residual.result c.from_residual.ensures.1 in
    rw (p.1, p.2) (cut_there (length c.args.bytes.now) (drop 12 c.args.bytes.now) c.chunks.cursor.rest c.chunks.cursor.offset c.chunks.chunks.items c.chunks.seen.keys c.in_err-chunk.field-0.0
    c.chunks.invariant (some_left c.is_empty.result c.chunks.cursor.rest c.is_empty.ensures c.chunks-test.true) c.in_err-chunk.ensures.gives)

pub returns-then-not-branch-clause-chunks : goal.returns-then-not-branch-clause-chunks
returns-then-not-branch-clause-chunks c =
    twice_there (length c.args.bytes.now) (drop 12 c.args.bytes.now) c.chunks.cursor.rest c.next_chunk.new.cursor.rest c.chunks.cursor.offset c.chunks.chunks.items c.chunks.seen.keys c.in_ok-chunk.chunk
    c.chunks.invariant c.in_ok-chunk.ensures.gives c.in_ok-chunk.ensures.at (not_in _ c.in_ok-insert.field-0 c.in_ok-insert.ensures.added c.if-not-branch.true)

pub chunks-preserved : goal.chunks-preserved
chunks-preserved c =
    rw c.in_ok-push.ensures.items (walks_more (length c.args.bytes.now) (drop 12 c.args.bytes.now) c.chunks.cursor.rest c.next_chunk.new.cursor.rest c.chunks.cursor.offset c.next_chunk.new.cursor.offset
    c.chunks.chunks.items c.in_ok-chunk.chunk c.chunks.seen.keys c.insert.new.self.keys
    c.chunks.invariant c.in_ok-chunk.ensures.gives c.in_ok-chunk.ensures.at c.in_ok-chunk.ensures.next c.in_ok-chunk.ensures.moved
    (not_of _ c.in_ok-insert.field-0 c.in_ok-insert.ensures.added c.if-not-branch.false) c.in_ok-insert.ensures.updates.0)

pub returns-clause-chunks : goal.returns-clause-chunks
returns-clause-chunks c =
    all_there (length c.args.bytes.now) (drop 12 c.args.bytes.now) c.chunks.cursor.rest c.chunks.cursor.offset c.chunks.chunks.items c.chunks.seen.keys c.chunks.invariant
    (none_left_over c.is_empty.result c.chunks.cursor.rest c.is_empty.ensures c.chunks-test.false)
