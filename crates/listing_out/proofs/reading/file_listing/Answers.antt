use Rattle.std.proofs.Common.{◌≡◌, ◌∙◌, ◌+◌, List, drop, get_or, ap, sym, subst, rules, arith}
use Rattle.std.proofs.lemmas.List.{at_drop_more, drop_all}
use Rattle.std.proofs.lemmas.Result.{err_from_is_err_and}
use Rattle.std.specs.Prelude.{codes}
use Rattle.bk_codec.specs.Reading.{Fails}
use Rattle.iff_form.specs.declared.chunk.Chunk.{Chunk}
use Rattle.iff_form.specs.Chunk.{plain, plains}
use Rattle.beam_module.specs.declared.refusal.ModuleRefusal.TheVariants.{NoMemory}
use Rattle.listing_out.specs.Reading.{chunks_behind}
use Rattle.listing_out.proofs.ReadFile.{begins, chunk_read, chunk_refused, chunks_put, listing_refused}
use Rattle.listing_out.proofs.reading.file_listing.Goals as goal

pub loop-chunk-preserved : goal.loop-chunk-preserved
loop-chunk-preserved c =
    let names = c.in_ok-names.names in
    let items = c.chunks-chunk-items.result.now in
    let i = c.loop-chunk.chunk-index in
    let text = c.loop-chunk.out.items in
    chunk_read names (plain (get_or items i _)) (plains (drop (i + 1) items)) text c.put_chunk.new.out.items c.in_ok-put_chunk.ensures
    ∙ sym (at_drop_more (λ (cs : List Chunk). chunks_behind names text (plains cs)) items i _ c.loop-chunk-test.true) ∙ c.loop-chunk.invariant

pub returns-in_err-put_chunk : goal.returns-in_err-put_chunk
returns-in_err-put_chunk c =
    let p = err_from_is_err_and c.from_residual-in_err-put_chunk.result c.from_residual-in_err-put_chunk.ensures.1 in
    let names = c.in_ok-names.names in
    let items = c.chunks-chunk-items.result.now in
    let i = c.loop-chunk.chunk-index in
    let text = c.loop-chunk.out.items in
    let e = c.in_err-put_chunk.field-0.0 in
    let first : c.extend.new.self.items ≡ codes "beam 1\n" = search rules in
    let named = rw (c.find.ensures.found, c.find-2.ensures.found) at c.in_ok-names.ensures in
    let refused = chunk_refused names (plain (get_or items i _)) (plains (drop (i + 1) items)) text e c.in_err-put_chunk.ensures in
    let here = sym (at_drop_more (λ (cs : List Chunk). chunks_behind names text (plains cs)) items i _ c.loop-chunk-test.true) in
    rw (p.1, p.2)
    (subst (Fails NoMemory e) (here ∙ c.loop-chunk.invariant ∙ begins c.args.bytes.now items c.in_ok-form.form names c.extend.new.self.items c.in_ok-form.ensures.exact c.chunks-chunk-items.ensures.same named first) refused)

pub returns-in_err-form : goal.returns-in_err-form
returns-in_err-form c =
    let p = err_from_is_err_and c.from_residual.result c.from_residual.ensures.1 in
    rw (p.1, p.2) (listing_refused c.args.bytes.now c.in_err-form.field-0.0 c.in_err-form.ensures.exact)

pub returns : goal.returns
returns c =
    let names = c.in_ok-names.names in
    let items = c.chunks-chunk-items.result.now in
    let first : c.extend.new.self.items ≡ codes "beam 1\n" = search rules in
    let named = rw (c.find.ensures.found, c.find-2.ensures.found) at c.in_ok-names.ensures in
    sym (begins c.args.bytes.now items c.in_ok-form.form names c.extend.new.self.items c.in_ok-form.ensures.exact c.chunks-chunk-items.ensures.same named first)
    ∙ sym c.loop-chunk.invariant ∙ ap (λ (cs : List Chunk). chunks_behind names c.loop-chunk.out.items (plains cs)) (drop_all c.loop-chunk.chunk-index items c.loop-chunk-test.false) ∙ chunks_put names c.loop-chunk.out.items
