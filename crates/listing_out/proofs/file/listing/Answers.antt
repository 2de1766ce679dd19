use Rattle.std.proofs.Common.{◌≡◌, ℕ, List, ◌∷◌, ap, sym, subst, ◌∙◌, ◌++◌, arith, rules}
use Rattle.std.specs.Prelude.{codes}
use Rattle.std.specs.List.{flat_map}
use Rattle.beam_module.specs.File.{FileChunk}
use Rattle.listing_out.specs.Lines.{text_of}
use Rattle.listing_out.specs.declared.names.Names.{Names}
use Rattle.listing_out.specs.Comments.{commented_chunk}
use Rattle.listing_out.specs.Listing.{IsListing}
use Rattle.listing_out.proofs.ReadBack.{commented_is_a_listing}
use Rattle.listing_out.proofs.Texts.{all_put, text-flat_map}
use Rattle.listing_out.proofs.file.listing.Goals as goal

pub returns-clause-text : goal.returns-clause-text
returns-clause-text c =
    let lines_of = λ (x : FileChunk). text_of (commented_chunk c.in_ok-names.names x) in
    let first : c.extend.new.self.items ≡ codes "beam 1\n" = search rules in
    let chunks = all_put lines_of c.args.v.now c.as_slice-chunk-items.result.now c.loop-chunk.chunk-index c.extend.new.self.items c.loop-chunk.out.items (omega arith) c.as_slice-chunk-items.ensures.same c.loop-chunk.invariant in
    let whole : c.loop-chunk.out.items ≡ text_of (codes "beam 1" ∷ flat_map (commented_chunk c.in_ok-names.names) c.args.v.now) =
    rw (text-flat_map (commented_chunk c.in_ok-names.names) c.args.v.now) (chunks ∙ ap (λ (t : List ℕ). t ++ flat_map lines_of c.args.v.now) first) in
    whole ∙ ap (λ (names : Names). text_of (codes "beam 1" ∷ flat_map (commented_chunk names) c.args.v.now)) c.in_ok-names.ensures

pub returns-clause-listing : goal.returns-clause-listing
returns-clause-listing c listable =
    subst (IsListing c.args.v.now) (sym (returns-clause-text c)) (commented_is_a_listing c.names_are_words.ensures c.operand_texts_are_words.ensures.bytes c.operand_texts_are_words.ensures.some c.args.v.now listable)
