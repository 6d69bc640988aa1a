-- The listing of an input is its run's text, or the line of a malformed input.
use Rattle.std.proofs.Common.{rules, sym, ◌∙◌}
use Rattle.text.proofs.PutLaws.{put_same}
use Rattle.listing_text.proofs.InputTextLaws.{listing_malformed, listing_run}
use Rattle.listing_text.proofs.put_listing.Goals as goal

pub returns-then-is_depth_and_words : goal.returns-then-is_depth_and_words
returns-then-is_depth_and_words c =
    put_same (listing_run c.args.input.now (sym c.is_depth_and_words.ensures ∙ c.if-is_depth_and_words.true) (search rules)) c.put_input_run.ensures

pub returns-else-is_depth_and_words : goal.returns-else-is_depth_and_words
returns-else-is_depth_and_words c = put_same (listing_malformed c.args.input.now (sym c.is_depth_and_words.ensures ∙ c.if-is_depth_and_words.false)) c.put_refused.ensures
