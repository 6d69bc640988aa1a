-- The answer of the tally is its line, or that of a malformed input.
use Rattle.std.proofs.Common.{rules, sym, ◌∙◌}
use Rattle.text.proofs.PutLaws.{put_same}
use Rattle.answer_text.proofs.AnswersLaws.{tally_malformed, tally_whole}
use Rattle.answer_text.proofs.put_tally_answer.Goals as goal

pub returns-then-is_depth_and_words : goal.returns-then-is_depth_and_words
returns-then-is_depth_and_words c =
    put_same (tally_whole c.args.input.now (sym c.is_depth_and_words.ensures ∙ c.if-is_depth_and_words.true) (search rules)) c.put_tally.ensures

pub returns-else-is_depth_and_words : goal.returns-else-is_depth_and_words
returns-else-is_depth_and_words c = put_same (tally_malformed c.args.input.now (sym c.is_depth_and_words.ensures ∙ c.if-is_depth_and_words.false)) c.put_number_line.ensures
