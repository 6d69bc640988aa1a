-- A record's words are put after those written if they fit, and it is refused as too long if they do not.
use Rattle.std.specs.Prelude.{Err}
use mathlib.Core.Path.{refl, sym, subst, ◌∙◌}
use borrow.Author.Tests.{ltb-true, ltb-false}
use Rattle.record_writer.specs.Promise.{AppendedWords}
use Rattle.record_writer.proofs.WroteStepsLaws.{appended, not_appended}
use Rattle.record_writer.proofs.append.Goals as goal

pub returns-then-is_full : goal.returns-then-is_full
returns-then-is_full c = let args = c.args in
    let pre = c.requires in
    subst (λ z. AppendedWords args.words.now args.out.now args.at (Err z) args.out.now) (sym c.output_full.ensures) (not_appended pre (ltb-true _ _ (sym c.is_full.ensures ∙ c.if-is_full.true)))

pub returns : goal.returns
returns c = let is-full = c.is_full.ensures in
    let if1 = c.if-is_full.false in
    appended _ c.after_record.ensures refl (ltb-false _ _ (sym is-full ∙ if1)) c.put_words.ensures
