-- The size is 1 by the argument's index, else that of its register.
use Rattle.image.proofs.ArgumentSizeLaws.{size_one_index, size_of_register}
use Rattle.image.proofs.Image.size_in_main.Goals as goal

pub returns-then-word-ne0 : goal.returns-then-word-ne0
returns-then-word-ne0 c = size_one_index c.args.self.now.words.now _ _ _ c.argument_at-at.ensures.is c.word.ensures c.if-word-ne0.true _

pub returns : goal.returns
returns c = size_of_register c.args.self.now.words.now _ _ _ _ _ _ c.argument_at-at.ensures.is c.word.ensures c.if-word-ne0.false c.word-2.ensures c.word_after.ensures
