-- The size of an argument is 1 in a body, else that which it has in main.
use Rattle.image.proofs.ArgumentSizeLaws.{size_one, quantum_in_main}
use Rattle.image.proofs.Image.argument_size.Goals as goal

pub returns-then-scope-ne0 : goal.returns-then-scope-ne0
returns-then-scope-ne0 c = size_one c.args.self.now.words.now _ _ c.if-scope-ne0.true

pub returns : goal.returns
returns c = rw c.if-scope-ne0.false (quantum_in_main c.args.self.now.words.now _ _ c.quantum_register_at.ensures.is c.size_in_main.ensures)
