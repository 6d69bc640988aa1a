-- The size of a classical argument is that which it has in main.
use Rattle.image.proofs.ArgumentSizeLaws.{classical_in_main}
use Rattle.image.proofs.Image.classical_argument_size.Goals as goal

pub returns : goal.returns
returns c = classical_in_main c.args.self.now.words.now _ _ c.classical_register_at.ensures.is c.size_in_main.ensures
