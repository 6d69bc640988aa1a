-- An expression's value is read back if it is kept, and is worked out of its operands' values and kept if it is not.
use Rattle.expression.proofs.+evaluate.Given as goal

abbrev pub decreases-evaluate : goal.decreases-evaluate
decreases-evaluate l = l.e
