-- What is left to find in the scopes from one on is what all of them hold, and each is a scope of the same image.
use mathlib.Core.Path.{◌≡◌}
use Rattle.image_check.proofs.FirstBadLaws.{Scopes}
use Rattle.image_check.proofs.first_bad_judged.Given as goal

abbrev pub invariant-loop-number : goal.invariant-loop-number
invariant-loop-number l = let image = l.judged.image in
    Scopes image.words.now l.number image.layout.gates × (l.judged_scope.0.image ≡ image) × (l.judged_scope.1.0 ≡ l.judged.judgements)
