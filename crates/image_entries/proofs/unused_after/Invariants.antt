-- The words from one on are 0 if each of them is.
use Prim.Native.Nat.{◌-◌}
use mathlib.Core.Path.{◌≡◌}
use mathlib.Core.Bool.{true}
use Rattle.model.specs.Lists.{range, all}
use Rattle.image_entries.proofs.UnusedLaws.{zero_at}
use Rattle.image_entries.proofs.unused_after.Given as goal

abbrev pub invariant-loop-i : goal.invariant-loop-i
invariant-loop-i l = all (zero_at l.image.words.now l.at) (range l.n (l.i - l.n)) ≡ true
