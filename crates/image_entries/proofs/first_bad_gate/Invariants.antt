-- The first gate entry that is not well formed is the first bad one.
use Prim.Native.Nat.{◌-◌}
use mathlib.Core.Path.{◌≡◌}
use Rattle.model.specs.Lists.{range}
use Rattle.model.specs.Check.{first_bad, gate_flaw, gate_entries}
use Rattle.model.specs.Image.{gate_at, gates}
use Rattle.image_entries.proofs.first_bad_gate.Given as goal

abbrev pub invariant-loop-g : goal.invariant-loop-g
invariant-loop-g l = gate_entries l.image.words.now ≡ first_bad (gate_flaw l.image.words.now) (gate_at l.image.words.now) (range l.g (gates l.image.words.now - l.g))
