-- The first register of size 0, or past the limit in all, is the first bad one.
use Prim.Native.Nat.{ℕ, ◌+◌, ◌-◌, ◌≤◌}
use mathlib.Core.Path.{◌≡◌}
use mathlib.Core.List.{map}
use Rattle.model.specs.Check.{first_bad, register_flaw}
use Rattle.model.specs.Lists.{range, sum}
use Rattle.model.specs.Image.{word}
use Rattle.image_entries.proofs.first_bad_register.Given as goal

abbrev pub invariant-loop-i : goal.invariant-loop-i
invariant-loop-i l = (l.total ≤ 4096) × (l.total ≡ sum (map (λ (k : ℕ). word l.words (l.at + k)) (range 0 l.i)))
    × (first_bad (register_flaw (λ (k : ℕ). word l.words (l.at + k))) (λ (k : ℕ). l.at + k) (range 0 l.n) ≡ first_bad (register_flaw (λ (k : ℕ). word l.words (l.at + k))) (λ (k : ℕ). l.at + k) (range l.i (l.n - l.i)))
