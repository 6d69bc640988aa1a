-- Sixteen sound angles.
use Prim.Native.Nat.{ℕ, ◌<◌}
use native.Mathlib.Omega.{arith}
use mathlib.Core.Path.{◌≡◌, refl, ◌∙◌}
use mathlib.Core.Bool.{Bool, true, false}
use mathlib.Core.List.{List}
use lib.Dec.{eqb}
use borrow.Author.Tests.{eqb-true, eqb-false}
use lib.ListN.{get_or, set, length-set, replicate, get_or-replicate}
use lib.Seq.{get_or-set_same, get_or-set_other}
use Rattle.rational.specs.declared.Rational64.{Rational64}
use Rattle.value.specs.declared.Value.{Value}
use Rattle.value.specs.Value.{Sound}
use Rattle.model.specs.Evaluate.{zero_value}
use Rattle.record_writer.specs.Promise.{SoundAngles}

-- one angle sixteen times
pub repeated_sound : (x : Value) → Sound x → SoundAngles (replicate 16 x)
repeated_sound x h = record { sixteen = refl; each = λ i l. rw (get_or-replicate 16 i x zero_value l) h }

-- one of them put in anew
pub put_sound : (found : List Value) (i : ℕ) (x : Value) → i < 16 → SoundAngles found → Sound x → SoundAngles (set found i x)
put_sound found i x l s h = record { sixteen = length-set found i x ∙ s.sixteen; each = λ j m. go j m (eqb j i) refl }
  where
    go : (j : ℕ) → j < 16 → (b : Bool) → eqb j i ≡ b → Sound (get_or (set found i x) j zero_value)
    go j m true e = rw (eqb-true j i e, get_or-set_same found i x zero_value (omega (arith, s.sixteen))) h
    go j m false e = rw (get_or-set_other found i j x zero_value (eqb-false j i e)) (s.each j m)

-- fractions with the same parts are the same
pub same_fraction_lem : (s t : Bool) (m n c d : ℕ) → s ≡ t → m ≡ n → c ≡ d → ◌≡◌ {A = Rational64} (record { negative = s; numer = m; denom = c }) (record { negative = t; numer = n; denom = d })
same_fraction_lem s t m n c d e f g = rw (e, f, g) refl
