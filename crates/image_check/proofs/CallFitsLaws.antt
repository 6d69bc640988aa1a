-- What is known of a call whose numbers and runs are in range.
use Prim.Native.Nat.{ℕ, ◌+◌, ◌≤◌}
use native.Mathlib.Omega.{arith}
use mathlib.Core.Path.{◌≡◌, sym, ap, subst, ◌∙◌}
use mathlib.Core.Bool.{true}
use mathlib.Core.List.{List}
use lib.Dec.{T, leb→le, ltb→lt}
use Rattle.model.specs.Image.{word, gates, arguments, parameters, gate_at, gate_parameters, gate_arguments}
use Rattle.model.proofs.All.{test}
use Rattle.image.specs.declared.Layout.{Layout}
use Rattle.image.specs.Layout.{LayoutOf}
use Rattle.image_check.specs.Statements.{call_fits}

module _ (image : List ℕ) {l : Layout} (s g p a : ℕ) (laid : LayoutOf image l) (ok : call_fits image s g p a ≡ true) where
  fitting : T (call_fits image s g p a)
  fitting = subst T (sym ok) tt

  pub call_gate : g ≤ 8192
  call_gate = omega (arith, ltb→lt g (gates image) (test 1 _ fitting))

  pub call_parameters : (m : ℕ) → m ≡ gate_parameters image g → p + m ≤ 8192
  call_parameters m e = omega (arith, leb→le (p + gate_parameters image g) (parameters image) (test 2 _ fitting))

  pub call_arguments : (n : ℕ) → n ≡ gate_arguments image g → a + n ≤ 8192
  call_arguments n e = omega (arith, leb→le (a + gate_arguments image g) (arguments image) (test 3 _ fitting))

-- the counts of a gate by its place
module _ (image : List ℕ) (g at : ℕ) (at-is : at ≡ gate_at image g) where
  pub parameters_of : (m : ℕ) → m ≡ word image at → m ≡ gate_parameters image g
  parameters_of m e = e ∙ ap (word image) at-is

  pub arguments_of : (n : ℕ) → n ≡ word image (at + 1) → n ≡ gate_arguments image g
  arguments_of n e = e ∙ ap (λ (k : ℕ). word image (k + 1)) at-is
