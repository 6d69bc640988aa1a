-- What a call comes to: of an opaque gate, of a gate that is cut, and of one whose body is opened.
use Rattle.std.proofs.Common.{ℕ, suc, ◌+◌, ◌*◌, ◌≤◌, ◌<◌, ◌≡◌, refl, List}
use borrow.Author.Tests.{eq-eqb, ne_eqb}
use Rattle.model.specs.Image.{word, gates, gate_at}
use Rattle.model.specs.Check.{fine, check}
use Rattle.model.specs.Tally.{open_gate_tally, gate_tally, opening_tally}
use Rattle.model.proofs.Accepted as accepted
use Rattle.model.proofs.Accepted.{accepts}
use Rattle.tally.specs.Weights.{weight_of, entry_of, body, gate_figure}

module _ (image : List ℕ) (g at b : ℕ) (at-is : at ≡ gate_at image g) (b-is : b ≡ word image (at + 2)) where
  pub gate_opaque : (n p q j : ℕ) → p ≡ word image at → q ≡ word image (at + 1) → b ≡ 0 → weight_of j 3 (4 + 4 * p + q) ≡ gate_figure image n g j
  unfolding gate_tally
  gate_opaque n p q j ep eq z = rw (← at-is, ← ep, ← eq, ← b-is, eq-eqb b 0 z) refl

  pub gate_cut : (n q j : ℕ) → q ≡ word image (at + 1) → ¬ (b ≡ 0) → n ≡ 0 → weight_of j 3 (4 + q) ≡ gate_figure image n g j
  unfolding gate_tally open_gate_tally opening_tally
  gate_cut n q j eq z e = rw (e, ← at-is, ← eq, ← b-is, ne_eqb b 0 z) refl

  pub gate_opened : (m n j : ℕ) → ¬ (b ≡ 0) → n ≡ suc m → entry_of j + body image m g j ≡ gate_figure image n g j
  unfolding gate_tally open_gate_tally opening_tally
  gate_opened m n j z e = rw (e, ← at-is, ← b-is, ne_eqb b 0 z) refl

-- what acceptance says of a gate's counts
module _ (image : List ℕ) (ok : check image ≡ fine) (g at : ℕ) (h : g < gates image) (at-is : at ≡ gate_at image g) where
  pub few_parameters : (p : ℕ) → p ≡ word image at → p ≤ 16
  few_parameters p e = rw (e, at-is) (accepted.few_parameters (accepts image ok) g h)

  pub few_arguments : (q : ℕ) → q ≡ word image (at + 1) → q ≤ 16
  few_arguments q e = rw (e, at-is) (accepted.few_arguments (accepts image ok) g h)
