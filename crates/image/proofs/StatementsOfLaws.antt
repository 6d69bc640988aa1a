-- The statements of main are the first ones, and those of a body stand in its gate entry.
use Prim.Native.Nat.{ℕ, zero, suc, ◌+◌, ◌-◌, ◌≤◌, zero-le}
use native.Mathlib.Omega.{arith}
use mathlib.Core.Path.{◌≡◌, refl, sym, ap, ◌∙◌}
use mathlib.Core.List.{List}
use lib.Dec.{leb→le}
use Rattle.model.specs.Lists.{range}
use Rattle.model.specs.Image.{word, all_statements, gate_at, body_start, body_length, scope_statements}
use Rattle.model.specs.Check.{gate_ok}
use Rattle.model.proofs.All.{test}
use Rattle.image.specs.declared.Layout.{Layout}
use Rattle.image.specs.Layout.{LayoutOf, GatesAccepted}
use Rattle.image.specs.Reading.{StatementsOf}

pub holds_main : (image : List ℕ) (l : Layout) (scope : ℕ) → LayoutOf image l → scope ≡ 0 → StatementsOf image scope (record { start = 0; end = l.main_statements })
unfolding scope_statements
holds_main image l scope laid z =
    record {
      statements_are = rw z (ap (range 0) (sym laid.main_statements_is ∙ omega arith));
      rising = zero-le;
      listed = omega (arith, laid.main_statements_is, laid.statements_is);
    }

module _ (image : List ℕ) (l : Layout) (laid : LayoutOf image l) (known : GatesAccepted image) where
  -- the statements of a body are statements of the image
  pub body_listed : (scope p a b : ℕ) → scope ≤ l.gates → ¬ (scope ≡ 0) → p ≡ gate_at image (scope - 1) → a ≡ word image (p + 3) → b ≡ word image (p + 4) → a + b ≤ all_statements image
  unfolding gate_ok
  body_listed zero p a b h z ep ea eb = absurd (z refl)
  body_listed (suc g) p a b h z ep ea eb =
      let ep' : p ≡ gate_at image g = omega (arith, ep) in
      let inside : body_start image g + body_length image g ≤ all_statements image = leb→le _ _ (test 3 _ (known.each g (omega (arith, laid.gates_is)))) in
      rw (ea, eb, ep') inside

  pub holds_body : (scope p a b : ℕ) → scope ≤ l.gates → ¬ (scope ≡ 0)
      → p ≡ gate_at image (scope - 1) → a ≡ word image (p + 3) → b ≡ word image (p + 4) → StatementsOf image scope (record { start = a; end = a + b })
  unfolding scope_statements
  holds_body zero p a b h z ep ea eb = absurd (z refl)
  holds_body (suc g) p a b h z ep ea eb =
      let ep' : p ≡ gate_at image g = omega (arith, ep) in
      let size : a + b - a ≡ b = omega arith in
      record {
        statements_are = rw (size, ea, eb, ep') refl;
        rising = omega arith;
        listed = body_listed (suc g) p a b h z ep ea eb;
      }
