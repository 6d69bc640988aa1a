-- Counts that are capped past any image's length add up to the image exactly if the counts themselves do.
use Prim.Native.Nat.{ℕ, ◌+◌, ◌≤◌, min}
use native.Mathlib.Omega.{arith}
use native.Mathlib.Nat.{add-zero}
use mathlib.Core.Path.{◌≡◌, ◌∙◌}
use mathlib.Core.List.{List, [], ◌∷◌}
use lib.ListN.{length}
use Rattle.model.specs.Image.{word, gates, expressions, expression_at}
use Rattle.image.specs.declared.Layout.{Layout}
use Rattle.image.specs.Layout.{contents_with, LayoutOf, CappedCounts}

uncapped : (n : ℕ) → min n 8193 ≤ 8192 → min n 8193 ≡ n
uncapped n h = omega arith

small : (n : ℕ) → n ≤ 8192 → min n 8193 ≡ n
small n h = omega arith

plus : {x y z w : ℕ} → x ≡ y → z ≡ w → x + z ≡ y + w
plus i j = cc

module _ (image : List ℕ) (l : Layout) (c : CappedCounts image l) where
  -- where the capped counts add up to no more than an image, none was capped
  module _ (n : ℕ) (h : n ≤ 8192) (t : expression_at (contents_with l) l.expressions ≡ n) where
    quantum_are : l.quantum_registers ≡ word image 1
    quantum_are = c.quantum_registers_is ∙ uncapped (word image 1) (omega (arith, c.quantum_registers_is))

    classical_are : l.classical_registers ≡ word image 2
    classical_are = c.classical_registers_is ∙ uncapped (word image 2) (omega (arith, c.classical_registers_is))

    pub gates_are : l.gates ≡ gates image
    gates_are = c.gates_is ∙ uncapped (word image 3) (omega (arith, c.gates_is))

    main_are : l.main_statements ≡ word image 4
    main_are = c.main_statements_is ∙ uncapped (word image 4) (omega (arith, c.main_statements_is, c.statements_is))

    statements_are : l.statements ≡ word image 4 + word image 5
    statements_are = c.statements_is ∙ plus (uncapped (word image 4) (omega (arith, c.main_statements_is, c.statements_is))) (uncapped (word image 5) (omega (arith, c.statements_is)))

    arguments_are : l.arguments ≡ word image 6
    arguments_are = c.arguments_is ∙ uncapped (word image 6) (omega (arith, c.arguments_is))

    parameters_are : l.parameters ≡ word image 7
    parameters_are = c.parameters_is ∙ uncapped (word image 7) (omega (arith, c.parameters_is))

    expressions_are : l.expressions ≡ word image 8
    expressions_are = c.expressions_is ∙ uncapped (word image 8) (omega (arith, c.expressions_is))

    pub whole_is : expression_at image (expressions image) ≡ n
    whole_is = omega (arith, quantum_are, classical_are, gates_are, statements_are, arguments_are, parameters_are, expressions_are)

    pub adds_up : n ≡ length image → l.gates ≤ 128 → LayoutOf image l
    adds_up e few =
        record {
          quantum_registers_is = quantum_are;
          classical_registers_is = classical_are;
          gates_is = gates_are;
          main_statements_is = main_are;
          statements_is = statements_are;
          arguments_is = arguments_are;
          parameters_is = parameters_are;
          expressions_is = expressions_are;
          whole = whole_is ∙ e;
          short = omega (arith, e, h);
          few_gates = omega (arith, gates_are, few);
        }

  -- where the image is as long as its counts say, it is so by the capped ones
  pub adds_up_capped : length image ≤ 8192 → expression_at image (expressions image) ≡ length image → expression_at (contents_with l) l.expressions ≡ length image
  adds_up_capped h r =
      go (c.quantum_registers_is ∙ small (word image 1) (omega arith)) (c.classical_registers_is ∙ small (word image 2) (omega arith))
      (c.gates_is ∙ small (word image 3) (omega arith))
      (c.statements_is ∙ plus (small (word image 4) (omega arith)) (small (word image 5) (omega arith)))
      (c.arguments_is ∙ small (word image 6) (omega arith)) (c.parameters_is ∙ small (word image 7) (omega arith)) (c.expressions_is ∙ small (word image 8) (omega arith))
    where
      go : {q k g s a p e : ℕ} → q ≡ word image 1 → k ≡ word image 2 → g ≡ word image 3 → s ≡ word image 4 + word image 5 → a ≡ word image 6 → p ≡ word image 7 → e ≡ word image 8
          → expression_at (0 ∷ q ∷ k ∷ g ∷ s ∷ 0 ∷ a ∷ p ∷ e ∷ []) e ≡ length image
      go {s = s} e1 e2 e3 e4 e5 e6 e7 = rw (add-zero s, e1, e2, e3, e4, e5, e6, e7) r
