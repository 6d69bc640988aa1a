-- The tally adds up: what is counted in two parts comes to the sum of the two. So the number of records follows from the figures.
use Prim.Native.Nat.{ℕ, zero, suc, ◌+◌, ◌-◌, ◌*◌}
use native.Mathlib.Nat.{mul-add, add-zero}
use native.Mathlib.Omega.{arith}
use mathlib.Core.Path.{◌≡◌, refl, ap, ◌∙◌}
use mathlib.Core.Bool.{Bool, true, false, cond}
use mathlib.Core.List.{List, [], ◌∷◌, map}
use mathlib.Core.Option.{Option, none, some}
use lib.Dec.{eqb}
use Rattle.model.specs.Lists.{sum}
use Rattle.model.specs.Image.{Statement, Gate, Conditional, statement, gate_body, main_statements, qubits, bits, scope_statements}
use Rattle.model.specs.Tally.{open_gate_tally, gate_tally, plain_tally, conditional_tally, statement_tally, body_tally, opening_tally, weight_tally, of_kind, record_figure}

-- h counts what f and g count, in each kind but the head; an if's start and its end are taken together
pub record Adds (f g h : ℕ → ℕ → ℕ) : Type 0 where
  pub k1 : h 1 14 ≡ f 1 14 + g 1 14
  pub k2 : h 2 3 ≡ f 2 3 + g 2 3
  pub k3 : (n : ℕ) → h 3 n ≡ f 3 n + g 3 n
  pub k4 : (n : ℕ) → h 4 n ≡ f 4 n + g 4 n
  pub k5 : h 5 3 ≡ f 5 3 + g 5 3
  pub k6 : h 6 2 ≡ f 6 2 + g 6 2
  pub k78 : h 7 4 + h 8 1 ≡ f 7 4 + f 8 1 + (g 7 4 + g 8 1)

module _ (w : List ℕ) (f g h : ℕ → ℕ → ℕ) (adds : Adds f g h) where
  data Sum : Option (ℕ → ℕ) → Option (ℕ → ℕ) → Option (ℕ → ℕ) → Type 0 where
    shut : Sum none none none
    opened : {a b c : ℕ → ℕ} → ((s : ℕ) → c s ≡ a s + b s) → Sum (some a) (some b) (some c)

  cond_sum : (t : Bool) (a b c p q r : ℕ) → c ≡ a + b → r ≡ p + q → cond t c r ≡ cond t a p + cond t b q
  cond_sum true a b c p q r x y = x
  cond_sum false a b c p q r x y = y

  times_sum : (n a b c : ℕ) → c ≡ a + b → n * c ≡ n * a + n * b
  times_sum n a b c e = ap (λ x. n * x) e ∙ mul-add n a b

  sum_sum : (a b c : ℕ → ℕ) → ((s : ℕ) → c s ≡ a s + b s) → (l : List ℕ) → sum (map c l) ≡ sum (map a l) + sum (map b l)
  unfolding sum
  sum_sum a b c e [] = refl
  sum_sum a b c e (x ∷ l) = omega (arith, e x, sum_sum a b c e l)

  call_sum : {a b c : Option (ℕ → ℕ)} → Sum a b c → (x : ℕ) → gate_tally w h 0 c x ≡ gate_tally w f 0 a x + gate_tally w g 0 b x
  unfolding gate_tally open_gate_tally
  call_sum shut x = cond_sum (eqb (gate_body w x) 0) _ _ _ _ _ _ (adds.k3 _) (adds.k3 _)
  call_sum (opened e) x = cond_sum (eqb (gate_body w x) 0) _ _ _ _ _ _ (adds.k3 _) (omega (arith, e (suc x)))

  plain_sum : {a b c : Option (ℕ → ℕ)} → Sum a b c → (ca cb cc : ℕ → ℕ) → ((t : ℕ) → cc t ≡ ca t + cb t) → (scope : ℕ) (x : Statement)
      → plain_tally w h 0 cc c scope x ≡ plain_tally w f 0 ca a scope x + plain_tally w g 0 cb b scope x
  unfolding plain_tally
  plain_sum s ca cb cc e scope (Statement.U θ φ lam q) = times_sum _ _ _ _ adds.k1
  plain_sum s ca cb cc e scope (Statement.CX a b) = times_sum _ _ _ _ adds.k2
  plain_sum s ca cb cc e scope (Gate x p a) = times_sum _ _ _ _ (call_sum s x)
  plain_sum s ca cb cc e scope (Statement.Barrier a n) = adds.k4 _
  plain_sum s ca cb cc e scope (Statement.Measure q c) = times_sum _ _ _ _ adds.k5
  plain_sum s ca cb cc e scope (Statement.Reset q) = times_sum _ _ _ _ adds.k6
  plain_sum s ca cb cc e scope (Conditional r v t) = e t
  plain_sum s ca cb cc e scope Statement.Unknown = refl

  body_sum : {a b c : Option (ℕ → ℕ)} → Sum a b c → (scope : ℕ) → body_tally w h 0 c scope ≡ body_tally w f 0 a scope + body_tally w g 0 b scope
  unfolding body_tally statement_tally conditional_tally
  body_sum {a} {b} {c} s scope =
      sum_sum _ _ _
      (λ i. plain_sum s _ _ _ (λ t. omega (arith, adds.k78, plain_sum s (λ t. 0) (λ t. 0) (λ t. 0) (λ t. refl) scope (statement w t))) scope (statement w i)) (scope_statements w scope)

  opening_sum : (n : ℕ) → Sum (opening_tally w f 0 n) (opening_tally w g 0 n) (opening_tally w h 0 n)
  unfolding opening_tally
  opening_sum zero = shut
  opening_sum (suc n) = opened (body_sum (opening_sum n))

  pub total_sum : (depth : ℕ) → ((n : ℕ) → h 0 n ≡ f 0 n + g 0 n) → weight_tally w h 0 depth ≡ weight_tally w f 0 depth + weight_tally w g 0 depth
  unfolding weight_tally
  total_sum depth k0 = cond_sum (eqb (main_statements w) 0) _ _ _ _ _ _ refl (omega (arith, k0 (3 + 2 * (qubits w + bits w)), body_sum (opening_sum (depth - 1)) 0))

nothing : ℕ → ℕ → ℕ
nothing k n = 0

nothing_adds : Adds nothing nothing nothing
unfolding nothing
nothing_adds = record { k1 = refl; k2 = refl; k3 = λ n. refl; k4 = λ n. refl; k5 = refl; k6 = refl; k78 = refl }

same : Adds (of_kind 0) (of_kind 0) (of_kind 0)
same = record { k1 = refl; k2 = refl; k3 = λ n. refl; k4 = λ n. refl; k5 = refl; k6 = refl; k78 = refl }

-- the number of records by kind, of some kinds together
unfoldable pub of_kinds : List ℕ → ℕ → ℕ → ℕ
of_kinds [] k n = 0
of_kinds (j ∷ l) k n = of_kind j k n + of_kinds l k n

module _ (w : List ℕ) (depth : ℕ) where
  nothing_total : weight_tally w nothing 0 depth ≡ 0
  unfolding nothing
  nothing_total = omega (arith, total_sum w nothing nothing nothing nothing_adds depth (λ n. refl))

  pub kinds_total : (l : List ℕ) → weight_tally w (of_kinds l) 0 depth ≡ sum (map (record_figure w depth) l)
  unfolding of_kinds sum record_figure nothing
  kinds_total [] = nothing_total
  kinds_total (j ∷ l) =
      total_sum w (of_kind j) (of_kinds l) (of_kinds (j ∷ l))
      (record { k1 = refl; k2 = refl; k3 = λ n. refl; k4 = λ n. refl; k5 = refl; k6 = refl; k78 = omega arith }) depth (λ n. refl)
      ∙ ap (λ x. weight_tally w (of_kind j) 0 depth + x) (kinds_total l)

  -- as many ends as starts, and one head, if there is a statement
  pub ends : record_figure w depth 8 ≡ record_figure w depth 7
  unfolding record_figure nothing
  ends =
      total_sum w (of_kind 7) nothing (of_kind 8) (record { k1 = refl; k2 = refl; k3 = λ n. refl; k4 = λ n. refl; k5 = refl; k6 = refl; k78 = refl }) depth (λ n. refl)
      ∙ ap (λ x. weight_tally w (of_kind 7) 0 depth + x) nothing_total ∙ add-zero _

  pub heads : record_figure w depth 0 ≡ cond (eqb (main_statements w) 0) 0 1
  unfolding record_figure weight_tally
  heads = go (eqb (main_statements w) 0)
    where
      x : ℕ
      x = body_tally w (of_kind 0) 0 (opening_tally w (of_kind 0) 0 (depth - 1)) 0

      none_inside : x ≡ x + x
      none_inside =
          body_sum w (of_kind 0) (of_kind 0) (of_kind 0) same (opening_sum w (of_kind 0) (of_kind 0) (of_kind 0) same (depth - 1)) 0

      go : (b : Bool) → cond b 0 (1 + x) ≡ cond b 0 1
      go true = refl
      go false = omega (arith, none_inside)
