-- Sums and multiples of capped figures, and what a record weighs.
use Rattle.std.proofs.Common.{ℕ, ◌+◌, ◌*◌, ◌^◌, ◌≡◌, refl, map, arith, ◌∙◌}
use Rattle.rational.proofs.CappedLaws.{min_mul}
use Rattle.model.specs.Lists.{range, sum}
use Rattle.model.proofs.Ranges.{sum_next}
use Rattle.tally.specs.Weights.{weight_of, entry_of, capped, figure, capped_figures}
use Rattle.tally.specs.declared.figures.Figures.{Figures}

-- what is capped before it is added or multiplied may be capped afterwards alone
capped_plus : (m n : ℕ) → capped (capped m + capped n) ≡ capped (m + n)
capped_plus m n = omega arith

capped_times : (k n : ℕ) → capped (k * capped n) ≡ capped (k * n)
capped_times k n = min_mul k n (2 ^ 32)

pub sum_of : (f g : ℕ → ℕ) (a b r : Figures) → a ≡ capped_figures f → b ≡ capped_figures g → r ≡ capped_figures (λ j. figure a j + figure b j) → r ≡ capped_figures (λ j. f j + g j)
unfolding capped_figures figure
sum_of f g a b r ea eb er = rw (er, ea, eb) (simp capped_plus)

pub product_of : (k : ℕ) (f : ℕ → ℕ) (a r : Figures) → a ≡ capped_figures f → r ≡ capped_figures (λ j. k * figure a j) → r ≡ capped_figures (λ j. k * f j)
unfolding capped_figures figure
product_of k f a r ea er = rw (er, ea) (simp capped_times)

-- figures that are the same one by one
pub alike : (f g : ℕ → ℕ) → ((j : ℕ) → f j ≡ g j) → capped_figures f ≡ capped_figures g
alike f g same = λ i. capped_figures (λ j. same j i)

-- some rounds of a record whose weights are known
pub rounds_of : (k : ℕ) (f g : ℕ → ℕ) (a r : Figures) → a ≡ capped_figures f → ((j : ℕ) → k * f j ≡ g j) → r ≡ capped_figures (λ j. k * figure a j) → r ≡ capped_figures g
rounds_of k f g a r ea same er = product_of k f a r ea er ∙ alike (λ j. k * f j) g same

-- ---- what a record weighs
abbrev nine : (u cx opaque barrier measure reset conditional entries words : ℕ) → Figures
nine u cx opaque barrier measure reset conditional entries words =
    record { u = u; cx = cx; opaque = opaque; barrier = barrier; measure = measure; reset = reset; conditional = conditional; entries = entries; words = words }

pub none_is : nine 0 0 0 0 0 0 0 0 0 ≡ capped_figures (λ j. 0)
unfolding capped_figures
none_is = refl

pub u_is : nine 1 0 0 0 0 0 0 0 14 ≡ capped_figures (λ j. weight_of j 1 14)
unfolding capped_figures weight_of
u_is = refl

pub cx_is : nine 0 1 0 0 0 0 0 0 3 ≡ capped_figures (λ j. weight_of j 2 3)
unfolding capped_figures weight_of
cx_is = refl

pub opaque_is : (w n : ℕ) → w ≡ capped n → nine 0 0 1 0 0 0 0 0 w ≡ capped_figures (λ j. weight_of j 3 n)
unfolding capped_figures weight_of
opaque_is w n e = rw e refl

pub barrier_is : (w n : ℕ) → w ≡ capped n → nine 0 0 0 1 0 0 0 0 w ≡ capped_figures (λ j. weight_of j 4 n)
unfolding capped_figures weight_of
barrier_is w n e = rw e refl

pub measure_is : nine 0 0 0 0 1 0 0 0 3 ≡ capped_figures (λ j. weight_of j 5 3)
unfolding capped_figures weight_of
measure_is = refl

pub reset_is : nine 0 0 0 0 0 1 0 0 2 ≡ capped_figures (λ j. weight_of j 6 2)
unfolding capped_figures weight_of
reset_is = refl

pub conditional_is : nine 0 0 0 0 0 0 1 0 5 ≡ capped_figures (λ j. weight_of j 7 4 + weight_of j 8 1)
unfolding capped_figures weight_of
conditional_is = refl

pub entry_is : nine 0 0 0 0 0 0 0 1 0 ≡ capped_figures entry_of
unfolding capped_figures entry_of
entry_is = refl

pub head_is : (w n : ℕ) → w ≡ capped n → nine 0 0 0 0 0 0 0 0 w ≡ capped_figures (λ j. weight_of j 0 n)
unfolding capped_figures weight_of
head_is w n e = rw e refl

-- ---- sums over a range, from b on
pub sum_more : (f : ℕ → ℕ) (b a i total x r : ℕ) → total ≡ capped (b + sum (map f (range a i))) → capped x ≡ capped (f (a + i)) → r ≡ capped (total + x) → r ≡ capped (b + sum (map f (range a (i + 1))))
sum_more f b a i total x r et ex er = omega (arith, sum_next f a i)
