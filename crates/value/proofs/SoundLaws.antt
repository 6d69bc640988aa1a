-- What the definitions of angles give has both parts in lowest terms and in range.
use mathlib.Core.Path.{◌≡◌, refl, sym, subst}
use mathlib.Core.Bool.{Bool, true, false, not, ◌&&◌, ◌||◌, cond}
use Prim.Native.Nat.{ℕ, ◌^◌, ◌<◌}
use native.Mathlib.Nat.{lt_irrefl}
use native.Mathlib.Omega.{arith}
use lib.Dec.{T, ltb, eqb, lit<}
use lib.Ieee.{Float, binary32, fits, div}
use lib.Ieee.Fits.{div-fits}
use borrow.Author.Tests.{ltb-true, eqb-true, eqb-false}
use Rattle.rational.specs.Gcd.{gcd, euclid}
use Rattle.rational.specs.Rational.{LowestTerms, magnitude_in_range, ratio, fraction_sum, difference, product, quotient, power, rational_root, reciprocal, fractional_part, is_zero, same_fraction, and_then_option, both}
use Rattle.rational.specs.Promise.{SoundOption}
use Rattle.rational.specs.declared.Rational64.{Rational64}
use Rattle.std.specs.Prelude.{Option, Some, None}
use Rattle.std.specs.Option.{MatchOption}
use Rattle.rational.proofs.LowestTermsLaws.{both_true, sum_sound, product_sound, difference_sound, quotient_sound, power_sound, reciprocal_lowest, fractional_part_lowest}
use Rattle.rational.proofs.WholeRootLaws.{root_sound}
use Rattle.float.specs.Float.{approximate_float}
use Rattle.float.proofs.ApproximateFloatLaws.{float_sound}
use Rattle.float.proofs.PowerOfTwoLaws.{gcd_one}
use Rattle.value.specs.Value.{Sound, value, one, two, half, rational_value, or_overflow, parts_or_overflow, and_then, half_pi, pi_squared, integer, into_float, from_float, or_float, value_sum, value_difference, value_product, negation, approximate_quotient, common_ratio, value_quotient, extract_root, inverted, or_function_of_floats, value_power, square_root, sine_table, wrapped, turn, sine, cosine, tangent}
use Rattle.value.specs.Value.{zero_fraction}
use Rattle.value.specs.Promise.{SoundEvaluation, EvaluatesTo}
use Rattle.value.specs.declared.Value.{Value}
use Rattle.value.specs.declared.Evaluation.{Evaluation}
use Rattle.value.specs.declared.Evaluation.TheVariants as evaluation

-- A promise follows from its equation.
pub evaluates_to : {defined result : Evaluation} → result ≡ defined → SoundEvaluation defined → EvaluatesTo defined result
evaluates_to e s = record { is = e; sound = subst SoundEvaluation (sym e) s }

-- ---- constants: a test that computes
abbrev lowest_test : Bool → ℕ → ℕ → Bool
lowest_test s n d = ltb 0 d && (magnitude_in_range n && (magnitude_in_range d && (eqb (gcd n d) 1 && (not s || ltb 0 n))))

lowest_tested : (s : Bool) (n d : ℕ) → lowest_test s n d ≡ true → LowestTerms (record { negative = s; numer = n; denom = d })
lowest_tested s n d e =
    let a = both_true (ltb 0 d) (magnitude_in_range n && (magnitude_in_range d && (eqb (gcd n d) 1 && (not s || ltb 0 n)))) e in
    let b = both_true (magnitude_in_range n) (magnitude_in_range d && (eqb (gcd n d) 1 && (not s || ltb 0 n))) a.1 in
    let f = both_true (magnitude_in_range d) (eqb (gcd n d) 1 && (not s || ltb 0 n)) b.1 in
    let g = both_true (eqb (gcd n d) 1) (not s || ltb 0 n) f.1 in
    record {
      positive = ltb-true 0 d a.0;
      numer_fits = ltb-true n (2 ^ 63) b.0;
      denom_fits = ltb-true d (2 ^ 63) f.0;
      coprime = eqb-true (gcd n d) 1 g.0;
      zero_unsigned = λ z. unsigned s z g.1;
    }
  where
    unsigned : (s : Bool) → n ≡ 0 → (not s || ltb 0 n) ≡ true → s ≡ false
    unsigned true z t = absurd (lt_irrefl 0 (subst (λ (m : ℕ). 0 < m) z (ltb-true 0 n t)))
    unsigned false z t = refl

pub zero_lowest : LowestTerms zero_fraction
unfolding gcd euclid
zero_lowest = lowest_tested false 0 1 refl

pub one_lowest : (s : Bool) → LowestTerms (record { negative = s; numer = 1; denom = 1 })
unfolding gcd euclid
one_lowest true = lowest_tested true 1 1 refl
one_lowest false = lowest_tested false 1 1 refl

pub half_lowest : (s : Bool) → LowestTerms (record { negative = s; numer = 1; denom = 2 })
unfolding gcd euclid
half_lowest true = lowest_tested true 1 2 refl
half_lowest false = lowest_tested false 1 2 refl

pub two_lowest : LowestTerms two
unfolding gcd euclid
two_lowest = lowest_tested false 2 1 refl

pub pi_squared_lowest : LowestTerms pi_squared
unfolding gcd euclid
pi_squared_lowest = lowest_tested false 6499908331188584841 658578405682719844 refl

pub half_pi_sound : Sound half_pi
unfolding gcd euclid
half_pi_sound = record { rational_part = lowest_tested false half_pi.a.numer half_pi.a.denom refl; pi_part = lowest_tested false half_pi.b.numer half_pi.b.denom refl }

-- ---- the ways in which results are put together
pub or_overflow_is : (c : Option Rational64) (make : Rational64 → Evaluation) (r : Evaluation) → MatchOption c (r ≡ evaluation.Overflow) (λ x. r ≡ make x) → r ≡ or_overflow c make
or_overflow_is (Some x) make r h = h
or_overflow_is None make r h = h

pub or_function_of_floats_is : (c : Option Rational64) (make : Rational64 → Evaluation) (r : Evaluation) → MatchOption c (r ≡ evaluation.FunctionOfFloats) (λ x. r ≡ make x) → r ≡ or_function_of_floats c make
or_function_of_floats_is (Some x) make r h = h
or_function_of_floats_is None make r h = h

pub rational_value_sound : {x : Rational64} → LowestTerms x → SoundEvaluation (rational_value x)
rational_value_sound l = record { rational_part = l; pi_part = zero_lowest }

pub or_overflow_sound : (c : Option Rational64) (make : Rational64 → Evaluation) → SoundOption c → ((x : Rational64) → LowestTerms x → SoundEvaluation (make x)) → SoundEvaluation (or_overflow c make)
or_overflow_sound (Some x) make l h = h x l
or_overflow_sound None make l h = tt

pub or_function_of_floats_sound : (c : Option Rational64) (make : Rational64 → Evaluation) → SoundOption c → ((x : Rational64) → LowestTerms x → SoundEvaluation (make x)) → SoundEvaluation (or_function_of_floats c make)
or_function_of_floats_sound (Some x) make l h = h x l
or_function_of_floats_sound None make l h = tt

pub parts_or_overflow_sound : (a b : Option Rational64) → SoundOption a → SoundOption b → SoundEvaluation (parts_or_overflow a b)
parts_or_overflow_sound (Some a) (Some b) p q = record { rational_part = p; pi_part = q }
parts_or_overflow_sound (Some a) None p q = tt
parts_or_overflow_sound None b p q = tt

pub then_sound : (x : Evaluation) (operation : Value → Evaluation) → SoundEvaluation x → ((v : Value) → Sound v → SoundEvaluation (operation v)) → SoundEvaluation (and_then x operation)
then_sound (evaluation.Value v) operation s h = h v s
then_sound evaluation.DivideByZero operation s h = tt
then_sound evaluation.Overflow operation s h = tt
then_sound (evaluation.ApproximateFail f) operation s h = tt
then_sound evaluation.FunctionOfFloats operation s h = tt

either_sound : (b : Bool) (x y : Evaluation) → (b ≡ true → SoundEvaluation x) → (b ≡ false → SoundEvaluation y) → SoundEvaluation (cond b x y)
either_sound true x y h k = h refl
either_sound false x y h k = k refl

and_then_option_sound : (c : Option Rational64) (op : Rational64 → Option Rational64) → SoundOption c → ((x : Rational64) → LowestTerms x → SoundOption (op x)) → SoundOption (and_then_option c op)
and_then_option_sound (Some x) op l h = h x l
and_then_option_sound None op l h = tt

both_sound : (op : Rational64 → Rational64 → Option Rational64) → ((x y : Rational64) → LowestTerms x → LowestTerms y → SoundOption (op x y)) → (a b : Option Rational64) → SoundOption a → SoundOption b → SoundOption (both op a b)
both_sound op h a b p q = and_then_option_sound a (λ x. and_then_option b (λ y. op x y)) p (λ x l. and_then_option_sound b (λ y. op x y) q (λ y k. h x y l k))

nonzero : (n : ℕ) → eqb n 0 ≡ false → 0 < n
nonzero n e = let h = eqb-false n 0 e in positive n h
  where
    positive : (n : ℕ) → (n ≡ 0 → ⊥) → 0 < n
    positive n h = omega arith

-- ---- parts of the operations
pub extract_sound : (x : Rational64) (k : ℕ) → LowestTerms x → 0 < k → SoundOption (extract_root k x)
unfolding extract_root
extract_sound x k l h = outer (eqb k 1 || same_fraction x one) (ltb k (2 ^ 32))
  where
    outer : (a b : Bool) → SoundOption (cond a (Some x) (cond b (rational_root k x) None))
    outer true b = l
    outer false true = root_sound x k l h
    outer false false = tt

inverted_sound : (s : Bool) (r : Rational64) → LowestTerms r → SoundEvaluation (inverted s r)
inverted_sound s r l =
    either_sound s (cond (is_zero r) evaluation.DivideByZero (rational_value (reciprocal r))) (rational_value r)
    (λ _. either_sound (is_zero r) evaluation.DivideByZero (rational_value (reciprocal r)) (λ _. tt) (λ e. rational_value_sound (reciprocal_lowest r l (nonzero r.numer e))))
    (λ _. rational_value_sound l)

pub table_sound : (f : Rational64) → SoundEvaluation (sine_table f)
unfolding sine_table
table_sound f =
    either_sound (same_fraction f zero_fraction) _ _ (λ _. rational_value_sound zero_lowest)
    (λ _. either_sound (same_fraction f (ratio false 1 6) || same_fraction f (ratio false 5 6)) _ _ (λ _. rational_value_sound (half_lowest false))
    (λ _. either_sound (same_fraction f half) _ _ (λ _. rational_value_sound (one_lowest false))
    (λ _. either_sound (same_fraction f (ratio false 7 6) || same_fraction f (ratio false 11 6)) _ _ (λ _. rational_value_sound (half_lowest true))
    (λ _. either_sound (same_fraction f (ratio false 3 2)) _ _ (λ _. rational_value_sound (one_lowest true)) (λ _. tt)))))

wrapped_sound : (f : Rational64) → LowestTerms f → SoundOption (wrapped f)
wrapped_sound f l = go f.negative
  where
    go : (s : Bool) → SoundOption (cond s (fraction_sum f two) (Some f))
    go true = sum_sound f two l two_lowest
    go false = l

pub turn_sound : (b : Rational64) → LowestTerms b → SoundOption (turn b)
unfolding turn
turn_sound b l =
    and_then_option_sound (quotient b two) _ (quotient_sound b two l two_lowest (lit< tt))
    (λ h k. and_then_option_sound (product (fractional_part h) two) wrapped (product_sound (fractional_part h) two (fractional_part_lowest h k) two_lowest) wrapped_sound)

-- ---- the operations
pub integer_sound : (n : ℕ) → SoundEvaluation (integer n)
unfolding integer
integer_sound n =
    either_sound (magnitude_in_range n) (rational_value (ratio false n 1)) evaluation.Overflow
    (λ e. rational_value_sound (record { positive = lit< tt; numer_fits = ltb-true n (2 ^ 63) e; denom_fits = lit< tt; coprime = gcd_one n; zero_unsigned = λ z. refl }))
    (λ e. tt)

pub from_float_sound : (f : Float) → T (fits binary32 f) → SoundEvaluation (from_float f)
unfolding from_float
from_float_sound f h = go (approximate_float f) (float_sound f h)
  where
    go : (c : Option Rational64) → SoundOption c → SoundEvaluation (or_float c f)
    go (Some x) l = rational_value_sound l
    go None l = tt

module _ (x y : Value) (p : Sound x) (q : Sound y) where
  pub sum_sound_value : SoundEvaluation (value_sum x y)
  unfolding value_sum
  sum_sound_value = parts_or_overflow_sound (fraction_sum x.a y.a) (fraction_sum x.b y.b) (sum_sound x.a y.a p.rational_part q.rational_part) (sum_sound x.b y.b p.pi_part q.pi_part)

  pub difference_sound_value : SoundEvaluation (value_difference x y)
  unfolding value_difference
  difference_sound_value = parts_or_overflow_sound (difference x.a y.a) (difference x.b y.b) (difference_sound x.a y.a p.rational_part q.rational_part) (difference_sound x.b y.b p.pi_part q.pi_part)

  pub product_sound_value : SoundEvaluation (value_product x y)
  unfolding value_product
  product_sound_value =
      let bb = product_sound x.b y.b p.pi_part q.pi_part in
      let c = and_then_option_sound (product x.b y.b) (λ z. product z pi_squared) bb (λ z l. product_sound z pi_squared l pi_squared_lowest) in
      parts_or_overflow_sound (both fraction_sum (product x.a y.a) (and_then_option (product x.b y.b) (λ z. product z pi_squared))) (both fraction_sum (product x.b y.a) (product x.a y.b))
      (both_sound fraction_sum sum_sound (product x.a y.a) (and_then_option (product x.b y.b) (λ z. product z pi_squared)) (product_sound x.a y.a p.rational_part q.rational_part) c)
      (both_sound fraction_sum sum_sound (product x.b y.a) (product x.a y.b) (product_sound x.b y.a p.pi_part q.rational_part) (product_sound x.a y.b p.rational_part q.pi_part))

  pub approximate_sound : SoundEvaluation (approximate_quotient x y)
  unfolding approximate_quotient
  approximate_sound = from_float_sound (div binary32 (into_float x) (into_float y)) (div-fits binary32 (into_float x) (into_float y))

  ratio_sound : (f g : Rational64) → LowestTerms f → SoundEvaluation (common_ratio x y f g)
  ratio_sound f g l = either_sound (same_fraction f g) (rational_value f) (approximate_quotient x y) (λ e. rational_value_sound l) (λ e. approximate_sound)

  pub quotient_sound_value : SoundEvaluation (value_quotient x y)
  unfolding value_quotient
  quotient_sound_value =
      either_sound (is_zero y.b) _ _
      (λ _. either_sound (is_zero y.a) _ _ (λ _. tt)
      (λ e.
      let n = nonzero y.a.numer e in
      parts_or_overflow_sound (quotient x.a y.a) (quotient x.b y.a) (quotient_sound x.a y.a p.rational_part q.rational_part n) (quotient_sound x.b y.a p.pi_part q.rational_part n)))
      (λ e.
      let n = nonzero y.b.numer e in
      either_sound (is_zero y.a) _ _
      (λ _. either_sound (is_zero x.a) _ _ (λ _. or_overflow_sound (quotient x.b y.b) rational_value (quotient_sound x.b y.b p.pi_part q.pi_part n) (λ z l. rational_value_sound l)) (λ _. approximate_sound))
      (λ e.
      let m = nonzero y.a.numer e in
      or_overflow_sound (quotient x.a y.a) _ (quotient_sound x.a y.a p.rational_part q.rational_part m)
      (λ f l. or_overflow_sound (quotient x.b y.b) _ (quotient_sound x.b y.b p.pi_part q.pi_part n) (λ g k. ratio_sound f g l))))

  pub power_sound_value : SoundEvaluation (value_power x y)
  unfolding value_power
  power_sound_value =
      either_sound (is_zero x.b && is_zero y.b) _ _
      (λ _. or_overflow_sound (power x.a y.a.numer) _ (power_sound x.a y.a.numer p.rational_part)
      (λ z l. or_function_of_floats_sound (extract_root y.a.denom z) (inverted y.a.negative) (extract_sound z y.a.denom l q.rational_part.positive) (λ r k. inverted_sound y.a.negative r k)))
      (λ _. tt)

-- ---- the functions
module _ (x : Value) (p : Sound x) where
  pub negation_sound : SoundEvaluation (negation x)
  unfolding negation
  negation_sound = product_sound_value x (value (ratio true 1 1) zero_fraction) p (record { rational_part = one_lowest true; pi_part = zero_lowest })

  pub square_root_sound : SoundEvaluation (square_root x)
  unfolding square_root
  square_root_sound =
      either_sound (is_zero x.b) _ _ (λ _. or_function_of_floats_sound (rational_root 2 x.a) rational_value (root_sound x.a 2 p.rational_part (lit< tt)) (λ r l. rational_value_sound l)) (λ _. tt)

  pub sine_sound : SoundEvaluation (sine x)
  unfolding sine
  sine_sound = either_sound (is_zero x.a) _ _ (λ _. or_overflow_sound (turn x.b) sine_table (turn_sound x.b p.pi_part) (λ f l. table_sound f)) (λ _. tt)

pub cosine_sound : (x : Value) → Sound x → SoundEvaluation (cosine x)
unfolding cosine
cosine_sound x p = then_sound (value_sum x half_pi) sine (sum_sound_value x half_pi p half_pi_sound) sine_sound

pub tangent_sound : (x : Value) → Sound x → SoundEvaluation (tangent x)
unfolding tangent
tangent_sound x p = then_sound (sine x) _ (sine_sound x p) (λ s q. then_sound (cosine x) _ (cosine_sound x p) (λ c r. quotient_sound_value s c q r))
