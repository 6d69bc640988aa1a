-- The angles of some expressions in turn: those done so far, and the first that has none.
use Prim.Native.Nat.{ℕ, zero, suc, ◌+◌, ◌<◌}
use native.Mathlib.Nat.{add-zero}
use native.Mathlib.Numerals.{add-one}
use native.Mathlib.Omega.{arith}
use mathlib.Core.Path.{◌≡◌, refl, sym, ap, ◌∙◌, subst}
use mathlib.Core.List.{List, [], ◌∷◌, ◌++◌, map}
use lib.ListN.{set, take}
use lib.Seq.{take-suc-set}
use lib.Ieee.{Float}
use Rattle.float.specs.Float.{float_bits}
use Rattle.value.specs.declared.Value.{Value}
use Rattle.value.specs.declared.Evaluation.{Evaluation}
use Rattle.value.specs.declared.Evaluation.TheVariants as evaluation
use Rattle.value.specs.Value.{Sound}
use Rattle.model.specs.Lists.{range}
use Rattle.model.specs.Image.{expression_at}
use Rattle.model.specs.Evaluate.{evaluate}
use Rattle.model.specs.Steps.{Values, have, lack, Refusal, DivideByZero, ApproximateFail, NumericalOverflow, FunctionOfFloats, also, parameter_values}
use Rattle.record_writer.specs.declared.Position.{Position}
use Rattle.record_writer.specs.declared.LinearizeErrorKind.TheVariants as kind
use Rattle.record_writer.specs.declared.LinearizeError.{LinearizeError}
use Rattle.std.specs.Prelude.{Err}
use Rattle.record_writer.specs.Promise.{SoundAngles}
use Rattle.expression.specs.Operands.{RefusalOf, RefusedAt, ParametersGiven}
use Rattle.expression.proofs.AnglesLaws.{put_sound}

-- ---- the answer that each refusal is

pub refuses_division : (r : Evaluation) (p : ℕ) → r ≡ evaluation.DivideByZero → RefusalOf r p (kind.DivideByZero p)
unfolding also
refuses_division r p e = record { why = DivideByZero p; lacks = λ later. rw e refl; answers = λ t. refl }

pub refuses_float : (r : Evaluation) (p : ℕ) (f : Float) → r ≡ evaluation.ApproximateFail f → RefusalOf r p (kind.ApproximateFail p f)
unfolding also
refuses_float r p f e = record { why = ApproximateFail p (float_bits f); lacks = λ later. rw e refl; answers = λ t. refl }

pub refuses_function : (r : Evaluation) (p : ℕ) → r ≡ evaluation.FunctionOfFloats → RefusalOf r p (kind.FunctionOfFloats p)
unfolding also
refuses_function r p e = record { why = FunctionOfFloats p; lacks = λ later. rw e refl; answers = λ t. refl }

pub refuses_overflow : (r : Evaluation) (p : ℕ) → r ≡ evaluation.Overflow → RefusalOf r p (kind.NumericalOverflow p)
unfolding also
refuses_overflow r p e = record { why = NumericalOverflow p; lacks = λ later. rw e refl; answers = λ t. refl }

-- ---- the angles in turn

-- all of some expressions have angles: so has the first, and so have the rest
record Split (r : Evaluation) (v : Values) (xs : List Value) : Type 0 where
  first : Value
  rest : List Value
  first_is : r ≡ evaluation.Value first
  rest_is : v ≡ have rest
  both : xs ≡ first ∷ rest

abbrev items : Values → List Value
items (have xs) = xs
items (lack x) = []

split : (r : Evaluation) (p : ℕ) (v : Values) (xs : List Value) → also r p v ≡ have xs → Split r v xs
unfolding also
split (evaluation.Value x) p (have ys) xs e = record { first = x; rest = ys; first_is = refl; rest_is = refl; both = sym (ap items e) }
split (evaluation.Value x) p (lack y) xs e = absurd (let z : ◌≡◌ {A = ℕ} 0 1 = cc in omega arith)
split evaluation.DivideByZero p v xs e = absurd (let z : ◌≡◌ {A = ℕ} 0 1 = cc in omega arith)
split evaluation.Overflow p v xs e = absurd (let z : ◌≡◌ {A = ℕ} 0 1 = cc in omega arith)
split (evaluation.ApproximateFail f) p v xs e = absurd (let z : ◌≡◌ {A = ℕ} 0 1 = cc in omega arith)
split evaluation.FunctionOfFloats p v xs e = absurd (let z : ◌≡◌ {A = ℕ} 0 1 = cc in omega arith)

module _ (image : List ℕ) (angles : List Value) (f : ℕ → ℕ) where
  abbrev values : ℕ → ℕ → Values
  values a n = parameter_values image angles (map f (range a n))

  abbrev valued : ℕ → Evaluation
  valued k = evaluate image angles 32 (f k)

  -- the n expressions from a on all have angles, and so has the next one
  one_more : (a n k : ℕ) (xs : List Value) (x : Value) → k ≡ a + n → values a n ≡ have xs → valued k ≡ evaluation.Value x → values a (suc n) ≡ have (xs ++ x ∷ [])
  unfolding parameter_values range also
  one_more a zero k xs x q e h =
      let here : valued a ≡ evaluation.Value x = ap valued (sym (add-zero a) ∙ sym q) ∙ h in
      let none : [] ≡ xs = ap items e in
      rw (here) (ap (λ (ys : List Value). have (ys ++ x ∷ [])) none)
  one_more a (suc n) k xs x q e h =
      let s = split (valued a) (expression_at image (f a)) (values (suc a) n) xs e in
      rw (s.first_is, one_more (suc a) n k s.rest x (omega arith) s.rest_is h) (ap (λ (ys : List Value). have (ys ++ x ∷ [])) (sym s.both))

  -- the next one has none, whatever comes after it
  refuses_next : (a i n k : ℕ) (xs : List Value) (y : Refusal) → i < n → k ≡ a + i → values a i ≡ have xs → ((later : Values) → also (valued k) (expression_at image (f k)) later ≡ lack y) → values a n ≡ lack y
  unfolding parameter_values range also
  refuses_next a i zero k xs y l q e h = absurd (omega arith)
  refuses_next a zero (suc n) k xs y l q e h =
      subst (λ (m : ℕ). also (valued m) (expression_at image (f m)) (values (suc a) n) ≡ lack y) (q ∙ add-zero a) (h (values (suc a) n))
  refuses_next a (suc i) (suc n) k xs y l q e h =
      let s = split (valued a) (expression_at image (f a)) (values (suc a) i) xs e in
      rw (s.first_is, refuses_next (suc a) i n k s.rest y (omega arith) (omega arith) s.rest_is h) refl

  -- the angles of the first i expressions stand in front of sixteen
  pub record Front (i : ℕ) (found : List Value) : Type 0 where
    pub sound : SoundAngles found
    pub front : values 0 i ≡ have (take i found)

  pub front_none : (found : List Value) → SoundAngles found → Front 0 found
  unfolding parameter_values range
  front_none found h = record { sound = h; front = refl }

  pub front_next : (i e : ℕ) (found : List Value) (x : Value) → i < 16 → Front i found → e ≡ f i → (evaluate image angles 32 e ≡ evaluation.Value x) × Sound x → Front (i + 1) (set found i x)
  front_next i e found x l k q h = record {
    sound = put_sound found i x l k.sound h.1;
    front = rw (add-one i) (one_more 0 i i (take i found) x (omega arith) k.front (ap (evaluate image angles 32) (sym q) ∙ h.0) ∙ ap have (sym (take-suc-set found i x (omega (arith, k.sound.sixteen)))));
  }

  pub front_refuses : (i n e : ℕ) (found : List Value) (at : Position) (x : LinearizeError) → i < n → Front i found → e ≡ f i → RefusedAt (evaluate image angles 32 e) (expression_at image e) at x → ParametersGiven (values 0 n) n at (Err x)
  front_refuses i n e found at x l k q h =
      let lacks : (later : Values) → also (valued i) (expression_at image (f i)) later ≡ lack h.why.why = λ later. sym (rw (sym q) refl) ∙ h.why.lacks later in
      (h.here, (h.why.why, refuses_next 0 i n i (take i found) h.why.why l (omega arith) k.front lacks, h.why.answers))
