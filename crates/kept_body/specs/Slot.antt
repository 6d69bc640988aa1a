-- The words that the table of kept bodies has for a gate: its slot.
use Rattle.std.specs.Prelude.{ℕ, ◌+◌, ◌*◌, ◌≤◌, ◌<◌, ◌≡◌, Bool, not, ◌&&◌, ◌||◌, cond, List, [], ◌∷◌, map, eqb, leb, ltb, get_or, take, drop}
use Rattle.rational.specs.declared.Rational64.{Rational64}
use Rattle.rational.specs.Rational.{same_fraction}
use Rattle.value.specs.declared.Value.{Value}
use Rattle.model.specs.Limits.{most_parameters, most_arguments}
use Rattle.model.specs.Image.{gates, gate_parameters, gate_arguments}
use Rattle.model.specs.Lists.{range, all}
use Rattle.model.specs.Claims.{differ}
use Rattle.model.specs.Evaluate.{zero_value}
use Rattle.statement.specs.declared.Call.{Call}
use Rattle.copy.specs.CopiedRecords.{RecordsStand}

-- where a slot holds the words of its angles: behind four numbers
abbrev pub angles_at : ℕ
angles_at = 4

-- the words of an angle: sign, numerator and denominator of both parts; the sign of a negative fraction is 1
abbrev pub value_words : ℕ
value_words = 6

abbrev pub fraction_at : List ℕ → ℕ → Rational64
fraction_at words p = record { negative = eqb (get_or words p 0) 1; numer = get_or words (p + 1) 0; denom = get_or words (p + 2) 0 }

abbrev pub value_at : List ℕ → ℕ → Value
value_at words p = record { a = fraction_at words p; b = fraction_at words (p + 3) }

abbrev pub words_of_value : Value → List ℕ
words_of_value x = cond x.a.negative 1 0 ∷ x.a.numer ∷ x.a.denom ∷ cond x.b.negative 1 0 ∷ x.b.numer ∷ x.b.denom ∷ []

-- whether two angles have the same parts
abbrev pub same_value : Value → Value → Bool
same_value x y = same_fraction x.a y.a && same_fraction x.b y.b

-- the words that a body with n parameters and m arguments needs: the numbers, the words of its angles, and its qubits
abbrev pub slot_need : ℕ → ℕ → ℕ
slot_need n m = angles_at + value_words * n + m

-- the most words that a body may need
abbrev pub most_slot_words : ℕ
most_slot_words = slot_need most_parameters most_arguments

-- the words of each slot are the first word of a table
abbrev pub slot_width : List ℕ → ℕ
slot_width table = get_or table 0 0

-- the slot of gate g
abbrev pub slot_of : List ℕ → ℕ → List ℕ
slot_of table g = take (slot_width table) (drop (1 + slot_width table * g) table)

-- a width is enough for the body of each gate of an image
pub record WideEnough (image : List ℕ) (width : ℕ) : Type 0 where
  pub narrow : width ≤ most_slot_words
  pub each : (g : ℕ) → g < gates image → slot_need (gate_parameters image g) (gate_arguments image g) ≤ width

-- the levels that were left when the body was opened; 0 where no body is kept, since a body is opened with a level left
abbrev pub slot_levels : List ℕ → ℕ
slot_levels slot = get_or slot 0 0

-- where the body's records start in the output, how many words they are, and how many records
abbrev pub slot_start : List ℕ → ℕ
slot_start slot = get_or slot 1 0

abbrev pub slot_words : List ℕ → ℕ
slot_words slot = get_or slot 2 0

abbrev pub slot_records : List ℕ → ℕ
slot_records slot = get_or slot 3 0

-- the angles and the qubits that a body with n parameters and m arguments was run with
abbrev pub slot_angles : List ℕ → ℕ → List Value
slot_angles slot n = map (λ j. value_at slot (angles_at + value_words * j)) (range 0 n)

abbrev pub slot_qubits : List ℕ → ℕ → ℕ → List ℕ
slot_qubits slot n m = take m (drop (angles_at + value_words * n) slot)

-- ---- whether a body is copied

-- A body of gate g that was opened with n levels left and wrote so many words is opened alike with n': as many levels are left; or it wrote nothing and no fewer are left; or every call in it is opened in both.
abbrev pub opened_alike : ℕ → ℕ → ℕ → ℕ → Bool
opened_alike g n n' words = eqb n n' || ((eqb words 0 && leb n n') || (ltb g n && ltb g n'))

-- the first n of a slot's angles are those of others
abbrev pub same_angles : List ℕ → List Value → ℕ → Bool
same_angles slot angles n = all (λ j. same_value (value_at slot (angles_at + value_words * j)) (get_or angles j zero_value)) (range 0 n)

-- a slot keeps the body of a call with these angles
abbrev pub same_body : List ℕ → Call → List Value → Bool
same_body slot call angles =
    not (eqb (slot_levels slot) 0)
    && (opened_alike call.gate (slot_levels slot) call.site.levels_left (slot_words slot)
    && same_angles slot angles call.parameters)

-- a body that wrote so many words with these qubits may be copied, or be a copy: it wrote nothing, or they are different ones
abbrev pub may_be_copied : ℕ → List ℕ → Bool
may_be_copied words qubits = eqb words 0 || differ qubits

-- ---- what a slot holds

-- the records that a slot tells of stand in the output before a word
pub record SlotStands (slot out : List ℕ) (at : ℕ) : Type 0 where
  pub stands : RecordsStand out (slot_start slot) (slot_words slot)
  pub before : slot_start slot + slot_words slot ≤ at
  pub fewer : slot_records slot ≤ slot_words slot

-- a slot was filled with four numbers, and with as many of some angles and of some qubits as a call has
pub record SlotFilled (slot : List ℕ) (levels start words records : ℕ) (call : Call) (angles : List Value) (qubits : List ℕ) : Type 0 where
  pub levels_are : slot_levels slot ≡ levels
  pub start_is : slot_start slot ≡ start
  pub words_are : slot_words slot ≡ words
  pub records_are : slot_records slot ≡ records
  pub angles_are : slot_angles slot call.parameters ≡ take call.parameters angles
  pub qubits_are : slot_qubits slot call.parameters call.arguments ≡ take call.arguments qubits
