-- The parts of what is asked of statements.
use Rattle.std.specs.Prelude.{ℕ, Bool, List, [], ◌∷◌, ltb}
use Rattle.model.specs.Lists.{every}
use Rattle.model.specs.Image.{gates, arguments, parameters, gate_parameters, gate_arguments}
use Rattle.model.specs.Check.{fits, unused}
use Rattle.model.specs.Refusals as refusal

-- what document 01 asks first of a call of gate g as statement s, from parameter p and argument a on
abbrev pub call_fits : List ℕ → ℕ → ℕ → ℕ → ℕ → Bool
call_fits image s g p a =
    every
    (unused image s 4 ∷ ltb g (gates image)
    ∷ fits p (gate_parameters image g) (parameters image)
    ∷ fits a (gate_arguments image g) (arguments image) ∷ [])

-- what is wrong with an if where none may stand
abbrev pub no_if : ℕ → ℕ → ℕ → ℕ
no_if register value statement = refusal.form
