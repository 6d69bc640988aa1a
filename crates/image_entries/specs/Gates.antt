-- What the check asks of a body by the words of its gate's entry.
use Rattle.std.specs.Prelude.{ℕ, ◌+◌, Bool, cond, ◌||◌, [], ◌∷◌, eqb, leb}
use Rattle.model.specs.Lists.{every}

-- what gate_ok asks of a body by a gate entry's last three words, where the further statements are those from `main` to below `statements`
abbrev pub body_words_ok : ℕ → ℕ → ℕ → ℕ → ℕ → Bool
body_words_ok body start size main statements =
    every
    (leb body 1 ∷ leb (start + size) statements
    ∷ cond (eqb body 0) (every (eqb start 0 ∷ eqb size 0 ∷ [])) (eqb size 0 || leb main start) ∷ [])
