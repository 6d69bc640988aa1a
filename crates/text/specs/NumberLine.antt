-- Lines of numbers, and the most bytes that they have: 21 a number, with the space before it.
use Rattle.std.specs.Prelude.{ℕ, ◌+◌, ◌*◌, length}
use mathlib.Core.List.{List, [], ◌∷◌, ◌++◌, map, flat_map}
use Rattle.model.specs.Listing.{decimal, line}

-- parts of a line, each behind a space
abbrev pub spaced : List (List ℕ) → List ℕ
spaced l = flat_map (λ w. 32 ∷ w) l

-- numbers in decimal, each behind a space, and the line feed
unfoldable pub spaced_numbers : List ℕ → List ℕ
spaced_numbers ns = spaced (map decimal ns) ++ 10 ∷ []

abbrev pub spaced_most : List ℕ → ℕ
spaced_most ns = 21 * length ns + 1

-- a line of a name and numbers in decimal
abbrev pub named_line : List ℕ → List ℕ → List ℕ
named_line name ns = line (name ∷ map decimal ns)

abbrev pub named_line_most : List ℕ → List ℕ → ℕ
named_line_most name ns = length name + spaced_most ns

-- a line of numbers in decimal
unfoldable pub numbers_line : List ℕ → List ℕ
numbers_line ns = line (map decimal ns)
