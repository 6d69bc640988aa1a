-- Cases K1 to K10 of document 01, and one for each of its four misreadings: an image, a depth, and the listing to the byte.
use Rattle.std.specs.Prelude.{ℕ, zero, suc, ◌+◌, ◌-◌, ◌*◌, ◌/◌, ◌%◌}
use Prim.Native.String.{String}
use mathlib.Core.List.{List, [], ◌∷◌, flat_map}
use Rattle.model.specs.Listing.{ascii, listing}

-- the eight bytes of a word, the lowest first
unfoldable pub bytes_of : ℕ → ℕ → List ℕ
bytes_of zero w = []
bytes_of (suc n) w = w % 256 ∷ bytes_of n (w / 256)

pub record Case : Type 0 where
  pub depth : ℕ
  pub image : List ℕ
  pub text : String

abbrev pub case : ℕ → List ℕ → String → Case
case d w t = record { depth = d; image = w; text = t }

-- what the listing program writes for it, and what it should
unfoldable pub listed : Case → List ℕ
listed c = listing (flat_map (bytes_of 8) (c.depth ∷ c.image))

unfoldable pub expected : Case → List ℕ
expected c = ascii c.text

-- U(x, x, x) on one qubit, x being the last of n expressions, whose entries are given
abbrev single : ℕ → List ℕ → List ℕ
single n es = (17 + 3 * n) ∷ 1 ∷ 0 ∷ 0 ∷ 1 ∷ 0 ∷ 1 ∷ 0 ∷ n ∷ 1 ∷ 1 ∷ (n - 1) ∷ (n - 1) ∷ (n - 1) ∷ 0 ∷ 0 ∷ 1 ∷ es

abbrev k1 : List ℕ
k1 =
    54 ∷ 1 ∷ 0 ∷ 1 ∷ 2 ∷ 1 ∷ 4 ∷ 1 ∷ 5 ∷ 2 ∷ 1 ∷ 1 ∷ 1 ∷ 2 ∷ 1 ∷ 3 ∷ 0 ∷ 0 ∷ 0 ∷ 0 ∷ 2 ∷ 1 ∷ 2 ∷ 0 ∷ 0 ∷ 1 ∷ 3 ∷ 4 ∷ 0 ∷ 3 ∷ 0 ∷ 0 ∷ 0 ∷ 1 ∷ 0 ∷ 2 ∷ 0 ∷ 0 ∷ 2 ∷ 0 ∷ 0 ∷ 0 ∷ 2 ∷ 2 ∷ 0 ∷ 7 ∷ 0 ∷ 1 ∷ 3 ∷ 0 ∷ 0 ∷ 2 ∷ 0 ∷ 0 ∷ []

unfoldable pub cases : List Case
cases =
    -- K1
    case 8 k1 "0 2 0 0 0 0 1\n1 0 1 1 2 0 1 0 1 0 1 1 1 0\n1 0 1 1 2 0 1 0 1 0 1 1 1 1\n2 0 1\ndone 4\n"
    -- K2
    ∷ case 1 k1 "0 2 0 0 0 0 1\n3 0 0 1 0\n3 0 0 1 1\n2 0 1\ndone 4\n"
    -- K3: CX q[1],q of size 3
    ∷ case 8 (19 ∷ 1 ∷ 0 ∷ 0 ∷ 1 ∷ 0 ∷ 2 ∷ 0 ∷ 0 ∷ 3 ∷ 2 ∷ 0 ∷ 1 ∷ 0 ∷ 0 ∷ 0 ∷ 2 ∷ 0 ∷ 0 ∷ []) "0 3 0 0 0 0 1 0 2\n2 1 0\nrefused 12 15 17\n"
    -- K4: 8^(2/3) = 4
    ∷ case 8 (single 5 (2 ∷ 8 ∷ 0 ∷ 2 ∷ 2 ∷ 0 ∷ 2 ∷ 3 ∷ 0 ∷ 7 ∷ 1 ∷ 2 ∷ 8 ∷ 0 ∷ 3 ∷ [])) "0 1 0 0 0\n1 4 1 0 1 4 1 0 1 4 1 0 1 0\ndone 2\n"
    -- K5: 0^(-1/2)
    ∷ case 8 (single 6 (2 ∷ 0 ∷ 0 ∷ 2 ∷ 1 ∷ 0 ∷ 2 ∷ 2 ∷ 0 ∷ 9 ∷ 1 ∷ 0 ∷ 7 ∷ 3 ∷ 2 ∷ 8 ∷ 0 ∷ 4 ∷ [])) "0 1 0 0 0\nrefused 9 32 0\n"
    -- K6: cos(pi/3) = 1/2
    ∷ case 8 (single 4 (0 ∷ 0 ∷ 0 ∷ 2 ∷ 3 ∷ 0 ∷ 7 ∷ 0 ∷ 1 ∷ 11 ∷ 2 ∷ 0 ∷ [])) "0 1 0 0 0\n1 1 2 0 1 1 2 0 1 1 2 0 1 0\ndone 2\n"
    -- K7: tan(pi/2), and tan(-pi/2)
    ∷ case 8 (single 4 (0 ∷ 0 ∷ 0 ∷ 2 ∷ 2 ∷ 0 ∷ 7 ∷ 0 ∷ 1 ∷ 12 ∷ 2 ∷ 0 ∷ [])) "0 1 0 0 0\nrefused 13 26 0\n"
    ∷ case 8 (single 5 (0 ∷ 0 ∷ 0 ∷ 2 ∷ 2 ∷ 0 ∷ 7 ∷ 0 ∷ 1 ∷ 9 ∷ 2 ∷ 0 ∷ 12 ∷ 3 ∷ 0 ∷ [])) "0 1 0 0 0\nrefused 9 29 0\n"
    -- K8: the f32 2^62, and 2^63
    ∷ case 8 (single 1 (1 ∷ 0x5E800000 ∷ 0 ∷ [])) "0 1 0 0 0\n1 4611686018427387904 1 0 1 4611686018427387904 1 0 1 4611686018427387904 1 0 1 0\ndone 2\n"
    ∷ case 8 (single 1 (1 ∷ 0x5F000000 ∷ 0 ∷ [])) "0 1 0 0 0\nrefused 10 17 1593835520\n"
    -- K9: the f32 2^-62, and 2^-63
    ∷ case 8 (single 1 (1 ∷ 0x20800000 ∷ 0 ∷ [])) "0 1 0 0 0\n1 1 4611686018427387904 0 1 1 4611686018427387904 0 1 1 4611686018427387904 0 1 0\ndone 2\n"
    ∷ case 8 (single 1 (1 ∷ 0x20000000 ∷ 0 ∷ [])) "0 1 0 0 0\nrefused 10 17 536870912\n"
    -- K10: no statements
    ∷ case 8 (9 ∷ 0 ∷ 0 ∷ 0 ∷ 0 ∷ 0 ∷ 0 ∷ 0 ∷ 0 ∷ []) "done 0\n"
    ∷ []

-- gate 1 calls gate 0, whose body is a barrier
abbrev nested : List ℕ
nested =
    39 ∷ 1 ∷ 0 ∷ 2 ∷ 1 ∷ 2 ∷ 2 ∷ 0 ∷ 0 ∷ 1 ∷ 0 ∷ 1 ∷ 1 ∷ 1 ∷ 1 ∷ 0 ∷ 1 ∷ 1 ∷ 2 ∷ 1 ∷ 3 ∷ 1 ∷ 0 ∷ 0 ∷ 0 ∷ 4 ∷ 1 ∷ 1 ∷ 0 ∷ 0 ∷ 3 ∷ 0 ∷ 0 ∷ 1 ∷ 0 ∷ 0 ∷ 0 ∷ 0 ∷ 0 ∷ []

-- an opaque gate of one parameter and no argument is called with 1/n
abbrev without : ℕ → List ℕ
without n = 29 ∷ 0 ∷ 0 ∷ 1 ∷ 1 ∷ 0 ∷ 0 ∷ 1 ∷ 3 ∷ 1 ∷ 0 ∷ 0 ∷ 0 ∷ 0 ∷ 3 ∷ 0 ∷ 0 ∷ 0 ∷ 0 ∷ 2 ∷ 2 ∷ 1 ∷ 0 ∷ 2 ∷ n ∷ 0 ∷ 7 ∷ 0 ∷ 1 ∷ []

unfoldable pub misreadings : List Case
misreadings =
    -- "Taking depth as the number of opened levels."
    case 2 nested "0 1 0 0 0\n3 0 0 1 0\ndone 2\n"
    ∷ case 3 nested "0 1 0 0 0\n4 1 0\ndone 2\n"
    -- "Testing distinctness once before a broadcast": an opaque gate on q[1],q of size 2
    ∷ case 8 (24 ∷ 1 ∷ 0 ∷ 1 ∷ 1 ∷ 0 ∷ 2 ∷ 0 ∷ 0 ∷ 2 ∷ 0 ∷ 2 ∷ 0 ∷ 0 ∷ 0 ∷ 3 ∷ 0 ∷ 0 ∷ 0 ∷ 0 ∷ 0 ∷ 2 ∷ 0 ∷ 0 ∷ []) "0 2 0 0 0 0 1\n3 0 0 2 1 0\nrefused 12 22 20\n"
    -- "Sending a cut gate's angles."
    ∷ case 0 k1 "0 2 0 0 0 0 1\n3 0 0 1 0\n3 0 0 1 1\n2 0 1\ndone 4\n"
    -- "Skipping the parameters of a call without arguments."
    ∷ case 8 (without 0) "0 0 0\nrefused 9 26 0\n"
    ∷ case 8 (without 2) "0 0 0\ndone 1\n"
    ∷ []

-- "Input that ends within a word, or has no depth, gives `refused 1 0 0`."
unfoldable pub malformed : List (List ℕ)
malformed = [] ∷ (1 ∷ []) ∷ (8 ∷ 0 ∷ 0 ∷ 0 ∷ 0 ∷ 0 ∷ 0 ∷ []) ∷ (8 ∷ 0 ∷ 0 ∷ 0 ∷ 0 ∷ 0 ∷ 0 ∷ 0 ∷ 9 ∷ []) ∷ []
