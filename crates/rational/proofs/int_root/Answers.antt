-- `int_root` gives `whole_root`: the whole part of the root is the root exactly if its power is the number.
use mathlib.Core.Path.{◌≡◌, sym, ap, ◌∙◌}
use Prim.Native.Nat.{ℕ, ◌^◌, ◌<◌, min}
use native.Mathlib.Omega.{arith}
use borrow.Author.Tests.{eq-eqb, ne_eqb}
use Rattle.rational.specs.Root.{root}
use Rattle.std.specs.Prelude.{Some}
use Rattle.rational.specs.Rational.{whole_root}
use Rattle.rational.proofs.int_root.Goals as goal

-- The capped power of the root is n exactly if the power is.
held : (k n r p : ℕ) → n < 2 ^ 63 → r ≡ root k n → p ≡ min (r ^ k) (2 ^ 63) → p ≡ n → root k n ^ k ≡ n
held k n r p h e f g = rw (← e) (omega arith)

found : (k n r p : ℕ) → n < 2 ^ 63 → r ≡ root k n → p ≡ min (r ^ k) (2 ^ 63) → root k n ^ k ≡ n → p ≡ n
found k n r p h e f g = let q : r ^ k ≡ n = rw e g in omega arith

pub returns-then-capped_pow-n : goal.returns-then-capped_pow-n
unfolding whole_root
returns-then-capped_pow-n c = let floor-root = c.floor_root-r.ensures in
    let e : root c.args.k c.args.n ^ c.args.k ≡ c.args.n = held _ _ _ _ c.requires.1 floor-root c.capped_pow.ensures c.if-capped_pow-n.true in
    ap Some floor-root ∙ sym (rw (eq-eqb _ _ e))

pub returns-else-capped_pow-n : goal.returns-else-capped_pow-n
unfolding whole_root
returns-else-capped_pow-n c = sym (rw (ne_eqb (root c.args.k c.args.n ^ c.args.k) c.args.n (λ e. c.if-capped_pow-n.false (found _ _ _ _ c.requires.1 c.floor_root-r.ensures c.capped_pow.ensures e))))
