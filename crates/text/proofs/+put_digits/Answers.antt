-- A number in decimal is put digit by digit, the last one last.
use Rattle.std.proofs.Common.{ℕ, ◌≡◌, ◌≤◌, ◌<◌, List, [], ◌∷◌, ◌+◌, ◌/◌, ◌%◌, length, arith, refl, ap}
use Rattle.std.proofs.lemmas.List.Edits.{sets}
use lib.ListN.{length-append}
use lib.Seq.{length-sets}
use Rattle.model.specs.Listing.{decimal}
use Rattle.model.proofs.DecimalLaws.{decimal_one, decimal_more}
use Rattle.model.proofs.PlayLaws.{sets_append}
use Rattle.text.proofs.+put_digits.Goals as goal

pub bounds-bytes-start : goal.bounds-bytes-start
bounds-bytes-start t c = omega (arith, c.requires, ap length (decimal_one _ c.if-n-lt10.true))

pub returns-then-n-lt10-clause-digits : goal.returns-then-n-lt10-clause-digits
returns-then-n-lt10-clause-digits t c = rw (decimal_one _ c.if-n-lt10.true) refl

pub returns-then-n-lt10-clause-end : goal.returns-then-n-lt10-clause-end
returns-then-n-lt10-clause-end t c = omega (arith, ap length (decimal_one _ c.if-n-lt10.true))

pub put_digits-last-requires : goal.put_digits-last-requires
put_digits-last-requires t c = let n = c.args.n in
    (omega (arith, c.decreases, c.if-n-lt10.false), omega (arith, c.requires, ap length (decimal_more n c.if-n-lt10.false), length-append (decimal (n / 10)) ((48 + n % 10) ∷ [])))

-- the last digit has room behind the others
behind : (bytes : List ℕ) (start n : ℕ) {bytes' : List ℕ} {last : ℕ} → 10 ≤ n → start + length (decimal n) ≤ length bytes → bytes' ≡ sets bytes start (decimal (n / 10)) → last ≡ start + length (decimal (n / 10)) → last < length bytes'
behind bytes start n h room digits end =
    omega (arith, room, ap length (decimal_more n h), length-append (decimal (n / 10)) ((48 + n % 10) ∷ []), end, ap length digits, length-sets bytes start (decimal (n / 10)))

pub bounds-bytes-last : goal.bounds-bytes-last
bounds-bytes-last t c = let last = c.put_digits-last.ensures in
    behind c.args.bytes.now c.args.start c.args.n c.if-n-lt10.false c.requires last.digits last.end

pub overflow_add-result-2 : goal.overflow_add-result-2
overflow_add-result-2 t c = let last = c.put_digits-last.ensures in
    record { fits = omega (arith, behind c.args.bytes.now c.args.start c.args.n c.if-n-lt10.false c.requires last.digits last.end) }

pub returns-clause-digits : goal.returns-clause-digits
returns-clause-digits t c = let n = c.args.n in let last = c.put_digits-last in
    rw (last.ensures.digits, last.ensures.end, decimal_more n c.if-n-lt10.false) (sets_append c.args.bytes.now c.args.start (decimal (n / 10)) ((48 + n % 10) ∷ []))

pub returns-clause-end : goal.returns-clause-end
returns-clause-end t c = let n = c.args.n in
    omega (arith, ap length (decimal_more n c.if-n-lt10.false), length-append (decimal (n / 10)) ((48 + n % 10) ∷ []), c.put_digits-last.ensures.end)
