-- The numbers of the kinds of records, and which kind a number is.
use Rattle.std.specs.Prelude.{ℕ, ◌≡◌, ◌≤◌, Result, Ok, Err}
use Rattle.record_kind.specs.declared.RecordKind.{RecordKind}
use Rattle.record_kind.specs.declared.RecordKind.TheVariants as record_kind
use Rattle.record_kind.specs.declared.UnknownKind.{UnknownKind}

-- the number of a kind
abbrev pub number_of : RecordKind → ℕ
number_of record_kind.Head = 0
number_of record_kind.U = 1
number_of record_kind.CX = 2
number_of record_kind.Opaque = 3
number_of record_kind.Barrier = 4
number_of record_kind.Measure = 5
number_of record_kind.Reset = 6
number_of record_kind.ConditionalStart = 7
number_of record_kind.ConditionalEnd = 8

-- a number is that of a kind, or it is greater than each of them
abbrev pub KindOf : ℕ → Result RecordKind UnknownKind → Type 0
KindOf n (Ok kind) = n ≡ number_of kind
KindOf n (Err e) = 9 ≤ n
