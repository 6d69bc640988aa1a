-- Records that stand one after another in the output, and their copy.
use Rattle.std.specs.Prelude.{ℕ, ◌≡◌, length, take, drop}
use mathlib.Core.List.{List, flat_map}
use Rattle.std.proofs.lemmas.List.Edits.{sets}
use Rattle.model.specs.Records.{Record, encode}
use Rattle.model.specs.All.{All}
use Rattle.copy.specs.Renaming.{copied_words}
use Rattle.copy.specs.BodyRecord.{BodyRecord}

-- some words of the output are records of bodies
pub record RecordsStand (out : List ℕ) (from words : ℕ) : Type 0 where
  pub records : List Record
  pub each : All BodyRecord records
  pub stands : take words (drop from out) ≡ flat_map encode records

-- such records were copied, their qubits renamed, and the words of the copy counted; which records they are the words say (`copied_once`)
pub record RecordsCopied (r : ℕ → ℕ) (out : List ℕ) (from words to written : ℕ) (out' : List ℕ) : Type 0 where
  pub records : List Record
  pub each : All BodyRecord records
  pub stands : take words (drop from out) ≡ flat_map encode records
  pub counted : written ≡ length (copied_words r records)
  pub contents : out' ≡ sets out to (copied_words r records)
