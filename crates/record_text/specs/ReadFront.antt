-- What the functions promise that read records back.
use Rattle.std.specs.Prelude.{ℕ, ◌+◌, ◌*◌, ◌≤◌, ◌≡◌, length}
use mathlib.Core.List.{List, map, flat_map}
use Rattle.model.specs.Lists.{sum}
use Rattle.model.specs.RecordReader.{records_in}
use Rattle.text.specs.declared.Text.{Text}
use Rattle.text.specs.Put.{Put}
use Rattle.text.specs.RecordLine.{record_line}
use Rattle.record_text.specs.declared.Front.{Front}

-- the lines of the records that stand at the front of some words are put; how many words the records have, and how many they are
pub record ReadFront (ws : List ℕ) (t : Text) (r : Front) (t' : Text) : Type 0 where
  pub put : Put (flat_map record_line (records_in ws)) t t'
  pub few : t'.end ≤ t.end + 21 * length ws
  pub place : r.words ≡ sum (map length (records_in ws))
  pub inside : r.words ≤ length ws
  pub count : r.records ≡ length (records_in ws)
