-- The words of some bytes are read one after the other.
use Rattle.std.proofs.Common.{arith, ◌≡◌, ◌*◌, ◌-◌, length, refl, sym, ◌∙◌, zero-add, drop, length-drop}
use Rattle.model.proofs.WordsOfLaws.{words_more, words_none, read_front}
use lib.Seq.{take_all}
use Rattle.text.proofs.read_words.Goals as goal

pub loop-i-init : goal.loop-i-init
loop-i-init c = words_none _ c.args.bytes.now

pub loop-i-preserved : goal.loop-i-preserved
loop-i-preserved c =
    let bytes = c.args.bytes.now in
    let i = c.loop-i.i in
    words_more _ bytes 0 i c.loop-i.invariant (c.first_word.ensures ∙ rw (zero-add, take_all (length bytes - 8 * i) (drop (8 * i) bytes) (omega (arith, length-drop (8 * i) bytes))) refl)

pub returns : goal.returns
returns c =
    let words = c.args.words.now in
    let e : c.loop-i.i ≡ length words = omega arith in
    sym (take_all (length words) c.loop-i.words (omega arith)) ∙ read_front words c.args.bytes.now (omega arith) (rw e at c.loop-i.invariant)
