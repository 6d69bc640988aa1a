-- What stands in the two slices after a run, as text.
use Prim.Native.Nat.{ℕ, ◌*◌, ◌≤◌}
use native.Mathlib.Omega.{arith}
use mathlib.Core.Path.{◌≡◌, refl, sym, ap, subst, ◌∙◌}
use mathlib.Core.List.{List, [], ◌∷◌, ◌++◌, flat_map, Memᴰ}
use lib.ListN.{length, take, drop, length-append, length-drop}
use lib.Seq.{take-append_seam, length-take-le}
use Rattle.value.specs.Value.{Sound}
use Rattle.model.specs.Records.{Record, encode}
use Rattle.model.specs.Steps.{Step, write, enter, refuse, steps}
use Rattle.model.specs.Run.{Answer, Played, runs, output, trace_of, answer_numbers, laid_over, linearize}
use Rattle.model.specs.RecordReader.{records_in}
use Rattle.model.specs.Claims.{angles_of}
use Rattle.model.specs.Listing.{from_text, refused_text, closing, record_text, run_text}
use Rattle.model.proofs.All.{All-front, All-members}
use Rattle.model.specs.All.{All, nil, cons}
use Rattle.model.proofs.AnglesSound.{step_claims}
use Rattle.model.proofs.ReadBack.{reads_back}
use Rattle.model.proofs.Outcome.{records_of, plays_fair, Ran, none, plays, ran_either, claims}
use Rattle.record_writer.specs.declared.Position.{Position}
use Rattle.record_writer.specs.declared.LinearizeErrorKind.{LinearizeErrorKind}
use Rattle.record_writer.specs.declared.LinearizeErrorKind.TheVariants as kind
use Rattle.std.specs.Prelude.{Ok, Err}
use Rattle.record_writer.specs.Promise.{RunResult, run_answer_of, refusal_answer, position_of}
use Rattle.linearize.specs.Linearizes.{Linearizes}
use Rattle.text.specs.declared.Text.{Text}
use Rattle.text.specs.Put.{RoomFor, Put, PutMost}
use Rattle.text.specs.RecordLine.{record_line}
use Rattle.listing_text.specs.EndText.{WordsOfRecords, end_text}
use Rattle.text.proofs.PutLaws.{put_same, put_then, put_length}
use Rattle.text.proofs.RecordTextLaws.{records_text_lem}

-- ---- the angles of the records written are sound

abbrev SoundRecord : Record → Type 0
SoundRecord r = All Sound (angles_of r)

of_steps : (ss : List Step) → ((t : List ℕ) (r : Record) → Memᴰ (write t r) ss → SoundRecord r) → All SoundRecord (records_of ss)
unfolding records_of
of_steps [] h = nil
of_steps (write t r ∷ ss) h = cons (h t r (Memᴰ.head refl)) (of_steps ss (λ u x m. h u x (Memᴰ.tail m)))
of_steps (enter t g ∷ ss) h = of_steps ss (λ u x m. h u x (Memᴰ.tail m))
of_steps (refuse t x ∷ ss) h = of_steps ss (λ u x m. h u x (Memᴰ.tail m))

written_sound : (image : List ℕ) (depth n m : ℕ) → All SoundRecord (runs image depth n m).written
written_sound image depth n m = go (ran_either image depth n m)
  where
    go : {p : Played} → Ran image depth n m p → All SoundRecord p.written
    go (none a x y z) = nil
    go (plays c l) =
        let f = plays_fair n (steps image depth) in
        All-front _ f.rest (subst (All SoundRecord) (sym f.front) (of_steps (steps image depth) (λ t r k. All-members (angles_of r) ((step_claims image depth).angles t r k))))

-- ---- the end of an answer

refused_closing : (k : LinearizeErrorKind) (t : List ℕ) (n : ℕ) → trace_of (refusal_answer k t) ≡ t → from_text t ++ refused_text (answer_numbers (refusal_answer k t)) ≡ closing (refusal_answer k t) n
unfolding closing trace_of from_text
refused_closing (kind.DivideByZero p) t n e = refl
refused_closing (kind.ApproximateFail p f) t n e = refl
refused_closing (kind.NumericalOverflow p) t n e = refl
refused_closing (kind.OverlappingRegs p q) t n e = refl
refused_closing (kind.FunctionOfFloats p) t n e = refl
refused_closing kind.OutputFull t n e = refl
refused_closing (kind.Flawed c) t n e = rw (sym e) refl
refused_closing kind.ShortTrace t n e = rw (sym e) refl

end_closing : (r : RunResult) (t : List ℕ) → t ≡ trace_of (run_answer_of r t) → end_text r t ≡ closing (run_answer_of r t) (position_of r).records
unfolding end_text closing
end_closing (Ok p) t e = refl
end_closing (Err x) t e = refused_closing x.kind t x.at.records (sym e)

-- ---- a run, from its promise

-- words laid over a slice stand in front of it
laid_front : (ws old : List ℕ) → take (length ws) (laid_over ws old) ≡ ws
laid_front ws old = take-append_seam ws (drop (length ws) old)

laid_fits : (ws old : List ℕ) → length (laid_over ws old) ≡ length old → length ws ≤ length old
laid_fits ws old e = omega (arith, length-append ws (drop (length ws) old), length-drop (length ws) old)

module _ {image : List ℕ} {depth : ℕ} {out trace : List ℕ} {r : RunResult} {out' trace' : List ℕ} (h : Linearizes image depth out trace r out' trace') where
  abbrev ran : Played
  ran = runs image depth (length out) (length trace)

  abbrev calls : List ℕ
  calls = take (position_of r).trace trace'

  pub words_are : take (position_of r).words out' ≡ flat_map encode ran.written
  unfolding linearize output
  words_are = rw (ap (λ x. x.output_words) h.outcome, ap (λ x. x.output_left) h.outcome) (laid_front (output ran) out)

  pub words_fit : (position_of r).words ≤ length out
  unfolding linearize output
  words_fit = rw (ap (λ x. x.output_words) h.outcome) (laid_fits (output ran) out (claims image depth out trace).lengths.0)

  pub lines_are : flat_map record_line (records_in (take (position_of r).words out')) ≡ flat_map record_text ran.written
  lines_are = ap (λ l. flat_map record_line (records_in l)) words_are ∙ ap (flat_map record_line) (reads_back ran.written) ∙ records_text_lem ran.written (written_sound image depth (length out) (length trace))

  pub recorded : WordsOfRecords (take (position_of r).words out')
  recorded = record { records = ran.written; words = words_are }

  calls_are : calls ≡ trace_of ran.answer
  unfolding linearize
  calls_are = rw (ap (λ x. x.trace_words) h.outcome, ap (λ x. x.trace_left) h.outcome) (laid_front (trace_of ran.answer) trace)

  answer_is : run_answer_of r calls ≡ ran.answer
  unfolding linearize
  answer_is = ap (λ x. x.answer) h.outcome

  pub end_is : end_text r calls ≡ closing ran.answer (length ran.written)
  unfolding linearize
  end_is =
      end_closing r calls (calls_are ∙ ap trace_of (sym answer_is))
      ∙ ap (λ (a : Answer). closing a (position_of r).records) answer_is ∙ ap (closing ran.answer) (ap (λ x. x.records) h.outcome)

  -- ---- with an output of 8,192 words and a trace of 256, into a text that is long enough

  module _ (eo : length out ≡ 8192) (et : length trace ≡ 256) {at : Position} (at_end : at ≡ position_of r) where
    abbrev n : ℕ
    n = at.words

    en : n ≡ (position_of r).words
    en = ap (λ x. x.words) at_end

    same_out : length out' ≡ length out
    unfolding linearize
    same_out = ap (λ x. length x.output_left) h.outcome ∙ (claims image depth out trace).lengths.0

    pub prefix_inside : n ≤ length out'
    prefix_inside = omega (arith, en, words_fit, same_out)

    pub prefix_length : n ≡ length (take n out')
    prefix_length = sym (length-take-le n out' prefix_inside)

    pub prefix_recorded : WordsOfRecords (take n out')
    prefix_recorded = rw en recorded

    prefix_few : length (take n out') ≤ 8192
    prefix_few = omega (arith, prefix_length, prefix_inside, same_out)

    module _ {t t' : Text} (p : PutMost (flat_map record_line (records_in (take n out'))) (21 * length (take n out')) t t') where
      pub end_room : RoomFor 262144 t → RoomFor 6400 t'
      end_room k = omega (arith, p.few, prefix_few, put_length p.put)

      pub run_put : {t'' : Text} → Put (end_text r calls) t' t'' → Put (run_text (runs image depth 8192 256)) t t''
      unfolding run_text
      run_put q =
          let e : take n out' ≡ take (position_of r).words out' = ap (λ (k : ℕ). take k out') en in
          rw (sym eo, sym et) (put_then (put_same (ap (λ (l : List ℕ). flat_map record_line (records_in l)) e ∙ lines_are) p.put) (put_same end_is q))
