-- The contents add up exactly if the five tests pass, and then the counts that were read are the image's.
use mathlib.Core.Path.{◌∙◌, refl, sym}
use native.Mathlib.Omega.{arith}
use borrow.Author.Tests.{eq-eqb, le-leb, lt-leb, ne_eqb}
use Rattle.model.specs.Check.{contents_ok}
use Rattle.model.specs.Lists.{every}
use Rattle.model.specs.Image.{gates}
use Rattle.image.proofs.ContentsLaws.{gates_are, whole_is, adds_up, adds_up_capped}
use Rattle.image.proofs.reading.read.Goals as goal

pub returns-then-n-lt-CONTENTS_WORDS : goal.returns-then-n-lt-CONTENTS_WORDS
unfolding contents_ok every
returns-then-n-lt-CONTENTS_WORDS c = rw (lt-leb 9 _ c.if-n-lt-CONTENTS_WORDS.true) refl

pub returns-then-n-gt-MOST_WORDS : goal.returns-then-n-gt-MOST_WORDS
unfolding contents_ok every
returns-then-n-gt-MOST_WORDS c = rw (le-leb 9 _ c.if-n-lt-CONTENTS_WORDS.false, lt-leb _ 8192 c.if-n-gt-MOST_WORDS.true) refl

pub returns-then-word-n : goal.returns-then-word-n
unfolding contents_ok every
returns-then-word-n c = rw (le-leb 9 _ c.if-n-lt-CONTENTS_WORDS.false, le-leb _ 8192 c.if-n-gt-MOST_WORDS.false, ne_eqb _ _ (λ e. c.if-word-n.true (c.word.ensures ∙ e))) refl

pub returns-then-words-n : goal.returns-then-words-n
unfolding contents_ok every
returns-then-words-n c = let short = c.if-n-gt-MOST_WORDS.false in
    let long : ¬ _ = λ e. c.if-words-n.true (c.words.ensures ∙ adds_up_capped _ _ c.capped_counts-layout.ensures short e) in
    rw (le-leb 9 _ c.if-n-lt-CONTENTS_WORDS.false, le-leb _ 8192 short, eq-eqb _ _ (sym c.word.ensures ∙ c.if-word-n.false), ne_eqb _ _ long) refl

pub returns-then-layout-gt-MOST_GATES : goal.returns-then-layout-gt-MOST_GATES
unfolding contents_ok every
returns-then-layout-gt-MOST_GATES c = let short = c.if-n-gt-MOST_WORDS.false in
    let total = sym c.words.ensures ∙ c.if-words-n.false in
    let image = c.args.words.now in
    let long = le-leb 9 _ c.if-n-lt-CONTENTS_WORDS.false in
    let counted = eq-eqb _ _ (sym c.word.ensures ∙ c.if-word-n.false) in
    rw (long, le-leb _ 8192 short, counted, eq-eqb _ _ (whole_is _ _ c.capped_counts-layout.ensures _ short total), lt-leb (gates image) 128 (omega (arith, c.if-layout-gt-MOST_GATES.true, gates_are _ _ c.capped_counts-layout.ensures _ short total))) refl

pub returns : goal.returns
unfolding contents_ok every
returns c = let short = c.if-n-gt-MOST_WORDS.false in
    let total = sym c.words.ensures ∙ c.if-words-n.false in
    let long = le-leb 9 _ c.if-n-lt-CONTENTS_WORDS.false in
    let counted = eq-eqb _ _ (sym c.word.ensures ∙ c.if-word-n.false) in
    let image = c.args.words.now in (
      rw (long, le-leb _ 8192 short, counted, eq-eqb _ _ (whole_is _ _ c.capped_counts-layout.ensures _ short total), le-leb (gates image) 128 (omega (arith, c.if-layout-gt-MOST_GATES.false, gates_are _ _ c.capped_counts-layout.ensures _ short total))) refl,
      refl,
    )

pub invariant_of-result : goal.invariant_of-result
invariant_of-result c = record { laid = adds_up _ _ c.capped_counts-layout.ensures _ c.if-n-gt-MOST_WORDS.false (sym c.words.ensures ∙ c.if-words-n.false) refl c.if-layout-gt-MOST_GATES.false }
