-- The registers, the gate entries and the statements are looked at in the check's order, and the first flaw is what it finds.
use Rattle.std.proofs.Common.{◌≡◌, Err, rules, ap, sym, ◌∙◌}
use Rattle.model.specs.Check.{or_else, gate_entries, statement_entries, fine}
use Rattle.image.specs.Answer.{answer_flaw}
use Rattle.image_check.proofs.CheckLaws.{flaw_first, flaw_next, quantum_part, classical_part, quantum_part_lem, classical_part_lem, in_turn, gated}
use Rattle.image_check.proofs.first_bad_entry.Goals as goal
use Rattle.image_check.proofs.first_bad_entry.Goals.{In_ok-first_bad_register, In_ok-first_bad_register-2}

quantum_fine : (c : In_ok-first_bad_register) → fine ≡ quantum_part c.args.image.now.words.now
quantum_fine c = quantum_part_lem c.args.image.now.words.now c.args.image.now.laid _ c.quantum_register_at.ensures.is c.in_ok-first_bad_register.ensures

classical_fine : (c : In_ok-first_bad_register-2) → fine ≡ classical_part c.args.image.now.words.now
classical_fine c = classical_part_lem c.args.image.now.words.now c.args.image.now.laid _ c.classical_register_at.ensures.is c.in_ok-first_bad_register-2.ensures

pub returns-in_err-first_bad_register : goal.returns-in_err-first_bad_register
returns-in_err-first_bad_register c = let e = c.in_err-first_bad_register.field-0.0 in
    let same : c.from_residual.result ≡ Err e = search rules in
    let image = c.args.image.now.words.now in
    ap answer_flaw same
    ∙ flaw_first e (quantum_part image) _ (quantum_part_lem image c.args.image.now.laid _ c.quantum_register_at.ensures.is c.in_err-first_bad_register.ensures)
    ∙ in_turn image

pub returns-in_err-first_bad_register-2 : goal.returns-in_err-first_bad_register-2
returns-in_err-first_bad_register-2 c = let e = c.in_err-first_bad_register-2.field-0.0 in
    let same : c.from_residual-in_err-first_bad_register-2.result ≡ Err e = search rules in
    let image = c.args.image.now.words.now in
    let w = or_else (gate_entries image) (statement_entries image) in
    ap answer_flaw same
    ∙ flaw_first e (classical_part image) w (classical_part_lem image c.args.image.now.laid _ c.classical_register_at.ensures.is c.in_err-first_bad_register-2.ensures)
    ∙ flaw_next (quantum_part image) (or_else (classical_part image) w) (quantum_fine (goal.at.returns-in_err-first_bad_register-2 c).In_ok-first_bad_register)
    ∙ in_turn image

pub returns-in_err-first_bad_gate : goal.returns-in_err-first_bad_gate
returns-in_err-first_bad_gate c = let e = c.in_err-first_bad_gate.field-0.0 in
    let same : c.from_residual-in_err-first_bad_gate.result ≡ Err e = search rules in
    let image = c.args.image.now.words.now in
    let w = or_else (gate_entries image) (statement_entries image) in
    ap answer_flaw same
    ∙ flaw_first e (gate_entries image) (statement_entries image) c.in_err-first_bad_gate.ensures
    ∙ flaw_next (classical_part image) w (classical_fine (goal.at.returns-in_err-first_bad_gate c).In_ok-first_bad_register-2)
    ∙ flaw_next (quantum_part image) (or_else (classical_part image) w) (quantum_fine (goal.at.returns-in_err-first_bad_gate c).In_ok-first_bad_register)
    ∙ in_turn image

pub first_bad_statement-requires : goal.first_bad_statement-requires
first_bad_statement-requires c = gated c.args.image.now.words.now (sym c.in_ok-first_bad_gate.ensures)

pub returns : goal.returns
returns c = let image = c.args.image.now.words.now in
    let w = or_else (gate_entries image) (statement_entries image) in
    c.first_bad_statement.ensures
    ∙ flaw_next (gate_entries image) (statement_entries image) c.in_ok-first_bad_gate.ensures
    ∙ flaw_next (classical_part image) w (classical_fine (goal.at.returns c).In_ok-first_bad_register-2)
    ∙ flaw_next (quantum_part image) (or_else (classical_part image) w) (quantum_fine (goal.at.returns c).In_ok-first_bad_register)
    ∙ in_turn image
