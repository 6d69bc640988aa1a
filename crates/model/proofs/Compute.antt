-- A proof that computes with closed images says `unfolding everything`: it opens every definition of specs/ and what they lean on.
use Prim.Native.Nat.{ℕ}
use mathlib.Core.List.{flat_map}
use lib.Ieee.{of_int, add, mul, div, of_bits, to_bits}
use Rattle.rational.specs.Gcd.{gcd}
use Rattle.rational.specs.Root.{root}
use Rattle.rational.specs.Rational.{fraction_sum, difference, product, quotient, power, whole_root, rational_root}
use Rattle.float.specs.Float.{approximate_float, float_bits, ratio_float}
use Rattle.value.specs.Value.{integer, into_float, from_float, value_sum, value_difference, value_product, negation, approximate_quotient, value_quotient, extract_root, value_power, square_root, sine_table, turn, sine, cosine, tangent, exponential, logarithm}
use Rattle.model.specs.Lists.{range, sum, largest, every, all, placed, rising}
use Rattle.model.specs.Image.{statement_of, expression_of, first_qubit, first_bit, statement, expression, variables, scope_statements, argument_size, classical_argument_size, rounds}
use Rattle.model.specs.Check.{first_of, first_bad, matching, contents_ok, register_flaw, gate_ok, gate_flaw, entry_ok, expression_ok, argument_ok, classical_argument_ok, unused, downward, plain_flaw, in_conditional, conditional_ok, conditional_flaw, flaw, every_statement, registers, gate_entries, statement_entries, check}
use Rattle.model.specs.Evaluate.{binary, unary, value_of, evaluate}
use Rattle.model.specs.Records.{kind, fraction_words, angle_words, pair, fields, encode}
use Rattle.model.specs.Steps.{also, given, in_rounds, holder, clash, overlap, offsets_of, offsets, resolve_qreg, qubit_in, bit_in, argument_qubits, parameter_values, with_values, write_u, write_cx, distinctly, write_opaque, write_measure, write_reset, push_frame, open_gate, visit_gate, visit_plain, visit_conditional, visit_statement, visit_body, opening, head_record, steps}
use Rattle.model.specs.Run.{answer_numbers, trace_of, play, accepted, runs, output, linearize}
use Rattle.model.specs.Tally.{open_gate_tally, gate_tally, plain_tally, conditional_tally, statement_tally, body_tally, opening_tally, weight_tally, record_figure, entry_figure, word_bound, figures, if_accepted, tally}
use Rattle.model.specs.RecordReader.{record_length, next_at, found, records_from, records_in}
use Rattle.model.specs.Listing.{ascii, digits, decimal, line, fraction_text, angle_text, fields_text, record_text, from_text, refused_text, closing, run_text, little_endian, words_of, listing}
use Rattle.model.specs.Cases.{bytes_of, listed, expected, cases, misreadings, malformed}
use Rattle.model.specs.Claims.{count, pairs_of, in_register, differ, rises, declared, distinct, within, is_cut, at_depth, angles_of}

unfoldable pub everything : ℕ
unfolding flat_map of_int add mul div of_bits to_bits gcd root fraction_sum difference product quotient power whole_root rational_root approximate_float float_bits ratio_float integer into_float from_float value_sum value_difference value_product negation approximate_quotient value_quotient extract_root value_power square_root sine_table turn sine cosine tangent exponential logarithm range sum largest every all placed rising statement_of expression_of first_qubit first_bit statement expression variables scope_statements argument_size classical_argument_size rounds first_of first_bad matching contents_ok register_flaw gate_ok gate_flaw entry_ok expression_ok argument_ok classical_argument_ok unused downward plain_flaw in_conditional conditional_ok conditional_flaw flaw every_statement registers gate_entries statement_entries check binary unary value_of evaluate kind fraction_words angle_words pair fields encode also given in_rounds holder clash overlap offsets_of offsets resolve_qreg qubit_in bit_in argument_qubits parameter_values with_values write_u write_cx distinctly write_opaque write_measure write_reset push_frame open_gate visit_gate visit_plain visit_conditional visit_statement visit_body opening head_record steps answer_numbers trace_of play accepted runs output linearize open_gate_tally gate_tally plain_tally conditional_tally statement_tally body_tally opening_tally weight_tally record_figure entry_figure word_bound figures if_accepted tally record_length next_at found records_from records_in ascii digits decimal line fraction_text angle_text fields_text record_text from_text refused_text closing run_text little_endian words_of listing bytes_of listed expected cases misreadings malformed count pairs_of in_register differ rises declared distinct within is_cut at_depth angles_of
everything = 0
