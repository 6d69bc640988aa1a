-- A classical argument is the part of a register that its two words name. The classical registers' starts stand behind the quantum ones'.
use native.Mathlib.Omega.{arith}
use mathlib.Core.Path.{◌∙◌}
use Rattle.argument.proofs.ArgumentLaws.{classical_argument_is, classical_part_lem}
use Rattle.argument.proofs.program.Program.resolve_creg.Goals as goal

pub register_part-requires : goal.register_part-requires
register_part-requires c = let p = c.args.self.now in
    classical_part_lem p.accepted p.image.laid _ c.argument_at-at.ensures.is c.requires.1.listed c.requires.1.ok c.requires.0 (omega (arith, c.classical_register_at.ensures.is))

pub returns : goal.returns
returns c = let p = c.args.self.now in
    c.register_part.ensures ∙ classical_argument_is p.accepted p.image.laid _ c.argument_at-at.ensures.is c.requires.1.listed c.requires.1.ok (omega (arith, c.classical_register_at.ensures.is))
