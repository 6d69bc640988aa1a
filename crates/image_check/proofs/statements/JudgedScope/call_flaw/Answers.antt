-- The counts of a gate whose numbers and runs are in range are few.
use Prim.Native.Nat.{◌+◌, ◌≤◌}
use native.Mathlib.Omega.{arith}
use Rattle.std.proofs.Common.{sym, ◌∙◌}
use Rattle.image.proofs.GatesAcceptedLaws.{variables_few}
use Rattle.image_check.proofs.CallFitsLaws.{call_gate, call_parameters, call_arguments, parameters_of, arguments_of}
use Rattle.image_check.proofs.statements.JudgedScope.call_flaw.Goals as goal
use Rattle.image_check.proofs.statements.JudgedScope.call_flaw.Goals.{After-word-arguments}

few_arguments : (c : After-word-arguments) → c.args.a + c.word-arguments.result ≤ 8192
few_arguments c = let a = c.args in
    let image = a.self.now.scope.image in
    call_arguments image.words.now a.s a.g a.p a.a image.laid (sym c.call_fits.ensures ∙ c.if-not-call_fits.false) _ (arguments_of image.words.now a.g _ c.gate_at-at.ensures.is _ c.word-arguments.ensures)

pub gate_at-at-requires : goal.gate_at-at-requires
gate_at-at-requires c = let a = c.args in
    let image = a.self.now.scope.image in
    omega (arith, call_gate image.words.now a.s a.g a.p a.a image.laid (sym c.call_fits.ensures ∙ c.if-not-call_fits.false))

pub parameters_ok-requires : goal.parameters_ok-requires
parameters_ok-requires c = let a = c.args in
    let scope = a.self.now.scope in
    let image = scope.image in (
      omega (arith, c.variables.ensures, variables_few image.words.now a.self.now.gated scope.number _ image.laid.gates_is scope.within),
      call_parameters image.words.now a.s a.g a.p a.a image.laid (sym c.call_fits.ensures ∙ c.if-not-call_fits.false) _ (parameters_of image.words.now a.g _ c.gate_at-at.ensures.is _ c.word.ensures),
    )

pub arguments_ok-requires : goal.arguments_ok-requires
arguments_ok-requires c = few_arguments (goal.at.arguments_ok-requires c).After-word-arguments

pub sizes_match-requires : goal.sizes_match-requires
sizes_match-requires c = few_arguments (goal.at.sizes_match-requires c).After-word-arguments
