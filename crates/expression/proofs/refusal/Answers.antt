-- Each evaluation without a value has the refusal that the definition says.
use Rattle.expression.proofs.ParameterLaws.{refuses_division, refuses_float, refuses_function, refuses_overflow}
use Rattle.expression.proofs.refusal.Goals as goal

pub returns-in-DivideByZero : goal.returns-in-DivideByZero
returns-in-DivideByZero c = refuses_division _ _ c.in-DivideByZero.is

pub returns-in-ApproximateFail : goal.returns-in-ApproximateFail
returns-in-ApproximateFail c = refuses_float _ _ _ c.in-ApproximateFail.is

pub returns-in-FunctionOfFloats : goal.returns-in-FunctionOfFloats
returns-in-FunctionOfFloats c = refuses_function _ _ c.in-FunctionOfFloats.is

pub returns-in-Overflow : goal.returns-in-Overflow
returns-in-Overflow c = refuses_overflow _ _ c.in-Overflow.is
