-- A statement that is no if is judged by its kind.
use Rattle.image_check.proofs.statements.JudgedScope.plain_flaw.Goals as goal

pub returns-in-U : goal.returns-in-U
returns-in-U c = rw c.in-U.is (c.u_flaw.ensures c.args.s)
