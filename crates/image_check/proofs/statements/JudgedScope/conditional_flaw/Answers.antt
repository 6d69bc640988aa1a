-- An if holds no statement of an unknown kind.
use Rattle.image_check.proofs.FlawLaws.{if_unknown}
use Rattle.image_check.proofs.statements.JudgedScope.conditional_flaw.Goals as goal

pub returns-in_default : goal.returns-in_default
returns-in_default c v = if_unknown _ _ _ _ _ _ c.in_default.ensures
