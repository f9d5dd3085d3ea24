use Rattle.theorem.proofs.MainLaws.{main_theorem}
use Rattle.theorem.proofs.main_theorem.findings_hold.Goals as goal

pub returns : goal.returns
returns c = main_theorem
