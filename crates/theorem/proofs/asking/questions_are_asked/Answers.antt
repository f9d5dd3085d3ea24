use Rattle.theorem.proofs.AskingLaws.{closed_entails, open_breaks}
use Rattle.theorem.proofs.asking.questions_are_asked.Goals as goal

pub returns : goal.returns
returns c = (closed_entails, open_breaks)
