use Rattle.std.proofs.Common.{ap, ◌∙◌}
use Rattle.inspect.specs.Report.{report_text}
use Rattle.inspect.proofs.report.inspect.Goals as goal

pub returns : goal.returns
returns c = c.in_ok-format.ensures.ok ∙ ap report_text c.new-file.ensures
