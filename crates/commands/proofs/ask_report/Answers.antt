use Rattle.std.proofs.Common.{arith}
use Rattle.commands.proofs.Answering.{report-left}
use Rattle.commands.proofs.ask_report.Goals as goal

pub returns : goal.returns
returns c = report-left _ _ _ _ (omega arith) c.report.ensures.result_value c.report.ensures.text_after
