use mathlib.Core.Path.{sym, ap, ◌∙◌}
use Rattle.model.specs.Answer.{says}
use Rattle.commands.proofs.Answering.{check-refused, check-left}
use Rattle.commands.proofs.ask_check.Goals as goal

pub returns-in-Err : goal.returns-in-Err
returns-in-Err c = check-refused c.args.file.now c.args.out.now c.in-Err.refusal (sym (ap says c.in-Err.is) ∙ c.check.ensures)

pub returns-in-Ok : goal.returns-in-Ok
returns-in-Ok c = check-left c.args.file.now c.args.out.now c.put_line.new.buf c.put_line.result (sym (ap says c.in-Ok.is) ∙ c.check.ensures) c.put_line.ensures.written
