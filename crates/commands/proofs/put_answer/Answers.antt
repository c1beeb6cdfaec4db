use Rattle.commands.proofs.Answering.{text-printed, refusal-printed}
use Rattle.commands.proofs.put_answer.Goals as goal

pub returns-in-Ok : goal.returns-in-Ok
returns-in-Ok c = text-printed c.args.answer c.in-Ok.n c.args.out.now c.requires.0 c.in-Ok.is

pub returns-in-Err : goal.returns-in-Err
returns-in-Err c =
    refusal-printed c.args.answer c.in-Err.refusal c.put_line.result c.args.out.now c.put_line.new.buf c.in-Err.is
    (rw (c.number.ensures, c.record.ensures) at c.put_line.ensures.written)
