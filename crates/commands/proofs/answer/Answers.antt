use Rattle.std.proofs.Common.{ap, ◌∙◌}
use Rattle.model.specs.Calls.{text_or_x}
use Rattle.model.specs.Commands.{prints}
use Rattle.commands.proofs.Answering.{left-told}
use Rattle.commands.proofs.answer.Goals as goal

pub returns-clause-text : goal.returns-clause-text
unfolding prints
returns-clause-text c =
    let p = c.put_answer-bytes.ensures in
    (p.0 ∙ ap text_or_x c.ask-answer.ensures.0, p.1)

pub returns-clause-told : goal.returns-clause-told
returns-clause-told c = left-told _ _ _ _ c.ask-answer.ensures.0 c.err.ensures.value
