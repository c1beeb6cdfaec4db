use Rattle.std.proofs.Common.{rules, Some, None}
use Rattle.std.proofs.lemmas.Iterator.{YieldsList-from_slice}
use Rattle.model.specs.Commands.{bytes, look_up, plain_words, number_words, help_words, word_of}
use Rattle.arguments.proofs.Words.{found-in}
use Rattle.arguments.proofs.word_of.Goals as goal

pub returns-in-Some : goal.returns-in-Some
unfolding bytes look_up plain_words number_words help_words word_of
returns-in-Some c =
    found-in c.args.word.now (YieldsList-from_slice _ c.iter.ensures.rest) c.find-known.new.self _ (Some c.in-Some.field-0) c.in-Some.ensures.ran
    (λ x b q k. (search rules, search rules))

pub returns-in-None : goal.returns-in-None
unfolding bytes look_up plain_words number_words help_words word_of
returns-in-None c =
    found-in c.args.word.now (YieldsList-from_slice _ c.iter.ensures.rest) c.find-known.new.self _ None c.in-None.ensures.ran
    (λ x b q k. (search rules, search rules))
