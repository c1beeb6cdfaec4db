use Rattle.std.proofs.Common.{length}
use Rattle.network_words_test.proofs.show_files.Given as goal

abbrev pub decreases-loop-rest : goal.decreases-loop-rest
decreases-loop-rest g l = length l.rest
