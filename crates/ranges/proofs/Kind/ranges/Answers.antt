use Rattle.model.specs.Ranges.{row_n, row_s, row_l, row_p}
use Rattle.model.specs.Network.{kind_n, kind_s, kind_l, kind_p}
use Rattle.ranges.specs.Kinds.{kind_of}
use Rattle.ranges.proofs.Kind.ranges.Goals as goal

pub returns-in-Head-clause-ranges : goal.returns-in-Head-clause-ranges
unfolding kind_of kind_n row_n
returns-in-Head-clause-ranges c = rw c.in-Head.is

pub returns-in-Station-clause-ranges : goal.returns-in-Station-clause-ranges
unfolding kind_of kind_s row_s
returns-in-Station-clause-ranges c = rw c.in-Station.is

pub returns-in-Line-clause-ranges : goal.returns-in-Line-clause-ranges
unfolding kind_of kind_l row_l
returns-in-Line-clause-ranges c = rw c.in-Line.is

pub returns-in-Place-clause-ranges : goal.returns-in-Place-clause-ranges
unfolding kind_of kind_p row_p
returns-in-Place-clause-ranges c = rw c.in-Place.is
