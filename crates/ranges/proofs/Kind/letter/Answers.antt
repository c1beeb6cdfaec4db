use Rattle.model.specs.Network.{kind_n, kind_s, kind_l, kind_p}
use Rattle.ranges.specs.Kinds.{kind_of}
use Rattle.ranges.proofs.Kind.letter.Goals as goal

pub returns-in-Head : goal.returns-in-Head
unfolding kind_of kind_n
returns-in-Head c = rw c.in-Head.is

pub returns-in-Station : goal.returns-in-Station
unfolding kind_of kind_s
returns-in-Station c = rw c.in-Station.is

pub returns-in-Line : goal.returns-in-Line
unfolding kind_of kind_l
returns-in-Line c = rw c.in-Line.is

pub returns-in-Place : goal.returns-in-Place
unfolding kind_of kind_p
returns-in-Place c = rw c.in-Place.is
