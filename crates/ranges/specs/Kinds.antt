-- The kinds of record that the code names, as the definitions have them.
use Rattle.model.specs.Network.{Kind as Form, kind_n, kind_s, kind_l, kind_p}
use Rattle.ranges.specs.declared.Kind.{Kind}
use Rattle.ranges.specs.declared.Kind.TheVariants.{Head, Station, Line, Place}

unfoldable pub kind_of : Kind → Form
unfolding kind_n kind_s kind_l kind_p
kind_of Head = kind_n
kind_of Station = kind_s
kind_of Line = kind_l
kind_of Place = kind_p
