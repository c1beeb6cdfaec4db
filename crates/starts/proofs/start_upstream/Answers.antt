use mathlib.Core.Path.{sym, ap, ◌∙◌, subst}
use Rattle.tree.specs.Linked.{LineHeld}
use Rattle.paths.specs.Held.{trip_in}
use Rattle.starts.proofs.UnderPlaces.{line_held, trip-upstream}
use Rattle.starts.proofs.start_upstream.Goals as goal

pub trip-requires : goal.trip-requires
trip-requires c = subst LineHeld (sym c.place_line.ensures) (line_held c.args.net.now c.requires.0 c.args.place c.requires.2)

pub returns : goal.returns
returns c = c.trip.ensures ∙ ap (trip_in c.args.paths.now) c.place_line.ensures ∙ trip-upstream c.args.net.now c.requires.0 c.args.place c.requires.2 c.args.paths.now c.requires.1
