-- What is loaded of a file: the rules 4 to 8 in turn, an accepted network, and what is prepared of it.
use Rattle.std.specs.Prelude.{◌≡◌, refl, not, Result, Ok, Err}
use Rattle.model.specs.Answer.{Answer, given, refused, refusal_number, refusal_record, refuse_open_line, refuse_plain_at_hv, refuse_return, refuse_joined, refuse_unsupplied, refuse_series}
use Rattle.model.specs.Network.{Network}
use Rattle.model.specs.Paths.{station_numbers, line_numbers}
use Rattle.model.specs.Rules.{both_open, unprotected, some_path_returns, some_joined, is_supplied, series_broken, unless, unless_some, station_record, line_record, radial}
use Rattle.model.specs.declared.Refusal.{Refusal}
use Rattle.theory.specs.Best.{Accepted}
use Rattle.tree.specs.Held.{HoldsTree}
use Rattle.tree.specs.declared.Tree.{Tree}
use Rattle.paths.specs.Held.{HoldsPaths}
use Rattle.paths.specs.declared.Paths.{Paths}

-- the rules 4 to 8 in turn, before `next`
unfoldable pub forest : Network → Answer Network → Answer Network
unfolding unless unless_some
forest N next =
    unless_some (λ l. both_open N l) (line_numbers N) (λ l. refuse_open_line (line_record N l))
    (unless_some (λ l. unprotected N l) (line_numbers N) (λ l. refuse_plain_at_hv (line_record N l))
    (unless (some_path_returns N) refuse_return
    (unless (some_joined N) refuse_joined
    (unless_some (λ s. not (is_supplied N s)) (station_numbers N) (λ s. refuse_unsupplied (station_record s))
    next))))

pub radial-is : (N : Network) → radial N ≡ forest N (unless (series_broken N) refuse_series (given N))
unfolding radial forest
radial-is N = refl

-- an answer before `next`: a refusal, or what `next` answers
abbrev pub before : {A : Type 0} → Result (Unit {0}) Refusal → Answer A → Answer A
before (Ok u) next = next
before (Err r) next = refused (refusal_number r) (refusal_record r)

-- what is prepared of an accepted network
pub record IsPrepared (N : Network) (t : Tree) (p : Paths) : Type 0 where
  pub tree : HoldsTree N t
  pub paths : HoldsPaths N p

-- what is loaded is an accepted network, and what is prepared of it
pub record IsLoaded (N : Network) (t : Tree) (p : Paths) : Type 0 where
  pub accepted : Accepted N
  pub prepared : IsPrepared N t p
