-- From what the reader and the rules say of a file to what loading answers.
use Rattle.std.specs.Prelude.{◌≡◌, ℕ, List}
use Rattle.std.proofs.Common.{sym, ap}
use Rattle.model.specs.Answer.{given, refused, ◌>>=◌}
use Rattle.model.specs.Network.{Network, network_of}
use Rattle.model.specs.Rules.{radial, accepted}
use Rattle.theory.specs.Reading.{Read, network-read}
use Rattle.theory.specs.Best.{accepted-is}
use Rattle.tree.specs.declared.Tree.{Tree}
use Rattle.paths.specs.declared.Paths.{Paths}
use Rattle.loading.specs.Loading.{IsPrepared, IsLoaded}

module _ (file : List ℕ) where
  pub read-refused : {n i : ℕ} → refused n i ≡ network_of file → refused n i ≡ accepted file
  unfolding accepted
  read-refused e = ap (λ a. a >>= λ N. radial N) e

  module _ (N : Network) (e : given N ≡ network_of file) where
    pub read-holds : Read N
    read-holds = (network-read file N (sym e)).0

    pub rules-next : radial N ≡ accepted file
    unfolding accepted
    rules-next = ap (λ a. a >>= λ N. radial N) e

  -- what is prepared of an accepted network is loaded
  pub all-loaded : (N : Network) (t : Tree) (p : Paths) → given N ≡ accepted file → IsPrepared N t p → IsLoaded N t p
  all-loaded N t p e h = record { accepted = accepted-is file N (sym e); prepared = h }
