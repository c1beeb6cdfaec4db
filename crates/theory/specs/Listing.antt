-- The list of a file's allowed sets, for any file.
use Rattle.std.specs.Prelude.{ℕ, ◌↔◌, length}
use mathlib.Core.List.{List, Memᴰ, Nodup}
use Rattle.model.specs.Network.{Network}
use Rattle.model.specs.Sets.{place_numbers, allowed, allowed_sets}
use Rattle.model.specs.Demand.{AllowedSet}
use Rattle.savings.specs.Allowed.{allowed-few}
use Rattle.walks.specs.Order.{numbers-rising}
use Rattle.walks.specs.Listing.{kept-are}
use Rattle.walks.proofs.Listing.{kept-once}
use Rattle.theory.specs.Best.{fine, allowed-set}

-- It lists just the allowed sets,
pub allowed-listed : (N : Network) (S : List ℕ) → Memᴰ S (allowed_sets N) ↔ AllowedSet N S
unfolding allowed_sets
allowed-listed N S =
    let k = kept-are (λ S. allowed N S) N.head.adds (place_numbers N) (allowed-few N) S in
    (λ m. allowed-set (k.0 m), λ x. k.1 (fine x))

-- and none of them twice.
pub listed-once : (N : Network) → Nodup (allowed_sets N)
unfolding allowed_sets place_numbers
listed-once N = kept-once (λ S. allowed N S) N.head.adds (place_numbers N) (numbers-rising 1 (length N.places))
