-- The search beside the walk without a limit.
use Rattle.std.specs.Prelude.{ℕ, ◌≡◌, false}
use Rattle.std.proofs.Common.{arith}
use Rattle.model.specs.Network.{Network}
use Rattle.model.specs.Sets.{allowed, set_total, saving, place_numbers, allowed_sets, allowed_count}
use Rattle.model.specs.Walk.{Found, search}
use Rattle.walks.specs.Limits.{Limited}
use Rattle.walks.proofs.Limits.{walk-limited}
use Rattle.theory.specs.Best.{Accepted, walk_within, within-answers}

-- The walk without a limit. The number of allowed sets stands in for one: an accepted file's walk is not spent at it.
unfoldable pub unlimited : Network → Found
unfolding walk_within allowed_count
unlimited N = walk_within N (allowed_count N)

-- Two limits of which the second is enough, for any file.
pub within-limited : (N : Network) (limit enough : ℕ) → (walk_within N enough).spent ≡ false → Limited limit (walk_within N limit) (walk_within N enough)
unfolding walk_within
within-limited N limit enough =
    walk-limited (λ S. set_total N S) (λ S. allowed N S) (λ p. saving N p) limit enough N.head.adds (place_numbers N)

module _ (N : Network) (a : Accepted N) where
  pub unlimited-finishes : (unlimited N).spent ≡ false
  unfolding unlimited allowed_count allowed_sets
  unlimited-finishes = (within-answers N a (allowed_count N)).finishes (omega arith)

  -- The search is spent exactly when its limit is below the visits of the walk without a limit, and its visits are the smaller
  -- of the two numbers; not spent, it finds what that walk does.
  pub search-limited : Limited N.head.visits (search N) (unlimited N)
  unfolding search walk_within unlimited
  search-limited = within-limited N N.head.visits (allowed_count N) unlimited-finishes

  -- any limit that is enough is as good as none
  pub enough-same : (enough : ℕ) → (walk_within N enough).spent ≡ false → walk_within N enough ≡ unlimited N
  unfolding unlimited
  enough-same enough = (within-limited N enough (allowed_count N) unlimited-finishes).found_same
