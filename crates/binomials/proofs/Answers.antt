-- What Ceiling is defined to answer, by the ranges of its numbers.
use mathlib.Core.Path.{◌≡◌}
use mathlib.Core.Bool.{and-false}
use Prim.Native.Nat.{ℕ, ◌≤◌, ◌<◌}
use lib.Dec.{leb}
use borrow.Author.Tests.{le-leb, lt-leb}
use Rattle.model.specs.Answer.{given, refused}
use Rattle.model.specs.Ceiling.{set_count}
use Rattle.model.specs.Calls.{ceiling_answered}

pub too-many-places : (p a : ℕ) → 64 < p → ceiling_answered p a ≡ refused 2 0
unfolding ceiling_answered
too-many-places p a h = rw (lt-leb p 64 h, ceiling_answered)

pub too-many-additions : (p a : ℕ) → 16 < a → ceiling_answered p a ≡ refused 2 0
unfolding ceiling_answered
too-many-additions p a h = rw (lt-leb a 16 h, and-false (leb p 64), ceiling_answered)

pub within-bounds : (p a : ℕ) → p ≤ 64 → a ≤ 16 → ceiling_answered p a ≡ given (set_count p a)
unfolding ceiling_answered
within-bounds p a h k = rw (le-leb p 64 h, le-leb a 16 k, ceiling_answered)
