-- What is marked on the ends of a network's lines: on a breaker its code, on a place's end the place's number.
use Rattle.std.specs.Prelude.{ℕ, ◌*◌, ◌≤◌, ◌≡◌, cond, Option, None, Some, length, get_or}
use Rattle.model.specs.Lists.{first_or}
use Rattle.model.specs.Network.{Network}
use Rattle.model.specs.Paths.{End, same_end, is_breaker}
use Rattle.model.specs.Sets.{place_numbers}
use Rattle.savings.specs.Breakers.{end_at}
use Rattle.theory.specs.Reading.{Read}
use Rattle.network.specs.Found.{found}
use Rattle.tree.specs.Linked.{end_code, code_end}
use Rattle.marks.specs.declared.Marks.{Marks}

-- the code of an end of a network that is read
pub record CodeThere (N : Network) (code : ℕ) : Type 0 where
  pub read : Read N
  pub low : 1 ≤ code
  pub high : code ≤ 2 * length N.lines

-- the number of the place on an end, 0 if there is none
unfoldable pub place_on : Network → End → ℕ
unfolding first_or place_numbers
place_on N e = first_or 0 (λ p. same_end (end_at N p) e) (place_numbers N)

-- a code, if its end is a breaker
abbrev pub breaker_code : Network → ℕ → Option ℕ
breaker_code N code = cond (is_breaker N (code_end code)) (Some code) None

-- the mark on an end
abbrev pub mark_on : Marks → End → Option ℕ
mark_on m e = get_or m.marks (end_code e) None

abbrev pub IsUnmarked : Marks → Type 0
IsUnmarked m = (e : End) → mark_on m e ≡ None

-- each place is marked on its end
abbrev pub HoldsPlaces : Network → Marks → Type 0
HoldsPlaces N m = (code : ℕ) → 1 ≤ code → code ≤ 2 * length N.lines → get_or m.marks code None ≡ found (place_on N (code_end code))

-- each breaker is marked
abbrev pub HoldsBreakers : Network → Marks → Type 0
HoldsBreakers N m = (code : ℕ) → 1 ≤ code → code ≤ 2 * length N.lines → get_or m.marks code None ≡ breaker_code N code
