-- What the numbers and fields of a record are: where parts end, and what the answers of the functions say.
use Rattle.std.specs.Prelude.{ℕ, suc, true, false, List, [], ◌∷◌, eqb}
use Rattle.std.specs.Prelude.{Option, None, Some}

-- how many bytes stand before the first separator
unfoldable pub up_to : ℕ → List ℕ → ℕ
up_to separator [] = 0
up_to separator (b ∷ bs) = elim (eqb b separator) [ true ↦ 0 | false ↦ suc (up_to separator bs) ]

-- the form is right or wrong; `ns` is what was written
abbrev pub form_says : Option (Unit {0}) → List ℕ → Option (List ℕ)
form_says (Some u) ns = Some ns
form_says None ns = None
