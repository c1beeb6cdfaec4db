-- The places of a network that is read, by the codes of their ends.
use Prim.Native.Nat.{ℕ, ◌+◌, ◌*◌, ◌-◌, ◌/◌, ◌%◌, ◌≤◌, ◌<◌}
use mathlib.Core.Path.{◌≡◌, refl, sym, ap, ◌∙◌}
use mathlib.Core.Bool.{Bool, true, false}
use mathlib.Core.Logic.{◌≢◌}
use mathlib.Core.List.{List}
use native.Mathlib.Decide.{ℕ_discrete}
use native.Mathlib.Omega.{arith}
use Rattle.std.specs.Prelude.{Option, None, Some}
use lib.ListN.{length, get_or, set}
use lib.Seq.{get_or-set_same, get_or-set_other}
use Rattle.model.specs.Lists.{numbers, first_or}
use Rattle.model.specs.Network.{Network, no_place}
use Rattle.model.specs.Paths.{End, same_end}
use Rattle.model.specs.Sets.{place_numbers, place_at}
use Rattle.savings.specs.Facts.{same_end-eq, same_end-refl}
use Rattle.savings.specs.First.{this}
use Rattle.savings.specs.Breakers.{end_at}
use Rattle.theory.specs.Reading.{PlaceFits, Read}
use Rattle.theory.specs.Radial.{numbered-in}
use Rattle.theory.specs.Gathering.{numbers-first, numbers-none}
use Rattle.network.specs.Found.{found, found-is}
use Rattle.tree.specs.Linked.{end_code, code_end}
use Rattle.marks.specs.Held.{place_on, HoldsPlaces}
use Rattle.marks.specs.declared.Marks.{Marks}

-- ── codes ──
-- an end of a line
pub record There (e : End) : Type 0 where
  pub line : 1 ≤ e.line
  pub first : 1 ≤ e.side
  pub second : e.side ≤ 2

pub end-of-code : (e : End) → There e → code_end (end_code e) ≡ e
end-of-code e t = λ i. record {
  line = (let q : (end_code e + 1) / 2 ≡ e.line = omega (arith, t.line, t.first, t.second) in q) i;
  side = (let q : 2 - end_code e % 2 ≡ e.side = omega (arith, t.line, t.first, t.second) in q) i;
}

pub code-of-end : (c : ℕ) → 1 ≤ c → end_code (code_end c) ≡ c
code-of-end c h = omega arith

code_same : (e : End) → There e → same_end e (code_end (end_code e)) ≡ true
code_same e t = ap (same_end e) (end-of-code e t) ∙ same_end-refl e

code_other : (e : End) (c : ℕ) → 1 ≤ c → c ≢ end_code e → same_end e (code_end c) ≡ false
code_other e c h n = go (same_end e (code_end c)) refl
  where
    go : (b : Bool) → same_end e (code_end c) ≡ b → b ≡ false
    go true q = absurd (n (sym (ap end_code (same_end-eq e (code_end c) q) ∙ code-of-end c h)))
    go false q = refl

-- the entries from 1 to below k are the values of f
abbrev pub Below : (ℕ → Option ℕ) → List (Option ℕ) → ℕ → Type 0
Below f out k = (p : ℕ) → 1 ≤ p → p < k → get_or out p None ≡ f p

-- ── marks ──
-- the places with numbers from k on are marked
abbrev pub MarkedFrom : Network → List (Option ℕ) → ℕ → Type 0
MarkedFrom N marks k = (code : ℕ) → 1 ≤ code → code ≤ 2 * length N.lines
    → get_or marks code None ≡ found (first_or 0 (λ p. same_end (end_at N p) (code_end code)) (numbers k (length N.places + 1 - k)))

module _ (N : Network) (d : Read N) where
  pub place-fits : (p : ℕ) → 1 ≤ p → p ≤ length N.places → PlaceFits (length N.lines) (place_at N p)
  unfolding place_at
  place-fits p a b = numbered-in (PlaceFits (length N.lines)) N.places no_place d.places p a b

  pub place-there : (p : ℕ) → 1 ≤ p → p ≤ length N.places → There (end_at N p)
  place-there p a b = let f = place-fits p a b in record { line = f.line.low; first = f.side.low; second = f.side.high }

  pub marks-none : (marks : List (Option ℕ)) → ((k : ℕ) → get_or marks k None ≡ None) → MarkedFrom N marks (length N.places + 1)
  unfolding first_or
  marks-none marks z code a b = z code
      ∙ ap (λ ns. found (first_or 0 (λ p. same_end (end_at N p) (code_end code)) ns)) (sym (numbers-none (length N.places + 1) (length N.places + 1) (omega arith)))

  -- one place more
  pub marks-next : (marks : List (Option ℕ)) (p r : ℕ) → 1 ≤ p → p ≤ length N.places → r ≡ end_code (end_at N p) → r < length marks → MarkedFrom N marks (p + 1) → MarkedFrom N (set marks r (Some p)) p
  unfolding first_or
  marks-next marks p r a b e l m code i j = go (ℕ_discrete code r) ∙ ap (λ ns. found (first_or 0 test ns)) (sym (numbers-first p (length N.places + 1) (omega arith)))
    where
      test : ℕ → Bool
      test q = same_end (end_at N q) (code_end code)

      rest : ℕ
      rest = first_or 0 test (numbers (p + 1) (length N.places + 1 - (p + 1)))

      go : Dec (code ≡ r) → get_or (set marks r (Some p)) code None ≡ found (this (test p) p rest)
      go (yes q) =
          ap (λ k. get_or (set marks r (Some p)) k None) q ∙ get_or-set_same marks r (Some p) None l ∙ found-is p a
          ∙ ap (λ t. found (this t p rest)) (sym (ap (λ c. same_end (end_at N p) (code_end c)) (q ∙ e) ∙ code_same (end_at N p) (place-there p a b)))
      go (no q) =
          get_or-set_other marks r code (Some p) None q ∙ m code i j
          ∙ ap (λ t. found (this t p rest)) (sym (code_other (end_at N p) code i (λ h. q (h ∙ sym e))))

  -- all places
  pub marks-all : (m : Marks) → MarkedFrom N m.marks 1 → HoldsPlaces N m
  unfolding place_on place_numbers
  marks-all m h code a b = h code a b ∙ ap (λ n. found (first_or 0 (λ p. same_end (end_at N p) (code_end code)) (numbers 1 n))) {x = length N.places + 1 - 1} {y = length N.places} (omega arith)
