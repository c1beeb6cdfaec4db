-- The marks that a path meets, end by end; those of the breakers are the breaker that trips and the breakers on the path, and the
-- first of the places is the first place.
use Rattle.std.specs.Prelude.{Option, None, Some}
use Prim.Native.Nat.{ℕ, zero, suc, ◌+◌, ◌*◌, ◌≤◌}
use mathlib.Core.Path.{◌≡◌, refl, sym, ap, ◌∙◌}
use mathlib.Core.Bool.{Bool, true, false, true≢false, ◌||◌, cond}
use mathlib.Core.Logic.{⊎_elim}
use mathlib.Core.List.{List, [], ◌∷◌, Memᴰ}
use native.Mathlib.Omega.{arith}
use lib.ListN.{length, get_or}
use Rattle.model.specs.Lists.{any, first_or}
use Rattle.model.specs.Network.{Network}
use Rattle.model.specs.Paths.{End, is_breaker, is_open}
use Rattle.model.specs.Rules.{breakers_on}
use Rattle.model.specs.Outage.{no_end}
use Rattle.graphs.specs.Sum.{on}
use Rattle.savings.specs.First.{this}
use Rattle.theory.specs.Reading.{Read}
use Rattle.theory.specs.Ends.{closed-end}
use Rattle.theory.specs.Above.{breakers-count}
use Rattle.theory.specs.Behind.{side-of}
use Rattle.network.specs.Found.{found}
use Rattle.tree.specs.Linked.{end_code, code_end}
use Rattle.sets.specs.Stops.{first_place}
use Rattle.sets.specs.Apart.{place_ends}
use Rattle.marks.specs.Held.{place_on, mark_on, HoldsPlaces, HoldsBreakers}
use Rattle.marks.specs.declared.Marks.{Marks}
use Rattle.marks.proofs.Marking.{There, end-of-code}
use Rattle.marks.proofs.PlaceOn.{place-or-none, no-end-unplaced}
use Rattle.paths.specs.Held.{breaker_of}
use Rattle.paths.specs.Meets.{or_else, met_next, met_on}
use Rattle.paths.specs.declared.Met.{Met}

-- ── one end more ──
met-first : (mark : Option ℕ) (m : Met) → (met_next mark m).first ≡ or_else mark m.first
met-first None m = refl
met-first (Some mark) m = refl

met-more : (mark : Option ℕ) (m : Met) → (met_next mark m).count ≤ m.count + 1
met-more None m = omega arith
met-more (Some mark) m = omega arith

-- there are no more marks than ends
pub marks-few : (marks : Marks) (es : List End) → (met_on marks es).count ≤ length es
unfolding met_on
marks-few marks [] = omega arith
marks-few marks (e ∷ es) = omega (arith, met-more (mark_on marks e) (met_on marks es), marks-few marks es)

-- ── a closed end and its code ──
module _ (N : Network) (e : End) (c : is_open N e ≡ false) where
  pub closed-there : There e
  closed-there = let x = closed-end N e c in let s = side-of N e c in record { line = x.0; first = s.0; second = s.1 }

  code-there : (1 ≤ end_code e) × (end_code e ≤ 2 * length N.lines)
  code-there = let x = closed-end N e c in (omega (arith, closed-there.line, closed-there.first), omega (arith, x.1, closed-there.second))

-- what an end with such marks has
closed-mark : (N : Network) (marks : Marks) (f : ℕ → End → Option ℕ) → ((code : ℕ) → 1 ≤ code → code ≤ 2 * length N.lines → get_or marks.marks code None ≡ f code (code_end code))
    → (e : End) → is_open N e ≡ false → mark_on marks e ≡ f (end_code e) e
closed-mark N marks f h e c = h (end_code e) (code-there N e c).0 (code-there N e c).1 ∙ ap (f (end_code e)) (end-of-code e (closed-there N e c))

-- all ends of a path are closed
abbrev pub AllClosed : Network → List End → Type 0
AllClosed N es = (e : End) → Memᴰ e es → is_open N e ≡ false

-- ── the breakers ──
pub breakers-next : (N : Network) (e : End) (es : List End) → breakers_on N (e ∷ es) ≡ on (is_breaker N e) 1 + breakers_on N es
breakers-next N e es = breakers-count N (e ∷ es) ∙ ap (λ n. on (is_breaker N e) 1 + n) (sym (breakers-count N es))

module _ (N : Network) (marks : Marks) (h : HoldsBreakers N marks) where
  mark-is : (e : End) → is_open N e ≡ false → mark_on marks e ≡ cond (is_breaker N e) (Some (end_code e)) None
  mark-is e c = closed-mark N marks (λ code d. cond (is_breaker N d) (Some code) None) h e c

  pub breakers-met : (es : List End) → AllClosed N es → (met_on marks es).count ≡ breakers_on N es
  unfolding met_on
  breakers-met [] c = sym (breakers-count N [])
  breakers-met (e ∷ es) c =
      ap (λ m. (met_next m (met_on marks es)).count) (mark-is e (c e (Memᴰ.head refl))) ∙ go (is_breaker N e) refl (breakers-met es (λ d m. c d (Memᴰ.tail m)))
    where
      go : (b : Bool) → is_breaker N e ≡ b → (met_on marks es).count ≡ breakers_on N es → (met_next (cond (is_breaker N e) (Some (end_code e)) None) (met_on marks es)).count ≡ breakers_on N (e ∷ es)
      go true b ih = ap (λ b. (met_next (cond b (Some (end_code e)) None) (met_on marks es)).count) b ∙ (let o : on (is_breaker N e) 1 ≡ 1 = ap (λ t. on t 1) b in omega (arith, o, ih, breakers-next N e es))
      go false b ih = ap (λ b. (met_next (cond b (Some (end_code e)) None) (met_on marks es)).count) b ∙ (let o : on (is_breaker N e) 1 ≡ 0 = ap (λ t. on t 1) b in omega (arith, o, ih, breakers-next N e es))

  pub trips-met : (es : List End) → AllClosed N es → any (λ e. is_breaker N e) es ≡ true → breaker_of (met_on marks es).first ≡ first_or no_end (λ e. is_breaker N e) es
  unfolding met_on first_or any
  trips-met [] c x = absurd (true≢false (sym x))
  trips-met (e ∷ es) c x =
      ap (λ m. breaker_of (met_next m (met_on marks es)).first) (mark-is e closed) ∙ go (is_breaker N e) refl (trips-met es (λ d m. c d (Memᴰ.tail m)))
    where
      closed : is_open N e ≡ false
      closed = c e (Memᴰ.head refl)

      last : End
      last = first_or no_end (λ e. is_breaker N e) es

      go : (b : Bool) → is_breaker N e ≡ b → (any (λ e. is_breaker N e) es ≡ true → breaker_of (met_on marks es).first ≡ last)
          → breaker_of (met_next (cond (is_breaker N e) (Some (end_code e)) None) (met_on marks es)).first ≡ this (is_breaker N e) e last
      go true b ih = (λ i. breaker_of (met_next (cond (b i) (Some (end_code e)) None) (met_on marks es)).first) ∙ end-of-code e (closed-there N e closed) ∙ ap (λ b. this b e last) (sym b)
      go false b ih = (λ i. breaker_of (met_next (cond (b i) (Some (end_code e)) None) (met_on marks es)).first) ∙ ih (ap (λ b. b || any (λ e. is_breaker N e) es) (sym b) ∙ x) ∙ ap (λ b. this b e last) (sym b)

-- ── the places ──
some-else : (k : ℕ) (y : Option ℕ) → 1 ≤ k → or_else (found k) y ≡ found k
some-else zero y h = absurd (omega arith)
some-else (suc k) y h = refl

-- the place that a path meets first: that on its first end if it has one
pub first_next : (N : Network) (e : End) (es : List End) (x y : Option ℕ) → x ≡ found (place_on N e) → y ≡ found (place_on N (first_place (place_ends N) es))
    → or_else x y ≡ found (place_on N (first_place (place_ends N) (e ∷ es)))
unfolding first_or
first_next N e es x y p q = ⊎_elim
    (λ n. ap (λ x. or_else x y) (p ∙ ap found n.0) ∙ q ∙ ap (λ b. found (place_on N (this b e (first_place (place_ends N) es)))) (sym n.1))
    (λ g. ap (λ x. or_else x y) p ∙ some-else (place_on N e) y g.low ∙ ap (λ b. found (place_on N (this b e (first_place (place_ends N) es)))) (sym g.listed))
    (place-or-none N e)

module _ (N : Network) (d : Read N) (marks : Marks) (h : HoldsPlaces N marks) where
  pub place-mark : (e : End) → is_open N e ≡ false → mark_on marks e ≡ found (place_on N e)
  place-mark e c = closed-mark N marks (λ code d. found (place_on N d)) h e c

  pub places-met : (es : List End) → AllClosed N es → (met_on marks es).first ≡ found (place_on N (first_place (place_ends N) es))
  unfolding met_on first_or
  places-met [] c = sym (ap found (no-end-unplaced N d).0)
  places-met (e ∷ es) c =
      met-first (mark_on marks e) (met_on marks es)
      ∙ first_next N e es (mark_on marks e) (met_on marks es).first (place-mark e (c e (Memᴰ.head refl))) (places-met es (λ d m. c d (Memᴰ.tail m)))
