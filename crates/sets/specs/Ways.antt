-- Paths to the HV station, and one more breaker: for which paths it trips, and which breaker trips for what lies behind an end.
use Rattle.std.specs.Prelude.{◌≡◌, Bool, not, ◌&&◌, ◌||◌}
use Rattle.std.proofs.Math.Path.{refl, sym, ap}
use Rattle.std.proofs.Common.{◌∙◌, true≢false}
use Rattle.std.proofs.Math.Bool.{true, false}
use mathlib.Core.List.{List, [], ◌∷◌}
use Rattle.model.specs.Lists.{any, first_or}
use Rattle.model.specs.Paths.{End, same_end}
use Rattle.model.specs.Outage.{no_end}
use Rattle.savings.specs.Facts.{or_left, or_right, or_cases, both, same_end-eq, same_end-refl}
use Rattle.savings.specs.First.{this}

-- a path passes an end
abbrev pub has : End → List End → Bool
has q es = any (λ d. same_end d q) es

-- the breakers B and one more, at q
abbrev pub with : (End → Bool) → End → End → Bool
with B q e = B e || same_end e q

-- a breaker at q would trip for a fault on a line with this path: it passes q, and no breaker before q
abbrev pub covers : (End → Bool) → End → List End → Bool
covers B q [] = false
covers B q (e ∷ es) = same_end e q || (not (B e) && covers B q es)

-- what a breaker would trip for passes it
pub covers-has : (B : End → Bool) (q : End) (es : List End) → covers B q es ≡ true → has q es ≡ true
unfolding any
covers-has B q [] h = h
covers-has B q (e ∷ es) h = or_cases (same_end e q) (not (B e) && covers B q es) (λ s. or_left (same_end e q) (has q es) s)
    (λ s. or_right (same_end e q) (has q es) (covers-has B q es (both (not (B e)) (covers B q es) s).1)) h

-- a path that passes no end twice and goes on from each end as `up` says
abbrev pub Way : (End → List End) → List End → Type 0
Way up [] = Unit {0}
Way up (e ∷ es) = (es ≡ up e) × (has e es ≡ false) × Way up es

-- the first breaker of a path with one more at q: q where its breaker trips, else the first that was there
pub first-with : (B : End → Bool) (q : End) (es : List End) → first_or no_end (with B q) es ≡ this (covers B q es) q (first_or no_end B es)
unfolding first_or
first-with B q [] = refl
first-with B q (e ∷ es) = go (B e) (same_end e q) refl (first-with B q es)
  where
    go : (b s : Bool) → same_end e q ≡ s → first_or no_end (with B q) es ≡ this (covers B q es) q (first_or no_end B es)
        → this (b || s) e (first_or no_end (with B q) es) ≡ this (s || (not b && covers B q es)) q (this b e (first_or no_end B es))
    go true true h ih = same_end-eq e q h
    go true false h ih = refl
    go false true h ih = same_end-eq e q h
    go false false h ih = ih

-- the first breaker of a path is on it
pub first_on : (B : End → Bool) → B no_end ≡ false → (es : List End) → B (first_or no_end B es) ≡ true → has (first_or no_end B es) es ≡ true
unfolding first_or any
first_on B n [] h = absurd (true≢false (sym h ∙ n))
first_on B n (e ∷ es) h = go (B e) h (first_on B n es)
  where
    go : (b : Bool) → B (this b e (first_or no_end B es)) ≡ true → (B (first_or no_end B es) ≡ true → has (first_or no_end B es) es ≡ true)
        → has (this b e (first_or no_end B es)) (e ∷ es) ≡ true
    go true h ih = or_left (same_end e e) (has e es) (same_end-refl e)
    go false h ih = or_right (same_end e (first_or no_end B es)) (has (first_or no_end B es) es) (ih h)

module _ (up : End → List End) where
  -- the breaker that trips for what lies behind an end that has none
  abbrev pub upstream : (End → Bool) → End → End
  upstream B q = first_or no_end B (up q)

  -- p lies behind q, and one breaker trips for both
  abbrev pub under : (End → Bool) → End → End → Bool
  under B p q = has q (up p) && same_end (upstream B p) (upstream B q)

  -- what the path onward from an end of a path passes, the path passes
  pub has-onward : (q d : End) (es : List End) → Way up es → has q es ≡ true → has d (up q) ≡ true → has d es ≡ true
  unfolding any
  has-onward q d [] w h k = absurd (true≢false (sym h))
  has-onward q d (e ∷ es) w h k = or_right (same_end e d) (has d es)
      (or_cases (same_end e q) (has q es) (λ s. ap (has d) (w.0 ∙ ap up (same_end-eq e q s)) ∙ k) (λ s. has-onward q d es w.2 s k) h)

  -- q's breaker would trip for a path that passes q where the same breaker trips for it now as for what lies behind q
  pub covers-is : (B : End → Bool) (q : End) → B no_end ≡ false → B q ≡ false → (es : List End) → Way up es
      → covers B q es ≡ (has q es && same_end (first_or no_end B es) (upstream B q))
  unfolding first_or any
  covers-is B q n f [] w = refl
  covers-is B q n f (e ∷ es) w = go (same_end e q) (B e) refl refl (covers-is B q n f es w.2)
    where
      go : (s b : Bool) → same_end e q ≡ s → B e ≡ b → covers B q es ≡ (has q es && same_end (first_or no_end B es) (upstream B q))
          → (s || (not b && covers B q es)) ≡ ((s || has q es) && same_end (this b e (first_or no_end B es)) (upstream B q))
      go true true s b ih = absurd (true≢false (sym b ∙ ap B (same_end-eq e q s) ∙ f))
      go true false s b ih = sym (ap (λ x. same_end (first_or no_end B x) (upstream B q)) (w.0 ∙ ap up (same_end-eq e q s)) ∙ same_end-refl (upstream B q))
      go false true s b ih = apart (has q es && same_end e (upstream B q)) refl
        where
          apart : (c : Bool) → (has q es && same_end e (upstream B q)) ≡ c → false ≡ c
          apart true h =
              let t = both (has q es) (same_end e (upstream B q)) h in
              let k : e ≡ upstream B q = same_end-eq e (upstream B q) t.1 in
              absurd (true≢false (sym (has-onward q e es w.2 t.0 (ap (λ x. has x (up q)) k ∙ first_on B n (up q) (ap B (sym k) ∙ b))) ∙ w.1))
          apart false h = refl
      go false false s b ih = ih

  -- where q's breaker would trip for a path, the one that trips now is the one for what lies behind q
  pub covered : (B : End → Bool) (q : End) → B no_end ≡ false → B q ≡ false → (es : List End) → Way up es → covers B q es ≡ true → first_or no_end B es ≡ upstream B q
  covered B q n f es w h = same_end-eq _ _ (both (has q es) (same_end (first_or no_end B es) (upstream B q)) (sym (covers-is B q n f es w) ∙ h)).1

  -- Upstream breakers: with a breaker at q, q's trips for what lies behind p where p is under q.
  pub upstream-with : (B : End → Bool) (p q : End) → B no_end ≡ false → B q ≡ false → Way up (up p) → upstream (with B q) p ≡ this (under B p q) q (upstream B p)
  upstream-with B p q n f w = first-with B q (up p) ∙ ap (λ b. this b q (upstream B p)) (covers-is B q n f (up p) w)
