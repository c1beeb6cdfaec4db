-- Weights, and breakers in series, put together place by place: from the lines and stations whose path meets a place first.
use Rattle.std.specs.Prelude.{ℕ, ◌≡◌, Bool, ◌&&◌, ◌||◌}
use Rattle.std.proofs.Math.Path.{refl, sym, ap}
use Rattle.std.proofs.Common.{◌∙◌, true≢false}
use Rattle.std.proofs.Math.Bool.{true, false, not}
use mathlib.Core.List.{List, [], ◌∷◌}
use Rattle.model.specs.Lists.{first_or}
use Rattle.model.specs.Paths.{Vertex, End, same_end}
use Rattle.model.specs.Outage.{no_end}
use Rattle.graphs.specs.Sum.{on, sum_over}
use Rattle.graphs.specs.Tree.{count_of}
use Rattle.savings.specs.Facts.{same_end-eq, same_end-refl}
use Rattle.savings.specs.First.{this}
use Rattle.sets.specs.Ways.{has, covers, Way, upstream, under, covers-is}
use Rattle.sets.specs.InSeries.{most}

-- the first end of a path that has a breaker or a place
abbrev pub first_stop : (End → Bool) → List End → List End → End
first_stop B ps es = first_or no_end (λ e. B e || has e ps) es

-- the weight of all lines whose first stop is p
abbrev pub own : (ℕ → List End) → (ℕ → ℕ) → List ℕ → (End → Bool) → List End → End → ℕ
own path w ls B ps p = sum_over (λ l. on (same_end p (first_stop B ps (path l))) (w l)) ls

module _ (up : End → List End) (B : End → Bool) (n : B no_end ≡ false) (ps : List End) (plain : (e : End) → has e ps ≡ true → B e ≡ false) (z : has no_end ps ≡ false)
    (p : End) (listed : has p ps ≡ true) where
  -- the first stop s of a path is a place, and is p or under it
  abbrev stops_by : End → Bool
  stops_by s = has s ps && (same_end s p || under up B s p)

  -- p's breaker would trip for just such paths
  pub stop-covers : (es : List End) → Way up es → covers B p es ≡ stops_by (first_stop B ps es)
  unfolding first_or
  stop-covers [] w = sym (ap (λ b. b && (same_end no_end p || under up B no_end p)) z)
  stop-covers (e ∷ es) w = go (B e) (has e ps) refl refl (stop-covers es w.2)
    where
      -- an end without a place is not p
      other : (b : Bool) → same_end e p ≡ b → has e ps ≡ false → b ≡ false
      other true s h = absurd (true≢false (sym listed ∙ ap (λ x. has x ps) (sym (same_end-eq e p s)) ∙ h))
      other false s h = refl

      go : (b h : Bool) → B e ≡ b → has e ps ≡ h → covers B p es ≡ stops_by (first_stop B ps es)
          → (same_end e p || (not b && covers B p es)) ≡ stops_by (this (b || h) e (first_stop B ps es))
      go true true b h ih = absurd (true≢false (sym b ∙ plain e h))
      go true false b h ih = ap (λ x. x || false) (other (same_end e p) refl h) ∙ sym (ap (λ x. x && (same_end e p || under up B e p)) h)
      go false true b h ih =
          ap (λ x. same_end e p || x) (covers-is up B p n (plain p listed) es w.2 ∙ ap (λ x. has p x && same_end (first_or no_end B x) (upstream up B p)) w.0)
          ∙ sym (ap (λ x. x && (same_end e p || under up B e p)) h)
      go false false b h ih = ap (λ x. x || covers B p es) (other (same_end e p) refl h) ∙ ih

-- ── breakers in series ──
-- the first end of a path that has a place
abbrev pub first_place : List End → List End → End
first_place ps es = first_or no_end (λ e. has e ps) es

and_no : (b : Bool) → (b && false) ≡ false
and_no true = refl
and_no false = refl

-- the first stop of a path is its first place, if that one's breaker would trip for it, and else its first breaker
module _ (B : End → Bool) (ps : List End) (plain : (e : End) → has e ps ≡ true → B e ≡ false) (z : has no_end ps ≡ false) where
  pub stop_is : (es : List End) → first_stop B ps es ≡ this (has (first_place ps es) ps && covers B (first_place ps es) es) (first_place ps es) (first_or no_end B es)
  unfolding first_or
  stop_is [] = sym (ap (λ b. this (b && false) no_end no_end) z)
  stop_is (e ∷ es) = go (B e) (has e ps) refl refl (stop_is es)
    where
      s : End
      s = first_place ps es

      -- an end without a place is not the first place
      other : (x b : Bool) → same_end e s ≡ b → has e ps ≡ false → (has s ps && (b || x)) ≡ (has s ps && x)
      other x true h k = (λ i. (ap (λ y. has y ps) (sym (same_end-eq e s h)) ∙ k) i && true) ∙ sym (λ i. (ap (λ y. has y ps) (sym (same_end-eq e s h)) ∙ k) i && x)
      other x false h k = refl

      go : (b h : Bool) → B e ≡ b → has e ps ≡ h → first_stop B ps es ≡ this (has s ps && covers B s es) s (first_or no_end B es)
          → this (b || h) e (first_stop B ps es) ≡ this (has (this h e s) ps && (same_end e (this h e s) || (not b && covers B (this h e s) es))) (this h e s) (this b e (first_or no_end B es))
      go true true b h ih = absurd (true≢false (sym b ∙ plain e h))
      go true false b h ih = sym (ap (λ t. this t s e) (other false (same_end e s) refl h ∙ and_no (has s ps)))
      go false true b h ih = sym (λ i. this (h i && (same_end-refl e i || covers B e es)) e (first_or no_end B es))
      go false false b h ih = ih ∙ sym (ap (λ t. this t s (first_or no_end B es)) (other (covers B s es) (same_end e s) refl h))

-- the most breakers on a path whose first place is p
abbrev pub own_in_series : (Vertex → List End) → List Vertex → (End → Bool) → List End → End → ℕ
own_in_series path_of vs B ps p = most (λ v. same_end p (first_place ps (path_of v))) (λ v. count_of B (path_of v)) vs
