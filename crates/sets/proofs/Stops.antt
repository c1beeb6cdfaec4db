-- Weights, and breakers in series, put together place by place: from the lines and stations whose path meets a place first.
use Rattle.std.specs.Prelude.{ℕ, suc, ◌+◌, ◌≡◌, Bool, ◌&&◌, ◌||◌}
use Rattle.std.proofs.Math.Path.{refl, sym, ap}
use Rattle.std.proofs.Common.{◌∙◌, arith}
use Rattle.std.proofs.Math.Bool.{true, false, and-true}
use mathlib.Core.List.{List, [], ◌∷◌, Memᴰ}
use Rattle.model.specs.Lists.{any, first_or}
use Rattle.model.specs.Paths.{Vertex, End, same_end}
use Rattle.model.specs.Outage.{no_end}
use Rattle.graphs.specs.Graph.{NoRepeat}
use Rattle.graphs.specs.Sum.{on, sum_over, sum-ext, sum-swap}
use Rattle.graphs.specs.Tree.{count_of}
use Rattle.savings.specs.Facts.{both, same_end-eq}
use Rattle.theory.specs.Ends.{any-in, any_out, fresh-unused}
use Rattle.sets.specs.Ways.{has, covers, Way, under}
use Rattle.sets.specs.Weights.{on-sum, on-nought, weight}
use Rattle.sets.specs.InSeries.{most, most-of, most-less, in-series}
use Rattle.sets.specs.Stops.{first_stop, own, first_place, own_in_series, stop-covers}

-- of ends that are listed once, the one that is s counts if it passes a test
listed-one : (test : End → Bool) (s : End) (n : ℕ) (ps : List End) → NoRepeat ps → sum_over (λ p. on (test p) (on (same_end p s) n)) ps ≡ on (has s ps && test s) n
unfolding any
listed-one test s n [] once = refl
listed-one test s n (p ∷ ps) once = go (same_end p s) refl (listed-one test s n ps once.1)
  where
    go : (b : Bool) → same_end p s ≡ b → sum_over (λ p. on (test p) (on (same_end p s) n)) ps ≡ on (has s ps && test s) n
        → on (test p) (on b n) + sum_over (λ p. on (test p) (on (same_end p s) n)) ps ≡ on ((b || has s ps) && test s) n
    go true h ih =
        let e : p ≡ s = same_end-eq p s h in
        omega (arith, ih, ap (λ b. on (b && test s) n) (ap (λ x. has x ps) (sym e) ∙ fresh-unused p ps once.0), ap (λ x. on (test x) n) e)
    go false h ih = omega (arith, ih, on-nought (test p) (on (has s ps && test s) n))

module _ (up : End → List End) (B : End → Bool) (n : B no_end ≡ false) (ps : List End) (plain : (e : End) → has e ps ≡ true → B e ≡ false) (z : has no_end ps ≡ false)
    (p : End) (listed : has p ps ≡ true) where
  -- Weights: that of a place is the sum of what stops first at it and at the places under it.
  pub weight-stops : NoRepeat ps → (path : ℕ → List End) (w : ℕ → ℕ) (ls : List ℕ) → ((l : ℕ) → Memᴰ l ls → Way up (path l))
      → weight path w ls B p ≡ sum_over (λ s. on (same_end s p || under up B s p) (own path w ls B ps s)) ps
  weight-stops once path w ls ways =
      let part : End → ℕ → ℕ = λ s l. on (same_end s (first_stop B ps (path l))) (w l) in
      let test : End → Bool = λ s. same_end s p || under up B s p in
      sum-ext _ (λ l. sum_over (λ s. on (test s) (part s l)) ps) ls
      (λ l m. ap (λ b. on b (w l)) (stop-covers up B n ps plain z p listed (path l) (ways l m)) ∙ sym (listed-one test (first_stop B ps (path l)) (w l) ps once))
      ∙ sum-swap (λ l s. on (test s) (part s l)) ls ps
      ∙ sum-ext _ _ ps (λ s m. sym (on-sum (test s) (part s) ls))

-- ── breakers in series ──
-- with no breakers, a path that passes an end has none before it
covers-none : (p : End) (es : List End) → covers (λ e. false) p es ≡ has p es
unfolding any
covers-none p [] = refl
covers-none p (e ∷ es) = ap (λ b. same_end e p || b) (covers-none p es)

first-none : (es : List End) → first_or no_end (λ e. false) es ≡ no_end
unfolding first_or
first-none [] = refl
first-none (e ∷ es) = first-none es

module _ (up : End → List End) (ps : List End) (z : has no_end ps ≡ false) (p : End) (listed : has p ps ≡ true) where
  -- a path passes p where its first place is p or has p on the path onward from it
  pub passes-stop : (es : List End) → Way up es → has p es ≡ (has (first_place ps es) ps && (same_end (first_place ps es) p || has p (up (first_place ps es))))
  passes-stop es w =
      let s : End = first_place ps es in
      sym (covers-none p es) ∙ stop-covers up (λ e. false) refl ps (λ e h. refl) z p listed es w
      ∙ ap (λ b. has s ps && (same_end s p || b)) ((λ i. has p (up s) && same_end (first-none (up s) i) (first-none (up p) i)) ∙ and-true (has p (up s)))

  -- Series: the most breakers on a path that passes p are the most of those whose first place is p or lies behind p.
  pub in-series-stops : (B : End → Bool) (path_of : Vertex → List End) (vs : List Vertex) → ((v : Vertex) → Memᴰ v vs → Way up (path_of v))
      → in-series path_of vs B p ≡ most (λ s. same_end s p || has p (up s)) (own_in_series path_of vs B ps) ps
  in-series-stops B path_of vs ways = omega (
    arith,
    most-less passed count (suc all) (omega arith) vs (λ v m h.
        let t = both (has (stop v) ps) (test (stop v)) (sym (passes-stop (path_of v) (ways v m)) ∙ h) in
        let x = any_out (λ d. same_end d (stop v)) ps t.0 in
        omega (arith, most-of (λ u. same_end x.0 (stop u)) count vs v m x.2, most-of test part ps x.0 x.1 (ap test (same_end-eq _ _ x.2) ∙ t.1))),
    most-less test part (suc (in-series path_of vs B p)) (omega arith) ps (λ s m h. most-less (λ v. same_end s (stop v)) count (suc (in-series path_of vs B p)) (omega arith) vs (λ v k e.
        let q : s ≡ stop v = same_end-eq s (stop v) e in
        omega (arith, most-of passed count vs v k (passes-stop (path_of v) (ways v k) ∙ (λ i. any-in (λ d. same_end d (stop v)) s ps m e i && (ap test (sym q) ∙ h) i))))),
  )
    where
      passed : Vertex → Bool
      passed v = has p (path_of v)

      count : Vertex → ℕ
      count v = count_of B (path_of v)

      stop : Vertex → End
      stop v = first_place ps (path_of v)

      test : End → Bool
      test s = same_end s p || has p (up s)

      part : End → ℕ
      part s = own_in_series path_of vs B ps s

      all : ℕ
      all = most test part ps
