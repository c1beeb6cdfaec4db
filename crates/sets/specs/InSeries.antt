-- Breakers in series: the most on a path that passes an end, and how that changes with one more breaker.
use Rattle.std.specs.Prelude.{ℕ, suc, ◌+◌, ◌≤◌, ◌<◌, max, ◌≡◌, Bool, ◌||◌, ◌≢◌, ◌↔◌}
use Rattle.std.proofs.Math.Path.{refl, ap}
use Rattle.std.proofs.Common.{sym, ◌∙◌, true≢false, ⊎_elim, arith}
use Rattle.std.proofs.Math.Bool.{true, false}
use mathlib.Core.List.Memᴰ
use mathlib.Core.List.{List, [], ◌∷◌, map, Memᴰ}
use Rattle.model.specs.Lists.{any}
use Rattle.model.specs.Paths.{Vertex, End, same_end}
use Rattle.graphs.specs.Sum.{on}
use Rattle.graphs.specs.Tree.{count_of}
use Rattle.savings.specs.Facts.{same_end-eq}
use Rattle.savings.specs.First.{this}
use Rattle.theory.specs.Ends.{any_out}
use Rattle.sets.specs.Ways.{has, with, Way, has-onward}

module _ (up : End → List End) where
  -- one more breaker on each path that passes it
  count-with : (B : End → Bool) (q : End) → B q ≡ false → (es : List End) → Way up es → count_of (with B q) es ≡ count_of B es + on (has q es) 1
  unfolding any
  count-with B q f [] w = refl
  count-with B q f (e ∷ es) w = go (B e) (same_end e q) refl refl (count-with B q f es w.2)
    where
      go : (b s : Bool) → B e ≡ b → same_end e q ≡ s → count_of (with B q) es ≡ count_of B es + on (has q es) 1
          → on (b || s) 1 + count_of (with B q) es ≡ on b 1 + count_of B es + on (s || has q es) 1
      go true true b s ih = absurd (true≢false (sym b ∙ ap B (same_end-eq e q s) ∙ f))
      go true false b s ih = omega (arith, ih)
      go false true b s ih = omega (arith, ih, ap (λ x. on x 1) (ap (λ x. has x es) (sym (same_end-eq e q s)) ∙ w.1))
      go false false b s ih = omega (arith, ih)

  -- of two ends that a path passes, one is on the path onward from the other
  one-onward : (p q : End) → p ≢ q → (es : List End) → Way up es → has p es ≡ true → has q es ≡ true → has q (up p) ≡ false → has p (up q) ≡ true
  unfolding any
  one-onward p q d [] w h k n = absurd (true≢false (sym h))
  one-onward p q d (e ∷ es) w h k n = go (same_end e p) (same_end e q) refl refl h k (λ a b. one-onward p q d es w.2 a b n)
    where
      go : (s t : Bool) → same_end e p ≡ s → same_end e q ≡ t → (s || has p es) ≡ true → (t || has q es) ≡ true
          → (has p es ≡ true → has q es ≡ true → has p (up q) ≡ true) → has p (up q) ≡ true
      go true true s t h k ih = absurd (d (sym (same_end-eq e p s) ∙ same_end-eq e q t))
      go true false s t h k ih = absurd (true≢false (sym k ∙ ap (has q) (w.0 ∙ ap up (same_end-eq e p s)) ∙ n))
      go false true s t h k ih = ap (has p) (sym (w.0 ∙ ap up (same_end-eq e q t))) ∙ h
      go false false s t h k ih = ih h k

-- the largest value of those that pass a test
abbrev pub most : {A : Type 0} → (A → Bool) → (A → ℕ) → List A → ℕ
most test f [] = 0
most test f (x ∷ xs) = max (on (test x) (f x)) (most test f xs)

module _ {A : Type 0} (test : A → Bool) (f : A → ℕ) where
  -- it is no smaller than any of them, and smaller than a bound on all of them
  pub most-of : (xs : List A) (x : A) → Memᴰ x xs → test x ≡ true → f x ≤ most test f xs
  most-of [] x m h = absurd (Memᴰ.not-nil m)
  most-of (y ∷ xs) x m h = ⊎_elim (λ e. omega (arith, ap (λ z. on (test z) (f z)) (sym e), ap (λ b. on b (f x)) h)) (λ k. omega (arith, most-of xs x k h)) (Memᴰ.cases_cons m)

  pub most-less : (n : ℕ) → 0 < n → (xs : List A) → ((x : A) → Memᴰ x xs → test x ≡ true → f x < n) → most test f xs < n
  most-less n z [] h = z
  most-less n z (x ∷ xs) h = go (test x) (h x (Memᴰ.head refl)) (most-less n z xs (λ y m. h y (Memᴰ.tail m)))
    where
      go : (b : Bool) → (b ≡ true → f x < n) → most test f xs < n → max (on b (f x)) (most test f xs) < n
      go true h ih = omega (arith, h refl, ih)
      go false h ih = omega (arith, ih)

pub most-map : {A C : Type 0} (test : C → Bool) (f : C → ℕ) (g : A → C) (xs : List A) → most test f (map g xs) ≡ most (λ x. test (g x)) (λ x. f (g x)) xs
most-map test f g [] = refl
most-map test f g (x ∷ xs) = ap (max (on (test (g x)) (f (g x)))) (most-map test f g xs)

-- stations and lines with their paths to the HV station
module _ (path_of : Vertex → List End) where
  -- the most breakers on a path that passes an end
  abbrev pub in-series : List Vertex → (End → Bool) → End → ℕ
  in-series vs B q = most (λ v. has q (path_of v)) (λ v. count_of B (path_of v)) vs

  -- some station or line lies behind an end
  abbrev pub some_behind : List Vertex → End → Bool
  some_behind vs q = any (λ v. has q (path_of v)) vs

  module _ (up : End → List End) (vs : List Vertex) (ways : (v : Vertex) → Memᴰ v vs → Way up (path_of v)) (B : End → Bool) (q : End) (f : B q ≡ false) where
    -- the breakers on a path, with one more at q
    counted : (b : Bool) (v : Vertex) → Memᴰ v vs → has q (path_of v) ≡ b → count_of (with B q) (path_of v) ≡ count_of B (path_of v) + on b 1
    counted b v m h = count-with up B q f (path_of v) (ways v m) ∙ ap (λ x. count_of B (path_of v) + on x 1) h

    in-series-of : (C : End → Bool) (p : End) (v : Vertex) → Memᴰ v vs → has p (path_of v) ≡ true → count_of C (path_of v) ≤ in-series vs C p
    in-series-of C p v m h = most-of (λ v. has p (path_of v)) (λ v. count_of C (path_of v)) vs v m h

    in-series-less : (C : End → Bool) (p : End) (n : ℕ) → 0 < n → ((v : Vertex) → Memᴰ v vs → has p (path_of v) ≡ true → count_of C (path_of v) < n) → in-series vs C p < n
    in-series-less C p n z h = most-less (λ v. has p (path_of v)) (λ v. count_of C (path_of v)) n z vs h

    counted-grows : (v : Vertex) → Memᴰ v vs → count_of B (path_of v) ≤ count_of (with B q) (path_of v)
    counted-grows v m = omega (arith, counted (has q (path_of v)) v m refl)

    -- Series: with one more breaker at q no path has too many where none had before, and those that pass q had fewer.
    pub series-with : (limit : ℕ) → some_behind vs q ≡ true
        → ((v : Vertex) → Memᴰ v vs → count_of (with B q) (path_of v) ≤ limit) ↔ (((v : Vertex) → Memᴰ v vs → count_of B (path_of v) ≤ limit) × (in-series vs B q < limit))
    series-with limit b = (
      λ h.
          let less : (v : Vertex) → Memᴰ v vs → has q (path_of v) ≡ true → count_of B (path_of v) < limit = λ v m k. omega (arith, h v m, counted true v m k) in
          let x = any_out (λ v. has q (path_of v)) vs b in
          (λ v m. omega (arith, h v m, counted-grows v m), in-series-less B q limit (omega (arith, less x.0 x.1 x.2)) less),
      λ h v m. go (has q (path_of v)) h v m refl,
    )
      where
        go : (b : Bool) → ((v : Vertex) → Memᴰ v vs → count_of B (path_of v) ≤ limit) × (in-series vs B q < limit) → (v : Vertex) → Memᴰ v vs → has q (path_of v) ≡ b → count_of (with B q) (path_of v) ≤ limit
        go true h v m k = omega (arith, counted true v m k, in-series-of B q v m k, h.1)
        go false h v m k = omega (arith, counted false v m k, h.0 v m)

    -- The most with one more breaker at q: one more where every path that passes p passes q; where p is on q's path, q's and one more, if that is more.
    pub in-series-with : (p : End) → p ≢ q → some_behind vs p ≡ true → some_behind vs q ≡ true
        → in-series vs (with B q) p ≡ this (has q (up p)) (in-series vs B p + 1) (this (has p (up q)) (max (in-series vs B p) (in-series vs B q + 1)) (in-series vs B p))
    in-series-with p d bp bq = go (has q (up p)) (has p (up q)) refl refl
      where
        C : End → Bool
        C = with B q

        -- a bound on the paths that pass p, by whether they pass q
        at_most : (n : ℕ) → ((v : Vertex) → Memᴰ v vs → has p (path_of v) ≡ true → (b : Bool) → has q (path_of v) ≡ b → count_of B (path_of v) + on b 1 ≤ n) → in-series vs C p ≤ n
        at_most n h = omega (arith, in-series-less C p (suc n) (omega arith) (λ v m k. omega (arith, counted (has q (path_of v)) v m refl, h v m k (has q (path_of v)) refl)))

        -- no fewer than before
        grows : in-series vs B p ≤ in-series vs C p
        grows = omega (arith, in-series-less B p (suc (in-series vs C p)) (omega arith) (λ v m k. omega (arith, counted-grows v m, in-series-of C p v m k)))

        -- one more than on any path of an end e whose paths pass p and q
        more : (e : End) → some_behind vs e ≡ true → ((v : Vertex) → Memᴰ v vs → has e (path_of v) ≡ true → (has p (path_of v) ≡ true) × (has q (path_of v) ≡ true)) → in-series vs B e < in-series vs C p
        more e b h =
            let less : (v : Vertex) → Memᴰ v vs → has e (path_of v) ≡ true → count_of B (path_of v) < in-series vs C p
            = λ v m k. omega (arith, counted true v m (h v m k).1, in-series-of C p v m (h v m k).0) in
            let x = any_out (λ v. has e (path_of v)) vs b in
            in-series-less B e (in-series vs C p) (omega (arith, less x.0 x.1 x.2)) less

        on-most : (v : Vertex) → Memᴰ v vs → has p (path_of v) ≡ true → (b : Bool) → has q (path_of v) ≡ b → count_of B (path_of v) + on b 1 ≤ max (in-series vs B p) (in-series vs B q + 1)
        on-most v m k true h = omega (arith, in-series-of B q v m h)
        on-most v m k false h = omega (arith, in-series-of B p v m k)

        go : (s t : Bool) → has q (up p) ≡ s → has p (up q) ≡ t → in-series vs C p ≡ this s (in-series vs B p + 1) (this t (max (in-series vs B p) (in-series vs B q + 1)) (in-series vs B p))
        go true t s _ = omega (
          arith,
          at_most (in-series vs B p + 1) (λ v m k b _. omega (arith, in-series-of B p v m k, one b)),
          more p bp (λ v m k. (k, has-onward up p q (path_of v) (ways v m) k s)),
        )
          where
            one : (b : Bool) → on b 1 ≤ 1
            one true = omega arith
            one false = omega arith
        go false true _ t = omega (arith, at_most (max (in-series vs B p) (in-series vs B q + 1)) on-most, grows, more q bq (λ v m k. (has-onward up q p (path_of v) (ways v m) k t, k)))
        go false false s t = omega (arith, at_most (in-series vs B p) apart, grows)
          where
            apart : (v : Vertex) → Memᴰ v vs → has p (path_of v) ≡ true → (b : Bool) → has q (path_of v) ≡ b → count_of B (path_of v) + on b 1 ≤ in-series vs B p
            apart v m k true h = absurd (true≢false (sym (one-onward up p q d (path_of v) (ways v m) k h s) ∙ t))
            apart v m k false h = omega (arith, in-series-of B p v m k)
