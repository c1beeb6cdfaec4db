-- What is noted of lines when others are added.
use Prim.Native.Nat.{ℕ, ◌-◌, ◌≤◌}
use mathlib.Core.Path.{◌≡◌, refl, sym, ap, ◌∙◌, subst}
use mathlib.Core.Logic.{◌⊎◌, inl, inr, ⊎_elim}
use mathlib.Core.List.Memᴰ
use mathlib.Core.List.{List, [], ◌∷◌, ◌++◌, map, append-nil, Memᴰ}
use native.Mathlib.Decide.{ℕ_discrete}
use native.Mathlib.Omega.{arith}
use lib.ListN.{length, set, length-set}
use lib.Seq.{append_snoc, get_or-set_same, get_or-set_other}
use Rattle.std.specs.Prelude.{Option}
use Rattle.model.specs.Network.{Network}
use Rattle.model.specs.Paths.{End}
use Rattle.network.specs.View.{side_number, number_again}
use Rattle.network.specs.Found.{found}
use Rattle.tree.specs.Outwards.{near_end, feeder, fed_by}
use Rattle.tree.specs.Held.{no_feed, feed_in}
use Rattle.tree.specs.Queue.{feed_of, fed_after, Told}
use Rattle.tree.specs.declared.Feed.{Feed}

pub fed-length : (fed : Option ℕ) (lines : List Feed) (es : List End) → length (fed_after fed lines es) ≡ length lines
unfolding fed_after
fed-length fed lines [] = refl
fed-length fed lines (e ∷ es) = fed-length fed (set lines (e.line - 1) (feed_of fed e)) es ∙ length-set lines (e.line - 1) (feed_of fed e)

-- an end that is its line's near end, with room for its line
pub record Placed (N : Network) (fed : ℕ) (e : End) (n : ℕ) : Type 0 where
  pub low : 1 ≤ e.line
  pub high : e.line ≤ n
  pub first : 1 ≤ e.side
  pub second : e.side ≤ 2
  pub near : near_end N e.line ≡ e
  pub feeds : feeder N e.line ≡ fed

module _ (N : Network) (fed : ℕ) where
  -- the line of an end that is its near end, noted
  told-one : (lines : List Feed) (ls : List ℕ) (e : End) → ((l : ℕ) → Memᴰ l ls → 1 ≤ l) → Placed N fed e (length lines)
      → Told N lines ls → Told N (set lines (e.line - 1) (feed_of (found fed) e)) (ls ++ (e.line ∷ []))
  unfolding fed_by
  told-one lines ls e low p t l m = go (ℕ_discrete l e.line) (Memᴰ.append_cases ls m)
    where
      As : ℕ → Feed → Type 0
      As l x = (◌≡◌ {A = End} (record { line = l; side = side_number x.side }) (near_end N l)) × (x.feeder ≡ fed_by N l)

      Noted : ℕ → Type 0
      Noted l = As l (feed_in (set lines (e.line - 1) (feed_of (found fed) e)) l)

      own : Noted e.line
      own = subst (As e.line) (sym (get_or-set_same lines (e.line - 1) (feed_of (found fed) e) no_feed (omega (arith, p.low, p.high))))
          ((λ j. record { line = e.line; side = number_again e.side p.first p.second j }) ∙ sym p.near, ap found (sym p.feeds))

      go : Dec (l ≡ e.line) → Memᴰ l ls ⊎ Memᴰ l (e.line ∷ []) → Noted l
      go (yes s) k = subst Noted (sym s) own
      go (no n) (inl k) =
          let u = low l k in
          subst (As l) (sym (get_or-set_other lines (e.line - 1) (l - 1) (feed_of (found fed) e) no_feed (λ s. n (omega (arith, p.low))))) (t l k)
      go (no n) (inr k) = subst Noted (sym (Memᴰ.eq_of_singleton k)) own

  -- the lines of ends that are their near ends, noted
  pub told-after : (lines : List Feed) (ls : List ℕ) (es : List End) → ((l : ℕ) → Memᴰ l ls → 1 ≤ l)
      → ((e : End) → Memᴰ e es → Placed N fed e (length lines))
      → Told N lines ls → Told N (fed_after (found fed) lines es) (ls ++ map (λ e. e.line) es)
  unfolding fed_after
  told-after lines ls [] low h t = subst (Told N lines) (sym (append-nil ls)) t
  told-after lines ls (e ∷ es) low h t =
      let x = h e (Memᴰ.head refl) in
      let n = length-set lines (e.line - 1) (feed_of (found fed) e) in
      subst (Told N (fed_after (found fed) lines (e ∷ es))) (append_snoc ls e.line (map (λ e. e.line) es))
      (told-after (set lines (e.line - 1) (feed_of (found fed) e)) (ls ++ (e.line ∷ [])) es
      (λ l m. ⊎_elim (λ k. low l k) (λ k. subst (λ n. 1 ≤ n) (sym (Memᴰ.eq_of_singleton k)) x.low) (Memᴰ.append_cases ls m))
      (λ f m. subst (Placed N fed f) (sym n) (h f (Memᴰ.tail m)))
      (told-one lines ls e low x t))
