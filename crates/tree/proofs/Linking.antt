-- How the lists of closed ends grow, from the last code to the first.
use Prim.Native.Nat.{ℕ, ◌*◌, ◌-◌, ◌≤◌, ◌<◌}
use mathlib.Core.Path.{◌≡◌, refl, sym, ap, ◌∙◌, subst}
use mathlib.Core.Bool.{true, false}
use mathlib.Core.Logic.{◌≢◌}
use mathlib.Core.List.{List, ◌∷◌}
use native.Mathlib.Decide.{ℕ_discrete}
use native.Mathlib.Omega.{arith}
use lib.Dec.{eqb}
use lib.ListN.{length, get_or, set}
use lib.Seq.{get_or-set_same, get_or-set_other}
use borrow.Author.Tests.{eq-eqb, ne_eqb}
use Rattle.std.specs.Prelude.{Option, None, Some}
use Rattle.model.specs.Lists.{keep}
use Rattle.model.specs.Network.{Network}
use Rattle.model.specs.Paths.{End, is_open, station_at}
use Rattle.theory.specs.Reading.{Read}
use Rattle.network.specs.There.{StationThere, LineThere}
use Rattle.tree.specs.Linked.{end_code, code_end, EndHeld, Chain, over, link, ends_at}
use Rattle.tree.specs.Held.{HoldsLists}
use Rattle.tree.specs.Queue.{at_above, LinkedAbove}
use Rattle.tree.specs.declared.Lists.{Lists}
use Rattle.tree.proofs.Chains.{whole-chain}
use Rattle.tree.proofs.Fitting.{read_fits}
use Rattle.tree.proofs.Codes.{above-none, above-all, above-closed, above_open}

-- a list whose codes are all above c keeps its ends when the end after c changes
chain-set : {nexts : List (Option ℕ)} {h : Option ℕ} {es : List End} (c : ℕ) (v : Option ℕ) → 1 ≤ c → ((d : ℕ) → h ≡ Some d → c < d) → Chain nexts h es → Chain (set nexts (c - 1) v) h es
chain-set c v a f over = over
chain-set {nexts} c v a f (link {c = h} {es} p q g t) =
    link p q (λ d e. g d (sym same ∙ e)) (subst (λ n. Chain (set nexts (c - 1) v) n es) (sym same) (chain-set c v a (λ d e. omega (arith, g d e, f h refl)) t))
  where
    same : get_or (set nexts (c - 1) v) (h - 1) None ≡ get_or nexts (h - 1) None
    same = get_or-set_other nexts (c - 1) (h - 1) v None (omega (arith, f h refl))

-- nothing is one thing and none
never : {o : Option ℕ} {d : ℕ} → o ≡ None → o ≡ Some d → ⊥
never p q = let z : ◌≡◌ {A = ℕ} 0 1 = cc in omega arith

one : {o : Option ℕ} {c d : ℕ} → o ≡ Some c → o ≡ Some d → c ≡ d
one p q = cc

module _ (N : Network) where
  pub linked-start : (x : Lists) → ((k : ℕ) → get_or x.firsts k None ≡ None) → LinkedAbove N (2 * length N.lines) x
  unfolding keep
  linked-start x z = record {
    lists = λ s a b. rw (z (s - 1), above-none N) over;
    above = λ s a b d e. absurd (never (z (s - 1)) e);
  }

  pub linked-end : (x : Lists) → Read N → LinkedAbove N 0 x → HoldsLists N x
  linked-end x d l = record {
    has = λ s i. record { low = i.low; high = omega (arith, i.high, (read_fits N d).stations); listed = (ends_at N s, whole s i) };
    ends = λ s i. whole-chain (whole s i);
  }
    where
      whole : (s : ℕ) → StationThere N s → Chain x.nexts (get_or x.firsts (s - 1) None) (ends_at N s)
      whole s i = subst (λ es. Chain x.nexts (get_or x.firsts (s - 1) None) (keep (λ e. eqb (station_at N e) s) es)) (above-all N) (l.lists s i.low i.high)

  module _ (c : ℕ) (a : 1 ≤ c) (b : c ≤ 2 * length N.lines) (chains nexts : List (Option ℕ)) (l : LinkedAbove N c (record { firsts = chains; nexts = nexts })) where
    -- an open end is in no list
    linked-open : is_open N (code_end c) ≡ true → LinkedAbove N (c - 1) (record { firsts = chains; nexts = nexts })
    linked-open o = record {
      lists = λ s p q. rw (above_open N c a b o) (l.lists s p q);
      above = λ s p q d e. omega (arith, l.above s p q d e);
    }

    at_here : (s : ℕ) → is_open N (code_end c) ≡ false → station_at N (code_end c) ≡ s → at_above N s (c - 1) ≡ code_end c ∷ at_above N s c
    unfolding keep
    at_here s o e = ap (keep (λ e. eqb (station_at N e) s)) (above-closed N c a b o) ∙ rw (eq-eqb (station_at N (code_end c)) s e, keep)

    at_other : (s : ℕ) → is_open N (code_end c) ≡ false → station_at N (code_end c) ≢ s → at_above N s (c - 1) ≡ at_above N s c
    unfolding keep
    at_other s o n = ap (keep (λ e. eqb (station_at N e) s)) (above-closed N c a b o) ∙ rw (ne_eqb (station_at N (code_end c)) s n, keep)

    -- a closed end comes first in the list of its station
    linked-closed : (t : ℕ) → t ≡ station_at N (code_end c) → 1 ≤ t → t ≤ length chains → c ≤ length nexts → c ≤ 1536 → is_open N (code_end c) ≡ false
        → LinkedAbove N (c - 1) (record { firsts = set chains (t - 1) (Some c); nexts = set nexts (c - 1) (get_or chains (t - 1) None) })
    linked-closed t st t1 tn cn room o = record {
      lists = λ s p q. lists s p q (ℕ_discrete s t);
      above = λ s p q d e. above s p q d e (ℕ_discrete s t);
    }
      where
        here : (s : ℕ) → s ≡ t → get_or (set chains (t - 1) (Some c)) (s - 1) None ≡ Some c
        here s e = ap (λ n. get_or (set chains (t - 1) (Some c)) (n - 1) None) e ∙ get_or-set_same chains (t - 1) (Some c) None (omega arith)

        other : (s : ℕ) → 1 ≤ s → s ≢ t → get_or (set chains (t - 1) (Some c)) (s - 1) None ≡ get_or chains (s - 1) None
        other s p n = get_or-set_other chains (t - 1) (s - 1) (Some c) None (λ e. n (omega arith))

        follows : get_or (set nexts (c - 1) (get_or chains (t - 1) None)) (c - 1) None ≡ get_or chains (t - 1) None
        follows = get_or-set_same nexts (c - 1) (get_or chains (t - 1) None) None (omega arith)

        kept : (s : ℕ) → 1 ≤ s → s ≤ length N.stations → Chain (set nexts (c - 1) (get_or chains (t - 1) None)) (get_or chains (s - 1) None) (at_above N s c)
        kept s p q = chain-set c (get_or chains (t - 1) None) a (l.above s p q) (l.lists s p q)

        lists : (s : ℕ) → 1 ≤ s → s ≤ length N.stations → Dec (s ≡ t) → Chain (set nexts (c - 1) (get_or chains (t - 1) None)) (get_or (set chains (t - 1) (Some c)) (s - 1) None) (at_above N s (c - 1))
        lists s p q (yes e) =
            rw (here s e, at_here s o (sym st ∙ sym e))
            (link a room (λ d f. l.above s p q d (ap (λ n. get_or chains (n - 1) None) e ∙ sym follows ∙ f))
            (subst (λ n. Chain (set nexts (c - 1) (get_or chains (t - 1) None)) n (at_above N s c)) (ap (λ n. get_or chains (n - 1) None) e ∙ sym follows) (kept s p q)))
        lists s p q (no n) = rw (other s p n, at_other s o (λ e. n (sym e ∙ sym st))) (kept s p q)

        above : (s : ℕ) → 1 ≤ s → s ≤ length N.stations → (d : ℕ) → get_or (set chains (t - 1) (Some c)) (s - 1) None ≡ Some d → Dec (s ≡ t) → c - 1 < d
        above s p q d e (yes f) = omega (arith, one (here s f) e)
        above s p q d e (no n) = omega (arith, l.above s p q d (sym (other s p n) ∙ e))

  -- an end with its code
  module _ (e : End) (c : ℕ) (p : c ≡ end_code e) (h : EndHeld c e) (i : LineThere N e.line) (x : Lists) where
    low : c ≤ 2 * length N.lines
    low = omega (arith, ap (λ (f : End). f.line) h.end, i.high, h.low)

    above : LinkedAbove N (end_code e) x → LinkedAbove N c x
    above l = subst (λ n. LinkedAbove N n x) (sym p) l

    pub insert-open : is_open N e ≡ true → LinkedAbove N (end_code e) x → LinkedAbove N (end_code e - 1) x
    insert-open o l = subst (λ n. LinkedAbove N (n - 1) x) p (linked-open c h.low low x.firsts x.nexts (above l) (ap (is_open N) h.end ∙ o))

    pub insert-closed : (t : ℕ) → t ≡ station_at N e → 1 ≤ t → t ≤ length x.firsts → c ≤ length x.nexts → is_open N e ≡ false → LinkedAbove N (end_code e) x
        → LinkedAbove N (end_code e - 1) (record { firsts = set x.firsts (t - 1) (Some c); nexts = set x.nexts (c - 1) (get_or x.firsts (t - 1) None) })
    insert-closed t st t1 tn cn o l =
        subst (λ n. LinkedAbove N (n - 1) (record { firsts = set x.firsts (t - 1) (Some c); nexts = set x.nexts (c - 1) (get_or x.firsts (t - 1) None) })) p
        (linked-closed c h.low low x.firsts x.nexts (above l) t (st ∙ ap (station_at N) (sym h.end)) t1 tn cn h.high (ap (is_open N) h.end ∙ o))
