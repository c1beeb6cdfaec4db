-- The closed ends at a station but for the one that its path begins with: the near ends of the lines that leave it.
use Prim.Native.Nat.{ℕ, ◌≤◌}
use mathlib.Core.Path.{◌≡◌, refl, sym, ap, ◌∙◌}
use mathlib.Core.Bool.{true, false, not}
use mathlib.Core.Logic.{⊎_elim}
use mathlib.Core.List.{List, [], ◌∷◌, Memᴰ}
use native.Mathlib.Omega.{arith}
use lib.ListN.{length}
use lib.Dec.{eqb}
use borrow.Author.Tests.{eqb-true, eqb-false, eq-eqb, ne_eqb, not-true}
use Rattle.std.specs.Prelude.{Option, None, Some}
use Rattle.model.specs.Network.{Network}
use Rattle.model.specs.Paths.{station, line, End, is_open, station_at, closed_ends, is_hv}
use Rattle.model.specs.Outage.{path_to_hv}
use Rattle.graphs.specs.Graph.{NoRepeat}
use Rattle.theory.specs.Reading.{Read}
use Rattle.theory.specs.Ends.{in-keep, keep-in, closed-end, in-closed, closed_in}
use Rattle.theory.specs.Radial.{Rules, In}
use Rattle.theory.specs.Forest.{end-first}
use Rattle.theory.specs.Behind.{keep-once, closed-once, side-of}
use Rattle.tree.specs.Linked.{ends_at}
use Rattle.tree.specs.Outwards.{near_end, feeder}
use Rattle.tree.specs.Queue.{of_feeder, leaving}
use Rattle.tree.specs.Feeding.{Near, FarEnd}
use Rattle.tree.proofs.Near.{near-is, feeder-none, feeder-is, near-end, hv-path}

-- the ends are the near ends of the lines whose near station it is, and these have one feeding line
pub record Leaves (N : Network) (s : ℕ) (es : List End) (fed : ℕ) : Type 0 where
  pub inside : (e : End) → Memᴰ e es → In N (line e.line)
  pub sides : (e : End) → Memᴰ e es → (1 ≤ e.side) × (e.side ≤ 2)
  pub near : (e : End) → Memᴰ e es → near_end N e.line ≡ e
  pub at : (e : End) → Memᴰ e es → station_at N e ≡ s
  pub feeds : (e : End) → Memᴰ e es → feeder N e.line ≡ fed
  pub all : (l : ℕ) → In N (line l) → station_at N (near_end N l) ≡ s → Memᴰ (near_end N l) es
  pub once : NoRepeat es

module _ (N : Network) where
  -- what an end that leaves a station is
  leaving-is : (s : ℕ) (fed : Option ℕ) (e : End) → Memᴰ e (leaving fed (ends_at N s)) → (is_open N e ≡ false) × (station_at N e ≡ s) × (of_feeder fed e ≡ false)
  leaving-is s fed e m =
      let a = keep-in (λ e. not (of_feeder fed e)) e (ends_at N s) m in
      let b = keep-in (λ e. eqb (station_at N e) s) e (closed_ends N) a.0 in
      (closed_in N e b.0, eqb-true (station_at N e) s b.1, not-true _ a.1)

  is-leaving : (s : ℕ) (fed : Option ℕ) (e : End) → is_open N e ≡ false → station_at N e ≡ s → of_feeder fed e ≡ false → Memᴰ e (leaving fed (ends_at N s))
  is-leaving s fed e c h n =
      in-keep (λ e. not (of_feeder fed e)) e (ends_at N s) (in-keep (λ e. eqb (station_at N e) s) e (closed_ends N) (in-closed N e c) (eq-eqb (station_at N e) s h)) (ap not n)

  leaving-once : (s : ℕ) (fed : Option ℕ) → NoRepeat (leaving fed (ends_at N s))
  leaving-once s fed = keep-once (λ e. not (of_feeder fed e)) (ends_at N s) (keep-once (λ e. eqb (station_at N e) s) (closed_ends N) (closed-once N))

module _ (N : Network) (d : Read N) (r : Rules N) where
  -- every closed end at an HV station leaves it
  pub leaves-hv : (s : ℕ) → is_hv N s ≡ true → Leaves N s (leaving None (ends_at N s)) 0
  leaves-hv s h = record {
    inside = λ e m. let x = closed-end N e (leaving-is N s None e m).0 in (x.0, x.1);
    sides = λ e m. side-of N e (leaving-is N s None e m).0;
    near = λ e m. near-is N e.line e [] (path e m);
    at = λ e m. (leaving-is N s None e m).1;
    feeds = λ e m. feeder-none N e.line e (path e m);
    all = λ l i p. let n = near-end N d r l i in is-leaving N s None (near_end N l) n.closed p refl;
    once = leaving-once N s None;
  }
    where
      empty : (e : End) → station_at N e ≡ s → path_to_hv N (station (station_at N e)) ≡ []
      empty e p = ap (λ t. path_to_hv N (station t)) p ∙ hv-path N d r s h

      path : (e : End) → Memᴰ e (leaving None (ends_at N s)) → path_to_hv N (line e.line) ≡ e ∷ []
      path e m =
          let x = leaving-is N s None e m in
          ⊎_elim (λ p. p ∙ ap (λ es. e ∷ es) (empty e x.1)) (λ p. absurd (let q = empty e x.1 in let z : ◌≡◌ {A = ℕ} 0 1 = cc in omega arith)) (end-first N d r e x.0)

  -- and every closed end but that of the line by which its path begins leaves any other station
  pub leaves-far : (s : ℕ) (f : End) → FarEnd N s f → Leaves N s (leaving (Some f.line) (ends_at N s)) f.line
  leaves-far s f h = record {
    inside = λ e m. let x = closed-end N e (leaving-is N s (Some f.line) e m).0 in (x.0, x.1);
    sides = λ e m. side-of N e (leaving-is N s (Some f.line) e m).0;
    near = λ e m. near-is N e.line e _ (path e m);
    at = λ e m. (leaving-is N s (Some f.line) e m).1;
    feeds = λ e m. feeder-is N e.line e f _ (path e m);
    all = λ l i p. let n = near-end N d r l i in is-leaving N s (Some f.line) (near_end N l) n.closed p (ne_eqb (near_end N l).line f.line (λ z. never l n p z));
    once = leaving-once N s (Some f.line);
  }
    where
      above : (e : End) → station_at N e ≡ s → path_to_hv N (station (station_at N e)) ≡ f ∷ path_to_hv N (line f.line)
      above e p = ap (λ t. path_to_hv N (station t)) p ∙ h.path

      path : (e : End) → Memᴰ e (leaving (Some f.line) (ends_at N s)) → path_to_hv N (line e.line) ≡ e ∷ f ∷ path_to_hv N (line f.line)
      path e m =
          let x = leaving-is N s (Some f.line) e m in
          ⊎_elim (λ p. p ∙ ap (λ es. e ∷ es) (above e x.1)) (λ p. absurd (let q = above e x.1 in let z : e ≡ f = cc in eqb-false e.line f.line x.2 (ap (λ (y : End). y.line) z))) (end-first N d r e x.0)

      -- the feeding line does not leave the station: its path would go on with itself
      never : (l : ℕ) → Near N l (near_end N l) → station_at N (near_end N l) ≡ s → (near_end N l).line ≡ f.line → ⊥
      never l n p z = omega (
        arith,
        ap length n.path,
        ap length (above (near_end N l) p),
        ap (λ k. length (path_to_hv N (line k))) (sym n.own ∙ z),
      )
