-- The network with a set's breakers: what is known of it, and what is the same as without them.
use Prim.Native.Nat.{ℕ, zero, suc, ◌+◌, ◌≤◌, ◌<◌}
use mathlib.Core.Path.{◌≡◌, refl, sym, ap, ◌∙◌, subst}
use mathlib.Core.List.{List, [], ◌∷◌, Sublistᴰ}
use native.Mathlib.Numerals.{add-one}
use native.Mathlib.Omega.{arith}
use lib.ListN.{length, get_or, take, drop}
use lib.Seq.{take-suc, take_all}
use Rattle.model.specs.Network.{Network}
use Rattle.model.specs.Paths.{End, line}
use Rattle.model.specs.Outage.{customers_behind, total}
use Rattle.model.specs.Sets.{place_numbers, place_at, with_breaker, with_breakers, set_total}
use Rattle.savings.specs.Shape.{Same, path_to_hv-same, customers_behind-same}
use Rattle.savings.specs.Breakers.{with_breakers-same, with_breakers-append}
use Rattle.theory.specs.Reading.{Read}
use Rattle.theory.specs.Radial.{Rules}
use Rattle.theory.specs.Best.{Accepted, member-place, set-valid}
use Rattle.theory.specs.With.{with_read, with-rules}
use Rattle.network.specs.There.{LineThere, PlaceThere, place_end}
use Rattle.network.specs.Changed.{with_state, breaker-is-state}
use Rattle.network.specs.Found.{found}
use Rattle.tree.specs.Outwards.{first_end, near_end, second_line, feeder, fed_by}
use Rattle.tree.specs.declared.Tree.{Tree}
use Rattle.tree.specs.Held.{lines_in, HoldsOutwards}
use Rattle.outage.specs.declared.Behind.{Behind}
use Rattle.outage.specs.Held.{HoldsCustomers}
use Rattle.marks.proofs.Marking.{place-fits}

-- breakers change no place
places_same : (S : List ℕ) (N : Network) → (with_breakers N S).places ≡ N.places
unfolding with_breakers with_breaker
places_same [] N = refl
places_same (p ∷ S) N = places_same S (with_breaker N (place_at N p))

-- a network with the breakers of a set's first i members, and the next member
module _ (N : Network) (d : Read N) (S : List ℕ) (s : Sublistᴰ S (place_numbers N)) (b : Network) (i : ℕ) (e : b ≡ with_breakers N (take i S)) (h : i < length S) where
  abbrev p : ℕ
  p = get_or S i 0

  read : Read b
  read = subst Read (sym e) (with_read (take i S) N d)

  pub place-there : PlaceThere b p
  place-there =
      let m = member-place N S (length S) (omega arith) (subst (λ T. Sublistᴰ T (place_numbers N)) (sym (take_all (length S) S (omega arith))) s) i h in record {
        low = m.0;
        high = subst (λ ps. p ≤ length ps) (sym (ap (λ (M : Network). M.places) e ∙ places_same (take i S) N)) m.1;
      }

  module _ {f : End} (g : f ≡ place_end (place_at b p)) where
    pub line-there : LineThere b f.line
    line-there =
        let o = place-fits b read p place-there.low place-there.high in
        subst (λ (e : End). LineThere b e.line) (sym g) (record { low = o.line.low; high = o.line.high })

    -- its breaker is added
    pub one_more : {M : Network} → M ≡ with_state b f.line f.side 1 → M ≡ with_breakers N (take (i + 1) S)
    unfolding with_breakers
    one_more w =
        w ∙ (λ j. with_state b (g j).line (g j).side 1) ∙ sym (breaker-is-state b (place_at b p))
        ∙ ap (λ (M : Network). with_breaker M (place_at M p)) e
        ∙ sym (with_breakers-append (take i S) (p ∷ []) N)
        ∙ ap (with_breakers N) (sym (ap (λ n. take n S) (add-one i) ∙ take-suc S i 0 h))

-- two networks that differ in their breakers alone
module _ (M N : Network) (s : Same M N) where
  near_end-same : (l : ℕ) → near_end M l ≡ near_end N l
  unfolding near_end
  near_end-same l = ap first_end (path_to_hv-same M N s (line l))

  feeder-same : (l : ℕ) → feeder M l ≡ feeder N l
  unfolding feeder
  feeder-same l = ap second_line (path_to_hv-same M N s (line l))

  in_both : {l : ℕ} → l ≤ length M.lines → l ≤ length N.lines
  in_both h = omega (arith, s.line_count)

  line-in : {l : ℕ} → LineThere M l → LineThere N l
  line-in t = record { low = t.low; high = in_both t.high }

  fed_by-same : (l : ℕ) → fed_by M l ≡ fed_by N l
  unfolding fed_by
  fed_by-same l = ap found (feeder-same l)

  outwards-same : (t : Tree) → HoldsOutwards N t → HoldsOutwards M t
  outwards-same t o = record {
    feeders = record { nears = λ l h. o.feeders.nears l (line-in h) ∙ sym (near_end-same l); feeds = λ l h. o.feeders.feeds l (line-in h) ∙ sym (fed_by-same l) };
    listed = λ l h. let x = o.listed l (line-in h) in (x.0, omega (arith, x.1, s.line_count), x.2);
    inside = λ i h. let x = o.inside i (omega (arith, s.line_count)) in record { low = x.low; high = omega (arith, x.high, s.line_count) };
    after = λ i h k. let x = o.after i (omega (arith, s.line_count)) (omega (arith, k, feeder-same (get_or (lines_in t) i 0))) in (x.0, x.1, x.2 ∙ sym (feeder-same (get_or (lines_in t) i 0)));
  }

  customers-same : (b : Behind) → HoldsCustomers N b → HoldsCustomers M b
  customers-same b c l h = c l (line-in h) ∙ sym (customers_behind-same M N s (near_end M l) ∙ ap (customers_behind N) (near_end-same l))

-- an accepted network with a set's breakers
module _ (N : Network) (a : Accepted N) (S : List ℕ) (s : Sublistᴰ S (place_numbers N)) (b : Network) (e : b ≡ with_breakers N S) where
  same : Same b N
  same = subst (λ M. Same M N) (sym e) (with_breakers-same S N (set-valid N a s))

  -- what still holds of it, with the tree and the customers behind the lines of the one without them
  pub still : (t : Tree) (x : Behind) → HoldsOutwards N t → HoldsCustomers N x → Read b × Rules b × HoldsOutwards b t × HoldsCustomers b x
  still t x o k = (
    subst Read (sym e) (with_read S N a.read),
    subst Rules (sym e) (with-rules N a.read a.rules S (set-valid N a s)),
    outwards-same b N same t o,
    customers-same b N same x k,
  )

  pub total-still : {t : ℕ} → t ≡ total b → t ≡ set_total N S
  unfolding set_total
  total-still h = h ∙ ap total e

-- some members of a set of places are a set of places
first_members : {S P : List ℕ} → Sublistᴰ S P → (n : ℕ) → Sublistᴰ (take n S) P
first_members Sublistᴰ.slnil zero = Sublistᴰ.slnil
first_members Sublistᴰ.slnil (suc n) = Sublistᴰ.slnil
first_members (Sublistᴰ.cons s) n = Sublistᴰ.cons (first_members s n)
first_members (Sublistᴰ.cons-cons e s) zero = Sublistᴰ.cons (first_members s zero)
first_members (Sublistᴰ.cons-cons e s) (suc n) = Sublistᴰ.cons-cons e (first_members s n)

later_members : {S P : List ℕ} → Sublistᴰ S P → (n : ℕ) → Sublistᴰ (drop n S) P
later_members Sublistᴰ.slnil zero = Sublistᴰ.slnil
later_members Sublistᴰ.slnil (suc n) = Sublistᴰ.slnil
later_members (Sublistᴰ.cons s) n = Sublistᴰ.cons (later_members s n)
later_members (Sublistᴰ.cons-cons e s) zero = Sublistᴰ.cons-cons e s
later_members (Sublistᴰ.cons-cons e s) (suc n) = Sublistᴰ.cons (later_members s n)

pub some_members : {S P : List ℕ} (n m : ℕ) → Sublistᴰ S P → Sublistᴰ (take n (drop m S)) P
some_members n m s = first_members (later_members s m) n
