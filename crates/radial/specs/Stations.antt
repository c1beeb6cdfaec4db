-- What the loops over the stations' labels keep: the station's own numbers, a label renamed, the labels of HV stations marked.
use Rattle.std.specs.Prelude.{ℕ, ◌+◌, ◌≤◌, ◌<◌, ◌≡◌, refl, Bool, true, false, ◌≢◌, List, length, get_or, set}
use Rattle.std.specs.Coded.{×_prop, le_prop, Coded-set, coded_bool}
use mathlib.Core.HLevel.{⊥_prop}
use mathlib.Core.Logic.{∥∥₁_elim, ∥∥₁_map}
use Rattle.std.proofs.Common.{sym, ap, ◌∙◌, subst, true≢false, arith, length-set, get_or-set_same, get_or-set_other}
use Rattle.std.proofs.Math.Decide.{ℕ_discrete, dec_lt}
use Rattle.model.specs.Network.{Network}
use Rattle.model.specs.Paths.{is_hv}
use Rattle.model.specs.Rules.{some_joined, is_supplied}
use Rattle.graphs.specs.Labels.{relabel, relabel-same, relabel-other}
use Rattle.theory.specs.Reading.{Read}
use Rattle.network.specs.There.{StationThere}
use Rattle.theory.specs.Labels.{label_of, Labelled, hv-in, labelled-joined, labelled-supplied}

-- the parts of a network that is read: two stations have one label just where a path joins them
pub record HoldsParts (N : Network) (labels : List ℕ) : Type 0 where
  pub read : Read N
  pub labelled : Labelled N (length N.lines) labels

-- a file has at most 512 stations
pub few-stations : {N : Network} → Read N → length N.stations ≤ 512
few-stations d = omega (arith, d.station_count, d.head.stations.high)

pub number_step : (labels : List ℕ) (i : ℕ) → i < length labels → ((k : ℕ) → k < i → get_or labels k 0 ≡ k + 1) → (k : ℕ) → k < i + 1 → get_or (set labels i (i + 1)) k 0 ≡ k + 1
number_step labels i l h k b = go (ℕ_discrete k i)
  where
    go : Dec (k ≡ i) → get_or (set labels i (i + 1)) k 0 ≡ k + 1
    go (yes e) = subst (λ n. get_or (set labels i (i + 1)) n 0 ≡ n + 1) (sym e) (get_or-set_same labels i (i + 1) 0 l)
    go (no e) = get_or-set_other labels i k (i + 1) 0 e ∙ h k (omega arith)

-- before i the label x is y, and from i on all is as it was
pub record Renamed (x y i : ℕ) (before labels : List ℕ) : Type 0 where
  pub done : (k : ℕ) → k < i → get_or labels k 0 ≡ relabel x y (get_or before k 0)
  pub left : (k : ℕ) → i ≤ k → get_or labels k 0 ≡ get_or before k 0

module _ {x y i : ℕ} {before labels : List ℕ} (r : Renamed x y i before labels) where
  here : get_or labels i 0 ≡ get_or before i 0
  here = r.left i (omega arith)

  pub renamed-stay : get_or labels i 0 ≢ x → Renamed x y (i + 1) before labels
  renamed-stay d = record { done = λ k b. go k b (ℕ_discrete k i); left = λ k b. r.left k (omega arith) }
    where
      go : (k : ℕ) → k < i + 1 → Dec (k ≡ i) → get_or labels k 0 ≡ relabel x y (get_or before k 0)
      go k b (yes e) = subst (λ n. get_or labels n 0 ≡ relabel x y (get_or before n 0)) (sym e) (here ∙ sym (relabel-other x y (get_or before i 0) (λ q. d (here ∙ q))))
      go k b (no e) = r.done k (omega arith)

  pub renamed-set : i < length labels → get_or labels i 0 ≡ x → Renamed x y (i + 1) before (set labels i y)
  renamed-set l d = record { done = λ k b. go k b (ℕ_discrete k i); left = λ k b. get_or-set_other labels i k y 0 (omega arith) ∙ r.left k (omega arith) }
    where
      go : (k : ℕ) → k < i + 1 → Dec (k ≡ i) → get_or (set labels i y) k 0 ≡ relabel x y (get_or before k 0)
      go k b (yes e) = subst (λ n. get_or (set labels i y) n 0 ≡ relabel x y (get_or before n 0)) (sym e) (get_or-set_same labels i y 0 l ∙ sym (relabel-same x y (get_or before i 0) (sym here ∙ d)))
      go k b (no e) = get_or-set_other labels i k y 0 e ∙ r.done k (omega arith)

-- of the stations before s, the labels of the HV stations are marked by 1, and no others
pub record Marked (N : Network) (labels : List ℕ) (s : ℕ) (marks : List Bool) : Type 0 where
  pub long : length marks ≡ 513
  pub on : (h : ℕ) → h < s → is_hv N h ≡ true → get_or marks (label_of labels h) false ≡ true
  pub back : (x : ℕ) → get_or marks x false ≡ true → (h : ℕ) × (h < s) × (is_hv N h ≡ true) × (label_of labels h ≡ x)

-- of the stations before s, no two HV stations have one label
pub record Apart (N : Network) (labels : List ℕ) (s : ℕ) : Type 0 where
  pub differ : (g h : ℕ) → g < h → h < s → is_hv N g ≡ true → is_hv N h ≡ true → label_of labels g ≢ label_of labels h

-- an HV station among the first s is before s, if s is none
not_last : (N : Network) (s h : ℕ) → is_hv N s ≡ false → h < s + 1 → is_hv N h ≡ true → h < s
not_last N s h q b p = go (ℕ_discrete h s)
  where
    go : Dec (h ≡ s) → h < s
    go (yes e) = absurd (true≢false (sym p ∙ ap (is_hv N) e ∙ q))
    go (no e) = omega arith

-- station s follows
module _ {N : Network} {labels : List ℕ} {s : ℕ} where
  pub apart-skip : Apart N labels s → is_hv N s ≡ false → Apart N labels (s + 1)
  apart-skip a q = record { differ = λ g h b c p r. a.differ g h b (not_last N s h q c r) p r }

  module _ {marks : List Bool} (m : Marked N labels s marks) where
    pub marked-skip : is_hv N s ≡ false → Marked N labels (s + 1) marks
    marked-skip q = record {
      long = m.long;
      on = λ h b p. m.on h (not_last N s h q b p) p;
      back = λ x e. let t = m.back x e in (t.0, omega (arith, t.1), t.2, t.3);
    }

    -- the label of station s
    module _ {x : ℕ} (e : x ≡ label_of labels s) where
      pub marked-set : is_hv N s ≡ true → x ≤ 512 → Marked N labels (s + 1) (set marks x true)
      marked-set q l = record {
        long = length-set marks x true ∙ m.long;
        on = λ h b p. on h b p (ℕ_discrete (label_of labels h) x);
        back = λ y r. back y r (ℕ_discrete y x);
      }
        where
          on : (h : ℕ) → h < s + 1 → is_hv N h ≡ true → Dec (label_of labels h ≡ x) → get_or (set marks x true) (label_of labels h) false ≡ true
          on h b p (yes t) = ap (λ n. get_or (set marks x true) n false) t ∙ get_or-set_same marks x true false (omega (arith, m.long))
          on h b p (no t) = get_or-set_other marks x (label_of labels h) true false t ∙ m.on h (go (ℕ_discrete h s)) p
            where
              go : Dec (h ≡ s) → h < s
              go (yes u) = absurd (t (ap (label_of labels) u ∙ sym e))
              go (no u) = omega arith

          back : (y : ℕ) → get_or (set marks x true) y false ≡ true → Dec (y ≡ x) → (h : ℕ) × (h < s + 1) × (is_hv N h ≡ true) × (label_of labels h ≡ y)
          back y r (yes t) = (s, omega arith, q, sym e ∙ sym t)
          back y r (no t) = let u = m.back y (sym (get_or-set_other marks x y true false t) ∙ r) in (u.0, omega (arith, u.1), u.2, u.3)

      pub apart_next : Apart N labels s → get_or marks x false ≡ false → Apart N labels (s + 1)
      apart_next a z = record { differ = λ g h b c p r. go g h b c p r (ℕ_discrete h s) }
        where
          go : (g h : ℕ) → g < h → h < s + 1 → is_hv N g ≡ true → is_hv N h ≡ true → Dec (h ≡ s) → label_of labels g ≢ label_of labels h
          go g h b c p r (yes u) = λ t. true≢false (sym (m.on g (omega arith) p) ∙ ap (λ n. get_or marks n false) (sym (e ∙ sym (t ∙ ap (label_of labels) u))) ∙ z)
          go g h b c p r (no u) = a.differ g h b (omega arith) p r

module _ {N : Network} (d : ∥ Read N ∥₁) where
  -- an HV station is a station
  hv-there : (h : ℕ) → is_hv N h ≡ true → (1 ≤ h) × (h ≤ length N.stations)
  hv-there h p = ∥∥₁_elim d (×_prop le_prop le_prop) (λ q. hv-in N q h p)

  pub marked_start : (labels : List ℕ) (marks : List Bool) → length marks ≡ 513 → ((x : ℕ) → get_or marks x false ≡ false) → Marked N labels 1 marks
  marked_start labels marks l z = record {
    long = l;
    on = λ h b p. absurd (omega (arith, (hv-there h p).0));
    back = λ x e. absurd (true≢false (sym e ∙ z x));
  }

  pub apart-start : (labels : List ℕ) → Apart N labels 1
  apart-start labels = record { differ = λ g h b c p r. absurd (omega (arith, (hv-there g p).0)) }

module _ {N : Network} {labels : List ℕ} (m : ∥ HoldsParts N labels ∥₁) where
  pub is_read : ∥ Read N ∥₁
  is_read = ∥∥₁_map m (λ q. q.read)

  -- a label marked before: two HV stations are joined
  pub marked-joined : {s x : ℕ} {marks : List Bool} → Marked N labels s marks → x ≡ label_of labels s → is_hv N s ≡ true → get_or marks x false ≡ true → true ≡ some_joined N
  marked-joined {s} {x} k e p r = ∥∥₁_elim m (Coded-set coded_bool _ _) (λ q.
      let t = k.back x r in
      sym ((labelled-joined N q.read labels q.labelled).1 (t.0, s, t.2, p, (λ p. omega (arith, p, t.1)), t.3 ∙ e)))

  pub apart-joined : {s : ℕ} → length N.stations < s → Apart N labels s → false ≡ some_joined N
  apart-joined l a = go (some_joined N) refl
    where
      never : (g h : ℕ) → is_hv N g ≡ true → is_hv N h ≡ true → g ≢ h → label_of labels g ≡ label_of labels h → Dec (g < h) → ⊥
      never g h p q e t (yes b) = a.differ g h b (omega (arith, (hv-there is_read h q).1)) p q t
      never g h p q e t (no b) = a.differ h g (omega arith) (omega (arith, (hv-there is_read g p).1)) q p (sym t)

      go : (b : Bool) → some_joined N ≡ b → false ≡ b
      go true e = absurd (∥∥₁_elim m ⊥_prop (λ q. let j = (labelled-joined N q.read labels q.labelled).0 e in never j.0 j.1 j.2 j.3 j.4 j.5 (dec_lt j.0 j.1)))
      go false e = refl

  -- a station is supplied just where its label is marked
  module _ {marks : List Bool} (k : Marked N labels (length N.stations + 1) marks) {s x : ℕ} (e : x ≡ label_of labels s) (l : StationThere N s) where
    from-mark : get_or marks x false ≡ true → is_supplied N s ≡ true
    from-mark r = ∥∥₁_elim m (Coded-set coded_bool _ _) (λ q. let t = k.back x r in (labelled-supplied N q.read labels q.labelled s l.low l.high).1 (t.0, t.2, sym (t.3 ∙ e)))

    to-mark : is_supplied N s ≡ true → get_or marks x false ≡ true
    to-mark r = ∥∥₁_elim m (Coded-set coded_bool _ _) (λ q.
        let t = (labelled-supplied N q.read labels q.labelled s l.low l.high).0 r in
        ap (λ n. get_or marks n false) (e ∙ t.2) ∙ k.on t.0 (omega (arith, (hv-there is_read t.0 t.1).1)) t.1)

    pub marked-is : get_or marks x false ≡ is_supplied N s
    marked-is = go (get_or marks x false) refl (is_supplied N s) refl
      where
        go : (a : Bool) → get_or marks x false ≡ a → (b : Bool) → is_supplied N s ≡ b → a ≡ b
        go true r b q = sym (from-mark r) ∙ q
        go false r true q = sym r ∙ to-mark q
        go false r false q = refl
