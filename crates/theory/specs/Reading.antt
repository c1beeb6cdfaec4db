-- What reading gives: the numbers of a network that refusals 1 to 3 let through.
use Rattle.std.specs.Prelude.{ℕ, zero, suc, ◌+◌, ◌≤◌, ◌<◌, ◌≡◌, refl, Bool, true, false, ◌&&◌, List, [], ◌∷◌, map, leb, ltb, eqb, length, get_or}
use Rattle.std.proofs.Common.{sym, ap, ◌∙◌, subst, arith, leb-true, ltb-true, eqb-true}
use Rattle.std.proofs.Math.Bool.{and-eq-true_iff}
use Rattle.std.specs.Prelude.{Option, None, Some}
use Rattle.std.proofs.lemmas.List.{length-map}
use Rattle.model.specs.Lists.{numbered}
use Rattle.model.specs.Answer.{Answer, given, refused, ◌>>=◌}
use Rattle.model.specs.Format.{Record, closed, unclosed, records_of, form_of, after_letter, fields_of, numbers_of, number_of, with_number}
use Rattle.model.specs.declared.Range.{Range}
use Rattle.model.specs.Ranges.{◌to◌, row_n, row_s, row_l, row_p, largest_of, in_range, all_in_range}
use Rattle.model.specs.declared.Head.{Head}
use Rattle.model.specs.Network.{Station, Line, Place, Network, value, Kind, kind_n, kind_s, kind_l, kind_p, check_values, read_record, read_records, head_of, station_of, line_of, place_of, no_line, no_place, state_at, comes_after, well_placed, read_places, read_after_head, read_file, network_of}

-- every element of a list has a property
abbrev pub All : {A : Type 0} → (A → Type 0) → List A → Type 0
All P [] = Unit {0}
All P (x ∷ xs) = P x × All P xs

pub all_map : {A B : Type 0} (P : A → Type 0) (Q : B → Type 0) (f : A → B) → ((x : A) → P x → Q (f x)) → (xs : List A) → All P xs → All Q (map f xs)
all_map P Q f g [] a = tt
all_map P Q f g (x ∷ xs) a = (g x a.0, all_map P Q f g xs a.1)

-- ── answers ──
pub given_eq : {A : Type 0} (a b : A) → given a ≡ given b → a ≡ b
given_eq a b e = cc

pub not-given : {A : Type 0} (n r : ℕ) (a : A) → refused n r ≡ given a → ⊥
not-given n r a e = let z : ◌≡◌ {A = ℕ} 0 1 = cc in omega arith

-- what is given in two steps is given in each
pub in-turn : {A B : Type 0} {P : Type 0} (x : Answer A) (f : A → Answer B) (b : B) → (x >>= f) ≡ given b → ((a : A) → x ≡ given a → f a ≡ given b → P) → P
in-turn (given a) f b h k = k a refl h
in-turn (refused n r) f b h k = absurd (not-given n r b h)

-- ── the numbers of a record ──
not_some : {A : Type 0} (a : A) → None ≡ Some a → ⊥
not_some a e = let z : ◌≡◌ {A = ℕ} 0 1 = cc in omega arith

numbers-length : (fs : List (List ℕ)) (vs : List ℕ) → numbers_of fs ≡ Some vs → length vs ≡ length fs
unfolding numbers_of
numbers-length [] vs h = let e : [] ≡ vs = cc in ap length (sym e)
numbers-length (f ∷ fs) vs h = go (number_of f) (numbers_of fs) refl (λ us. numbers-length fs us) h
  where
    go : (a : Option ℕ) (b : Option (List ℕ)) → numbers_of fs ≡ b → ((us : List ℕ) → numbers_of fs ≡ Some us → length us ≡ length fs) → with_number a b ≡ Some vs → length vs ≡ suc (length fs)
    go None b q ih h = absurd (not_some vs h)
    go (Some n) None q ih h = absurd (not_some vs h)
    go (Some n) (Some us) q ih h = let e : n ∷ us ≡ vs = cc in ap length (sym e) ∙ ap suc (ih us q)

after-length : (letter count : ℕ) (fs : List (List ℕ)) (vs : List ℕ) → after_letter letter count fs ≡ Some vs → length vs ≡ count
unfolding after_letter
after-length letter count [] vs h = absurd (not_some vs h)
after-length letter count ([] ∷ fs) vs h = absurd (not_some vs h)
after-length letter count ((k ∷ []) ∷ fs) vs h = go (eqb k letter && eqb (length fs) count) refl h
  where
    go : (b : Bool) → (eqb k letter && eqb (length fs) count) ≡ b → ◌≡◌ {A = Option (List ℕ)} (elim b as (λ x. Option (List ℕ)) [ true ↦ numbers_of fs | false ↦ None ]) (Some vs) → length vs ≡ count
    go true q h = numbers-length fs vs h ∙ eqb-true (length fs) count ((and-eq-true_iff (eqb k letter) (eqb (length fs) count)).0 q).1
    go false q h = absurd (not_some vs h)
after-length letter count ((k ∷ l ∷ ks) ∷ fs) vs h = absurd (not_some vs h)

form-length : (letter count : ℕ) (r : Record) (vs : List ℕ) → form_of letter count r ≡ Some vs → length vs ≡ count
unfolding form_of
form-length letter count (closed r) vs h = after-length letter count (fields_of r) vs h
form-length letter count (unclosed r) vs h = absurd (not_some vs h)

-- as many numbers as ranges, and each in its range
pub record Fits (stations lines : ℕ) (rs : List Range) (vs : List ℕ) : Type 0 where
  pub many : length vs ≡ length rs
  pub ranged : all_in_range stations lines (value vs 0) rs vs ≡ true

pub record-fits : (stations lines i : ℕ) (k : Kind) (r : Record) (vs : List ℕ) → read_record stations lines i k r ≡ given vs → Fits stations lines k.ranges vs
unfolding read_record check_values
record-fits stations lines i k r vs h = go (form_of k.letter (length k.ranges) r) refl h
  where
    go : (o : Option (List ℕ)) → form_of k.letter (length k.ranges) r ≡ o → check_values stations lines i k o ≡ given vs → Fits stations lines k.ranges vs
    go None q h = absurd (not-given 1 i vs h)
    go (Some us) q h = ok (all_in_range stations lines (value us 0) k.ranges us) refl h
      where
        ok : (b : Bool) → all_in_range stations lines (value us 0) k.ranges us ≡ b → ◌≡◌ {A = Answer (List ℕ)} (elim b as (λ x. Answer (List ℕ)) [ true ↦ given us | false ↦ refused 2 i ]) (given vs) → Fits stations lines k.ranges vs
        ok true y h = subst (Fits stations lines k.ranges) (given_eq us vs h) (record { many = form-length k.letter (length k.ranges) r us q; ranged = y })
        ok false y h = absurd (not-given 2 i vs h)

records-fit : (stations lines i : ℕ) (k : Kind) (count : ℕ) (rs : List Record) (p : List (List ℕ) × List Record)
    → read_records stations lines i k count rs ≡ given p → (length p.0 ≡ count) × All (Fits stations lines k.ranges) p.0
unfolding read_records
records-fit stations lines i k zero rs p h =
    subst (λ (p : List (List ℕ) × List Record). (length p.0 ≡ 0) × All (Fits stations lines k.ranges) p.0) (given_eq ([], rs) p h) (refl, tt)
records-fit stations lines i k (suc count) [] p h = absurd (not-given 1 i p h)
records-fit stations lines i k (suc count) (r ∷ rs) p h =
    in-turn (read_record stations lines i k r) _ p h (λ vs e h₁.
    in-turn (read_records stations lines (i + 1) k count rs) _ p h₁ (λ q d h₂.
    let ih = records-fit stations lines (i + 1) k count rs q d in
    subst (λ (p : List (List ℕ) × List Record). (length p.0 ≡ suc count) × All (Fits stations lines k.ranges) p.0) (given_eq (vs ∷ q.0, q.1) p h₂)
    (ap suc ih.0, (record-fits stations lines i k r vs e, ih.1))))

-- number i of a record is in range i
ranged-at : (stations lines first : ℕ) (rs : List Range) (vs : List ℕ) → length vs ≡ length rs → all_in_range stations lines first rs vs ≡ true
    → (i : ℕ) → i < length rs → in_range stations lines first (get_or rs i (0 to 0)) (get_or vs i 0) ≡ true
unfolding all_in_range
ranged-at s l f [] vs m h i k = absurd (omega arith)
ranged-at s l f (r ∷ rs) [] m h i k = absurd (omega arith)
ranged-at s l f (r ∷ rs) (v ∷ vs) m h zero k = ((and-eq-true_iff (in_range s l f r v) (all_in_range s l f rs vs)).0 h).0
ranged-at s l f (r ∷ rs) (v ∷ vs) m h (suc i) k = ranged-at s l f rs vs (omega arith) ((and-eq-true_iff (in_range s l f r v) (all_in_range s l f rs vs)).0 h).1 i (omega arith)

pub record Within (least largest v : ℕ) : Type 0 where
  pub low : least ≤ v
  pub high : v ≤ largest

field-within : (stations lines : ℕ) (rs : List Range) (vs : List ℕ) → Fits stations lines rs vs → (i : ℕ) → i < length rs
    → Within (get_or rs i (0 to 0)).least (largest_of stations lines (value vs 0) (get_or rs i (0 to 0)).largest) (value vs i)
unfolding in_range
field-within s l rs vs f i k =
    let r = get_or rs i (0 to 0) in
    let b = (and-eq-true_iff (leb r.least (value vs i)) (leb (value vs i) (largest_of s l (value vs 0) r.largest))).0 (ranged-at s l (value vs 0) rs vs f.many f.ranged i k) in
    record { low = leb-true _ _ b.0; high = leb-true _ _ b.1 }

-- ── the numbers of a network ──
pub record HeadFits (h : Head) : Type 0 where
  pub stations : Within 1 512 h.stations
  pub lines : Within 0 768 h.lines
  pub minutes : Within 0 1440 h.minutes
  pub series : Within 1 8 h.series
  pub adds : Within 0 16 h.adds
  pub money : Within 0 100000000 h.money
  pub hours : Within 0 100000 h.hours
  pub visits : Within 1 1000000000 h.visits

pub record StationFits (s : Station) : Type 0 where
  pub role : Within 0 1 s.role
  pub customers : Within 0 20000 s.customers

pub record LineFits (stations : ℕ) (l : Line) : Type 0 where
  pub weight : Within 0 1000000 l.weight
  pub station1 : Within 1 stations l.from
  pub station2 : Within 1 stations l.to
  pub state1 : Within 0 2 l.state1
  pub state2 : Within 0 2 l.state2

pub record PlaceFits (lines : ℕ) (p : Place) : Type 0 where
  pub line : Within 1 lines p.line
  pub side : Within 1 2 p.side
  pub cost : Within 0 1000000 p.cost
  pub hours : Within 0 1000 p.hours

-- a place is on a plain end
abbrev pub OnPlain : List Line → Place → Type 0
OnPlain ls p = state_at (numbered no_line ls p.line) p.side ≡ 0

-- each place comes after the one before it, by line, then end
abbrev pub InOrder : Place → List Place → Type 0
InOrder before [] = Unit {0}
InOrder before (p ∷ ps) = (comes_after before p ≡ true) × InOrder p ps

-- what a network that is read has, and has still when breakers are added
pub record Read (N : Network) : Type 0 where
  pub head : HeadFits N.head
  pub station_count : length N.stations ≡ N.head.stations
  pub line_count : length N.lines ≡ N.head.lines
  pub place_count : length N.places ≤ 64
  pub stations : All StationFits N.stations
  pub lines : All (LineFits (length N.stations)) N.lines
  pub places : All (PlaceFits (length N.lines)) N.places

pub head-fits : (vs : List ℕ) → Fits 0 0 row_n vs → HeadFits (head_of vs)
unfolding row_n head_of largest_of
head-fits vs f = record {
  stations = field-within 0 0 row_n vs f 0 (omega arith);
  lines = field-within 0 0 row_n vs f 1 (omega arith);
  minutes = field-within 0 0 row_n vs f 2 (omega arith);
  series = field-within 0 0 row_n vs f 3 (omega arith);
  adds = field-within 0 0 row_n vs f 4 (omega arith);
  money = field-within 0 0 row_n vs f 5 (omega arith);
  hours = field-within 0 0 row_n vs f 6 (omega arith);
  visits = field-within 0 0 row_n vs f 7 (omega arith);
}

station-fits : (stations lines : ℕ) (vs : List ℕ) → Fits stations lines row_s vs → StationFits (station_of vs)
unfolding row_s station_of largest_of
station-fits s l vs f = record {
  role = field-within s l row_s vs f 0 (omega arith);
  customers = record { low = omega arith; high = most (eqb (value vs 0) 1) refl };
}
  where
    most : (b : Bool) → eqb (value vs 0) 1 ≡ b → value vs 1 ≤ 20000
    most true q = let w = field-within s l row_s vs f 1 (omega arith) in let z : value vs 1 ≤ 0 = rw (q, largest_of) at w.high in omega arith
    most false q = let w = field-within s l row_s vs f 1 (omega arith) in rw (q, largest_of) at w.high

line-fits : (stations lines : ℕ) (vs : List ℕ) → Fits stations lines row_l vs → LineFits stations (line_of vs)
unfolding row_l line_of largest_of
line-fits s l vs f = record {
  weight = field-within s l row_l vs f 0 (omega arith);
  station1 = field-within s l row_l vs f 1 (omega arith);
  station2 = field-within s l row_l vs f 2 (omega arith);
  state1 = field-within s l row_l vs f 3 (omega arith);
  state2 = field-within s l row_l vs f 4 (omega arith);
}

place-fits : (stations lines : ℕ) (ls : List Line) (n : ℕ) (before : Place) (vs : List ℕ) → Fits stations lines row_p vs → well_placed ls n before (place_of vs) ≡ true
    → PlaceFits lines (place_of vs) × OnPlain ls (place_of vs) × (comes_after before (place_of vs) ≡ true) × (n < 64)
unfolding row_p place_of largest_of well_placed
place-fits s l ls n before vs f w =
    let p = place_of vs in
    let a = (and-eq-true_iff (ltb n 64) (comes_after before p && eqb (state_at (numbered no_line ls p.line) p.side) 0)).0 w in
    let b = (and-eq-true_iff (comes_after before p) (eqb (state_at (numbered no_line ls p.line) p.side) 0)).0 a.1 in (
      record {
        line = field-within s l row_p vs f 0 (omega arith);
        side = field-within s l row_p vs f 1 (omega arith);
        cost = field-within s l row_p vs f 2 (omega arith);
        hours = field-within s l row_p vs f 3 (omega arith);
      },
      eqb-true _ _ b.1,
      b.0,
      ltb-true n 64 a.0,
    )

-- places that follow `before`, with n places in front of them
abbrev PlacesFit : ℕ → List Line → ℕ → Place → List Place → Type 0
PlacesFit lines ls n before ps = (n + length ps ≤ 64) × All (PlaceFits lines) ps × All (OnPlain ls) ps × InOrder before ps

places-fit : (h : Head) (ls : List Line) (i n : ℕ) (before : Place) (rs : List Record) (ps : List Place) → n ≤ 64 → read_places h ls i n before rs ≡ given ps
    → PlacesFit h.lines ls n before ps
unfolding read_places kind_p
places-fit h ls i n before [] ps k q = subst (PlacesFit h.lines ls n before) (given_eq [] ps q) (omega arith, tt, tt, tt)
places-fit h ls i n before (r ∷ rs) ps k q =
    in-turn (read_record h.stations h.lines i kind_p r) _ ps q (λ vs e q₁.
    go (place_of vs) (well_placed ls n before (place_of vs)) refl
    (λ w. place-fits h.stations h.lines ls n before vs (record-fits h.stations h.lines i kind_p r vs e) w)
    (λ qs l. places-fit h ls (i + 1) (n + 1) (place_of vs) rs qs l) q₁)
  where
    go : (p : Place) (b : Bool) → well_placed ls n before p ≡ b → (well_placed ls n before p ≡ true → PlaceFits h.lines p × OnPlain ls p × (comes_after before p ≡ true) × (n < 64))
        → ((qs : List Place) → n + 1 ≤ 64 → read_places h ls (i + 1) (n + 1) p rs ≡ given qs → PlacesFit h.lines ls (n + 1) p qs)
        → ◌≡◌ {A = Answer (List Place)} (elim b as (λ x. Answer (List Place)) [ true ↦ read_places h ls (i + 1) (n + 1) p rs >>= λ ps. given (p ∷ ps) | false ↦ refused 3 i ]) (given ps)
        → PlacesFit h.lines ls n before ps
    go p true w fit ih q₁ =
        in-turn (read_places h ls (i + 1) (n + 1) p rs) _ ps q₁ (λ qs d q₂.
        let f = fit w in
        let t = ih qs (omega (arith, f.3)) d in
        subst (PlacesFit h.lines ls n before) (given_eq (p ∷ qs) ps q₂) (omega (arith, t.0), (f.0, t.1), (f.1, t.2), (f.2, t.3)))
    go p false w fit ih q₁ = absurd (not-given 3 i ps q₁)

-- the same, with every place on a plain end and the places in order
abbrev pub ReadPlain : Network → Type 0
ReadPlain N = Read N × All (OnPlain N.lines) N.places × InOrder no_place N.places

after-head : (h : Head) (rs : List Record) (N : Network) → HeadFits h → read_after_head h rs ≡ given N → ReadPlain N
unfolding read_after_head kind_s kind_l
after-head h rs N f q =
    in-turn (read_records h.stations h.lines 2 kind_s h.stations rs) _ N q (λ s sq q₁.
    in-turn (read_records h.stations h.lines (2 + h.stations) kind_l h.lines s.1) _ N q₁ (λ l lq q₂.
    in-turn (read_places h (map line_of l.0) (2 + h.stations + h.lines) 0 no_place l.1) _ N q₂ (λ ps pq q₃.
    let ss = records-fit h.stations h.lines 2 kind_s h.stations rs s sq in
    let ls = records-fit h.stations h.lines (2 + h.stations) kind_l h.lines s.1 l lq in
    let pf = places-fit h (map line_of l.0) (2 + h.stations + h.lines) 0 no_place l.1 ps (omega arith) pq in
    let n : length (map station_of s.0) ≡ h.stations = length-map s.0 station_of ∙ ss.0 in
    let m : length (map line_of l.0) ≡ h.lines = length-map l.0 line_of ∙ ls.0 in
    subst ReadPlain (given_eq (record { head = h; stations = map station_of s.0; lines = map line_of l.0; places = ps }) N q₃) (
      record {
        head = f;
        station_count = n;
        line_count = m;
        place_count = omega (arith, pf.0);
        stations = all_map (Fits h.stations h.lines row_s) StationFits station_of (λ vs g. station-fits h.stations h.lines vs g) s.0 ss.1;
        lines = subst (λ k. All (LineFits k) (map line_of l.0)) (sym n)
            (all_map (Fits h.stations h.lines row_l) (LineFits h.stations) line_of (λ vs g. line-fits h.stations h.lines vs g) l.0 ls.1);
        places = subst (λ k. All (PlaceFits k) ps) (sym m) pf.1;
      },
      pf.2,
      pf.3,
    ))))

file-read : (rs : List Record) (N : Network) → read_file rs ≡ given N → ReadPlain N
unfolding read_file kind_n
file-read [] N q = absurd (not-given 1 1 N q)
file-read (r ∷ rs) N q = in-turn (read_record 0 0 1 kind_n r) _ N q (λ vs e k. after-head (head_of vs) rs N (head-fits vs (record-fits 0 0 1 kind_n r vs e)) k)

pub network-read : (file : List ℕ) (N : Network) → network_of file ≡ given N → ReadPlain N
unfolding network_of
network-read file N q = go (leb (length file) 32768) q
  where
    go : (b : Bool) → ◌≡◌ {A = Answer Network} (elim b as (λ x. Answer Network) [ true ↦ read_file (records_of file) | false ↦ refused 1 0 ]) (given N) → ReadPlain N
    go true k = file-read (records_of file) N k
    go false k = absurd (not-given 1 0 N k)
