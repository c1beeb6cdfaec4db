-- Every refusal of every call has a number of 1 to 16 and a record below 65,536, whatever the bytes of the file.
use Rattle.std.specs.Prelude.{ℕ, zero, suc, ◌+◌, ◌≤◌, ◌<◌, ◌≡◌, Bool, true, false, not, ◌&&◌, List, [], ◌∷◌, map, ltb, eqb, length}
use Rattle.std.proofs.Math.Path.{refl}
use Rattle.std.proofs.Math.Bool.{and-eq-true_iff}
use Rattle.std.specs.Prelude.{Option, None, Some}
use Rattle.std.proofs.Common.{arith, leb-true, ltb-true}
use Rattle.std.proofs.Math.Dec.{leb}
use Rattle.model.specs.Lists.{numbers, numbered}
use Rattle.model.specs.Answer.{Answer, given, refused, ◌>>=◌}
use Rattle.model.specs.Format.{Record, records_of, form_of}
use Rattle.model.specs.Ranges.{all_in_range}
use Rattle.model.specs.declared.Head.{Head}
use Rattle.model.specs.Network.{Line, Place, Network, value, Kind, kind_n, kind_s, kind_l, kind_p, check_values, read_record, read_records, head_of, line_of, place_of, no_line, no_place, state_at, comes_after, well_placed, read_places, read_after_head, read_file, network_of}
use Rattle.model.specs.Paths.{station_numbers, line_numbers}
use Rattle.model.specs.Outage.{impact}
use Rattle.model.specs.Ceiling.{set_count}
use Rattle.model.specs.Rules.{both_open, unprotected, some_path_returns, some_joined, is_supplied, series_broken, unless, unless_some, station_record, line_record, radial, accepted}
use Rattle.model.specs.Calls.{checked, impact_of, impact_answered, totalled, lent, searched, search_answered, reported, report_answered, segmented, segments_answered, ceiling_answered}
use Rattle.theory.specs.Reading.{HeadFits, Read, record-fits, head-fits, network-read}
use Rattle.theory.specs.Sizes.{read-sized}

-- the bounds of a refusal's number and record
pub record Refusal (number place : ℕ) : Type 0 where
  pub least : 1 ≤ number
  pub largest : number ≤ 16
  pub below : place < 65536

-- a refusal within them, its number by computation
told : (number place : ℕ) → (leb 1 number && leb number 16) ≡ true → place < 65536 → Refusal number place
told number place e h =
    let b = (and-eq-true_iff (leb 1 number) (leb number 16)).0 e in
    record { least = leb-true 1 number b.0; largest = leb-true number 16 b.1; below = h }

-- an answer that is given, or a refusal within the bounds
abbrev pub Bounded : {A : Type 0} → Answer A → Type 0
Bounded (given a) = Unit {0}
Bounded (refused number place) = Refusal number place

module _ {A : Type 0} where
  -- one of two answers, by a test
  either : (b : Bool) (x y : Answer A) → (b ≡ true → Bounded x) → (b ≡ false → Bounded y) → Bounded {A = A} (elim b as (λ c. Answer A) [ true ↦ x | false ↦ y ])
  either true x y f g = f refl
  either false x y f g = g refl

  -- an answer in two steps
  then : {B : Type 0} (x : Answer A) (next : A → Answer B) → Bounded x → ((a : A) → x ≡ given a → Bounded (next a)) → Bounded (x >>= next)
  then (given a) next h k = k a refl
  then (refused number place) next h k = h

-- ── reading: refusals 1 to 3 ──
record-bounded : (stations lines i : ℕ) (k : Kind) (r : Record) → i < 65536 → Bounded (read_record stations lines i k r)
unfolding read_record check_values
record-bounded stations lines i k r h = go (form_of k.letter (length k.ranges) r)
  where
    go : (o : Option (List ℕ)) → Bounded (check_values stations lines i k o)
    go None = told 1 i refl h
    go (Some vs) =
        either (all_in_range stations lines (value vs 0) k.ranges vs) (given vs) (refused 2 i)
        (λ t. tt) (λ f. told 2 i refl h)

records-bounded : (stations lines i : ℕ) (k : Kind) (count : ℕ) (rs : List Record) → i + count ≤ 65536 → Bounded (read_records stations lines i k count rs)
unfolding read_records
records-bounded stations lines i k zero rs h = tt
records-bounded stations lines i k (suc count) [] h = told 1 i refl (omega arith)
records-bounded stations lines i k (suc count) (r ∷ rs) h =
    then (read_record stations lines i k r) _ (record-bounded stations lines i k r (omega arith)) (λ vs e.
    then (read_records stations lines (i + 1) k count rs) _ (records-bounded stations lines (i + 1) k count rs (omega arith)) (λ p d. tt))

-- the 65th place is refused, if none before it is
places-bounded : (h : Head) (ls : List Line) (i n : ℕ) (before : Place) (rs : List Record) → n ≤ 64 → i + 64 < 65536 + n → Bounded (read_places h ls i n before rs)
unfolding read_places well_placed
places-bounded h ls i n before [] most room = tt
places-bounded h ls i n before (r ∷ rs) most room =
    then (read_record h.stations h.lines i kind_p r) _ (record-bounded h.stations h.lines i kind_p r (omega arith)) (λ vs e.
    let p = place_of vs in
    let rest = comes_after before p && eqb (state_at (numbered no_line ls p.line) p.side) 0 in
    either (well_placed ls n before p) (read_places h ls (i + 1) (n + 1) p rs >>= λ ps. given (p ∷ ps)) (refused 3 i)
    (λ t.
    let fewer : n < 64 = ltb-true n 64 ((and-eq-true_iff (ltb n 64) rest).0 t).0 in
    then (read_places h ls (i + 1) (n + 1) p rs) _ (places-bounded h ls (i + 1) (n + 1) p rs (omega (arith, fewer)) (omega (arith, room))) (λ ps d. tt))
    (λ f. told 3 i refl (omega arith)))

after-head-bounded : (h : Head) (rs : List Record) → HeadFits h → Bounded (read_after_head h rs)
unfolding read_after_head
after-head-bounded h rs f =
    let s = f.stations.high in
    let l = f.lines.high in
    then (read_records h.stations h.lines 2 kind_s h.stations rs) _
    (records-bounded h.stations h.lines 2 kind_s h.stations rs (omega (arith, s)))
    (λ ss e.
    then (read_records h.stations h.lines (2 + h.stations) kind_l h.lines ss.1) _
    (records-bounded h.stations h.lines (2 + h.stations) kind_l h.lines ss.1 (omega (arith, s, l)))
    (λ ls d.
    then (read_places h (map line_of ls.0) (2 + h.stations + h.lines) 0 no_place ls.1) _
    (places-bounded h (map line_of ls.0) (2 + h.stations + h.lines) 0 no_place ls.1 (omega arith) (omega (arith, s, l)))
    (λ ps c. tt)))

file-bounded : (rs : List Record) → Bounded (read_file rs)
unfolding read_file kind_n
file-bounded [] = told 1 1 refl (omega arith)
file-bounded (r ∷ rs) =
    then (read_record 0 0 1 kind_n r) _ (record-bounded 0 0 1 kind_n r (omega arith))
    (λ vs e. after-head-bounded (head_of vs) rs (head-fits vs (record-fits 0 0 1 kind_n r vs e)))

network-bounded : (file : List ℕ) → Bounded (network_of file)
unfolding network_of
network-bounded file =
    either (leb (length file) 32768) (read_file (records_of file)) (refused 1 0)
    (λ t. file-bounded (records_of file)) (λ f. told 1 0 refl (omega arith))

-- ── the rules: refusals 4 to 9 ──
unless-bounded : (b : Bool) (refuse next : Answer Network) → Bounded refuse → Bounded next → Bounded (unless b refuse next)
unfolding unless
unless-bounded true refuse next r n = r
unless-bounded false refuse next r n = n

some-bounded : (test : ℕ → Bool) (from count : ℕ) (refuse : ℕ → Answer Network) (next : Answer Network) → ((k : ℕ) → k < from + count → Bounded (refuse k)) → Bounded next
    → Bounded (unless_some test (numbers from count) refuse next)
unfolding unless_some numbers
some-bounded test from zero refuse next r n = n
some-bounded test from (suc count) refuse next r n =
    either (test from) (refuse from) (unless_some test (numbers (from + 1) count) refuse next)
    (λ t. r from (omega arith)) (λ f. some-bounded test (from + 1) count refuse next (λ k h. r k (omega arith)) n)

radial-bounded : (N : Network) → Read N → Bounded (radial N)
unfolding radial station_numbers line_numbers
radial-bounded N read =
    let s = (read-sized N read).station_count in
    let l = (read-sized N read).line_count in
    some-bounded (λ l. both_open N l) 1 (length N.lines) (λ l. refused 4 (line_record N l)) _ (λ k h. told 4 (line_record N k) refl (omega (arith, s, l, h)))
    (some-bounded (λ l. unprotected N l) 1 (length N.lines) (λ l. refused 5 (line_record N l)) _ (λ k h. told 5 (line_record N k) refl (omega (arith, s, l, h)))
    (unless-bounded (some_path_returns N) _ _ (told 6 0 refl (omega arith))
    (unless-bounded (some_joined N) _ _ (told 7 0 refl (omega arith))
    (some-bounded (λ s. not (is_supplied N s)) 1 (length N.stations) (λ s. refused 8 (station_record s)) _ (λ k h. told 8 (station_record k) refl (omega (arith, s, h)))
    (unless-bounded (series_broken N) _ _ (told 9 0 refl (omega arith))
    tt)))))

pub accepted-bounded : (file : List ℕ) → Bounded (accepted file)
unfolding accepted
accepted-bounded file = then (network_of file) _ (network-bounded file) (λ N e. radial-bounded N (network-read file N e).0)

-- ── the calls ──
number-bounded : (b : Bool) (n : ℕ) → Bounded {A = ℕ} (elim b as (λ c. Answer ℕ) [ true ↦ given n | false ↦ refused 2 0 ])
number-bounded b n = either b (given n) (refused 2 0) (λ t. tt) (λ f. told 2 0 refl (omega arith))

module _ (file : List ℕ) where
  from-accepted : {A : Type 0} (next : Network → A) → Bounded (accepted file >>= λ N. given (next N))
  from-accepted next = then (accepted file) _ (accepted-bounded file) (λ N e. tt)

  pub checked-bounded : Bounded (checked file)
  unfolding checked
  checked-bounded = from-accepted (λ N. tt)

  pub impact-bounded : (l : ℕ) → Bounded (impact_answered file l)
  unfolding impact_answered impact_of
  impact-bounded l = then (accepted file) _ (accepted-bounded file) (λ N e. number-bounded (leb 1 l && leb l (length N.lines)) (impact N l))

  pub totalled-bounded : Bounded (totalled file)
  unfolding totalled
  totalled-bounded = from-accepted _

  -- a call that is lent a buffer
  module _ (buffer : List ℕ) where
    lent-bounded : {A : Type 0} (least : ℕ) (x : Answer A) → Bounded x → Bounded (lent least buffer x)
    unfolding lent
    lent-bounded least x h = either (ltb (length buffer) least) (refused 10 0) x (λ t. told 10 0 refl (omega arith)) (λ f. h)

    pub search-bounded : Bounded (search_answered file buffer)
    unfolding search_answered searched
    search-bounded = then (searched file buffer) _ (lent-bounded 16 _ (from-accepted _)) (λ f e. tt)

    pub report-bounded : Bounded (report_answered file buffer)
    unfolding report_answered reported
    report-bounded = then (reported file buffer) _ (lent-bounded 32768 _ (from-accepted _)) (λ text e. tt)

    pub segments-bounded : Bounded (segments_answered file buffer)
    unfolding segments_answered segmented
    segments-bounded = then (segmented file buffer) _ (lent-bounded 7680 _ (accepted-bounded file)) (λ N e. tt)

pub ceiling-bounded : (places additions : ℕ) → Bounded (ceiling_answered places additions)
unfolding ceiling_answered
ceiling-bounded places additions = number-bounded (leb places 64 && leb additions 16) (set_count places additions)
