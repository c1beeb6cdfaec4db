-- The parts of a file together.
use mathlib.Core.Path.{◌≡◌, refl, sym, ap, ap₂, ◌∙◌}
use mathlib.Core.List.{List, [], ◌∷◌, map}
use Prim.Native.Nat.{ℕ, ◌+◌, ◌≤◌, ◌<◌}
use lib.ListN.{length}
use borrow.Author.Tests.{le-leb, lt-leb}
use Rattle.model.specs.declared.Head.{Head}
use Rattle.model.specs.Answer.{Answer, given, refused, ◌>>=◌}
use Rattle.model.specs.Format.{Record, records_of}
use Rattle.model.specs.Network.{Network, kind_n, kind_s, kind_l, head_of, station_of, line_of, read_record, read_records, read_after_head, read_file, network_of}
use Rattle.records.specs.Records.{next_record}
use Rattle.reader.specs.Reading.{first_head, more_stations, more_lines, more_places, last_place}
use Rattle.reader.proofs.Turns.{in-turn}

pub too_long : (file : List ℕ) → 32768 < length file → refused 1 0 ≡ network_of file
unfolding network_of
too_long file h = rw (lt-leb (length file) 32768 h, network_of) refl

not-too-long : (file : List ℕ) → length file ≤ 32768 → network_of file ≡ read_file (records_of file)
unfolding network_of
not-too-long file h = rw (le-leb (length file) 32768 h, network_of) refl

-- the network with a head alone
abbrev pub empty : Head → Network
empty h = record { head = h; stations = []; lines = []; places = [] }

-- what is read behind the lines, the stations and the head
after_lines : Head → Network × List Record → Answer Network
after_lines h q = more_places q.0 (2 + h.stations + h.lines) q.1

after_stations : Head → Network × List Record → Answer Network
after_stations h q = more_lines q.0 (2 + h.stations) h.lines q.1 >>= after_lines h

after_head : Head × List Record → Answer Network
after_head p = more_stations (empty p.0) 2 p.0.stations p.1 >>= after_stations p.0

head-read : (h : Head) (rs : List Record) → after_head (h, rs) ≡ read_after_head h rs
unfolding after_head after_stations after_lines more_stations more_lines more_places last_place read_after_head
head-read h rs =
    in-turn {B = Network × List Record} (read_records h.stations h.lines 2 kind_s h.stations rs) (λ s. given (record { head = h; stations = map station_of s.0; lines = []; places = [] }, s.1)) (after_stations h)
    ∙ ap (λ (f : List (List ℕ) × List Record → Answer Network). read_records h.stations h.lines 2 kind_s h.stations rs >>= f)
    (λ j s. in-turn {B = Network × List Record} (read_records h.stations h.lines (2 + h.stations) kind_l h.lines s.1)
    (λ l. given (record { head = h; stations = map station_of s.0; lines = map line_of l.0; places = [] }, l.1)) (after_lines h) j)

file-read : (rs : List Record) → (first_head rs >>= after_head) ≡ read_file rs
unfolding first_head next_record read_file
file-read [] = refl
file-read (r ∷ rs) =
    in-turn {B = Head × List Record} (read_record 0 0 1 kind_n r >>= λ vs. given (vs, rs)) (λ p. given (head_of p.0, p.1)) after_head
    ∙ in-turn {B = List ℕ × List Record} (read_record 0 0 1 kind_n r) (λ vs. given (vs, rs)) (λ p. after_head (head_of p.0, p.1))
    ∙ ap (λ (f : List ℕ → Answer Network). read_record 0 0 1 kind_n r >>= f) (λ j vs. head-read (head_of vs) rs j)

module _ (file : List ℕ) (short : length file ≤ 32768) where
  whole : (a : Answer (Head × List Record)) → a ≡ first_head (records_of file) → (a >>= after_head) ≡ network_of file
  whole a e = ap (λ (x : Answer (Head × List Record)). x >>= after_head) e ∙ file-read (records_of file) ∙ sym (not-too-long file short)

  pub head_stopped : (number place : ℕ) → refused number place ≡ first_head (records_of file) → refused number place ≡ network_of file
  head_stopped number place e = whole (refused number place) e

  module _ (h : Head) (rs₁ : List Record) (e₁ : given (h, rs₁) ≡ first_head (records_of file))
      (N₀ : Network) (start : N₀ ≡ empty h) (i₁ : ℕ) (second : i₁ ≡ 2) where
    behind_head : (a : Answer (Network × List Record)) → a ≡ more_stations N₀ i₁ N₀.head.stations rs₁ → (a >>= after_stations h) ≡ network_of file
    unfolding after_head
    behind_head a e =
        ap (λ (x : Answer (Network × List Record)). x >>= after_stations h) (e ∙ ap₂ (λ (N : Network) (i : ℕ). more_stations N i N.head.stations rs₁) start second)
        ∙ whole (given (h, rs₁)) e₁

    pub stations_stopped : (number place : ℕ) → refused number place ≡ more_stations N₀ i₁ N₀.head.stations rs₁ → refused number place ≡ network_of file
    stations_stopped number place e = behind_head (refused number place) e

    module _ (N₁ : Network) (rs₂ : List Record) (e₂ : given (N₁, rs₂) ≡ more_stations N₀ i₁ N₀.head.stations rs₁)
        (same : N₁.head ≡ N₀.head) (i₂ : ℕ) (third : i₂ ≡ i₁ + N₀.head.stations) where
      head-kept : N₁.head ≡ h
      head-kept = same ∙ ap (λ (N : Network). N.head) start

      number₂ : i₂ ≡ 2 + h.stations
      number₂ = third ∙ ap₂ (λ (i : ℕ) (N : Network). i + N.head.stations) second start

      behind_stations : (a : Answer (Network × List Record)) → a ≡ more_lines N₁ i₂ N₁.head.lines rs₂ → (a >>= after_lines h) ≡ network_of file
      unfolding after_stations
      behind_stations a e =
          ap (λ (x : Answer (Network × List Record)). x >>= after_lines h) (e ∙ ap₂ (λ (i : ℕ) (x : Head). more_lines N₁ i x.lines rs₂) number₂ head-kept)
          ∙ behind_head (given (N₁, rs₂)) e₂

      pub lines_stopped : (number place : ℕ) → refused number place ≡ more_lines N₁ i₂ N₁.head.lines rs₂ → refused number place ≡ network_of file
      lines_stopped number place e = behind_stations (refused number place) e

      -- all parts are read up to the places, and these say what the file says
      pub places_left : (N₂ : Network) (rs₃ : List Record) → given (N₂, rs₃) ≡ more_lines N₁ i₂ N₁.head.lines rs₂ → (i₃ : ℕ) → i₃ ≡ i₂ + N₁.head.lines
          → more_places N₂ i₃ rs₃ ≡ network_of file
      unfolding after_lines
      places_left N₂ rs₃ e₃ i₃ fourth =
          ap (λ (i : ℕ). more_places N₂ i rs₃) (fourth ∙ ap₂ (λ (i : ℕ) (x : Head). i + x.lines) number₂ head-kept)
          ∙ behind_stations (given (N₂, rs₃)) e₃
