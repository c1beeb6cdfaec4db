-- The places of a file, record by record.
use mathlib.Core.Path.{◌≡◌, refl, sym, ap, ap₂, ◌∙◌}
use mathlib.Core.Bool.{Bool, true, false}
use mathlib.Core.List.{List, [], ◌∷◌, ◌++◌, append_assoc, append-nil}
use Prim.Native.Nat.{ℕ, ◌+◌, ◌-◌}
use native.Mathlib.Omega.{arith}
use lib.Dec.{eqb}
use lib.ListN.{length, length-append, get_or}
use borrow.Author.Tests.{eqb-true, eqb-false}
use Rattle.model.specs.declared.Head.{Head}
use Rattle.model.specs.Answer.{Answer, given, refused, ◌>>=◌}
use Rattle.model.specs.Format.{newline, Record, closed, unclosed, on_first_record, records_of}
use Rattle.model.specs.Network.{Network, Place, kind_p, no_place, read_record, place_of, well_placed, read_places}
use Rattle.network.specs.Changed.{with_places, with_one_more}
use Rattle.records.specs.Records.{next_record}
use Rattle.records.proofs.Next.{no-records}
use Rattle.reader.specs.Reading.{last_place, more_places}
use Rattle.reader.proofs.Placed.{last_of_more}
use Rattle.reader.proofs.Turns.{in-turn}

-- ── there is a record ──
some_first : (b : ℕ) (rs : List Record) → length (on_first_record b rs) ≡ 0 → ⊥
unfolding on_first_record
some_first b [] e = omega arith
some_first b (closed r ∷ rs) e = omega arith
some_first b (unclosed r ∷ rs) e = omega arith

some-record : (bs : List ℕ) → (length bs ≡ 0 → ⊥) → length (records_of bs) ≡ 0 → ⊥
unfolding records_of
some-record [] n = absurd (n refl)
some-record (b ∷ bs) n = go (eqb b newline)
  where
    go : (t : Bool) → length {A = Record} (elim t as (λ x. List Record) [ true ↦ closed [] ∷ records_of bs | false ↦ on_first_record b (records_of bs) ]) ≡ 0 → ⊥
    go true e = omega arith
    go false e = some_first b (records_of bs) e

-- the network with the places of these records behind its own, in a file with the head `h`
unfoldable pub reading : Head → Network → (i : ℕ) → List Record → Answer Network
unfolding read_places last_place
reading h N i rs =
    read_places h N.lines i (length N.places) (last_place N.places) rs >>= λ ps.
    given (record { head = N.head; stations = N.stations; lines = N.lines; places = N.places ++ ps })

pub places-read : (N : Network) (i : ℕ) (rs : List Record) → reading N.head N i rs ≡ more_places N i rs
unfolding reading more_places
places-read N i rs = refl

module _ (h : Head) (N : Network) (i : ℕ) where
  pub ended : (bs : List ℕ) → true ≡ eqb (length bs) 0 → reading h N i (records_of bs) ≡ given N
  unfolding reading read_places
  ended bs e =
      ap (reading h N i) (no-records bs (eqb-true _ _ (sym e)))
      ∙ ap (λ (ps : List Place). given (record { head = N.head; stations = N.stations; lines = N.lines; places = ps })) (append-nil N.places)

  with : List Place → Network
  with ps = record { head = N.head; stations = N.stations; lines = N.lines; places = N.places ++ ps }

  -- the place in a record's numbers, then the places of the records behind it
  after_place : List ℕ × List Record → Answer (List Place)
  unfolding read_places
  after_place q =
      elim (well_placed N.lines (length N.places) (last_place N.places) (place_of q.0)) [
        | true ↦ read_places h N.lines (i + 1) (length N.places + 1) (place_of q.0) q.1 >>= λ ps. given (place_of q.0 ∷ ps)
        | false ↦ refused 3 i
      ]

  first_of : (rs : List Record) → (length rs ≡ 0 → ⊥)
      → read_places h N.lines i (length N.places) (last_place N.places) rs ≡ (next_record h.stations h.lines i kind_p rs >>= after_place)
  unfolding read_places next_record after_place
  first_of [] e = absurd (e refl)
  first_of (r ∷ rs) e = sym (in-turn (read_record h.stations h.lines i kind_p r) (λ vs. given (vs, rs)) after_place)

  -- there are bytes left
  module _ (bs : List ℕ) (more : false ≡ eqb (length bs) 0) where
    with-next : (a : Answer (List ℕ × List Record)) → a ≡ next_record h.stations h.lines i kind_p (records_of bs)
        → reading h N i (records_of bs) ≡ ((a >>= after_place) >>= λ ps. given (with ps))
    unfolding reading with
    with-next a e =
        ap (λ (x : Answer (List Place)). x >>= λ ps. given (with ps)) (first_of (records_of bs) (some-record bs (eqb-false _ _ (sym more))))
        ∙ ap (λ (x : Answer (List ℕ × List Record)). (x >>= after_place) >>= λ ps. given (with ps)) (sym e)

    pub stopped : (number place : ℕ) → refused number place ≡ next_record h.stations h.lines i kind_p (records_of bs) → reading h N i (records_of bs) ≡ refused number place
    stopped number place e = with-next (refused number place) e

    -- and a place is read
    module _ (v : List ℕ) (rest : List Record) (e : given (v, rest) ≡ next_record h.stations h.lines i kind_p (records_of bs)) (p : Place) (q : p ≡ place_of v) where
      after_is : (t : Bool) → t ≡ well_placed N.lines (length N.places) (last_place N.places) p
          → reading h N i (records_of bs) ≡ ((elim t as (λ x. Answer (List Place)) [
            | true ↦ read_places h N.lines (i + 1) (length N.places + 1) p rest >>= λ ps. given (p ∷ ps)
            | false ↦ refused 3 i
          ]) >>= λ ps. given (with ps))
      unfolding after_place
      after_is t w =
          with-next (given (v, rest)) e
          ∙ ap₂ (λ (x : Bool) (p : Place). (elim x as (λ y. Answer (List Place)) [
            | true ↦ read_places h N.lines (i + 1) (length N.places + 1) p rest >>= λ ps. given (p ∷ ps)
            | false ↦ refused 3 i
          ]) >>= λ ps. given (with ps)) (sym (w ∙ ap (well_placed N.lines (length N.places) (last_place N.places)) q)) (sym q)

      pub misplaced : false ≡ well_placed N.lines (length N.places) (last_place N.places) p → reading h N i (records_of bs) ≡ refused 3 i
      misplaced w = after_is false w

      pub next : true ≡ well_placed N.lines (length N.places) (last_place N.places) p → (M : Network) → M ≡ with_one_more N p → (j : ℕ) → j ≡ i + 1
          → reading h N i (records_of bs) ≡ reading h M j rest
      unfolding reading with with_one_more with_places last_place
      next w M m j k =
          after_is true w
          ∙ one_more (read_places h N.lines (i + 1) (length N.places + 1) p rest)
          ∙ ap₂ (λ (n : ℕ) (p' : Place). read_places h N.lines (i + 1) n p' rest >>= λ ps. given (record { head = N.head; stations = N.stations; lines = N.lines; places = (N.places ++ p ∷ []) ++ ps }))
          {x = length N.places + 1} {y = length (N.places ++ p ∷ [])} {u = p} {v = get_or (N.places ++ p ∷ []) (length (N.places ++ p ∷ []) - 1) no_place}
          (omega (arith, length-append N.places (p ∷ [])))
          (sym (last_of_more N.places p (length (N.places ++ p ∷ []) - 1) (omega (arith, length-append N.places (p ∷ [])))))
          ∙ sym (ap₂ (λ (M : Network) (j : ℕ). reading h M j rest) m k)
        where
          one_more : (a : Answer (List Place)) → ((a >>= λ ps. given (p ∷ ps)) >>= λ ps. given (with ps))
              ≡ (a >>= λ ps. given (record { head = N.head; stations = N.stations; lines = N.lines; places = (N.places ++ p ∷ []) ++ ps }))
          one_more (given ps) = ap (λ (l : List Place). given (record { head = N.head; stations = N.stations; lines = N.lines; places = l })) (sym (append_assoc N.places (p ∷ []) ps))
          one_more (refused number place) = refl
