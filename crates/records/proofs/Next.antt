-- The record at the front of a file.
use mathlib.Core.Path.{◌≡◌, refl, sym, ap, subst, ◌∙◌}
use mathlib.Core.Bool.{Bool, true, false}
use mathlib.Core.List.{List, [], ◌∷◌}
use Prim.Native.Nat.{ℕ, suc, ◌+◌, ◌-◌, ◌≤◌, ◌<◌}
use native.Mathlib.Omega.{arith}
use native.Mathlib.Numerals.{add-one}
use lib.Dec.{eqb}
use lib.ListN.{length, get_or, take, drop, length-drop, drop_of_length-le}
use lib.Seq.{drop-cons, take_all}
use Rattle.std.specs.Prelude.{Option, None, Some}
use Rattle.model.specs.Answer.{Answer, given, refused, ◌>>=◌}
use Rattle.model.specs.Format.{newline, Record, closed, unclosed, on_first_record, records_of, fields_of, after_letter, form_of}
use Rattle.model.specs.Ranges.{all_in_range}
use Rattle.model.specs.Network.{Kind, value, check_values, read_record}
use Rattle.fields.specs.Fields.{up_to}
use Rattle.records.specs.Records.{next_record, first_closed}

-- the records of a file that starts with `r`, then is at its end or at a newline
starting_with : (rest r : List ℕ) → List Record
unfolding records_of
starting_with [] [] = []
starting_with [] (b ∷ r) = unclosed (b ∷ r) ∷ []
starting_with (c ∷ rest) r = closed r ∷ records_of rest

one-byte-more : (b : ℕ) (rest r : List ℕ) → on_first_record b (starting_with rest r) ≡ starting_with rest (b ∷ r)
unfolding on_first_record starting_with
one-byte-more b [] [] = refl
one-byte-more b [] (x ∷ r) = refl
one-byte-more b (c ∷ rest) r = refl

records-are : (bs : List ℕ) → records_of bs ≡ starting_with (drop (up_to newline bs) bs) (take (up_to newline bs) bs)
unfolding records_of starting_with up_to
records-are [] = refl
records-are (b ∷ bs) = go (eqb b newline) (records-are bs)
  where
    go : (t : Bool) → records_of bs ≡ starting_with (drop (up_to newline bs) bs) (take (up_to newline bs) bs)
        → ◌≡◌ {A = List Record} (elim t as (λ x. List Record) [ true ↦ closed [] ∷ records_of bs | false ↦ on_first_record b (records_of bs) ])
        (starting_with (drop (elim t as (λ x. ℕ) [ true ↦ 0 | false ↦ suc (up_to newline bs) ]) (b ∷ bs)) (take (elim t as (λ x. ℕ) [ true ↦ 0 | false ↦ suc (up_to newline bs) ]) (b ∷ bs)))
    go true e = refl
    go false e = ap (on_first_record b) e ∙ one-byte-more b (drop (up_to newline bs) bs) (take (up_to newline bs) bs)

pub no-records : (bs : List ℕ) → length bs ≡ 0 → records_of bs ≡ []
unfolding records_of
no-records [] h = refl
no-records (b ∷ bs) h = absurd (omega arith)

-- where the first newline stands, or the file ends
module _ (bs : List ℕ) (e : ℕ) (ends : e ≡ up_to newline bs) where
  from-here : records_of bs ≡ starting_with (drop e bs) (take e bs)
  from-here = records-are bs ∙ ap (λ (n : ℕ). starting_with (drop n bs) (take n bs)) (sym ends)

  pub not-closed : length bs ≤ e → first_closed (records_of bs) ≡ None
  unfolding starting_with first_closed
  not-closed h = ap first_closed (from-here ∙ ap (λ (rest : List ℕ). starting_with rest (take e bs)) (drop_of_length-le bs {i = e} h)) ∙ go (take e bs)
    where
      go : (r : List ℕ) → first_closed (starting_with [] r) ≡ None
      go [] = refl
      go (b ∷ r) = refl

  pub closed-here : e < length bs → first_closed (records_of bs) ≡ Some (take e bs, records_of (take (length bs - (e + 1)) (drop (e + 1) bs)))
  unfolding starting_with first_closed
  closed-here h =
      ap first_closed
      (from-here ∙ ap (λ (rest : List ℕ). starting_with rest (take e bs)) (drop-cons bs e 0 h ∙ ap (λ (n : ℕ). get_or bs e 0 ∷ drop n bs) (sym (add-one e))))
      ∙ ap (λ (l : List ℕ). Some (take e bs, records_of l)) (sym (take_all (length bs - (e + 1)) (drop (e + 1) bs) (omega (arith, length-drop (e + 1) bs))))

-- what the first record says
module _ (stations lines i : ℕ) (k : Kind) (rs : List Record) where
  pub unread : None ≡ first_closed rs → next_record stations lines i k rs ≡ refused 1 i
  unfolding first_closed next_record read_record form_of check_values
  unread h = go rs h
    where
      go : (rs : List Record) → None ≡ first_closed rs → next_record stations lines i k rs ≡ refused 1 i
      go [] h = refl
      go (closed r ∷ rs) h = cc
      go (unclosed r ∷ rs) h = refl

  module _ (bytes : List ℕ) (rest : List Record) (h : Some (bytes, rest) ≡ first_closed rs) where
    read : next_record stations lines i k rs ≡ (check_values stations lines i k (after_letter k.letter (length k.ranges) (fields_of bytes)) >>= λ vs. given (vs, rest))
    unfolding first_closed next_record read_record form_of
    read = go rs h
      where
        go : (rs : List Record) → Some (bytes, rest) ≡ first_closed rs
            → next_record stations lines i k rs ≡ (check_values stations lines i k (after_letter k.letter (length k.ranges) (fields_of bytes)) >>= λ vs. given (vs, rest))
        go [] h = cc
        go (closed r ∷ rs) h =
            let same : ◌≡◌ {A = List ℕ × List Record} (bytes, rest) (r, rs) = cc in
            ap (λ (p : List ℕ × List Record). check_values stations lines i k (after_letter k.letter (length k.ranges) (fields_of p.0)) >>= λ vs. given (vs, p.1)) (sym same)
        go (unclosed r ∷ rs) h = cc

    pub wrong-form : None ≡ after_letter k.letter (length k.ranges) (fields_of bytes) → next_record stations lines i k rs ≡ refused 1 i
    unfolding check_values
    wrong-form f = read ∙ ap (λ (o : Option (List ℕ)). check_values stations lines i k o >>= λ ws. given (ws, rest)) (sym f)

    module _ (vs : List ℕ) (f : Some vs ≡ after_letter k.letter (length k.ranges) (fields_of bytes)) where
      with_values : (t : Bool) → t ≡ all_in_range stations lines (value vs 0) k.ranges vs
          → next_record stations lines i k rs ≡ ((elim t as (λ x. Answer (List ℕ)) [ true ↦ given vs | false ↦ refused 2 i ]) >>= λ ws. given (ws, rest))
      unfolding check_values
      with_values t q =
          read
          ∙ ap (λ (o : Option (List ℕ)). check_values stations lines i k o >>= λ ws. given (ws, rest)) (sym f)
          ∙ ap (λ (x : Bool). (elim x as (λ y. Answer (List ℕ)) [ true ↦ given vs | false ↦ refused 2 i ]) >>= λ ws. given (ws, rest)) (sym q)

      pub wrong-range : false ≡ all_in_range stations lines (value vs 0) k.ranges vs → next_record stations lines i k rs ≡ refused 2 i
      wrong-range q = with_values false q

      pub right : true ≡ all_in_range stations lines (value vs 0) k.ranges vs → next_record stations lines i k rs ≡ given (vs, rest)
      right q = with_values true q

-- the numbers of a record that is read are in their ranges
pub next-in-range : (stations lines i : ℕ) (k : Kind) (rs : List Record) (vs : List ℕ) (rest : List Record)
    → given (vs, rest) ≡ next_record stations lines i k rs → all_in_range stations lines (value vs 0) k.ranges vs ≡ true
unfolding next_record read_record check_values
next-in-range s l i k [] vs rest e = cc
next-in-range s l i k (r ∷ rs) vs rest e = go (form_of k.letter (length k.ranges) r) e
  where
    ok : (us : List ℕ) (t : Bool) → all_in_range s l (value us 0) k.ranges us ≡ t
        → ◌≡◌ {A = Answer (List ℕ × List Record)} (given (vs, rest)) ((elim t as (λ x. Answer (List ℕ)) [ true ↦ given us | false ↦ refused 2 i ]) >>= λ ws. given (ws, rs))
        → all_in_range s l (value vs 0) k.ranges vs ≡ true
    ok us true q e = let same : ◌≡◌ {A = List ℕ × List Record} (us, rs) (vs, rest) = cc in subst (λ (p : List ℕ × List Record). all_in_range s l (value p.0 0) k.ranges p.0 ≡ true) same q
    ok us false q e = cc

    go : (o : Option (List ℕ)) → ◌≡◌ {A = Answer (List ℕ × List Record)} (given (vs, rest)) (check_values s l i k o >>= λ ws. given (ws, rs)) → all_in_range s l (value vs 0) k.ranges vs ≡ true
    go None e = cc
    go (Some us) e = ok us (all_in_range s l (value us 0) k.ranges us) refl e
