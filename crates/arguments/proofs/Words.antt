-- What a word stands for, by a table.
use Prim.Native.Nat.{ℕ}
use mathlib.Core.Path.{◌≡◌, refl, ap, ◌∙◌}
use mathlib.Core.Bool.{Bool, true, false, ◌&&◌, cond}
use mathlib.Core.List.{List, [], ◌∷◌}
use lib.Dec.{eqb}
use lib.Pointwise.{pointwise}
use denote.Param.Members.{Mut}
use Rattle.std.specs.Prelude.{Option, None, Some, MatchOption, ⊤}
use Rattle.std.specs.Fn.{CalledAt}
use Rattle.std.specs.Option.{option_map}
use Rattle.std.specs.Iterator.{YieldsThen}
use Rattle.std.specs.Borrow.{Bor}
use Rattle.std.specs.List.{find, FoldsTo}
use Rattle.std.proofs.lemmas.Iterator.{YieldsList}
use Rattle.std.proofs.lemmas.Iterator.Search.{find_from_yields_List}
use Rattle.model.specs.declared.Word.{Word}
use Rattle.model.specs.Commands.{same_word}

-- bytes compared one by one
same-bytes : (a b : List ℕ) → pointwise eqb a b ≡ same_word a b
unfolding same_word
same-bytes [] [] = refl
same-bytes [] (y ∷ ys) = refl
same-bytes (x ∷ xs) [] = refl
same-bytes (x ∷ xs) (y ∷ ys) = ap (λ t. eqb x y && t) (same-bytes xs ys)

module _ (w : List ℕ) where
  -- an entry of a table is that of the word
  abbrev pub is_entry : Bor (List ℕ) × Word → Bool
  is_entry e = pointwise eqb w e.0.now

  -- what an entry says; where there is none, the word is another
  abbrev pub stands : Option (Bor (List ℕ) × Word) → Word
  stands None = Word.Other
  stands (Some e) = e.1

  abbrev pub in_table : List (Bor (List ℕ) × Word) → Word
  in_table [] = Word.Other
  in_table (e ∷ es) = elim (same_word w e.0.now) [ true ↦ e.1 | false ↦ in_table es ]

  pub stands-in : (es : List (Bor (List ℕ) × Word)) → stands (find is_entry es) ≡ in_table es
  stands-in [] = refl
  stands-in (e ∷ es) = ap (λ s. stands (cond s (Some e) (find is_entry es))) (same-bytes w e.0.now) ∙ go (same_word w e.0.now) (stands-in es)
    where
      go : (t : Bool) → stands (find is_entry es) ≡ in_table es → stands (cond t (Some e) (find is_entry es)) ≡ elim t [ true ↦ e.1 | false ↦ in_table es ]
      go true q = refl
      go false q = q

  -- a search of a table for the word finds what the table says
  pub found-in : {S A F : Type 0} {steps : S → Option A → S → Type 0} {v : A → Bor (List ℕ) × Word} {g : Mut F (Bor A × Unit {0}) Bool} {s : S} {table : List (Bor (List ℕ) × Word)}
      → YieldsList steps v s table → (u : S) (f : F) (r : Option A)
      → (xs : List A) × (j : F) × YieldsThen steps s xs r u × FoldsTo (λ p x q. CalledAt g p x false q) f xs j × MatchOption r ⊤ (λ x. (h : F) × CalledAt g j x true h)
      → ((x : A) (b : Bool) (q : F) → CalledAt g f x b q → (q ≡ f) × (b ≡ is_entry (v x))) → stands (option_map v r) ≡ in_table table
  found-in {table = table} y u f r ran called = ap stands (find_from_yields_List is_entry u f r ran y called) ∙ stands-in table
