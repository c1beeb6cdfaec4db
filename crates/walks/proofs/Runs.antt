-- The walk goes through the list of all sets in order: it visits a set, or passes over one that changes nothing.
use Rattle.std.specs.Prelude.{◌≡◌, Bool, true, false}
use Rattle.std.proofs.Math.Path.{refl}
use Rattle.std.proofs.Common.{sym, subst, ◌∙◌, true≢false, inl}
use mathlib.Core.List.{List, [], ◌∷◌, ◌++◌, Sublistᴰ}
use Prim.Native.Nat.{ℕ, zero, suc}
use Rattle.std.proofs.Math.Seq.{append_snoc}
use Rattle.model.specs.Sets.{extensions}
use Rattle.model.specs.Walk.{Found, visit, hopeless, extend}
use Rattle.walks.specs.Sets.{extensions-extend}
use Rattle.walks.specs.Claims.{Asks}
use Rattle.walks.specs.Runs.{Run as RunOf, done, pass, step, Inside as InsideOf, run-append, run-idle, hopeless-idle, barred-idle}
use Rattle.walks.specs.Runs.{extend-spent, extend-hopeless, extend-allowed, extend-barred}

module _ (limit : ℕ) (total_of : List ℕ → ℕ) (is_allowed : List ℕ → Bool) (saving_of : ℕ → ℕ) where
  abbrev Visit : List ℕ → Found → Found
  Visit = visit limit total_of is_allowed saving_of

  abbrev Extend : ℕ → List ℕ → List ℕ → Found → Found
  Extend = extend limit total_of is_allowed saving_of

  abbrev Hopeless : ℕ → List ℕ → List ℕ → Found → Bool
  Hopeless = hopeless limit total_of is_allowed saving_of

  abbrev Run : Found → List (List ℕ) → Found → Type 0
  Run = RunOf limit total_of is_allowed saving_of

  module _ (adds : ℕ) (places : List ℕ) (asks : Asks total_of is_allowed saving_of adds places) where
    abbrev Inside : List ℕ → List ℕ → Type 0
    Inside = InsideOf limit total_of is_allowed saving_of adds places asks

    -- The walk over the extensions of `S` goes through all of them.
    pub extend-runs : (r : ℕ) (S later : List ℕ) → Inside S later → (f : Found) → Run f (extensions r S later) (Extend r S later f)
    unfolding extend extensions
    extend-runs r S [] i f = done
    extend-runs zero S (q ∷ later) i f = done
    extend-runs (suc r) S (q ∷ later) i f =
        go (extend-runs r T later deeper (Visit T f)) (extend-runs (suc r) S later (λ U w. i U (Sublistᴰ.cons w)))
        f.spent refl (Hopeless (suc r) S (q ∷ later) f) refl (is_allowed T) refl
      where
        T : List ℕ
        T = S ++ (q ∷ [])

        own : List (List ℕ)
        own = extensions r T later

        all : List (List ℕ)
        all = T ∷ (own ++ extensions (suc r) S later)

        deeper : Inside T later
        deeper U w = rw append_snoc (i (q ∷ U) (Sublistᴰ.cons-cons refl w))

        go : Run (Visit T f) own (Extend r T later (Visit T f))
            → ((g : Found) → Run g (extensions (suc r) S later) (Extend (suc r) S later g))
            → (a : Bool) → f.spent ≡ a
            → (b : Bool) → Hopeless (suc r) S (q ∷ later) f ≡ b
            → (c : Bool) → is_allowed T ≡ c
            → Run f all (Extend (suc r) S (q ∷ later) f)
        go below beside true ea b eb c ec =
            subst (Run f all) (sym (extend-spent limit total_of is_allowed saving_of r S q later f ea))
            (run-idle limit total_of is_allowed saving_of f all (λ U m h. inl ea))
        go below beside false ea true eb c ec =
            subst (Run f all) (sym (extend-hopeless limit total_of is_allowed saving_of r S q later f ea eb))
            (run-idle limit total_of is_allowed saving_of f all
            (λ U m. hopeless-idle limit total_of is_allowed saving_of adds places asks (suc r) S (q ∷ later) f i eb U (extensions-extend (suc r) S (q ∷ later) U m)))
        go below beside false ea false eb true ec =
            subst (Run f all) (sym (extend-allowed limit total_of is_allowed saving_of r S q later f ea eb ec))
            (step ec ea (run-append limit total_of is_allowed saving_of below (beside (Extend r T later (Visit T f)))))
        go below beside false ea false eb false ec =
            subst (Run f all) (sym (extend-barred limit total_of is_allowed saving_of r S q later f ea eb ec))
            (pass (λ h. absurd (true≢false (sym h ∙ ec)))
            (run-append limit total_of is_allowed saving_of
            (run-idle limit total_of is_allowed saving_of f own
            (λ U m. barred-idle limit total_of is_allowed saving_of adds places asks r T later f deeper ec U (extensions-extend r T later U m))) (beside f)))
