-- Changes of an outlook, place after place, and their undoing.
use Prim.Native.Nat.{ℕ, ◌+◌, ◌*◌, ◌≤◌, ◌<◌}
use mathlib.Core.Path.{◌≡◌, refl, sym, ap, ◌∙◌}
use mathlib.Core.Logic.{◌≢◌, ⊎_elim}
use mathlib.Core.HLevel.{is_prop→PathP}
use mathlib.Core.List.{List}
use native.Mathlib.Decide.{ℕ_discrete}
use native.Mathlib.Nat.{eq-or-lt_of_le}
use native.Mathlib.Omega.{arith}
use lib.ListN.{length, get_or, set}
use lib.Seq.{get_or-set_same, get_or-set_other, ext_get_or}
use Rattle.std.proofs.Math.Nat.{ℕ_set}
use Rattle.relations.specs.Lists.{Row}
use Rattle.starts.specs.declared.Prospect.{Prospect}
use Rattle.starts.specs.declared.Outlook.{Outlook}
use Rattle.starts.specs.Outlook.{no_prospect, prospect_of}
use Rattle.prospects.specs.Changes.{kept_at, SameBefore, Same, Changed}

-- a prospect is written in an outlook, and no other's
pub record Put (place : ℕ) (v : Prospect) (old new : Outlook) : Type 0 where
  pub own : prospect_of new place ≡ v
  pub others : (p : ℕ) → p ≤ 64 → p ≢ place → Same old new p

-- one of a row is kept, beside what is kept
pub record Keeping (row place : ℕ) (v : Prospect) (old new : List Prospect) : Type 0 where
  pub own : kept_at new row place ≡ v
  pub others : (p : ℕ) → p ≤ 64 → p ≢ place → kept_at new row p ≡ kept_at old row p
  pub below : SameBefore row old new

pub keep-is : (row place : ℕ) (v : Prospect) (rows : List Prospect) → length rows ≡ 1040 → row ≤ 15 → place ≤ 64 → Keeping row place v rows (set rows (row * 65 + place) v)
keep-is row place v rows n h l = record {
  own = get_or-set_same rows (row * 65 + place) v no_prospect (omega (arith, n));
  others = λ p f d. get_or-set_other rows (row * 65 + place) (row * 65 + p) v no_prospect (λ e. d (omega arith));
  below = λ k f. get_or-set_other rows (row * 65 + place) k v no_prospect (λ e. omega arith);
}

module _ {ps : List ℕ} {q row : ℕ} (r : Row ps q 65) where
  -- nothing is changed yet
  pub changed-none : {outlook : Outlook} {rows : List Prospect} → Changed ps row 0 0 outlook outlook rows
  changed-none = record { same = λ p h n. refl; kept = λ i a b. absurd (omega arith) }

  -- one place more
  module _ {i : ℕ} {v : Prospect} {old outlook outlook' : Outlook} {rows rows' : List Prospect} (high : i < length ps)
      (c : Changed ps row 0 i old outlook rows) (k : Keeping row (get_or ps i 0) (prospect_of outlook (get_or ps i 0)) rows rows') (p : Put (get_or ps i 0) v outlook outlook') where
    -- it is still as it was
    pub still : Same old outlook (get_or ps i 0)
    still = c.same (get_or ps i 0) (omega (arith, r.later i high)) (λ j a b e. omega (arith, r.rising j i b high))

    pub changed-more : Changed ps row 0 (i + 1) old outlook' rows'
    changed-more = record {
      same = λ s h n. p.others s h (λ e. n i (omega arith) (omega arith) (sym e)) ∙ c.same s h (λ j a b. n j a (omega arith));
      kept = λ j a b. ⊎_elim
          (λ e. rw e (k.own ∙ still))
          (λ h. k.others (get_or ps j 0) (omega (arith, r.later j (omega arith))) (λ e. omega (arith, r.rising j i h high)) ∙ c.kept j a h)
          (eq-or-lt_of_le {n = j} {m = i} (omega arith));
    }

  -- what is kept stays while the rows after it change
  pub changed-kept : {b : ℕ} {old outlook : Outlook} {rows rows' : List Prospect} → b ≤ length ps → SameBefore (row + 1) rows rows' → Changed ps row 0 b old outlook rows → Changed ps row 0 b old outlook rows'
  changed-kept w s c = record {
    same = c.same;
    kept = λ i a h. s (row * 65 + get_or ps i 0) (omega (arith, r.later i (omega arith))) ∙ c.kept i a h;
  }

-- one place is put back
pub changed-less : {ps : List ℕ} {row i n : ℕ} {old outlook outlook' : Outlook} {rows : List Prospect} → i < n → Put (get_or ps i 0) (kept_at rows row (get_or ps i 0)) outlook outlook' → Changed ps row i n old outlook rows → Changed ps row (i + 1) n old outlook' rows
changed-less {ps} {row} {i} {n} {old} {outlook} {outlook'} h p c = record { same = λ q l m. at q l m (ℕ_discrete q (get_or ps i 0)); kept = λ j a b. c.kept j (omega arith) b }
  where
    at : (q : ℕ) → q ≤ 64 → ((j : ℕ) → i + 1 ≤ j → j < n → get_or ps j 0 ≡ q → ⊥) → Dec (q ≡ get_or ps i 0) → Same old outlook' q
    at q l m (yes e) = rw e (p.own ∙ c.kept i (omega arith) h)
    at q l m (no d) = p.others q l d ∙ c.same q l (λ j a b e. ⊎_elim (λ k. d (sym e ∙ ap (λ i. get_or ps i 0) (sym k))) (λ k. m j (omega arith) b e) (eq-or-lt_of_le {n = i} {m = j} a))

-- outlooks with the same prospects are equal
pub outlook_same : (old new : Outlook) → ((p : ℕ) → p ≤ 64 → Same old new p) → new ≡ old
outlook_same old new f =
    let e : new.prospects ≡ old.prospects = ext_get_or no_prospect new.prospects old.prospects (new.long ∙ sym old.long) (λ p h. f p (omega (arith, new.long))) in
    λ i. record { prospects = e i; long = is_prop→PathP (λ j. length (e j) ≡ 65) (λ j. ℕ_set (length (e j)) 65) new.long old.long i }
