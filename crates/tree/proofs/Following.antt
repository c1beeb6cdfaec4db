-- The loop along a list of ends: what is left of the list, and what is noted so far.
use Prim.Native.Nat.{ℕ, ◌-◌, ◌<◌}
use mathlib.Core.Path.{◌≡◌, refl, sym, ap, ◌∙◌}
use mathlib.Core.Bool.{true, false}
use mathlib.Core.List.{List, [], ◌∷◌, ◌++◌, map, append-nil, Memᴰ}
use native.Mathlib.Omega.{arith}
use lib.ListN.{length, set, length-append}
use lib.Seq.{append_snoc}
use Rattle.std.specs.Prelude.{Option}
use Rattle.model.specs.Lists.{keep}
use Rattle.model.specs.Paths.{End}
use Rattle.tree.specs.Linked.{LineHeld}
use Rattle.tree.specs.Queue.{of_feeder, leaving, feed_of, fed_after, Room, Added}
use Rattle.tree.specs.declared.Supply.{Supply}

-- the ends of a list are left
pub record Following (y₀ : Supply) (fed : Option ℕ) (ends : List End) (y : Supply) (rest : List End) : Type 0 where
  pub room : Room y rest fed
  pub feeds : fed_after fed y.lines (leaving fed rest) ≡ fed_after fed y₀.lines (leaving fed ends)
  pub orders : y.order.items ++ map (λ e. e.line) (leaving fed rest) ≡ y₀.order.items ++ map (λ e. e.line) (leaving fed ends)

module _ {y₀ : Supply} {fed : Option ℕ} {ends : List End} where
  module _ {y : Supply} where
    -- the list is at its end
    pub following-end : Following y₀ fed ends y [] → Added (leaving fed ends) fed y₀ y
    unfolding keep fed_after
    following-end f = record { feeds = f.feeds; orders = sym (append-nil y.order.items) ∙ f.orders }

    module _ {e : End} {rest : List End} (f : Following y₀ fed ends y (e ∷ rest)) where
      pub following-line : LineHeld e.line
      following-line = f.room.lines e (Memᴰ.head refl)

      -- an end that is not to be followed
      pub following-skip : of_feeder fed e ≡ true → Following y₀ fed ends y rest
      unfolding keep
      following-skip z =
          let k : leaving fed (e ∷ rest) ≡ leaving fed rest = rw (z, keep) in
          record {
            room = record { lines = λ x m. f.room.lines x (Memᴰ.tail m); fits = omega (arith, f.room.fits, ap length k) };
            feeds = ap (fed_after fed y.lines) (sym k) ∙ f.feeds;
            orders = ap (λ es. y.order.items ++ map (λ x. x.line) es) (sym k) ∙ f.orders;
          }

      -- the line of any other is added
      module _ (z : of_feeder fed e ≡ false) where
        kept : leaving fed (e ∷ rest) ≡ e ∷ leaving fed rest
        unfolding keep
        kept = rw (z, keep)

        pub following-room : length y.order.items < 768
        following-room = omega (arith, f.room.fits, ap length kept)

        pub following-add : (y' : Supply) → y'.lines ≡ set y.lines (e.line - 1) (feed_of fed e) → y'.order.items ≡ y.order.items ++ (e.line ∷ []) → Following y₀ fed ends y' rest
        unfolding fed_after
        following-add y' s o = record {
          room = record { lines = λ x m. f.room.lines x (Memᴰ.tail m); fits = omega (arith, f.room.fits, ap length kept, ap length o, length-append y.order.items (e.line ∷ [])) };
          feeds = ap (λ xs. fed_after fed xs (leaving fed rest)) s ∙ ap (fed_after fed y.lines) (sym kept) ∙ f.feeds;
          orders = ap (λ xs. xs ++ map (λ x. x.line) (leaving fed rest)) o
              ∙ append_snoc y.order.items e.line (map (λ x. x.line) (leaving fed rest))
              ∙ ap (λ es. y.order.items ++ map (λ x. x.line) es) (sym kept)
              ∙ f.orders;
        }
