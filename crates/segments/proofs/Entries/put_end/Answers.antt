use mathlib.Core.Path.{refl, sym, ap, ◌∙◌}
use mathlib.Core.List.{[]}
use native.Mathlib.Omega.{arith}
use Rattle.model.specs.Paths.{End}
use Rattle.outage.specs.Held.{customers_in}
use Rattle.text.proofs.Listing.{same_text}
use Rattle.segments.proofs.Entry.{entry-none, amount-fits, entry-is}
use Rattle.segments.proofs.Entries.put_end.Goals as goal

pub put_entry-requires : goal.put_entry-requires
put_entry-requires c =
    let s = c.args.self.now in
    let h = sym c.has_entry.ensures ∙ c.if-has_entry.true in
    (c.requires.room, amount-fits s.net.now c.args.end s.behind.now s.weights.now s.summed c.requires.there h _ _ c.at-weight.ensures (c.customers.ensures ∙ ap (λ (f : End). customers_in s.behind.now f.line) c.end.view_is))

pub returns-then-has_entry : goal.returns-then-has_entry
returns-then-has_entry c =
    let s = c.args.self.now in
    let h = sym c.has_entry.ensures ∙ c.if-has_entry.true in
    let i = entry-is s.net.now c.args.end s.behind.now s.weights.now s.summed c.requires.there h _ _ c.at-weight.ensures (c.customers.ensures ∙ ap (λ (f : End). customers_in s.behind.now f.line) c.end.view_is) in
    record { written = same_text _ _ c.args.table.now _ 5 i (refl, c.put_entry.ensures); short = omega arith }

pub returns : goal.returns
returns c =
    let s = c.args.self.now in
    record { written = same_text [] _ c.args.table.now c.args.table.now 0 (sym (entry-none s.net.now c.args.end (sym c.has_entry.ensures ∙ c.if-has_entry.false))) (refl, refl); short = omega arith }
