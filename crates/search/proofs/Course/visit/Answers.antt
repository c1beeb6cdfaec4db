use Rattle.model.specs.declared.Head.{Head}
use mathlib.Core.Path.{◌≡◌, refl, sym, ap, ◌∙◌}
use native.Mathlib.Omega.{arith}
use lib.ListN.{length}
use Rattle.search.proofs.Visiting.{visit-spent, visit-better, visit-other}
use Rattle.search.proofs.Course.visit.Goals as goal

pub returns-then-self-head : goal.returns-then-self-head
returns-then-self-head c =
    let k = c.requires.2 in
    record {
      counted = record { saved = k.saved; count = k.count; visits = k.visits; limit = k.limit };
      found = visit-spent c.args.net.now c.args.self.now.members.items c.args.self.now.progress (c.if-self-head.true ∙ ap (λ (h : Head). h.visits) c.head.ensures);
      members = refl;
      prospects = refl;
    }

pub returns-then-better : goal.returns-then-better
returns-then-better c =
    let n = c.args.net.now in
    let k = c.requires.2 in
    let l : c.args.self.now.progress.visits ≡ n.head.visits → ⊥ = λ e. c.if-self-head.false (e ∙ sym (ap (λ (h : Head). h.visits) c.head.ensures)) in
    let copied = c.copy_members.ensures ∙ c.deref.ensures.0 in
    record {
      counted = record { saved = omega (arith, c.requires.0); count = omega (arith, ap length copied, c.requires.1); visits = omega (arith, k.visits, l); limit = k.limit };
      found = visit-better n c.args.self.now.members.items c.args.self.now.progress k l c.args.saved.0 c.requires.0 c.copy_members.new.copy.items copied (sym c.saves_less-better.ensures ∙ c.if-better.true);
      members = refl;
      prospects = refl;
    }

pub returns-else-better : goal.returns-else-better
returns-else-better c =
    let n = c.args.net.now in
    let k = c.requires.2 in
    let l : c.args.self.now.progress.visits ≡ n.head.visits → ⊥ = λ e. c.if-self-head.false (e ∙ sym (ap (λ (h : Head). h.visits) c.head.ensures)) in
    record {
      counted = record { saved = k.saved; count = k.count; visits = omega (arith, k.visits, l); limit = k.limit };
      found = visit-other n c.args.self.now.members.items c.args.self.now.progress k l c.args.saved.0 c.requires.0 (sym c.saves_less-better.ensures ∙ c.if-better.false);
      members = refl;
      prospects = refl;
    }
