use Rattle.std.proofs.Common.{true, sym, refl, ap, ◌∙◌, subst}
use Rattle.steal_workers.specs.declared.item.Item.{Item}
use Rattle.steal_workers.specs.declared.share.Share.{Share}
use Rattle.steal_workers.specs.inside.Shares.{Finds, finding_of, is_mark}
use Rattle.steal_workers.proofs.ShareSteps.{can_take, stays, lost, took_item}
use Rattle.steal_workers.proofs.share.Share.take.Goals as goal

pub returns-then-self-clause-same : goal.returns-then-self-clause-same
returns-then-self-clause-same g c = stays c.args.self.now c.requires

pub returns-then-self-clause-finding : goal.returns-then-self-clause-finding
returns-then-self-clause-finding g c = (c.if-self.true, λ h. refl)

pub take-requires : goal.take-requires
take-requires g c = can_take c.args.self.now c.requires c.if-self.false

pub returns-in-None-clause-same : goal.returns-in-None-clause-same
returns-in-None-clause-same g c =
    let new : Share g.row.T.Denot = record { handle = c.take.new.self; marked = c.args.self.now.marked } in
    (lost c.args.self.now new c.requires refl c.in-None.ensures.same c.in-None.ensures.took.0 c.in-None.ensures.took.1).0

pub returns-in-None-clause-finding : goal.returns-in-None-clause-finding
returns-in-None-clause-finding g c =
    let new : Share g.row.T.Denot = record { handle = c.take.new.self; marked = c.args.self.now.marked } in
    (lost c.args.self.now new c.requires refl c.in-None.ensures.same c.in-None.ensures.took.0 c.in-None.ensures.took.1).1

pub returns-in-Task-clause-same : goal.returns-in-Task-clause-same
returns-in-Task-clause-same g c =
    (took_item _ _ c.in-Some.item c.requires c.if-self.false (c.if-self.false ∙ sym (ap is_mark c.in-Task.is)) c.in-Some.ensures.same c.in-Some.ensures.took).0

pub returns-in-Task-clause-finding : goal.returns-in-Task-clause-finding
returns-in-Task-clause-finding g c =
    let new : Share g.row.T.Denot = record { handle = c.take.new.self; marked = c.args.self.now.marked } in
    subst (λ (item : Item g.row.T.Denot). Finds c.args.self.now (finding_of item) new) c.in-Task.is
    (took_item c.args.self.now new c.in-Some.item c.requires c.if-self.false (c.if-self.false ∙ sym (ap is_mark c.in-Task.is)) c.in-Some.ensures.same c.in-Some.ensures.took).1

pub returns-in-Mark-clause-same : goal.returns-in-Mark-clause-same
returns-in-Mark-clause-same g c =
    (took_item _ _ c.in-Some.item c.requires c.if-self.false (sym (ap is_mark c.in-Mark.is)) c.in-Some.ensures.same c.in-Some.ensures.took).0

pub returns-in-Mark-clause-finding : goal.returns-in-Mark-clause-finding
returns-in-Mark-clause-finding g c =
    let new : Share g.row.T.Denot = record { handle = c.take.new.self; marked = true } in
    subst (λ (item : Item g.row.T.Denot). Finds c.args.self.now (finding_of item) new) c.in-Mark.is
    (took_item c.args.self.now new c.in-Some.item c.requires c.if-self.false (sym (ap is_mark c.in-Mark.is)) c.in-Some.ensures.same c.in-Some.ensures.took).1
