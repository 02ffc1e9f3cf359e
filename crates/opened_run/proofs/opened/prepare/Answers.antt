use Rattle.opened_run.proofs.opened.prepare.Goals as goal

pub returns-clause-opens : goal.returns-clause-opens
returns-clause-opens c = c.in_ok-opened.ensures.opens

pub returns-clause-opened : goal.returns-clause-opened
returns-clause-opened c = c.in_ok-opened.ensures.opened
