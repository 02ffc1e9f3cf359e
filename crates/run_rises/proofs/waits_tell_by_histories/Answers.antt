use Rattle.run_rises.proofs.Counted.{waits_so, due_so, first_so}
use Rattle.run_rises.proofs.waits_tell_by_histories.Goals as goal

pub returns-clause-told : goal.returns-clause-told
returns-clause-told c = λ hosts own history now p s leaves. waits_so hosts own history now p s leaves

pub returns-clause-due : goal.returns-clause-due
returns-clause-due c = λ hosts own history now s entry leaves. due_so hosts own history now s entry leaves

pub returns-clause-first : goal.returns-clause-first
returns-clause-first c = λ hosts own history now room s entries leaves. first_so hosts own history now room s entries leaves
