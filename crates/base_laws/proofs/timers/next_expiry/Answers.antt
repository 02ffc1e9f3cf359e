use Rattle.base_laws.proofs.NextExpiry.{first_after, none_after}
use Rattle.base_laws.proofs.timers.next_expiry.Goals as goal

pub returns-clause-later : goal.returns-clause-later
returns-clause-later c timer now due is = (first_after timer now due is).later

pub returns-clause-expires : goal.returns-clause-expires
returns-clause-expires c timer now due is = (first_after timer now due is).expires

pub returns-clause-first : goal.returns-clause-first
returns-clause-first c timer now due number is = (first_after timer now due is).first number

pub returns-clause-none : goal.returns-clause-none
returns-clause-none c = none_after
