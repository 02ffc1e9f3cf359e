use Rattle.guest_mem.proofs.StoreLemmas.{code_kept}
use Rattle.guest_mem.proofs.laws.stores_leave_code.Goals as goal

pub returns : goal.returns
returns c = code_kept
