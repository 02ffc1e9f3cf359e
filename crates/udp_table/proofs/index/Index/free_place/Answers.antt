use Rattle.number_sets.specs.Sets.{has}
use Rattle.udp_table.proofs.Places.{first_free}
use Rattle.udp_table.proofs.index.Index.free_place.Goals as goal

pub returns : goal.returns
returns c = λ places h. first_free (has c.args.self.now.taken) places c.least_absent.result h.taken c.least_absent.ensures.absent c.least_absent.ensures.least
