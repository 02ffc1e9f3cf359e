use Rattle.std.proofs.Common.{ap, ◌∙◌, refl}
use Rattle.std.specs.Prelude.{is_some}
use Rattle.sim_base.proofs.BookLemmas.{host_at_has_host}
use Rattle.sim_base.proofs.book.Book.contains.Goals as goal

pub returns : goal.returns
returns c =
    c.contains_key.ensures ∙ ap is_some (c.self.invariant.1 c.args.ip.bits) ∙ host_at_has_host _ c.args.ip ∙ rw c.self.view_is refl
