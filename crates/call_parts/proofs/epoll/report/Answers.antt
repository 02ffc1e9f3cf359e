-- No more entries are told than are seen, so that less room makes no difference.
use Rattle.std.proofs.Common.{◌≡◌, ℕ, min, length, take, ap, ◌∙◌, arith}
use Rattle.host_files.specs.Epolls.{epoll_at, entries_reported}
use Rattle.call_parts.proofs.Reports.{all_lent, tells_least, reported_least}
use Rattle.call_parts.proofs.epoll.report.Goals as goal

pub returns-clause-told : goal.returns-clause-told
returns-clause-told c =
    let size : length c.as_mut_slice.result.now ≡ min c.args.room (length c.args.all.now) = c.as_mut_slice.ensures.len ∙ (c.in_ok-told.ensures.len ∙ c.room_used.ensures) in
    let whole : c.in_ok-told.told.len ≡ length c.report-found.new.into = omega (arith, c.as_mut_slice.ensures.len) in
    tells_least c.args.room c.report-found.result c.args.all.now (epoll_at c.args.place c.args.epolls.now) c.as_mut_slice.result.now c.report-found.new.into c.truncate.new.self.items
    size c.report-found.ensures.count c.report-found.ensures.told
    (c.truncate.ensures.items ∙ ap (take c.report-found.result) (all_lent c.in_ok-told.told.len c.report-found.new.into _ whole))

pub returns-clause-left : goal.returns-clause-left
returns-clause-left c =
    let size : length c.as_mut_slice.result.now ≡ min c.args.room (length c.args.all.now) = c.as_mut_slice.ensures.len ∙ (c.in_ok-told.ensures.len ∙ c.room_used.ensures) in
    c.report-found.ensures.left
    ∙ (ap (λ (n : ℕ). entries_reported n c.args.all.now c.args.place c.args.epolls.now) size
    ∙ reported_least c.args.room c.args.all.now c.args.place c.args.epolls.now)
