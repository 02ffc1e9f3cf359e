use Rattle.std.proofs.Common.{◌≡◌, ℕ, length, take, ap, subst, ◌∙◌, arith}
use Rattle.sock_tcp.specs.connection.Process.{reads}
use Rattle.sock_tcp.specs.connection.StandsFor.{StandsFor}
use Rattle.host_sockets.proofs.Written.{bytes_cut, cut_fits, whole_lent}
use Rattle.host_sockets.proofs.tcp_acts.read_bytes.Goals as goal

pub returns-clause-given : goal.returns-clause-given
returns-clause-given c = λ r h.
    let into = c.as_mut_slice.result.now in
    let left = c.app_read-given.new.into in
    let size : length into ≡ c.args.count = c.as_mut_slice.ensures.len ∙ c.in_ok-into.ensures.len in
    let whole : c.in_ok-into.into.len ≡ length left = omega (arith, c.as_mut_slice.ensures.len) in
    bytes_cut c.args.count c.app_read-given.result r into left c.from.result size (c.app_read-given.ensures.count r h) (c.app_read-given.ensures.given r h)
    (c.from.ensures ∙ (c.truncate.ensures.items ∙ ap (take c.app_read-given.result) (whole_lent c.in_ok-into.into.len left _ whole)))

pub returns-clause-at_most : goal.returns-clause-at_most
returns-clause-at_most c =
    let left = c.app_read-given.new.into in
    let size : length left ≡ c.args.count = omega (arith, c.as_mut_slice.ensures.len, c.in_ok-into.ensures.len) in
    let whole : c.in_ok-into.into.len ≡ length left = omega (arith, c.as_mut_slice.ensures.len) in
    cut_fits c.args.count c.app_read-given.result left c.from.result size
    (c.from.ensures ∙ (c.truncate.ensures.items ∙ ap (take c.app_read-given.result) (whole_lent c.in_ok-into.into.len left _ whole)))

pub returns-clause-stands : goal.returns-clause-stands
returns-clause-stands c = λ r h.
    let size : length c.as_mut_slice.result.now ≡ c.args.count = c.as_mut_slice.ensures.len ∙ c.in_ok-into.ensures.len in
    subst (λ (n : ℕ). StandsFor c.app_read-given.new.self (reads n r)) size (c.app_read-given.ensures.stands r h)
