use Rattle.std.proofs.Common.{map, arith}
use Rattle.run_files.specs.Listed.{said}
use Rattle.run_files.proofs.Shares.{told_each, told_if_joined}
use Rattle.run_files.proofs.log_text.shared_text.Goals as goal

pub returns : goal.returns
returns g c =
    let hosts = map said c.args.hosts.now in
    let shares = c.args.shares.items in
    let texts = c.in_ok-texts.texts.items in
    told_if_joined hosts shares texts c.joined.result
    (told_each hosts shares texts (omega (arith, c.in_ok-texts.ensures.len, c.in_ok-texts.texts.ok.0, c.args.shares.ok.0)) (λ i d less.
    let it = (c.in_ok-texts.ensures.each i d less).1 in
    (it.job, (it.job_is, (let met = it.call.met in search)))))
    c.joined.ensures
