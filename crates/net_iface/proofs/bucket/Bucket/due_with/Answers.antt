use Rattle.std.proofs.Common.{◌≡◌, ◌+◌, ap, ◌∙◌, arith}
use Rattle.std.proofs.Math.Nat.{mul-le-mul_left}
use Rattle.std.specs.Int.{div_ceil}
use Rattle.net_iface.specs.Bucket.{due_with}
use Rattle.net_iface.proofs.BucketLemmas.{bucket, ticks_until_closed}
use Rattle.net_iface.proofs.bucket.Bucket.due_with.Goals as goal

pub returns : goal.returns
returns c =
    let b = c.self.inside in
    let n = c.args.n in
    let some = c.self.invariant.some in
    let ticks = ticks_until_closed (n + 1) n b.rate b.tokens b.millis some (omega (arith, c.requires)) (omega (arith, mul-le-mul_left (n + 1) some)) (omega arith) in
    let steps = c.div_ceil.ensures ∙ ap (λ x. div_ceil x b.rate) c.saturating_sub.ensures in
    let here : c.saturating_mul.result ≡ due_with n (bucket b.rate b.tokens b.millis) =
    omega (arith, ticks, steps, c.max-wait.ensures, c.saturating_add.ensures, c.saturating_mul.ensures) in
    here ∙ ap (due_with n) c.self.view_is
