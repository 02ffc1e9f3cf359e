-- the order of event keys (this project's own profile)
use Rattle.std.specs.Prelude.{ℕ}
use Rattle.std.specs.Ordering.{nat_cmp, on, then_cmp}
use Rattle.std.specs.declared.cmp.Ordering.{Ordering}
use Rattle.sim_base.specs.declared.key.Kind.{Kind}
use Rattle.sim_base.specs.declared.key.Kind.TheVariants.{Packet, Local}
use Rattle.sim_base.specs.declared.key.Key.{Key}

-- packets come before the host's own events
abbrev pub kind_number : Kind → ℕ
kind_number Packet = 0
kind_number Local = 1

-- by the time due, then by kind, then by the source's number, then by the event's number
abbrev pub key_order : Key → Key → Ordering
key_order =
    then_cmp (on (λ k. k.due.nanos) nat_cmp)
    (then_cmp (on (λ k. kind_number k.kind) nat_cmp)
    (then_cmp (on (λ k. k.source.index) nat_cmp)
    (on (λ k. k.number) nat_cmp)))
